pub mod Sweep
pub mod Back
pub mod Exchange
pub mod Free
