pub mod Input
pub mod Usage
pub mod Trace
pub mod Scan
pub mod Report
