pub mod Checkpoint
pub mod File
pub mod Give
