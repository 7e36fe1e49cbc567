pub mod Lent
pub mod Interface
pub mod Checksum
