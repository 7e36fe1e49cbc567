pub mod Rows
pub mod Place
pub mod Control
pub mod Checksum
pub mod Seek
