pub mod Bytes
pub mod Fnv
