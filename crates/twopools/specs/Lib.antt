pub mod Asked
pub mod Pins
pub mod Receipts
pub mod TwoSizes
pub mod ServedLate
pub mod WrongSizes
