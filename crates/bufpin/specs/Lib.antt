pub mod Victim
pub mod Pin
