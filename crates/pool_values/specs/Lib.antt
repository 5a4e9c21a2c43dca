pub mod Values
pub mod Writable
pub mod Pool
pub mod Cases
