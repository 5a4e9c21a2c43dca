pub mod Values
pub mod Writable
pub mod Mt515
pub mod Cases
