pub mod Values
pub mod Writable
pub mod Mt509
