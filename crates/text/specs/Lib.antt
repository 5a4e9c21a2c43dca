pub mod Bytes
pub mod Classes
pub mod Texts
pub mod Copy
