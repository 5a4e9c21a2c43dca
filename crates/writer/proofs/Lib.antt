pub mod Header
pub mod Laws
pub mod Messages
pub mod Writes
pub mod Plain
