pub mod Laws
pub mod Slots
