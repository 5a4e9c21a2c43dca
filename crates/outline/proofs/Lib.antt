pub mod Slots
pub mod Made
pub mod Keeping
pub mod Standing
