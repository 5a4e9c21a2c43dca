pub mod Fronts
pub mod Glimpses
