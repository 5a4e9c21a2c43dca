pub mod Trims
pub mod Laws
pub mod Noughts
pub mod Cases
pub mod Shortening
