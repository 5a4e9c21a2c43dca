pub mod Laws
pub mod Lined
pub mod Joins
pub mod Scans
pub mod Cases
pub mod Standing
pub mod Rules
