pub mod Messages
pub mod Writing
pub mod Cases
pub mod Plain
