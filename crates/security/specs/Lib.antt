pub mod Security
pub mod Cases
