pub mod Laws
pub mod CodeWords
pub mod Cases
