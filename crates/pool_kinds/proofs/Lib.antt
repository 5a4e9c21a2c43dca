pub mod Letters
pub mod Laws
pub mod Cases
