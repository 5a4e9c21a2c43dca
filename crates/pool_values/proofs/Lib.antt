pub mod Narratives
pub mod Laid
pub mod Laws
pub mod Widths
pub mod Cases
