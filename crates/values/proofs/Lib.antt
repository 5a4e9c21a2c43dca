pub mod Narratives
pub mod Laws
pub mod Widths
pub mod Cases
pub mod Laid
