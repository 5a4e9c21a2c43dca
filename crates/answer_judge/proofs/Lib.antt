pub mod Laws
pub mod Widths
pub mod Tests
pub mod Cases
