pub mod Laid
pub mod Blocks
pub mod OfReasons
pub mod Laws
pub mod Widths
pub mod Puts
