pub mod Laws
pub mod Widths
pub mod SideWords
pub mod Preps
pub mod PaymentTexts
