pub mod Bools
pub mod Codes
pub mod Laws
pub mod Printed
pub mod Scans
pub mod Words
