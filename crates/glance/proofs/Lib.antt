pub mod Lines
pub mod Sights
pub mod Taking
pub mod Turns
pub mod Tables
