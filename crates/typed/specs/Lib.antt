pub mod Typed
pub mod Sides
pub mod Prep
pub mod Payments
