pub mod Sealed
pub mod Order
