pub mod Bits
pub mod Ring
pub mod Heard
pub mod Edges
