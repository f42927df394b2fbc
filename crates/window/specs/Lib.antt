pub mod Heard
pub mod Edges
