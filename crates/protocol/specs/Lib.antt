pub mod Refusals
pub mod Kinds
pub mod Counting
pub mod Limits
