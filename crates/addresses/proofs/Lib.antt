pub mod Cutting
pub mod Giving
mod Digits
mod Parts
pub mod Back
