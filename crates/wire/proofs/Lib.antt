pub mod Headers
pub mod Pairs
pub mod Right
mod Written
pub mod Streams
pub mod Answered
