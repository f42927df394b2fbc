pub mod Slots
pub mod Talks
pub mod Peers
pub mod Steps
