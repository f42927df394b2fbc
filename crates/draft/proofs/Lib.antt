pub mod Steps
mod Gated
mod Worded
mod Lines
