pub mod Sums
pub mod Packets
