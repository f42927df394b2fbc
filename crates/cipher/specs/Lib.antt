pub mod ChaCha20
pub mod Faults
pub mod Lanes
pub mod Rounds
pub mod Texts
