pub mod Ciphers
pub mod Digests
