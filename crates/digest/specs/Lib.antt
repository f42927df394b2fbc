pub mod Hashers
pub mod Hmac
pub mod Sha256
