pub mod Layout
pub mod Numbers
pub mod Keys
pub mod Words
pub mod Sealing
pub mod Reading
pub mod Unsealed
