pub mod Words
pub mod Names
pub mod Ranges
pub mod Drafted
pub mod Drafts
pub mod Reading
