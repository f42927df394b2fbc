pub mod Agreement
pub mod Drafts
