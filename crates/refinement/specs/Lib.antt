pub mod Relation
pub mod Calls
pub mod Steps
pub mod Sea
pub mod Term
