pub mod Marks
pub mod Numbers
pub mod Dotted
pub mod Written
