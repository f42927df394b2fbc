mod Prefixes
mod Below
mod Numbers
mod Steps
mod Whole
mod Owning
mod Written
mod Agreeing
pub mod Growing
mod Taken
mod Places
mod Nearest
mod Calling
mod Ruling
