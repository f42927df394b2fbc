mod Growing
mod Drafted
