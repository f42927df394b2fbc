mod Digits
mod Blanks
mod Written
mod Pairs
mod Found
