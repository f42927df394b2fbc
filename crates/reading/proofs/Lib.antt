mod Digits
mod Facts
mod Back
mod Near
mod First
mod Clear
