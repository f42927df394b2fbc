mod Bytes
mod Keys
mod Messages
mod Padding
mod Parts
mod Sums
