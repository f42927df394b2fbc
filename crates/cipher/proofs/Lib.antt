mod Iterates
mod Lists
mod States
mod Words
mod Streams
