mod Adding
mod Packets
