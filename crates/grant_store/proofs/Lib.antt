mod Above
mod Listing
mod Turns
mod Writing
