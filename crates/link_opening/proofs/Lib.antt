mod Fed
mod Rounds
mod Replying
