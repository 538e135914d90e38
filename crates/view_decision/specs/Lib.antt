pub mod Implying
