pub mod OneSorted
pub mod Comparing
pub mod Parts
