pub mod Shifted
pub mod Standing
pub mod Forms
pub mod Quick
pub mod Learning
