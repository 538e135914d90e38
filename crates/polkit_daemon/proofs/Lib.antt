pub mod Faults
pub mod Loading
pub mod Services
pub mod Promised
pub mod PipeEnds
