pub mod Stepping
pub mod Rising
pub mod Living
pub mod Widening
pub mod Placing
pub mod Collecting
pub mod Booking
