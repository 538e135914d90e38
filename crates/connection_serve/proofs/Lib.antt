pub mod Causes
pub mod Fresh
pub mod Greetings
pub mod Lookings
pub mod Meeting
pub mod Promising
pub mod Returning
pub mod Serving
