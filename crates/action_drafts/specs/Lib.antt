pub mod Elements
pub mod Origins
pub mod Defaults
pub mod Actions
pub mod Documents
pub mod Finished
