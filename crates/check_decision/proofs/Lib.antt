pub mod FirstWord
