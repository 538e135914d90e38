pub mod ActionId
pub mod Decimals
pub mod Roomy
pub mod Text
pub mod Values
pub mod Pieces
