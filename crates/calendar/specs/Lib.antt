pub mod Meaning
pub mod Piles
pub mod Parties
pub mod Reforms
pub mod Styles
pub mod Rows
pub mod Eras
