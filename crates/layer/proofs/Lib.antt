pub mod Rows
pub mod Seams
pub mod Room
