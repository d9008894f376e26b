pub mod Steps
pub mod Answering
pub mod Ranges
