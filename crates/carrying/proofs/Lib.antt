pub mod Piling
pub mod Going
