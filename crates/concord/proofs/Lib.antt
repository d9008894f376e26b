pub mod Fronts
pub mod Dating
pub mod Concording
