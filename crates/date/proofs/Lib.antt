pub mod Keys
pub mod Making
pub mod Divisions
pub mod Comparing
pub mod Texts
