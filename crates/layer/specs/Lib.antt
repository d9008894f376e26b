pub mod StyleRules
pub mod Tables
pub mod Rooms
pub mod Sounding
