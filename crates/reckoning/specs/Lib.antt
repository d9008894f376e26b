pub mod Rules
pub mod Years
pub mod Held
pub mod Reckoned
pub mod Faith
pub mod Faiths
pub mod Orders
pub mod Theory
