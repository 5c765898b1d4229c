pub mod Place
pub mod Operations
pub mod Hiding
pub mod Document03
