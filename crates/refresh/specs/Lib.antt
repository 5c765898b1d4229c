pub mod Refresh
pub mod Places
pub mod Calls
