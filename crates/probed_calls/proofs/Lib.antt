pub mod SingleCalls
pub mod Sessions
pub mod Boxes
