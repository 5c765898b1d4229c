pub mod Coupling
pub mod Steps
pub mod Gadgets
pub mod EachOnce
pub mod Cube
pub mod CubeHiding
pub mod Opening
