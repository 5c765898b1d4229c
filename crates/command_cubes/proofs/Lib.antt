pub mod CubeCounts
