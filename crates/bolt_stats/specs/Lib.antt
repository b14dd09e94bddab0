pub mod Deepest
pub mod Depths
pub mod Figures
pub mod Readings
pub mod StatsOf
