pub mod Drawn
pub mod Held
pub mod Walled
pub mod Walls
