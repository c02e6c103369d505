pub mod Belows
pub mod Cuts
pub mod Fitting
