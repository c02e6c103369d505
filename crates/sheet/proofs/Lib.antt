pub mod Bodies
pub mod Laying
pub mod ReadFits
pub mod ReadParts
pub mod Saying
