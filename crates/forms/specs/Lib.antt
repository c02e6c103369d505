pub mod Announced
pub mod Forms
pub mod Outcome
pub mod Within
pub mod Words
