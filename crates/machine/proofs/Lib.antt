pub mod Lists
pub mod Differences
pub mod Likeness
pub mod Together
pub mod Isolation
