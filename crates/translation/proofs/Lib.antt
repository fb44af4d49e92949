pub mod Performing
pub mod Walks
pub mod Parts
pub mod Isolation
pub mod Accesses
pub mod Counts
