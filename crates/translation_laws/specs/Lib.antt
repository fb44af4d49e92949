pub mod Table
pub mod Unguarded
