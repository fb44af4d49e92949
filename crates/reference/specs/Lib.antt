pub mod Laid
pub mod Leaf
