pub mod Bytes
pub mod Protected
pub mod Soundness
pub mod Flat
pub mod Paired
pub mod Frames
