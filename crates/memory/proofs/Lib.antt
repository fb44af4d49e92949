pub mod Lists
pub mod Buffers
pub mod Ends
pub mod Laws
