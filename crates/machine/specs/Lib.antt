pub mod Refusals
pub mod Setup
pub mod Contexts
pub mod State
pub mod Threads
pub mod Calls
pub mod Runs
pub mod Isolation
