pub mod Cases
pub mod Sure
