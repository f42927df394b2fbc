pub mod Play
pub mod Cases
