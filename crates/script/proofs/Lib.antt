pub mod Back
pub mod Cutting
pub mod Hexing
pub mod Numbering
pub mod Offering
pub mod ReadBack
pub mod Stepping
pub mod Taking
