pub mod Embedding
pub mod Euclid
pub mod Tables
pub mod Totals
