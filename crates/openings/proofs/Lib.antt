pub mod First
pub mod Places
