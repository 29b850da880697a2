pub mod Hexadecimal
pub mod Numerals
pub mod Pieces
pub mod Reading
pub mod Replies
pub mod Rules
pub mod Values
