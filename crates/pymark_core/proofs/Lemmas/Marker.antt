pub mod Depth
pub mod Pieces
pub mod Reading
pub mod Token
pub mod Value
pub mod View
