pub mod Building
pub mod LentToken
pub mod Nesting
pub mod Passed
pub mod SourceParts
