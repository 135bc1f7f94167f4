pub mod FileName
pub mod Inner
pub mod Query
pub mod Shown
pub mod Url
