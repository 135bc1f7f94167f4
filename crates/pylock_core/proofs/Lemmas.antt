pub mod Answering
pub mod Editing
pub mod Judging
pub mod Laws
pub mod Parts
pub mod Session
pub mod Tables
