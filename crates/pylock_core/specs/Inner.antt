-- What serves the contracts of private functions alone.
pub mod Answering
pub mod Editing
pub mod Judging
pub mod KeptEnvironment
pub mod Parts
pub mod Tables
