pub mod Answers
pub mod Sound
