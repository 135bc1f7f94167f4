pub mod Complete
pub mod Cuts
pub mod Names
pub mod Sound
pub mod Written
