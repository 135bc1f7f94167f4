pub mod InTurn
pub mod Phases
pub mod Zeros
