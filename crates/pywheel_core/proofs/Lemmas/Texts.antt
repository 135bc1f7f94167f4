pub mod Cuts
pub mod LastCut
