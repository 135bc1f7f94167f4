pub mod Detail
pub mod Environments
pub mod Findings
pub mod Inner
pub mod Releases
pub mod States
