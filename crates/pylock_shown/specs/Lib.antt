pub mod Hidden
pub mod Inner
pub mod Parted
pub mod Visible
