pub mod Cut
pub mod Grammar
pub mod Halves
pub mod Name
pub mod TagSet
pub mod Versions
