pub mod Counts
pub mod Lent
pub mod Partners
pub mod Rows
pub mod Texts
pub mod TextsOrder
