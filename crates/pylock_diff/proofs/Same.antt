-- There is no change exactly where both documents hold the same lock.
pub mod Counts
pub mod Heads
pub mod Law
pub mod Lists
pub mod Names
pub mod Places
pub mod Reading
pub mod Rest
pub mod Tables
