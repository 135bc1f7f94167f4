pub mod ClaimLemmas
pub mod FirstLemmas
pub mod ListedLemmas
pub mod TextLemmas
