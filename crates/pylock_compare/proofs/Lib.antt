pub mod KeyLemmas
pub mod OrderLemmas
pub mod PartnerLemmas
pub mod RowLemmas
