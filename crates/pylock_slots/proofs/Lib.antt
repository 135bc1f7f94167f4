pub mod AnswerLemmas
pub mod KeptValues
pub mod OpeningLemmas
pub mod RunLemmas
pub mod SessionLemmas
pub mod TextLemmas
pub mod Values
