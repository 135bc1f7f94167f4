pub mod CellLemmas
pub mod DefaultsLemmas
pub mod EditLemmas
pub mod FilesLemmas
pub mod MovingLemmas
pub mod PicksLemmas
pub mod TakenLemmas
pub mod TextLemmas
