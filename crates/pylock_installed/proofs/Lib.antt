mod TextLemmas
mod DoneLemmas
mod LeftLemmas
mod NeverMemory
mod OnceLemmas
mod TableLemmas
