pub mod TableLemmas
mod TextLemmas
mod GroupLemmas
mod NeverMemory
mod TargetLemmas
mod ChainLemmas
