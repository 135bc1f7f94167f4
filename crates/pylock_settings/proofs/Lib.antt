mod AbsentLemmas
mod KeyLemmas
mod TextLemmas
mod NeverMemory
