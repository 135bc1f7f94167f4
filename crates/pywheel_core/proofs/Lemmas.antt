-- Lemmas on definitions that have several files of them.
pub mod Choice
pub mod Sdist
pub mod Tag
pub mod Target
pub mod Texts
pub mod Wheel
