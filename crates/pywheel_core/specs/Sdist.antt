-- The names of source distributions (PEP 625; "Source distribution format" of the PyPA
-- specifications, "Source distribution file name"): what a name says, when a text is one, and what
-- a text is read as.
pub mod Grammar
pub mod Reading
pub mod Value
pub use Rattle.pywheel_core.specs.Sdist.Grammar.{Sdist}
pub use Rattle.pywheel_core.specs.Sdist.Reading.{sdist_of}
pub use Rattle.pywheel_core.specs.Sdist.Value.{SdistValue, sdist_text}
