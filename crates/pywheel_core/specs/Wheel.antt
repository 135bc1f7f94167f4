-- The names of wheels (PEP 427, "File name convention"): what a name says, when a text is one, and
-- what a text is read as.
pub mod Build
pub mod Cut
pub mod Grammar
pub mod Halves
pub mod Name
pub mod Reading
pub mod Value
pub use Rattle.pywheel_core.specs.Wheel.Grammar.{Wheel}
pub use Rattle.pywheel_core.specs.Wheel.Reading.{wheel_of}
pub use Rattle.pywheel_core.specs.Wheel.Value.{WheelValue}
