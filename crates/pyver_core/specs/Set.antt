-- Specifier sets (PEP 440, "Version specifiers").
pub mod Admission
pub mod Equality
pub mod Grammar
pub mod Normal
pub mod Prefix
pub mod Reading
