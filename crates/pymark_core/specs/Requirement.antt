pub mod Grammar
pub mod Reading
pub mod Text
pub mod Value
pub mod Written
