pub mod Grammar
pub mod Normal
