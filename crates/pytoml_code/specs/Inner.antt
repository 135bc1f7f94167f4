-- What contracts inside the crate alone cite.
pub mod Reading
