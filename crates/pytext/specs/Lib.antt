pub mod Agreement
pub mod Bytes
pub mod Digits
pub mod Options
pub mod Results
pub mod White
