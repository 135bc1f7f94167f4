pub mod Stream
pub mod Files
pub mod Text
pub mod Line
pub mod Report
pub mod Inner
