pub mod Complete
pub mod FirstBytes
pub mod Many
pub mod Sound
pub mod TwoNumbers
