-- What is judged, and judged again.
pub mod Judgement
pub mod Ranks
pub mod Standings
