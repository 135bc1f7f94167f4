-- What is judged, and judged again.
pub mod Standings
pub mod Judgement
pub mod Ranks
pub mod Verdict
