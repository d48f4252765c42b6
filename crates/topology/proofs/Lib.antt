-- What the topology test is proved by, and what is proved of its answers.
pub mod Walk
pub mod Visits
pub mod WalkLoops
pub mod Parts
pub mod Rows
pub mod Singles
pub mod Cases
pub mod Others
pub mod Answers
pub mod Totals
pub mod Ends
pub mod FlatMeaning
pub mod Held
pub mod Determined
