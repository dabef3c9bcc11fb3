pub mod Walked
pub mod State
pub mod PageRows
pub mod Run
pub mod LeastLengths
pub mod Cases
