pub mod DecidedCascade
pub mod Steadying
pub mod StyleTurns
pub mod StyleCalls
pub mod FrontLaws
pub mod Claiming
