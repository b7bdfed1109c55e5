pub mod Cases
pub mod Deciding
pub mod Tracing
pub mod OneOutcome
pub mod OneAnswer
pub mod Printed
