-- Laws of tapes.
pub mod Turns
pub mod Cases
pub mod Heads
