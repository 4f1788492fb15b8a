-- What serves the functions inside the crate and their proofs.
pub mod Colors
pub mod Places
pub mod Windows
pub mod Buffers
pub mod Writers
pub mod Prefixes
pub mod Gaps
pub mod Bitmaps
pub mod Bodies
pub mod GapReader
pub mod Payloads
pub mod Indexes
