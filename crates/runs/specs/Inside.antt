-- What serves the functions inside the crate and their proofs.
pub mod Lists
pub mod Oriented
pub mod Falls
pub mod Swap
pub mod Pieces
pub mod Merging
pub mod Cursor
pub mod Turned
pub mod Blocks
pub mod Yields
pub mod Refusals
