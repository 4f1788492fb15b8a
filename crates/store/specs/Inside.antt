-- What serves the functions inside the crate and their proofs.
pub mod Places
pub mod Lent
pub mod Fits
pub mod Adding
pub mod Gates
pub mod Joining
pub mod Closing
pub mod Showing
