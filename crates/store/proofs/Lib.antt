pub mod Laws
-- The page to read.
pub mod Whole
