-- Section 6 of 01, run lists: what a reader of the contracts has to believe.
pub mod Words
pub mod Colours
pub mod Orders
pub mod Reverse
pub mod Merge
pub mod Append
pub mod Rotate
pub mod Bytes
-- What serves the functions inside the crate and their proofs; no public contract rests on it alone.
pub mod Inside
