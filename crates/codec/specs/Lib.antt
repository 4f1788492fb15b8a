-- The formats of 01, sections 1 to 5: what a reader of the contracts has to believe.
pub mod Bits
pub mod Codes
pub mod Sets
pub mod Prefix
pub mod Records
pub mod Index
-- A file of records, and one of runs.
pub mod Flat
-- What the bytes of two record files tell of their sets.
pub mod History
-- What serves the functions inside the crate and their proofs; no public contract rests on it alone.
pub mod Inside
