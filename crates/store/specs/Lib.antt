-- The plain store (01, section 7): what is right, over sets as id lists and unitigs as coordinates and starts.
pub mod Plain
-- The store over its state and its buffers, call by call (01, "What each operation turns down").
pub mod State
pub mod Start
pub mod Altered
pub mod Numbered
pub mod Filed
pub mod Add
pub mod Join
pub mod Close
pub mod Show
-- Lists of calls: demand 3.
pub mod Demand
-- A corollary of it: each call once.
pub mod Once
-- And one of two such lists: what their record bytes tell.
pub mod History
-- And one of the empty set: its add, its record and its show.
pub mod Empty
-- And one of sets filed while a unitig is open.
pub mod WhileOpen
-- And one of cycles, whose last vertex is their first.
pub mod Cycles
-- Which refusals there are at all, on every state.
pub mod Refusals
-- What serves the functions inside the crate and their proofs; no public contract rests on it alone.
pub mod Inside
