-- Laws of the store, by subject.
-- What the functions' proofs cite: parts of lists, tests and gates, then call by call.
pub mod Parts
pub mod Puts
pub mod Tested
pub mod Adding
pub mod Joining
pub mod Closing
pub mod Showing
pub mod Calls
-- What ties the plain store to the store over its buffers, call by call.
pub mod Flats
pub mod Rep
pub mod Gates
pub mod Agree
pub mod Names
pub mod Unitigs
pub mod Table
pub mod After
pub mod Adds
pub mod Joins
pub mod Closes
pub mod Same
pub mod Shows
-- Lists of calls: demand 3.
pub mod Trace
pub mod Accepted
pub mod Totals
pub mod Demand
pub mod Proved
pub mod History
pub mod Next
pub mod WhileOpen
pub mod Cycles
pub mod Refusals
pub mod Empty
-- Worked cases, computed.
pub mod Cases
