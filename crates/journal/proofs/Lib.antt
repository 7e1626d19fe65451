-- Laws of a day. `Streaming` is the list theorem, `Messages` that no two lists of events have one message, `Refusals` and `Reached` what
-- follows for any day, `Clerk` that the message hashed in one go gives the same digest, `Pieces` that calls in a row which are answered 0 give it.
pub mod Messages
pub mod Streaming
pub mod Refusals
pub mod Appended
pub mod Reached
pub mod Clerk
pub mod Pieces
mod Examples
mod Cases
