pub mod Published
pub mod Transcript
pub mod Model
pub mod Streaming
pub mod Inside
