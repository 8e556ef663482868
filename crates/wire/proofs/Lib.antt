pub mod Answer
pub mod EachKind
