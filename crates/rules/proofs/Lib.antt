pub mod LimitLaws
pub mod MarkLaws
pub mod AllLaws
