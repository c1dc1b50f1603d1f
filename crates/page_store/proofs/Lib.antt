pub mod TableLemmas
pub mod ContentsLemmas
pub mod BodyLemmas
