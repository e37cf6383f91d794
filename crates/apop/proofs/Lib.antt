pub mod TableLemmas
pub mod ReadingLemmas
