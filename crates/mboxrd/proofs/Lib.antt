pub mod ReadingLemmas
pub mod RoundTrip
pub mod ReaderLemmas
