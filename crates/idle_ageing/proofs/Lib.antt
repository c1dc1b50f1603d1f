pub mod AgeingLemmas
