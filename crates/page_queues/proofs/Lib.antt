pub mod TallyLemmas
pub mod KeptLemmas
pub mod DropLemmas
