pub mod BitLemmas
pub mod SummaryLemmas
pub mod FreeLemmas
pub mod Steps
pub mod KeptLemmas
