pub mod LineLemmas
pub mod MeetingLemmas
pub mod OpeningLemmas
