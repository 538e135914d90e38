pub mod ValuesLaws
pub mod PoliciesLaws
pub mod WorldsLaws
pub mod AnswersLaws
pub mod EventsLaws
pub mod EntriesLaws
pub mod Labels
