pub mod PutsExchanged
pub mod UndoAnswers
pub mod EntriesBack
