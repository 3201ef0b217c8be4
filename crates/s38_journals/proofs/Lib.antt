pub mod Tests
pub mod CutLaws
pub mod EntryLaws
pub mod JournalLaws
