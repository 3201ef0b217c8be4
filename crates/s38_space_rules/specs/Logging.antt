-- By how many bytes a journal space grows: by none where there is no room for an entry.
use Rattle.std.specs.Prelude.{ℕ, ◌+◌, Bool, ◌&&◌, List, [], ◌∷◌, Option, Some, None, nat_le, nat_lt, if◌then◌else◌}
use Rattle.s38_journals.specs.Journals.{JournalList}
use Rattle.s38_rules.specs.families.Changing.{next_sequence, number_for}
use Rattle.s38_rules.specs.store.Forcing.{Forced, Whole, most_unforced}
use Rattle.s38_rules.specs.state.PartsAt.{journal_at}
use Rattle.s38_rules.specs.state.State.{State}

-- the entry of a change with so many bytes before and after may have a sequence
abbrev pub may_log : ℕ → ℕ → ℕ → ℕ → Bool
may_log number sequence before after = nat_le number sequence && (nat_le before 65535 && nat_le after 65535)

-- its bytes
abbrev pub logged_bytes : ℕ → ℕ → ℕ → ℕ → ℕ
logged_bytes number sequence before after = if may_log number sequence before after then 41 + before + after else 0

-- by how many bytes a journal grows with a change of the unit of a commit block
abbrev pub growth_in : State → ℕ → JournalList → ℕ → ℕ → ℕ
growth_in s block journal before after =
    logged_bytes (number_for s.units block (next_sequence journal)) (next_sequence journal) before after

abbrev pub change_growth : State → ℕ → ℕ → ℕ → ℕ → ℕ
change_growth s block journal before after = growth_in s block (journal_at s.held journal) before after

-- a journal space of which too many bytes would stay unforced with a change
abbrev pub change_forces : State → ℕ → ℕ → ℕ → Option ℕ → List Forced
change_forces s block before after None = []
change_forces s block before after (Some journal) =
    if nat_lt most_unforced ((journal_at s.held journal).unforced + change_growth s block journal before after) then Whole journal ∷ [] else []
