-- What a restart finds of an entry; and when a state, and what is durable of it, are as a machine leaves them.
use Rattle.std.specs.Prelude.{◌≡◌, ◌+◌, ◌≤◌, ℕ, false, List, Some}
use Rattle.s38_base.specs.Limits.{body_limit}
use Rattle.s38_code.specs.declared.entry.Entry.{Entry}
use Rattle.s38_code.specs.declared.event.Event.TheVariants.{Act}
use Rattle.s38_code.specs.declared.event.Request.{Request}
use Rattle.s38_code.specs.declared.reply.Reply.TheVariants.{Done}
use Rattle.s38_code.specs.declared.reply.Val.{Val}
use Rattle.s38_laws_units.specs.Right.{IsRight}
use Rattle.s38_commits.specs.Unit.{CommitUnit}
use Rattle.s38_commits.specs.Units.{unit_of}
use Rattle.s38_dataspaces.specs.Entries as spaces
use Rattle.s38_dataspaces.specs.Entries.{entry_at}
use Rattle.s38_durable_state.specs.Durable.{Durable, kept}
use Rattle.s38_image.specs.declared.stored.Stored.{Stored}
use Rattle.s38_journals.specs.Journals.{JournalList}
use Rattle.s38_laws_objects.specs.Well.{AreWell}
use Rattle.s38_restart.specs.Restarted.{all_followed}
use Rattle.s38_rules.specs.families.Changes.{Committed}
use Rattle.s38_rules.specs.state.Held.{Held}
use Rattle.s38_rules.specs.state.Journaling.{journal_for}
use Rattle.s38_rules.specs.state.Parts.{journal_of}
use Rattle.s38_rules.specs.state.PartsAt.{table_at}
use Rattle.s38_rules.specs.families.Rows.{row}
use Rattle.s38_rules.specs.state.State.{State}
use Rattle.s38_laws_commits.specs.Imaged.{AreImaged}
use Rattle.s38_laws_commits.specs.Linked.{AreLinked}
use Rattle.s38_laws_commits.specs.Told.{AreTold, entries_at}

-- the objects that a restart makes of what is durable
abbrev pub restart_of : Durable → Held
restart_of d = record { objects = all_followed d.objects; next = d.ceiling + 1; ceiling = d.ceiling }

-- the entry that it finds under an ordinal of a data space
abbrev pub found_entry : Durable → ℕ → ℕ → spaces.DataEntry
found_entry d n at = entry_at (table_at (restart_of d) n).entries at

-- the current entry of the machine
abbrev pub entry_now : State → ℕ → ℕ → spaces.DataEntry
entry_now s n at = entry_at (table_at s.held n).entries at

pub record AreSound (s : State) (d : Durable) : Type 0 where
  -- what an instruction makes is no longer than what a restart may make again
  pub limit : s.limit ≤ body_limit
  pub right : IsRight s
  pub well : AreWell s
  pub linked : AreLinked s.held
  pub told : AreTold s.held s.units
  pub kept : AreImaged s.held s.units d (λ n. false)

-- all entries of the journal space of a data space are kept
abbrev pub IsJournalKept : State → Durable → ℕ → Type 0
IsJournalKept s d n = (journal : ℕ) (x : Stored) (j : JournalList) → journal_for s.held n ≡ Some journal → kept d.objects journal ≡ Some x → journal_of x.object.body ≡ Some j
    → j.entries ≡ entries_at s.held journal

-- an entry of a history is that of a COMMIT that takes effect in a state, and of this unit
pub record Commits (s : State) (e : Entry) (unit : CommitUnit) : Type 0 where
  pub depth : ℕ
  pub request : Request
  pub values : List Val
  pub block : ℕ
  pub event : e.event ≡ Act depth request
  pub changes : (row request.op).changes s e.process depth request ≡ Committed block
  pub found : unit_of s.units block ≡ Some unit
  pub reply : e.reply ≡ Done values
