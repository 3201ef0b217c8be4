-- The entries of a unit that no entry commits count for nothing.
use Rattle.std.proofs.Common.{◌≡◌, ◌∙◌, ℕ, ◌+◌, ◌==◌, Bool, true, false, cond, List, [], ◌∷◌, map, refl, sym, ap}
use Rattle.std.specs.Prelude.{◌&&◌, ◌||◌, nat_lt}
use Rattle.s38_base.specs.declared.attr.Attr.{Attr}
use Rattle.s38_commits.proofs.MapLaws.{nat_same}
use Rattle.s38_dataspaces.specs.Entries as spaces
use Rattle.s38_journals.specs.Entries.{JournalRecord}
use Rattle.s38_journals.specs.declared.entry.EntryKind.TheVariants.{Decommit}
use Rattle.s38_restart.specs.Redo.{commits, counts, is_commit, is_committed}
use Rattle.s38_laws_commits.proofs.CountLaws.{committed_never, end_redone, or_left, or_right, redone_same, uncounted}
use Rattle.s38_laws_commits.specs.Counting.{ends_unit, has_commit, silent}
use Rattle.s38_laws_commits.specs.Ordinals.{EntryFilter, entry_redone_at, redone_at, redone_at_from}

abbrev silenced : JournalRecord → JournalRecord
silenced e = record e { kind = Decommit; object = record { 0 = 0 }; ordinal = 0; before = []; after = [] }

-- what commits a unit does so in both
commits_same : (image v u sequence : ℕ) (e : JournalRecord) → ends_unit u e ≡ false → commits image v sequence (silent u e) ≡ commits image v sequence e
commits_same image v u sequence e none = by (e.unit == u) refl
  where
    plain : (e.unit == u) ≡ true → is_commit e.kind ≡ false
    plain is = by_kind (is_commit e.kind) (sym (ap (λ (b : Bool). is_commit e.kind && b) is) ∙ none)
      where
        by_kind : (b : Bool) → (b && true) ≡ false → b ≡ false
        by_kind true h = cc
        by_kind false h = refl

    off : (b : Bool) → ((b && false) && (e.unit == v)) ≡ false
    off true = refl
    off false = refl

    by : (b : Bool) → (e.unit == u) ≡ b → commits image v sequence (cond b (silenced e) e) ≡ commits image v sequence e
    by true is = off (nat_lt image sequence) ∙ sym (ap (λ (b : Bool). (nat_lt image sequence && b) && (e.unit == v)) (plain is) ∙ off (nat_lt image sequence))
    by false is = refl

committed_same : (image v u sequence : ℕ) (es : List JournalRecord) → has_commit u es ≡ false → is_committed image v sequence (map (silent u) es) ≡ is_committed image v sequence es
unfolding is_committed
committed_same image v u sequence [] none = refl
committed_same image v u sequence (e ∷ es) none =
    ap (λ (b : Bool). b || is_committed image v (sequence + 1) (map (silent u) es)) (commits_same image v u sequence e (or_left (ends_unit u e) (has_commit u es) none))
    ∙ ap (λ (b : Bool). commits image v sequence e || b) (committed_same image v u (sequence + 1) es (or_right (ends_unit u e) (has_commit u es) none))

-- one entry makes the same, where the unit does not count
one_silent : (which : EntryFilter) (fields : List Attr) (number at sequence u : ℕ) (e : JournalRecord) (x : spaces.DataEntry) → ((m : ℕ) → which m u ≡ false)
    → entry_redone_at which fields number at sequence (silent u e) x ≡ entry_redone_at which fields number at sequence e x
one_silent which fields number at sequence u e x none = by (e.unit == u) refl
  where
    by : (b : Bool) → (e.unit == u) ≡ b → entry_redone_at which fields number at sequence (cond b (silenced e) e) x ≡ entry_redone_at which fields number at sequence e x
    by true is =
        end_redone which fields number at sequence (silenced e) x refl
        ∙ sym (uncounted which fields number at sequence e x (ap (which sequence) (nat_same e.unit u is) ∙ none sequence))
    by false is = refl

from_silent : (which : EntryFilter) (fields : List Attr) (number at sequence u : ℕ) (es : List JournalRecord) (x : spaces.DataEntry) → ((m : ℕ) → which m u ≡ false)
    → redone_at_from which fields number at sequence (map (silent u) es) x ≡ redone_at_from which fields number at sequence es x
unfolding redone_at_from
from_silent which fields number at sequence u [] x none = refl
from_silent which fields number at sequence u (e ∷ es) x none =
    from_silent which fields number at (sequence + 1) u es (entry_redone_at which fields number at sequence (silent u e) x) none
    ∙ ap (redone_at_from which fields number at (sequence + 1) es) (one_silent which fields number at sequence u e x none)

pub silent_same : (fields : List Attr) (number image at u : ℕ) (es : List JournalRecord) (x : spaces.DataEntry) → (u == 0) ≡ false → has_commit u es ≡ false
    → redone_at fields number image (map (silent u) es) at x ≡ redone_at fields number image es at x
silent_same fields number image at u es x some none =
    redone_same (counts image (map (silent u) es)) (counts image es) fields number at (map (silent u) es) x (λ m v. ap (λ (b : Bool). cond (v == 0) (nat_lt image m) b) (committed_same image v u 1 es none))
    ∙ from_silent (counts image es) fields number at 1 u es x (λ m. ap (λ (b : Bool). cond b (nat_lt image m) (is_committed image u 1 es)) some ∙ committed_never image u 1 es none)
