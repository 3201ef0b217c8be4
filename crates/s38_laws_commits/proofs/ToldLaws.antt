-- What a journal space tells of a unit, where one more entry is written.
use Rattle.std.proofs.Common.{◌≡◌, ◌∙◌, ℕ, ◌+◌, ◌==◌, Bool, true, false, cond, List, [], ◌∷◌, ◌++◌, length, refl, sym, ap, subst}
use Rattle.std.proofs.lemmas.List.Folds.{find-append}
use Rattle.std.specs.Option.{option_or}
use Rattle.std.specs.Prelude.{◌&&◌, ◌||◌, Option, Some, None}
use Rattle.s38_base.specs.declared.attr.Attr.{Attr}
use Rattle.s38_commits.proofs.MapLaws.{nat_itself, nat_same}
use Rattle.s38_commits.specs.Changes.{has_change, is_of_entry}
use Rattle.s38_commits.specs.Unit.{CommitUnit, noted}
use Rattle.s38_commits.specs.declared.change.UnitChange.{UnitChange}
use Rattle.s38_dataspaces.specs.Entries as spaces
use Rattle.s38_dataspaces.specs.Entries.{entry_at}
use Rattle.s38_dataspaces.specs.Table.{DataTable}
use Rattle.s38_journals.specs.Entries.{JournalRecord}
use Rattle.s38_restart.specs.Redo.{is_commit}
use Rattle.s38_rules.specs.families.Changing.{bytes_or_none, change_entry, kind_between}
use Rattle.s38_laws_commits.proofs.CountLaws.{and_nothing, any_more, commit_more, counted, elsewhere, entry_more, only_none, or_left, or_right, redone_more, uncounted}
use Rattle.s38_laws_commits.specs.Counting.{has_entry, only_of_unit}
use Rattle.s38_laws_commits.specs.Ordinals.{change_redone_at, entry_redone_at, is_for, redone_at_from}
use Rattle.s38_laws_commits.specs.Told.{IsTold, first_in}

-- ---- the first change of an entry

pub first_none : (n at : ℕ) (cs : List UnitChange) → has_change n at cs ≡ false → first_in n at cs ≡ None
first_none n at [] off = refl
first_none n at (c ∷ cs) off = rw (or_left (is_of_entry n at c) (has_change n at cs) off) (first_none n at cs (or_right (is_of_entry n at c) (has_change n at cs) off))

pub first_has : (n at : ℕ) (cs : List UnitChange) (c : UnitChange) → first_in n at cs ≡ Some c → has_change n at cs ≡ true
first_has n at [] c is = cc
first_has n at (d ∷ cs) c is = by (is_of_entry n at d) (first_has n at cs c) is
  where
    by : (b : Bool) → (first_in n at cs ≡ Some c → has_change n at cs ≡ true) → cond b (Some d) (first_in n at cs) ≡ Some c → (b || has_change n at cs) ≡ true
    by true rest is = refl
    by false rest is = rest is

pub first_some : (n at : ℕ) (cs : List UnitChange) → has_change n at cs ≡ true → (c : UnitChange) × (first_in n at cs ≡ Some c)
first_some n at [] is = absurd (let e : false ≡ true = is in cc)
first_some n at (d ∷ cs) is = by (is_of_entry n at d) (first_some n at cs) is
  where
    by : (b : Bool) → (has_change n at cs ≡ true → (c : UnitChange) × (first_in n at cs ≡ Some c)) → (b || has_change n at cs) ≡ true → (c : UnitChange) × (cond b (Some d) (first_in n at cs) ≡ Some c)
    by true rest is = (d, refl)
    by false rest is = rest is

-- with one change more
pub more_old : (n at : ℕ) (cs : List UnitChange) (c d : UnitChange) → first_in n at cs ≡ Some c → first_in n at (cs ++ d ∷ []) ≡ Some c
more_old n at cs c d is = find-append (is_of_entry n at) cs (d ∷ []) ∙ ap (λ r. option_or r (first_in n at (d ∷ []))) is

pub more_new : (n at : ℕ) (cs : List UnitChange) (d : UnitChange) → has_change n at cs ≡ false → first_in n at (cs ++ d ∷ []) ≡ cond (is_of_entry n at d) (Some d) None
more_new n at cs d off = find-append (is_of_entry n at) cs (d ∷ []) ∙ ap (λ r. option_or r (first_in n at (d ∷ []))) (first_none n at cs off)

-- where the change is of another entry
pub more_other : (n at : ℕ) (cs : List UnitChange) (c d : UnitChange) → is_of_entry n at d ≡ false → first_in n at (cs ++ d ∷ []) ≡ Some c → first_in n at cs ≡ Some c
more_other n at cs c d off is = by (first_in n at cs) refl
  where
    joined : option_or (first_in n at cs) None ≡ Some c
    joined = sym (find-append (is_of_entry n at) cs (d ∷ []) ∙ ap (λ b. option_or (first_in n at cs) (cond b (Some d) None)) off) ∙ is

    by : (r : Option UnitChange) → first_in n at cs ≡ r → first_in n at cs ≡ Some c
    by None e = absurd (let x : None ≡ Some c = sym (ap (λ r. option_or r None) e) ∙ joined in cc)
    by (Some y) e = e ∙ sym (ap (λ r. option_or r None) e) ∙ joined

pub is_parts : (n at : ℕ) (c : UnitChange) → is_of_entry n at c ≡ true → (c.space.0 ≡ n) × (c.at ≡ at)
is_parts n at c is = by (c.space.0 == n) refl is
  where
    by : (b : Bool) → (c.space.0 == n) ≡ b → (b && (c.at == at)) ≡ true → (c.space.0 ≡ n) × (c.at ≡ at)
    by true space is = (nat_same c.space.0 n space, nat_same c.at at is)
    by false space is = cc

pub is_itself : (c : UnitChange) → is_of_entry c.space.0 c.at c ≡ true
is_itself c = ap (λ (b : Bool). b && (c.at == c.at)) (nat_itself c.space.0) ∙ nat_itself c.at

-- ---- a unit beside which another entry is written

-- each entry that a unit has changed stays
abbrev pub Unchanged : (ℕ → DataTable) → (ℕ → DataTable) → CommitUnit → Type 0
Unchanged tables new unit = (n at : ℕ) → has_change n at unit.changes ≡ true → ((new n).fields ≡ (tables n).fields) × (entry_at (new n).entries at ≡ entry_at (tables n).entries at)

-- the same entries
pub told_kept : (es : List JournalRecord) (tables new : ℕ → DataTable) (unit : CommitUnit) → IsTold es tables unit → Unchanged tables new unit → IsTold es new unit
told_kept es tables new unit told same = record {
  uncommitted = told.uncommitted;
  changed = told.changed;
  now = λ n at c first.
      let stays = same n at (first_has n at unit.changes c first) in
      ap (λ (f : List Attr). redone_at_from (only_of_unit unit.number) f n at 1 es c.before) stays.0 ∙ told.now n at c first ∙ sym stays.1;
}

-- one entry more, which is not of the unit
pub told_beside : (es : List JournalRecord) (e : JournalRecord) (tables new : ℕ → DataTable) (unit : CommitUnit) → IsTold es tables unit → (e.unit == unit.number) ≡ false → Unchanged tables new unit
    → IsTold (es ++ e ∷ []) new unit
told_beside es e tables new unit told off same = record {
  uncommitted = commit_more unit.number es e told.uncommitted (ap (λ (b : Bool). is_commit e.kind && b) off ∙ and_nothing (is_commit e.kind));
  changed = λ n at none. entry_more unit.number n at es e (told.changed n at none) (ap (λ (b : Bool). b && is_for n at e) off);
  now = λ n at c first.
      let stays = same n at (first_has n at unit.changes c first) in
      ap (λ (f : List Attr). redone_at_from (only_of_unit unit.number) f n at 1 (es ++ e ∷ []) c.before) stays.0
      ∙ redone_more (only_of_unit unit.number) (tables n).fields n at 1 es e c.before
      ∙ uncounted (only_of_unit unit.number) (tables n).fields n at (1 + length es) e (redone_at_from (only_of_unit unit.number) (tables n).fields n at 1 es c.before) off
      ∙ told.now n at c first ∙ sym stays.1;
}

-- ---- a unit that a change joins

pub no_commit : (before after : spaces.DataEntry) → is_commit (kind_between before after) ≡ false
no_commit None after = refl
no_commit (Some bytes) None = refl
no_commit (Some bytes) (Some others) = refl

-- an entry of a data space is another one, by a change
pub record IsMade (tables new : ℕ → DataTable) (change : UnitChange) : Type 0 where
  pub fields : (n : ℕ) → (new n).fields ≡ (tables n).fields
  pub others : (n at : ℕ) → is_of_entry n at change ≡ false → entry_at (new n).entries at ≡ entry_at (tables n).entries at
  pub before : entry_at (tables change.space.0).entries change.at ≡ change.before
  pub after : entry_at (new change.space.0).entries change.at ≡ change.after
  -- what the journal says of it, done again, makes the same
  pub redone : change_redone_at (kind_between change.before change.after) (tables change.space.0).fields change.at (bytes_or_none change.after) change.before ≡ change.after

pub told_joined : (es : List JournalRecord) (p : ℕ) (tables new : ℕ → DataTable) (unit : CommitUnit) (change : UnitChange) → IsTold es tables unit → IsMade tables new change
    → IsTold (es ++ change_entry unit.number p change ∷ []) new (noted change unit)
told_joined es p tables new unit change told made = record {
  uncommitted = commit_more unit.number es e told.uncommitted (ap (λ (b : Bool). b && (unit.number == unit.number)) (no_commit change.before change.after));
  changed = λ n at none. by_test n at (sym (any_more (is_of_entry n at) unit.changes change) ∙ none);
  now = λ n at c first. ap (λ (f : List Attr). redone_at_from (only_of_unit unit.number) f n at 1 (es ++ e ∷ []) c.before) (made.fields n)
      ∙ redone_more (only_of_unit unit.number) (tables n).fields n at 1 es e c.before ∙ now_by n at c first (is_of_entry n at change) refl;
}
  where
    e : JournalRecord
    e = change_entry unit.number p change

    by_test : (n at : ℕ) → (has_change n at unit.changes || is_of_entry n at change) ≡ false → has_entry unit.number n at (es ++ e ∷ []) ≡ false
    by_test n at none =
        entry_more unit.number n at es e (told.changed n at (or_left (has_change n at unit.changes) (is_of_entry n at change) none))
        (ap (λ (b : Bool). (unit.number == unit.number) && b) (or_right (has_change n at unit.changes) (is_of_entry n at change) none) ∙ and_nothing (unit.number == unit.number))

    -- what is done again of the entry that is changed
    here : (c : UnitChange) → first_in change.space.0 change.at (unit.changes ++ change ∷ []) ≡ Some c → (b : Bool) → has_change change.space.0 change.at unit.changes ≡ b
        → redone_at_from (only_of_unit unit.number) (tables change.space.0).fields change.space.0 change.at 1 es c.before ≡ change.before
    here c first true has =
        let old = first_some change.space.0 change.at unit.changes has in
        let same : Some old.0 ≡ Some c = sym (more_old change.space.0 change.at unit.changes old.0 change old.1) ∙ first in
        told.now change.space.0 change.at c (old.1 ∙ same) ∙ made.before
    here c first false has =
        let same : Some change ≡ Some c = sym (more_new change.space.0 change.at unit.changes change has ∙ ap (λ (b : Bool). cond b (Some change) None) (is_itself change)) ∙ first in
        let it : c ≡ change = cc in
        only_none (tables change.space.0).fields unit.number change.space.0 change.at es c.before (told.changed change.space.0 change.at has) ∙ ap (λ (d : UnitChange). d.before) it

    Now : ℕ → ℕ → Type 0
    Now n at = (c : UnitChange) → first_in n at (unit.changes ++ change ∷ []) ≡ Some c
        → entry_redone_at (only_of_unit unit.number) (tables n).fields n at (1 + length es) e (redone_at_from (only_of_unit unit.number) (tables n).fields n at 1 es c.before) ≡ entry_at (new n).entries at

    now_here : Now change.space.0 change.at
    now_here c first =
        counted (only_of_unit unit.number) (tables change.space.0).fields change.space.0 change.at (1 + length es) e _ (is_itself change) (nat_itself unit.number)
        ∙ ap (change_redone_at (kind_between change.before change.after) (tables change.space.0).fields change.at (bytes_or_none change.after)) (here c first (has_change change.space.0 change.at unit.changes) refl)
        ∙ made.redone ∙ sym made.after

    now_by : (n at : ℕ) (c : UnitChange) → first_in n at (unit.changes ++ change ∷ []) ≡ Some c → (b : Bool) → is_of_entry n at change ≡ b
        → entry_redone_at (only_of_unit unit.number) (tables n).fields n at (1 + length es) e (redone_at_from (only_of_unit unit.number) (tables n).fields n at 1 es c.before) ≡ entry_at (new n).entries at
    now_by n at c first true is =
        let parts = is_parts n at change is in
        subst (λ (m : ℕ). Now m at) parts.0 (subst (λ (k : ℕ). Now change.space.0 k) parts.1 now_here) c first
    now_by n at c first false off =
        elsewhere (only_of_unit unit.number) (tables n).fields n at (1 + length es) e _ off
        ∙ told.now n at c (more_other n at unit.changes c change off first) ∙ sym (made.others n at off)
