-- What an image and a journal space make of a data space, where one more entry is written.
use Rattle.std.proofs.Common.{◌≡◌, ◌∙◌, ℕ, ◌+◌, ◌≤◌, ◌==◌, Bool, true, false, cond, List, [], ◌∷◌, ◌++◌, length, refl, sym, ap, subst, arith}
use Rattle.std.proofs.lemmas.Bool.Decides.{nat_tests}
use Rattle.std.proofs.lemmas.List.{length-append}
use Rattle.std.specs.Prelude.{Option, Some, None}
use Rattle.s38_base.specs.declared.attr.Attr.{Attr}
use Rattle.s38_commits.proofs.MapLaws.{nat_itself, nat_same}
use Rattle.s38_commits.specs.Changes.{has_change, is_of_entry}
use Rattle.s38_commits.specs.Unit.{CommitUnit}
use Rattle.s38_commits.specs.Units.{AreDisjoint, UnitMap, changes_entry, changes_of, unit_of}
use Rattle.s38_commits.specs.declared.change.UnitChange.{UnitChange}
use Rattle.s38_dataspaces.specs.Entries.{entry_at}
use Rattle.s38_dataspaces.specs.Table.{DataTable}
use Rattle.s38_journals.specs.Entries.{JournalRecord, is_end}
use Rattle.s38_restart.specs.Redo.{counts, is_commit}
use Rattle.s38_rules.specs.families.Changing.{bytes_or_none, change_entry, kind_between}
use Rattle.s38_laws_commits.proofs.CountLaws.{also_more, commit_also, commit_redone, counted, counted_more, elsewhere, end_redone, redone_beside, settled_also, settled_redone}
use Rattle.s38_laws_commits.proofs.ToldLaws.{IsMade, first_has, first_some, is_itself, is_parts, no_commit}
use Rattle.s38_laws_commits.specs.Counting.{also, has_entry, only_of_unit}
use Rattle.s38_laws_commits.specs.Ordinals.{change_redone_at, entry_redone_at, redone_at, redone_at_from}
use Rattle.s38_laws_commits.specs.Told.{IsSmall, IsTableImage, IsTold, IsUntouched, first_in}

-- ---- which units a block has

-- the unit of a block is no more
abbrev pub HasLess : UnitMap → UnitMap → ℕ → Type 0
HasLess units new block = (k : ℕ) → unit_of new k ≡ cond (block == k) None (unit_of units k)

pub changes_of_has : (r : Option CommitUnit) (n at : ℕ) (cs : List UnitChange) → changes_of r ≡ cs → has_change n at cs ≡ false → changes_entry r n at ≡ false
changes_of_has None n at cs same off = refl
changes_of_has (Some unit) n at cs same off = ap (has_change n at) same ∙ off

-- a unit of a block has changed an entry
pub changes_by : (units : UnitMap) (block n at : ℕ) (unit : CommitUnit) (c : UnitChange) → unit_of units block ≡ Some unit → first_in n at unit.changes ≡ Some c → changes_entry (unit_of units block) n at ≡ true
changes_by units block n at unit c found first = ap (λ r. changes_entry r n at) found ∙ first_has n at unit.changes c first

-- ---- an entry is written that is not for the data space, or the same entries are there with other units

-- where all that is done again is as it was
pub image_kept : (units new : UnitMap) (es : List JournalRecord) (t u : DataTable) (n image : ℕ) (i : DataTable) → IsTableImage units es t n image i → u.fields ≡ t.fields
    → ((at : ℕ) → IsUntouched new n at → IsUntouched units n at × (entry_at u.entries at ≡ entry_at t.entries at))
    → ((at block : ℕ) (unit : CommitUnit) (c : UnitChange) → unit_of new block ≡ Some unit → first_in n at unit.changes ≡ Some c → (unit_of units block ≡ Some unit) × (entry_at u.entries at ≡ entry_at t.entries at))
    → IsTableImage new es u n image i
image_kept units new es t u n image i is fields settled held = record {
  fields = is.fields ∙ sym fields;
  small = is.small;
  within = is.within;
  free = λ at none. let old = settled at none in ap (λ (f : List Attr). redone_at f n image es at (entry_at i.entries at)) fields ∙ is.free at old.0 ∙ sym old.1;
  before = λ at block unit c found first. let old = held at block unit c found first in ap (λ (f : List Attr). redone_at f n image es at (entry_at i.entries at)) fields ∙ is.before at block unit c old.0 first;
  now = λ at block unit c found first. let old = held at block unit c found first in
      ap (λ (f : List Attr). redone_at_from (also (counts image es) unit.number) f n at 1 es (entry_at i.entries at)) fields ∙ is.now at block unit c old.0 first ∙ sym old.1;
}

pub longer : (es : List JournalRecord) (e : JournalRecord) (image : ℕ) → image ≤ length es → image ≤ length (es ++ e ∷ [])
longer es e image le = omega (arith, length-append es (e ∷ []), le)

-- ---- a change without a unit

pub image_alone : (units : UnitMap) (es : List JournalRecord) (p : ℕ) (tables new : ℕ → DataTable) (change : UnitChange) (n image : ℕ) (i : DataTable) → IsTableImage units es (tables n) n image i
    → IsMade tables new change → IsUntouched units change.space.0 change.at → IsTableImage units (es ++ change_entry 0 p change ∷ []) (new n) n image i
image_alone units es p tables new change n image i is made settled = record {
  fields = is.fields ∙ sym (made.fields n);
  small = is.small;
  within = longer es e image is.within;
  free = λ at none. ap (λ (f : List Attr). redone_at f n image (es ++ e ∷ []) at (entry_at i.entries at)) (made.fields n)
      ∙ counted_more image (tables n).fields n at es e (entry_at i.entries at) plain ∙ free_by n at is none (is_of_entry n at change) refl;
  before = λ at block unit c found first. ap (λ (f : List Attr). redone_at f n image (es ++ e ∷ []) at (entry_at i.entries at)) (made.fields n)
      ∙ counted_more image (tables n).fields n at es e (entry_at i.entries at) plain
      ∙ elsewhere (counts image es) (tables n).fields n at (1 + length es) e _ (away at block unit c found first) ∙ is.before at block unit c found first;
  now = λ at block unit c found first. ap (λ (f : List Attr). redone_at_from (also (counts image (es ++ e ∷ [])) unit.number) f n at 1 (es ++ e ∷ []) (entry_at i.entries at)) (made.fields n)
      ∙ also_more image unit.number (tables n).fields n at es e (entry_at i.entries at) plain
      ∙ elsewhere (also (counts image es) unit.number) (tables n).fields n at (1 + length es) e _ (away at block unit c found first) ∙ is.now at block unit c found first
      ∙ sym (made.others n at (away at block unit c found first));
}
  where
    e : JournalRecord
    e = change_entry 0 p change

    plain : is_commit e.kind ≡ false
    plain = no_commit change.before change.after

    -- what a unit has changed is another entry
    away : (at block : ℕ) (unit : CommitUnit) (c : UnitChange) → unit_of units block ≡ Some unit → first_in n at unit.changes ≡ Some c → is_of_entry n at change ≡ false
    away at block unit c found first = by (is_of_entry n at change) refl
      where
        by : (b : Bool) → is_of_entry n at change ≡ b → b ≡ false
        by false off = refl
        by true on =
            let parts = is_parts n at change on in
            let none : changes_entry (unit_of units block) n at ≡ false =
            subst (λ (m : ℕ). changes_entry (unit_of units block) m at ≡ false) parts.0 (subst (λ (k : ℕ). changes_entry (unit_of units block) change.space.0 k ≡ false) parts.1 (settled block)) in
            sym (changes_by units block n at unit c found first) ∙ none

    counts_on : counts image es (1 + length es) 0 ≡ true
    counts_on = let le = is.within in grind (arith, nat_tests, le)

    Free : ℕ → ℕ → Type 0
    Free m at = IsTableImage units es (tables m) m image i → IsUntouched units m at
        → entry_redone_at (counts image es) (tables m).fields m at (1 + length es) e (redone_at (tables m).fields m image es at (entry_at i.entries at)) ≡ entry_at (new m).entries at

    free_here : Free change.space.0 change.at
    free_here it none =
        counted (counts image es) (tables change.space.0).fields change.space.0 change.at (1 + length es) e _ (is_itself change) counts_on
        ∙ ap (change_redone_at (kind_between change.before change.after) (tables change.space.0).fields change.at (bytes_or_none change.after)) (it.free change.at none ∙ made.before)
        ∙ made.redone ∙ sym made.after

    free_by : (m at : ℕ) → IsTableImage units es (tables m) m image i → IsUntouched units m at → (b : Bool) → is_of_entry m at change ≡ b
        → entry_redone_at (counts image es) (tables m).fields m at (1 + length es) e (redone_at (tables m).fields m image es at (entry_at i.entries at)) ≡ entry_at (new m).entries at
    free_by m at it none true on =
        let parts = is_parts m at change on in
        subst (λ (k : ℕ). Free k at) parts.0 (subst (λ (k : ℕ). Free change.space.0 k) parts.1 free_here) it none
    free_by m at it none false off = elsewhere (counts image es) (tables m).fields m at (1 + length es) e _ off ∙ it.free at none ∙ sym (made.others m at off)

-- ---- a unit ends

-- what is known of a unit that ends
pub record IsEnded (units new : UnitMap) (block : ℕ) (unit : CommitUnit) : Type 0 where
  pub less : HasLess units new block
  pub found : unit_of units block ≡ Some unit
  pub apart : AreDisjoint units
  pub some : (unit.number == 0) ≡ false

module _ (units new : UnitMap) (block : ℕ) (unit : CommitUnit) (ended : IsEnded units new block unit) where
  -- another unit stays
  pub ended_other : (k : ℕ) (v : CommitUnit) → unit_of new k ≡ Some v → unit_of units k ≡ Some v
  ended_other k v found = by (block == k) (sym (ended.less k) ∙ found)
    where
      by : (b : Bool) → cond b None (unit_of units k) ≡ Some v → unit_of units k ≡ Some v
      by true is = cc
      by false is = is

  -- and changed other entries
  pub ended_apart : (n at k : ℕ) (v : CommitUnit) (c : UnitChange) → unit_of new k ≡ Some v → first_in n at v.changes ≡ Some c → has_change n at unit.changes ≡ false
  ended_apart n at k v c found first = by (has_change n at unit.changes) refl
    where
      by : (b : Bool) → has_change n at unit.changes ≡ b → b ≡ false
      by false is = refl
      by true is =
          let own : changes_entry (unit_of units block) n at ≡ true = ap (λ r. changes_entry r n at) ended.found ∙ is in
          let same : block ≡ k = ended.apart block k n at own (changes_by units k n at v c (ended_other k v found) first) in
          let self : (block == k) ≡ true = ap (λ (m : ℕ). block == m) (sym same) ∙ nat_itself block in
          let none : None ≡ Some v = sym (ended.less k ∙ ap (λ (b : Bool). cond b None (unit_of units k)) self) ∙ found in
          cc

  -- an entry that no unit has changed then, was changed by this one or by none
  pub ended_settled : (n at : ℕ) → IsUntouched new n at → has_change n at unit.changes ≡ false → IsUntouched units n at
  ended_settled n at none off k = by (block == k) refl
    where
      by : (b : Bool) → (block == k) ≡ b → changes_entry (unit_of units k) n at ≡ false
      by true on = subst (λ (m : ℕ). changes_entry (unit_of units m) n at ≡ false) (nat_same block k on) (ap (λ r. changes_entry r n at) ended.found ∙ off)
      by false away = sym (ap (λ r. changes_entry r n at) (ended.less k ∙ ap (λ (b : Bool). cond b None (unit_of units k)) away)) ∙ none k

-- it is committed
pub image_committed : (units new : UnitMap) (block : ℕ) (unit : CommitUnit) (es : List JournalRecord) (e : JournalRecord) (tables : ℕ → DataTable) (t : DataTable) (n image : ℕ) (i : DataTable)
    → IsTableImage units es t n image i → IsTold es tables unit → IsEnded units new block unit → is_commit e.kind ≡ true → is_end e.kind ≡ true → e.unit ≡ unit.number
    → IsTableImage new (es ++ e ∷ []) t n image i
image_committed units new block unit es e tables t n image i is told ended commits ends own = record {
  fields = is.fields;
  small = is.small;
  within = longer es e image is.within;
  free = λ at none. committed at ∙ free_by at none (has_change n at unit.changes) refl;
  before = λ at k v c found first.
      committed at ∙ redone_beside (counts image es) t.fields e.unit n at es (entry_at i.entries at) (none at k v c found first)
      ∙ is.before at k v c (ended_other units new block unit ended k v found) first;
  now = λ at k v c found first.
      commit_also image v.number t.fields n at es e (entry_at i.entries at) is.within commits ends some
      ∙ redone_beside (also (counts image es) v.number) t.fields e.unit n at es (entry_at i.entries at) (none at k v c found first)
      ∙ is.now at k v c (ended_other units new block unit ended k v found) first;
}
  where
    some : (e.unit == 0) ≡ false
    some = ap (λ (m : ℕ). m == 0) own ∙ ended.some

    committed : (at : ℕ) → redone_at t.fields n image (es ++ e ∷ []) at (entry_at i.entries at) ≡ redone_at_from (also (counts image es) e.unit) t.fields n at 1 es (entry_at i.entries at)
    committed at = commit_redone image t.fields n at es e (entry_at i.entries at) is.within commits ends some

    without : (at : ℕ) → has_change n at unit.changes ≡ false → has_entry e.unit n at es ≡ false
    without at off = ap (λ (m : ℕ). has_entry m n at es) own ∙ told.changed n at off

    none : (at k : ℕ) (v : CommitUnit) (c : UnitChange) → unit_of new k ≡ Some v → first_in n at v.changes ≡ Some c → has_entry e.unit n at es ≡ false
    none at k v c found first = without at (ended_apart units new block unit ended n at k v c found first)

    free_by : (at : ℕ) → IsUntouched new n at → (b : Bool) → has_change n at unit.changes ≡ b → redone_at_from (also (counts image es) e.unit) t.fields n at 1 es (entry_at i.entries at) ≡ entry_at t.entries at
    free_by at free true has =
        let first = first_some n at unit.changes has in
        ap (λ (m : ℕ). redone_at_from (also (counts image es) m) t.fields n at 1 es (entry_at i.entries at)) own ∙ is.now at block unit first.0 ended.found first.1
    free_by at free false off =
        redone_beside (counts image es) t.fields e.unit n at es (entry_at i.entries at) (without at off) ∙ is.free at (ended_settled units new block unit ended n at free off)

-- what the units of a data space have changed is taken back
pub record IsTakenBack (tables new : ℕ → DataTable) (unit : CommitUnit) : Type 0 where
  pub fields : (n : ℕ) → (new n).fields ≡ (tables n).fields
  pub back : (n at : ℕ) (c : UnitChange) → first_in n at unit.changes ≡ Some c → entry_at (new n).entries at ≡ c.before
  pub others : (n at : ℕ) → has_change n at unit.changes ≡ false → entry_at (new n).entries at ≡ entry_at (tables n).entries at

-- it is taken back
pub image_decommitted : (units new : UnitMap) (block : ℕ) (unit : CommitUnit) (es : List JournalRecord) (e : JournalRecord) (tables next : ℕ → DataTable) (n image : ℕ) (i : DataTable)
    → IsTableImage units es (tables n) n image i → IsTakenBack tables next unit → IsEnded units new block unit → is_commit e.kind ≡ false → is_end e.kind ≡ true
    → IsTableImage new (es ++ e ∷ []) (next n) n image i
image_decommitted units new block unit es e tables next n image i is back ended plain ends = record {
  fields = is.fields ∙ sym (back.fields n);
  small = is.small;
  within = longer es e image is.within;
  free = λ at none. same at ∙ free_by at none (has_change n at unit.changes) refl;
  before = λ at k v c found first. same at ∙ is.before at k v c (ended_other units new block unit ended k v found) first;
  now = λ at k v c found first.
      ap (λ (f : List Attr). redone_at_from (also (counts image (es ++ e ∷ [])) v.number) f n at 1 (es ++ e ∷ []) (entry_at i.entries at)) (back.fields n)
      ∙ also_more image v.number (tables n).fields n at es e (entry_at i.entries at) plain
      ∙ end_redone (also (counts image es) v.number) (tables n).fields n at (1 + length es) e _ ends
      ∙ is.now at k v c (ended_other units new block unit ended k v found) first
      ∙ sym (back.others n at (ended_apart units new block unit ended n at k v c found first));
}
  where
    same : (at : ℕ) → redone_at (next n).fields n image (es ++ e ∷ []) at (entry_at i.entries at) ≡ redone_at (tables n).fields n image es at (entry_at i.entries at)
    same at =
        ap (λ (f : List Attr). redone_at f n image (es ++ e ∷ []) at (entry_at i.entries at)) (back.fields n)
        ∙ counted_more image (tables n).fields n at es e (entry_at i.entries at) plain
        ∙ end_redone (counts image es) (tables n).fields n at (1 + length es) e _ ends

    free_by : (at : ℕ) → IsUntouched new n at → (b : Bool) → has_change n at unit.changes ≡ b → redone_at (tables n).fields n image es at (entry_at i.entries at) ≡ entry_at (next n).entries at
    free_by at free true has = let first = first_some n at unit.changes has in is.before at block unit first.0 ended.found first.1 ∙ sym (back.back n at first.0 first.1)
    free_by at free false off = is.free at (ended_settled units new block unit ended n at free off) ∙ sym (back.others n at off)

-- ---- a data space is written whole

-- a table holds the current entry where no unit has changed it, and the entry from before the change elsewhere
pub record IsTaken (units : UnitMap) (t : DataTable) (n : ℕ) (i : DataTable) : Type 0 where
  pub fields : i.fields ≡ t.fields
  pub small : IsSmall i
  pub free : (at : ℕ) → IsUntouched units n at → entry_at i.entries at ≡ entry_at t.entries at
  pub held : (at block : ℕ) (unit : CommitUnit) (c : UnitChange) → unit_of units block ≡ Some unit → first_in n at unit.changes ≡ Some c → entry_at i.entries at ≡ c.before

pub image_taken : (units : UnitMap) (es : List JournalRecord) (tables : ℕ → DataTable) (n : ℕ) (i : DataTable) → IsTaken units (tables n) n i
    → ((block : ℕ) (unit : CommitUnit) (at : ℕ) (c : UnitChange) → unit_of units block ≡ Some unit → first_in n at unit.changes ≡ Some c → IsTold es tables unit)
    → IsTableImage units es (tables n) n (length es) i
image_taken units es tables n i taken told = record {
  fields = taken.fields;
  small = taken.small;
  within = omega arith;
  free = λ at none. settled_redone (length es) (tables n).fields n at es (entry_at i.entries at) (omega arith) ∙ taken.free at none;
  before = λ at block unit c found first. settled_redone (length es) (tables n).fields n at es (entry_at i.entries at) (omega arith) ∙ taken.held at block unit c found first;
  now = λ at block unit c found first.
      settled_also (length es) unit.number (tables n).fields n at es (entry_at i.entries at) (omega arith)
      ∙ ap (redone_at_from (only_of_unit unit.number) (tables n).fields n at 1 es) (taken.held at block unit c found first)
      ∙ (told block unit at c found first).now n at c first;
}
