-- What an image and a journal space make of a data space, where an entry is changed in a unit.
use Rattle.std.proofs.Common.{◌≡◌, ◌∙◌, ℕ, ◌+◌, ◌==◌, Bool, true, false, cond, List, [], ◌∷◌, ◌++◌, length, refl, sym, ap, subst}
use Rattle.std.specs.Prelude.{◌||◌, Some, None, nat_lt}
use Rattle.s38_base.specs.declared.attr.Attr.{Attr}
use Rattle.s38_commits.proofs.MapLaws.{nat_itself, nat_same}
use Rattle.s38_commits.specs.Changes.{has_change, is_of_entry}
use Rattle.s38_commits.specs.Unit.{CommitUnit, noted}
use Rattle.s38_commits.specs.Units.{UnitMap, changes_entry, changes_of, unit_of}
use Rattle.s38_commits.specs.declared.change.UnitChange.{UnitChange}
use Rattle.s38_dataspaces.specs.Entries.{entry_at}
use Rattle.s38_dataspaces.specs.Table.{DataTable}
use Rattle.s38_journals.specs.Entries.{JournalRecord}
use Rattle.s38_restart.specs.Redo.{counts, is_commit, is_committed}
use Rattle.s38_rules.specs.families.Changing.{bytes_or_none, change_entry, kind_between}
use Rattle.s38_laws_commits.proofs.CountLaws.{also_more, any_more, committed_never, counted, counted_more, elsewhere, or_left, or_right, redone_beside, uncounted}
use Rattle.s38_laws_commits.proofs.ToldLaws.{IsMade, first_some, is_itself, is_parts, more_new, more_old, more_other, no_commit}
use Rattle.s38_laws_units.proofs.JoinLaws.{HasNow, IsFree}
use Rattle.s38_laws_commits.specs.Counting.{also}
use Rattle.s38_laws_commits.specs.Ordinals.{change_redone_at, entry_redone_at, redone_at, redone_at_from}
use Rattle.s38_laws_commits.specs.Told.{IsTableImage, IsTold, IsUntouched, first_in}
use Rattle.s38_laws_commits.proofs.ImageLaws.{changes_of_has, changes_by, longer}

-- what is known of the unit of a block
pub record IsJoined (units new : UnitMap) (block : ℕ) (unit : CommitUnit) (change : UnitChange) : Type 0 where
  pub has : HasNow units new block (noted change unit)
  pub changes : changes_of (unit_of units block) ≡ unit.changes
  pub old : (n at : ℕ) (c : UnitChange) → first_in n at unit.changes ≡ Some c → unit_of units block ≡ Some unit
  pub free : IsFree units block change.space.0 change.at
  pub some : (unit.number == 0) ≡ false

module _ (units new : UnitMap) (block : ℕ) (unit : CommitUnit) (change : UnitChange) (joined : IsJoined units new block unit change) where
  -- the unit of another block stays
  pub joined_other : (k : ℕ) → (block == k) ≡ false → unit_of new k ≡ unit_of units k
  joined_other k off = joined.has k ∙ ap (λ (b : Bool). cond b (Some (noted change unit)) (unit_of units k)) off

  pub joined_own : unit_of new block ≡ Some (noted change unit)
  joined_own = joined.has block ∙ ap (λ (b : Bool). cond b (Some (noted change unit)) (unit_of units block)) (nat_itself block)

  -- of another entry than that of the change
  pub joined_settled : (n at : ℕ) → IsUntouched new n at → IsUntouched units n at × (is_of_entry n at change ≡ false)
  joined_settled n at none = (λ k. by k (block == k) refl, or_right (has_change n at unit.changes) (is_of_entry n at change) parts)
    where
      parts : (has_change n at unit.changes || is_of_entry n at change) ≡ false
      parts = sym (any_more (is_of_entry n at) unit.changes change) ∙ sym (ap (λ r. changes_entry r n at) joined_own) ∙ none block

      by : (k : ℕ) (b : Bool) → (block == k) ≡ b → changes_entry (unit_of units k) n at ≡ false
      by k true on =
          subst (λ (m : ℕ). changes_entry (unit_of units m) n at ≡ false) (nat_same block k on)
          (changes_of_has (unit_of units block) n at unit.changes joined.changes (or_left (has_change n at unit.changes) (is_of_entry n at change) parts))
      by k false off = sym (ap (λ r. changes_entry r n at) (joined_other k off)) ∙ none k

  -- what the unit of another block has changed is another entry
  pub joined_away : (n at k : ℕ) (v : CommitUnit) (c : UnitChange) → (block == k) ≡ false → unit_of units k ≡ Some v → first_in n at v.changes ≡ Some c → is_of_entry n at change ≡ false
  joined_away n at k v c off found first = by (is_of_entry n at change) refl
    where
      by : (b : Bool) → is_of_entry n at change ≡ b → b ≡ false
      by false away = refl
      by true on =
          let parts = is_parts n at change on in
          let has = changes_by units k n at v c found first in
          let here : changes_entry (unit_of units k) change.space.0 change.at ≡ true =
          subst (λ (m : ℕ). changes_entry (unit_of units k) m change.at ≡ true) (sym parts.0) (subst (λ (j : ℕ). changes_entry (unit_of units k) n j ≡ true) (sym parts.1) has) in
          let same : k ≡ block = joined.free k here in
          let self : (block == k) ≡ true = ap (λ (m : ℕ). block == m) same ∙ nat_itself block in
          sym self ∙ off

  -- before it no unit has changed the entry, where that of the block has not
  pub joined_free : has_change change.space.0 change.at unit.changes ≡ false → IsUntouched units change.space.0 change.at
  joined_free off k = by (changes_entry (unit_of units k) change.space.0 change.at) refl
    where
      own : changes_entry (unit_of units block) change.space.0 change.at ≡ false
      own = changes_of_has (unit_of units block) change.space.0 change.at unit.changes joined.changes off

      by : (b : Bool) → changes_entry (unit_of units k) change.space.0 change.at ≡ b → changes_entry (unit_of units k) change.space.0 change.at ≡ false
      by false is = is
      by true is = ap (λ (m : ℕ). changes_entry (unit_of units m) change.space.0 change.at) (joined.free k is) ∙ own

pub image_joined : (units new : UnitMap) (block : ℕ) (unit : CommitUnit) (es : List JournalRecord) (p : ℕ) (tables next : ℕ → DataTable) (change : UnitChange) (n image : ℕ) (i : DataTable)
    → IsTableImage units es (tables n) n image i → IsMade tables next change → IsTold es tables unit → IsJoined units new block unit change
    → IsTableImage new (es ++ change_entry unit.number p change ∷ []) (next n) n image i
image_joined units new block unit es p tables next change n image i is made told joined = record {
  fields = is.fields ∙ sym (made.fields n);
  small = is.small;
  within = longer es e image is.within;
  free = λ at none.
      let old = joined_settled units new block unit change joined n at none in
      more at ∙ elsewhere (counts image es) (tables n).fields n at (1 + length es) e _ old.1 ∙ is.free at old.0 ∙ sym (made.others n at old.1);
  before = λ at k v c found first. more at ∙ before_by n is at k v c found first (block == k) refl;
  now = λ at k v c found first. ap (λ (f : List Attr). redone_at_from (also (counts image (es ++ e ∷ [])) v.number) f n at 1 (es ++ e ∷ []) (entry_at i.entries at)) (made.fields n)
      ∙ also_more image v.number (tables n).fields n at es e (entry_at i.entries at) plain ∙ now_by n is at k v c found first (block == k) refl;
}
  where
    e : JournalRecord
    e = change_entry unit.number p change

    plain : is_commit e.kind ≡ false
    plain = no_commit change.before change.after

    more : (at : ℕ) → redone_at (next n).fields n image (es ++ e ∷ []) at (entry_at i.entries at) ≡ entry_redone_at (counts image es) (tables n).fields n at (1 + length es) e (redone_at (tables n).fields n image es at (entry_at i.entries at))
    more at = ap (λ (f : List Attr). redone_at f n image (es ++ e ∷ []) at (entry_at i.entries at)) (made.fields n) ∙ counted_more image (tables n).fields n at es e (entry_at i.entries at) plain

    space : ℕ
    space = change.space.0

    place : ℕ
    place = change.at

    fields : List Attr
    fields = (tables space).fields

    same : (a b : CommitUnit) → Some a ≡ Some b → a ≡ b
    same a b h = cc

    -- the unit of the block, with the change
    own : (k : ℕ) (v : CommitUnit) → (block == k) ≡ true → unit_of new k ≡ Some v → noted change unit ≡ v
    own k v on found = same (noted change unit) v (sym (joined.has k ∙ ap (λ (b : Bool). cond b (Some (noted change unit)) (unit_of units k)) on) ∙ found)

    uncounted_here : counts image es (1 + length es) unit.number ≡ false
    uncounted_here = ap (λ (b : Bool). cond b (nat_lt image (1 + length es)) (is_committed image unit.number 1 es)) joined.some ∙ committed_never image unit.number 1 es told.uncommitted

    also_here : also (counts image es) unit.number (1 + length es) unit.number ≡ true
    also_here = ap (λ (b : Bool). b || (unit.number == unit.number)) uncounted_here ∙ nat_itself unit.number

    -- the entry of the change, of which the unit has this change as its first
    begun : IsTableImage units es (tables space) space image i → (c : UnitChange) → first_in space place (unit.changes ++ change ∷ []) ≡ Some c → (b : Bool) → has_change space place unit.changes ≡ b
        → (redone_at fields space image es place (entry_at i.entries place) ≡ c.before) × (redone_at_from (also (counts image es) unit.number) fields space place 1 es (entry_at i.entries place) ≡ change.before)
    begun it c first true has =
        let before = first_some space place unit.changes has in
        let one : Some before.0 ≡ Some c = sym (more_old space place unit.changes before.0 change before.1) ∙ first in
        let found = joined.old space place before.0 before.1 in
        (it.before place block unit c found (before.1 ∙ one), it.now place block unit c found (before.1 ∙ one) ∙ made.before)
    begun it c first false has =
        let one : Some change ≡ Some c = sym (more_new space place unit.changes change has ∙ ap (λ (b : Bool). cond b (Some change) None) (is_itself change)) ∙ first in
        let is_it : change ≡ c = cc in
        let old = it.free place (joined_free units new block unit change joined has) ∙ made.before in
        (old ∙ ap (λ (d : UnitChange). d.before) is_it, redone_beside (counts image es) fields unit.number space place es (entry_at i.entries place) (told.changed space place has) ∙ old)

    Before : ℕ → ℕ → Type 0
    Before m at = IsTableImage units es (tables m) m image i → (c : UnitChange) → first_in m at (unit.changes ++ change ∷ []) ≡ Some c
        → entry_redone_at (counts image es) (tables m).fields m at (1 + length es) e (redone_at (tables m).fields m image es at (entry_at i.entries at)) ≡ c.before

    before_here : Before space place
    before_here it c first = uncounted (counts image es) fields space place (1 + length es) e _ uncounted_here ∙ (begun it c first (has_change space place unit.changes) refl).0

    before_own : (m at : ℕ) → IsTableImage units es (tables m) m image i → (c : UnitChange) → first_in m at (unit.changes ++ change ∷ []) ≡ Some c → (b : Bool) → is_of_entry m at change ≡ b
        → entry_redone_at (counts image es) (tables m).fields m at (1 + length es) e (redone_at (tables m).fields m image es at (entry_at i.entries at)) ≡ c.before
    before_own m at it c first true on =
        let parts = is_parts m at change on in
        subst (λ (k : ℕ). Before k at) parts.0 (subst (λ (k : ℕ). Before space k) parts.1 before_here) it c first
    before_own m at it c first false off =
        let old = more_other m at unit.changes c change off first in
        elsewhere (counts image es) (tables m).fields m at (1 + length es) e _ off ∙ it.before at block unit c (joined.old m at c old) old

    before_by : (m : ℕ) → IsTableImage units es (tables m) m image i → (at k : ℕ) (v : CommitUnit) (c : UnitChange) → unit_of new k ≡ Some v → first_in m at v.changes ≡ Some c → (b : Bool) → (block == k) ≡ b
        → entry_redone_at (counts image es) (tables m).fields m at (1 + length es) e (redone_at (tables m).fields m image es at (entry_at i.entries at)) ≡ c.before
    before_by m it at k v c found first true on =
        let it_is = own k v on found in
        before_own m at it c (ap (λ (w : CommitUnit). first_in m at w.changes) it_is ∙ first) (is_of_entry m at change) refl
    before_by m it at k v c found first false off =
        let old = sym (joined_other units new block unit change joined k off) ∙ found in
        elsewhere (counts image es) (tables m).fields m at (1 + length es) e _ (joined_away units new block unit change joined m at k v c off old first) ∙ it.before at k v c old first

    Now : ℕ → ℕ → Type 0
    Now m at = IsTableImage units es (tables m) m image i → (c : UnitChange) → first_in m at (unit.changes ++ change ∷ []) ≡ Some c
        → entry_redone_at (also (counts image es) unit.number) (tables m).fields m at (1 + length es) e (redone_at_from (also (counts image es) unit.number) (tables m).fields m at 1 es (entry_at i.entries at)) ≡ entry_at (next m).entries at

    now_here : Now space place
    now_here it c first =
        counted (also (counts image es) unit.number) fields space place (1 + length es) e _ (is_itself change) also_here
        ∙ ap (change_redone_at (kind_between change.before change.after) fields place (bytes_or_none change.after)) (begun it c first (has_change space place unit.changes) refl).1
        ∙ made.redone ∙ sym made.after

    now_own : (m at : ℕ) → IsTableImage units es (tables m) m image i → (c : UnitChange) → first_in m at (unit.changes ++ change ∷ []) ≡ Some c → (b : Bool) → is_of_entry m at change ≡ b
        → entry_redone_at (also (counts image es) unit.number) (tables m).fields m at (1 + length es) e (redone_at_from (also (counts image es) unit.number) (tables m).fields m at 1 es (entry_at i.entries at)) ≡ entry_at (next m).entries at
    now_own m at it c first true on =
        let parts = is_parts m at change on in
        subst (λ (k : ℕ). Now k at) parts.0 (subst (λ (k : ℕ). Now space k) parts.1 now_here) it c first
    now_own m at it c first false off =
        let old = more_other m at unit.changes c change off first in
        elsewhere (also (counts image es) unit.number) (tables m).fields m at (1 + length es) e _ off ∙ it.now at block unit c (joined.old m at c old) old ∙ sym (made.others m at off)

    now_by : (m : ℕ) → IsTableImage units es (tables m) m image i → (at k : ℕ) (v : CommitUnit) (c : UnitChange) → unit_of new k ≡ Some v → first_in m at v.changes ≡ Some c → (b : Bool) → (block == k) ≡ b
        → entry_redone_at (also (counts image es) v.number) (tables m).fields m at (1 + length es) e (redone_at_from (also (counts image es) v.number) (tables m).fields m at 1 es (entry_at i.entries at)) ≡ entry_at (next m).entries at
    now_by m it at k v c found first true on =
        let it_is = own k v on found in
        ap (λ (w : CommitUnit). entry_redone_at (also (counts image es) w.number) (tables m).fields m at (1 + length es) e (redone_at_from (also (counts image es) w.number) (tables m).fields m at 1 es (entry_at i.entries at))) (sym it_is)
        ∙ now_own m at it c (ap (λ (w : CommitUnit). first_in m at w.changes) it_is ∙ first) (is_of_entry m at change) refl
    now_by m it at k v c found first false off =
        let old = sym (joined_other units new block unit change joined k off) ∙ found in
        let away = joined_away units new block unit change joined m at k v c off old first in
        elsewhere (also (counts image es) v.number) (tables m).fields m at (1 + length es) e _ away ∙ it.now at k v c old first ∙ sym (made.others m at away)
