-- Where a change of an entry is logged: what the journal space tells then, and what is kept.
use Rattle.std.proofs.Common.{◌≡◌, ◌∙◌, ◌≤◌, ℕ, ◌+◌, ◌==◌, Bool, true, false, cond, [], ◌∷◌, ◌++◌, length, refl, sym, ap, subst, arith}
use Rattle.std.proofs.lemmas.Bool.Decides.{nat_tests}
use Rattle.std.specs.Prelude.{◌||◌, None, Option, Some}
use Rattle.s38_commits.proofs.MapLaws.{nat_itself, nat_same}
use Rattle.s38_commits.specs.Changes.{has_change, is_of_entry}
use Rattle.s38_commits.specs.Unit.{CommitUnit, noted}
use Rattle.s38_commits.specs.Units.{UnitMap, changes_entry, changes_of, unit_of}
use Rattle.s38_commits.specs.declared.change.UnitChange.{UnitChange}
use Rattle.s38_dataspaces.specs.Entries.{entry_at}
use Rattle.s38_durable_state.specs.Durable.{Durable}
use Rattle.s38_journals.specs.Entries.{JournalRecord}
use Rattle.s38_rules.specs.families.Changing.{change_entry}
use Rattle.s38_rules.specs.state.Held.{Held}
use Rattle.s38_rules.specs.state.Journaling.{journal_for, journal_for_block}
use Rattle.s38_rules.specs.state.PartsAt.{table_at}
use Rattle.s38_laws_units.specs.Right.{AreRight}
use Rattle.s38_laws_commits.proofs.CountLaws.{any_more}
use Rattle.s38_laws_commits.proofs.ImageLaws.{image_alone, image_kept}
use Rattle.s38_laws_commits.proofs.ImageUnitLaws.{IsJoined, image_joined, joined_other, joined_own}
use Rattle.s38_laws_commits.proofs.MoveLaws.{Fewer, IsWritten, written_kept}
use Rattle.s38_laws_commits.proofs.ToldLaws.{IsMade, Unchanged, first_has, is_parts, more_other, told_beside, told_joined, told_kept}
use Rattle.s38_laws_commits.specs.Imaged.{AreImaged}
use Rattle.s38_laws_commits.specs.Told.{AreTold, IsSmall, IsTold, IsUntouched, entries_at, first_in}
use Rattle.s38_laws_commits.proofs.OwnedLaws.{owned, some_number, told_written}

-- ---- a change that is logged

-- what is known of it: the journal space has its entry, and the data space the change
pub record IsLoggedBy (h k : Held) (units : UnitMap) (journal : ℕ) (change : UnitChange) (e : JournalRecord) : Type 0 where
  pub right : AreRight h units
  pub to : journal_for h change.space.0 ≡ Some journal
  pub written : IsWritten h k journal e
  pub made : IsMade (table_at h) (table_at k) change
  pub small : (n : ℕ) → IsSmall (table_at k n)

-- an entry that no unit has changed is not that of the unit of a block
settled_off : (units : UnitMap) (change : UnitChange) (block n at : ℕ) (unit : CommitUnit) → IsUntouched units change.space.0 change.at → unit_of units block ≡ Some unit → has_change n at unit.changes ≡ true → is_of_entry n at change ≡ false
settled_off units change block n at unit settled found has = by (is_of_entry n at change) refl
  where
    by : (b : Bool) → is_of_entry n at change ≡ b → b ≡ false
    by false off = refl
    by true is =
        let parts = is_parts n at change is in
        let none : changes_entry (unit_of units block) n at ≡ false =
        subst (λ (m : ℕ). changes_entry (unit_of units block) m at ≡ false) parts.0 (subst (λ (j : ℕ). changes_entry (unit_of units block) change.space.0 j ≡ false) parts.1 (settled block)) in
        let some : changes_entry (unit_of units block) n at ≡ true = ap (λ r. changes_entry r n at) found ∙ has in
        sym some ∙ none

-- without a unit
module _ (h k : Held) (units : UnitMap) (journal p : ℕ) (change : UnitChange) (logged : IsLoggedBy h k units journal change (change_entry 0 p change)) (settled : IsUntouched units change.space.0 change.at) where
  stays : (block : ℕ) (unit : CommitUnit) → unit_of units block ≡ Some unit → Unchanged (table_at h) (table_at k) unit
  stays block unit found n at has = (logged.made.fields n, logged.made.others n at (settled_off units change block n at unit settled found has))

  pub alone_told : AreTold h units → AreTold k units
  alone_told told = told_written h k units units journal (change_entry 0 p change) logged.written told (omega arith)
      (λ block unit found to. told_beside (entries_at h journal) (change_entry 0 p change) (table_at h) (table_at k) unit (told.each block journal unit found to)
      (turned unit.number (some_number h units block unit logged.right found)) (stays block unit found))
      (λ block other unit found to off. told_kept (entries_at h other) (table_at h) (table_at k) unit (told.each block other unit found to) (stays block unit found))
      told.differ logged.small
    where
      turned : (a : ℕ) → (a == 0) ≡ false → (0 == a) ≡ false
      turned a off = grind (arith, nat_tests, off)

  pub alone_kept : (d : Durable) (anew : ℕ → Bool) → Fewer anew h k → AreImaged h units d anew → AreImaged k units d anew
  alone_kept d anew fewer are = written_kept h k units units d anew journal (change_entry 0 p change) logged.written fewer
      (λ n image i to is. image_alone units (entries_at h journal) p (table_at h) (table_at k) change n image i is logged.made settled)
      (λ n other image i to off is. image_kept units units (entries_at h other) (table_at h n) (table_at k n) n image i is (logged.made.fields n)
      (λ at none. (none, away n at other to off)) (λ at block unit c found first. (found, away n at other to off)))
      are
    where
      -- the data space of another journal space stays
      away : (n at other : ℕ) → journal_for h n ≡ Some other → (journal == other) ≡ false → entry_at (table_at k n).entries at ≡ entry_at (table_at h n).entries at
      away n at other to off = logged.made.others n at (by (is_of_entry n at change) refl)
        where
          by : (b : Bool) → is_of_entry n at change ≡ b → b ≡ false
          by false is = refl
          by true is =
              let same = (is_parts n at change is).0 in
              let both : Some journal ≡ Some other = sym logged.to ∙ ap (journal_for h) same ∙ to in
              let one : journal ≡ other = cc in
              let self : (journal == other) ≡ true = ap (λ (m : ℕ). journal == m) (sym one) ∙ nat_itself journal in
              sym self ∙ off

-- in a unit
pub record IsUnitOf (h : Held) (units new : UnitMap) (block journal : ℕ) (unit : CommitUnit) (change : UnitChange) : Type 0 where
  pub joined : IsJoined units new block unit change
  pub leads : journal_for_block h block ≡ Some journal
  pub told : IsTold (entries_at h journal) (table_at h) unit
  pub low : unit.number ≤ length (entries_at h journal) + 1
  pub apart : (other : ℕ) (v : CommitUnit) → unit_of units other ≡ Some v → journal_for_block h other ≡ Some journal → v.number ≡ unit.number → other ≡ block

module _ (h k : Held) (units new : UnitMap) (block journal p : ℕ) (unit : CommitUnit) (change : UnitChange)
    (logged : IsLoggedBy h k units journal change (change_entry unit.number p change)) (own : IsUnitOf h units new block journal unit change) where
  abbrev e : JournalRecord
  e = change_entry unit.number p change

  some_same : (a b : CommitUnit) → Some a ≡ Some b → a ≡ b
  some_same a b h = cc

  -- the unit of the block, and those of others
  mine : (other : ℕ) (v : CommitUnit) → unit_of new other ≡ Some v → (block == other) ≡ true → (block ≡ other) × (noted change unit ≡ v)
  mine other v found is = (nat_same block other is, some_same (noted change unit) v (sym (own.joined.has other ∙ ap (λ (b : Bool). cond b (Some (noted change unit)) (unit_of units other)) is) ∙ found))

  theirs : (other : ℕ) (v : CommitUnit) → unit_of new other ≡ Some v → (block == other) ≡ false → unit_of units other ≡ Some v
  theirs other v found off = sym (joined_other units new block unit change own.joined other off) ∙ found

  unchanged : (other : ℕ) (v : CommitUnit) → unit_of units other ≡ Some v → (block == other) ≡ false → Unchanged (table_at h) (table_at k) v
  unchanged other v found off n at has = (logged.made.fields n, logged.made.others n at (by (is_of_entry n at change) refl))
    where
      by : (b : Bool) → is_of_entry n at change ≡ b → b ≡ false
      by false is = refl
      by true is =
          let parts = is_parts n at change is in
          let some : changes_entry (unit_of units other) n at ≡ true = ap (λ r. changes_entry r n at) found ∙ has in
          let here : changes_entry (unit_of units other) change.space.0 change.at ≡ true =
          subst (λ (m : ℕ). changes_entry (unit_of units other) m change.at ≡ true) (sym parts.0) (subst (λ (j : ℕ). changes_entry (unit_of units other) n j ≡ true) (sym parts.1) some) in
          let same : other ≡ block = own.joined.free other here in
          let self : (block == other) ≡ true = ap (λ (m : ℕ). block == m) same ∙ nat_itself block in
          sym self ∙ off

  number_off : (other : ℕ) (v : CommitUnit) → unit_of units other ≡ Some v → journal_for_block h other ≡ Some journal → (block == other) ≡ false → (unit.number == v.number) ≡ false
  number_off other v found to off = by (unit.number == v.number) refl
    where
      by : (b : Bool) → (unit.number == v.number) ≡ b → b ≡ false
      by false is = refl
      by true is =
          let same : other ≡ block = own.apart other v found to (sym (nat_same unit.number v.number is)) in
          let self : (block == other) ≡ true = ap (λ (m : ℕ). block == m) same ∙ nat_itself block in
          sym self ∙ off

  own_told : (other : ℕ) (v : CommitUnit) → unit_of new other ≡ Some v → journal_for_block h other ≡ Some journal → AreTold h units → (b : Bool) → (block == other) ≡ b → IsTold (entries_at h journal ++ e ∷ []) (table_at k) v
  own_told other v found to told true is =
      let it = mine other v found is in
      subst (λ (u : CommitUnit). IsTold (entries_at h journal ++ e ∷ []) (table_at k) u) it.1 (told_joined (entries_at h journal) p (table_at h) (table_at k) unit change own.told logged.made)
  own_told other v found to told false off =
      let old = theirs other v found off in
      told_beside (entries_at h journal) e (table_at h) (table_at k) v (told.each other journal v old to) (number_off other v old to off) (unchanged other v old off)

  others_told : (other to : ℕ) (v : CommitUnit) → unit_of new other ≡ Some v → journal_for_block h other ≡ Some to → (journal == to) ≡ false → AreTold h units → (b : Bool) → (block == other) ≡ b → IsTold (entries_at h to) (table_at k) v
  others_told other to v found leads apart told true is =
      let same = nat_same block other is in
      let both : Some journal ≡ Some to = sym own.leads ∙ ap (journal_for_block h) same ∙ leads in
      let one : journal ≡ to = cc in
      let self : (journal == to) ≡ true = ap (λ (m : ℕ). journal == m) (sym one) ∙ nat_itself journal in
      absurd (let e : true ≡ false = sym self ∙ apart in cc)
  others_told other to v found leads apart told false off =
      let old = theirs other v found off in
      told_kept (entries_at h to) (table_at h) (table_at k) v (told.each other to v old leads) (unchanged other v old off)

  differ_by : (one other to : ℕ) (u v : CommitUnit) → unit_of new one ≡ Some u → unit_of new other ≡ Some v → journal_for_block h one ≡ Some to → journal_for_block h other ≡ Some to → u.number ≡ v.number
      → AreTold h units → (a : Bool) → (block == one) ≡ a → (b : Bool) → (block == other) ≡ b → one ≡ other
  differ_by one other to u v x y p q same told true a true b = sym (nat_same block one a) ∙ nat_same block other b
  differ_by one other to u v x y p q same told true a false b =
      let it = mine one u x a in
      let here : Some to ≡ Some journal = sym p ∙ ap (journal_for_block h) (sym it.0) ∙ own.leads in
      sym (own.apart other v (theirs other v y b) (q ∙ here) (sym same ∙ ap (λ (w : CommitUnit). w.number) (sym it.1)) ∙ it.0)
  differ_by one other to u v x y p q same told false a true b =
      let it = mine other v y b in
      let here : Some to ≡ Some journal = sym q ∙ ap (journal_for_block h) (sym it.0) ∙ own.leads in
      own.apart one u (theirs one u x a) (p ∙ here) (same ∙ ap (λ (w : CommitUnit). w.number) (sym it.1)) ∙ it.0
  differ_by one other to u v x y p q same told false a false b = told.differ one other to u v (theirs one u x a) (theirs other v y b) p q same

  pub joined_told : AreTold h units → AreTold k new
  joined_told told = told_written h k units new journal e logged.written told own.low
      (λ other v found to. own_told other v found to told (block == other) refl)
      (λ other to v found leads apart. others_told other to v found leads apart told (block == other) refl)
      (λ one other to u v x y p q same. differ_by one other to u v x y p q same told (block == one) refl (block == other) refl)
      logged.small

  -- the data space of another journal space stays
  away : (n at other : ℕ) → journal_for h n ≡ Some other → (journal == other) ≡ false → is_of_entry n at change ≡ false
  away n at other to off = by (is_of_entry n at change) refl
    where
      by : (b : Bool) → is_of_entry n at change ≡ b → b ≡ false
      by false is = refl
      by true is =
          let same = (is_parts n at change is).0 in
          let both : Some journal ≡ Some other = sym logged.to ∙ ap (journal_for h) same ∙ to in
          let one : journal ≡ other = cc in
          let self : (journal == other) ≡ true = ap (λ (m : ℕ). journal == m) (sym one) ∙ nat_itself journal in
          sym self ∙ off

  -- an entry of it has no uncommitted change if it had none before
  settled_there : (n at : ℕ) → is_of_entry n at change ≡ false → IsUntouched new n at → IsUntouched units n at
  settled_there n at off none other = by (block == other) refl
    where
      own_none : has_change n at unit.changes ≡ false
      own_none = by_test (has_change n at unit.changes) refl
        where
          by_test : (b : Bool) → has_change n at unit.changes ≡ b → b ≡ false
          by_test false is = refl
          by_test true is =
              let some : changes_entry (unit_of new block) n at ≡ true = ap (λ r. changes_entry r n at) (joined_own units new block unit change own.joined) ∙ any_more_or (is) in
              sym some ∙ none block
            where
              any_more_or : has_change n at unit.changes ≡ true → has_change n at (unit.changes ++ change ∷ []) ≡ true
              any_more_or h = any_more (is_of_entry n at) unit.changes change ∙ ap (λ (b : Bool). b || is_of_entry n at change) h

      by : (b : Bool) → (block == other) ≡ b → changes_entry (unit_of units other) n at ≡ false
      by true is = subst (λ (m : ℕ). changes_entry (unit_of units m) n at ≡ false) (nat_same block other is) (changes_none (unit_of units block) own.joined.changes)
        where
          changes_none : (r : Option CommitUnit) → changes_of r ≡ unit.changes → changes_entry r n at ≡ false
          changes_none None same = refl
          changes_none (Some u) same = ap (has_change n at) same ∙ own_none
      by false is = sym (ap (λ r. changes_entry r n at) (joined_other units new block unit change own.joined other is)) ∙ none other

  -- a unit that has changed an entry of it is that of another block
  held_there : (n at other to : ℕ) (v : CommitUnit) (c : UnitChange) → journal_for h n ≡ Some to → (journal == to) ≡ false → unit_of new other ≡ Some v → first_in n at v.changes ≡ Some c → unit_of units other ≡ Some v
  held_there n at other to v c leads off found first = by (block == other) refl
    where
      by : (b : Bool) → (block == other) ≡ b → unit_of units other ≡ Some v
      by false is = theirs other v found is
      by true is =
          let it = mine other v found is in
          let old = more_other n at unit.changes c change (away n at to leads off) (ap (λ (w : CommitUnit). first_in n at w.changes) it.1 ∙ first) in
          let own_found = own.joined.old n at c old in
          let to_there = owned h units block n at unit logged.right own_found (first_has n at unit.changes c old) in
          let both : Some journal ≡ Some to = sym own.leads ∙ to_there.leads ∙ leads in
          let one : journal ≡ to = cc in
          let self : (journal == to) ≡ true = ap (λ (m : ℕ). journal == m) (sym one) ∙ nat_itself journal in
          absurd (let e : true ≡ false = sym self ∙ off in cc)

  pub joined_kept : (d : Durable) (anew : ℕ → Bool) → Fewer anew h k → AreImaged h units d anew → AreImaged k new d anew
  joined_kept d anew fewer are = written_kept h k units new d anew journal e logged.written fewer
      (λ n image i to is. image_joined units new block unit (entries_at h journal) p (table_at h) (table_at k) change n image i is logged.made own.told own.joined)
      (λ n other image i to off is. image_kept units new (entries_at h other) (table_at h n) (table_at k n) n image i is (logged.made.fields n)
      (λ at none. (settled_there n at (away n at other to off) none, logged.made.others n at (away n at other to off)))
      (λ at block unit c found first. (held_there n at block other unit c to off found first, logged.made.others n at (away n at other to off))))
      are
