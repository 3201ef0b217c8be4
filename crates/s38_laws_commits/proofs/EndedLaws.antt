-- Where a unit ends: what the journal space tells of the others then, and what is kept.
use Rattle.std.proofs.Common.{◌≡◌, ◌∙◌, ◌≤◌, ℕ, ◌+◌, ◌==◌, Bool, true, false, cond, List, [], ◌∷◌, ◌++◌, length, refl, sym, ap, subst, arith}
use Rattle.std.specs.Option.{option_map, unwrap_or}
use Rattle.std.specs.Prelude.{◌&&◌, ◌||◌, None, Option, Some, is_some}
use Rattle.s38_base.specs.Limits.{body_limit}
use Rattle.s38_base.specs.declared.attr.Attr.{Attr}
use Rattle.s38_commits.proofs.MapLaws.{nat_itself, nat_same}
use Rattle.s38_commits.specs.Changes.{has_change, is_of_entry}
use Rattle.s38_commits.specs.Unit.{CommitUnit}
use Rattle.s38_commits.specs.Units.{UnitMap, ended, unit_of}
use Rattle.s38_commits.specs.declared.change.UnitChange.{UnitChange}
use Rattle.s38_dataspaces.specs.Entries.{entry_at}
use Rattle.s38_dataspaces.specs.Table.{DataTable, data_space_image_size, may_restore, restored}
use Rattle.s38_durable_state.specs.Durable.{Durable}
use Rattle.s38_journals.specs.Entries.{JournalRecord}
use Rattle.s38_journals.specs.Journals.{JournalList, appended, can_write}
use Rattle.s38_journals.specs.declared.entry.EntryKind.TheVariants.{Commit, Decommit}
use Rattle.s38_rules.specs.state.Held.{Held}
use Rattle.s38_rules.specs.state.Journaling.{is_journal, journal_for, journal_for_block}
use Rattle.s38_rules.specs.state.Parts.{data_part, journal_part, part_at}
use Rattle.s38_rules.specs.state.PartsAt.{journal_at, no_journal, no_table, on_journal, on_table, over_table, table_at, table_in}
use Rattle.s38_rules.specs.state.LawfulParts.{data_lawful, journal_lawful}
use Rattle.s38_rules.specs.families.Units.{all_undone, end_entry, journal_with_entry, put_back}
use Rattle.s38_rules.specs.declared.data_body.DataBody.{DataBody}
use Rattle.s38_laws_units.specs.Right.{AllPutBack, AreRight}
use Rattle.s38_laws_units.proofs.EndLaws.{can_end, data_by_journal, journal_by_data, undone_right, unit_put_back}
use Rattle.s38_laws_units.proofs.HeldLaws.{part_over}
use Rattle.s38_laws_commits.proofs.ImageLaws.{IsEnded, IsTakenBack, ended_other, ended_settled, ended_apart, image_committed, image_decommitted, image_kept}
use Rattle.s38_laws_commits.proofs.LinkLaws.{Keeps, keeps_block, keeps_journal, keeps_same, keeps_table, keeps_then, port_journal_there}
use Rattle.s38_laws_commits.proofs.MoveLaws.{Fewer, IsWritten, written_kept}
use Rattle.s38_laws_commits.proofs.OrdinalRestoreLaws.{restored_fields, restored_length, restored_other, restored_same}
use Rattle.s38_laws_commits.proofs.ToldLaws.{Unchanged, first_some, is_parts, told_beside, told_kept}
use Rattle.s38_laws_units.proofs.UnitLaws.{unit_ended}
use Rattle.s38_laws_commits.proofs.OwnedLaws.{low_number, owned, some_number, told_written}
use Rattle.s38_laws_commits.specs.Imaged.{AreImaged}
use Rattle.s38_laws_commits.specs.Told.{AreTold, IsSmall, IsTableImage, entries_at, first_in}

-- ---- changes are taken back

-- the table of a number, where that of one is another
pub table_over : (h : Held) (n m : ℕ) (t : DataTable → DataTable) → table_at (on_table h n t) m ≡ cond (n == m) (table_in (option_map (over_table t) (part_at data_part h m))) (table_at h m)
table_over h n m t = ap table_in (part_over data_part data_lawful h n m (over_table t)) ∙ by (n == m) (part_at data_part h m)
  where
    by : (b : Bool) (x : Option DataBody) → table_in (cond b (option_map (over_table t) x) x) ≡ cond b (table_in (option_map (over_table t) x)) (table_in x)
    by true x = refl
    by false x = refl

pub table_journal : (h : Held) (n m : ℕ) (f : JournalList → JournalList) → table_at (on_journal h n f) m ≡ table_at h m
table_journal h n m f = ap table_in (data_by_journal h n m f)

pub entries_table : (h : Held) (n m : ℕ) (t : DataTable → DataTable) → entries_at (on_table h n t) m ≡ entries_at h m
entries_table h n m t = ap (λ (r : Option JournalList). (unwrap_or r no_journal).entries) (journal_by_data h n m (over_table t))

-- what is put back is in a table that is there
put_table : (x : Option DataBody) (c : UnitChange) → table_in (option_map (over_table (put_back c)) x) ≡ restored (table_in x) c.at c.before
put_table None c = sym (by (may_restore no_table c.at c.before))
  where
    by : (b : Bool) → cond b (record no_table { entries = [] }) no_table ≡ no_table
    by true = refl
    by false = refl
put_table (Some d) c = refl

undone_table : (h : Held) (c : UnitChange) (m : ℕ) → table_at (on_table h c.space.0 (put_back c)) m ≡ cond (c.space.0 == m) (restored (table_at h m) c.at c.before) (table_at h m)
undone_table h c m = table_over h c.space.0 m (put_back c) ∙ ap (λ (t : DataTable). cond (c.space.0 == m) t (table_at h m)) (put_table (part_at data_part h m) c)

-- of an entry that is not that of a change
undone_other : (h : Held) (c : UnitChange) (n at : ℕ) → is_of_entry n at c ≡ false → entry_at (table_at (on_table h c.space.0 (put_back c)) n).entries at ≡ entry_at (table_at h n).entries at
undone_other h c n at off = ap (λ (t : DataTable). entry_at t.entries at) (undone_table h c n) ∙ by (c.space.0 == n) (c.at == at) refl off
  where
    by : (a b : Bool) → (c.at == at) ≡ b → (a && b) ≡ false → entry_at (cond a (restored (table_at h n) c.at c.before) (table_at h n)).entries at ≡ entry_at (table_at h n).entries at
    by true true is off = cc
    by true false is off = restored_other (table_at h n) c.at at c.before is
    by false b is off = refl

-- and of its own
undone_here : (h : Held) (c : UnitChange) → may_restore (table_at h c.space.0) c.at c.before ≡ true → entry_at (table_at (on_table h c.space.0 (put_back c)) c.space.0).entries c.at ≡ c.before
undone_here h c may =
    ap (λ (t : DataTable). entry_at t.entries c.at) (undone_table h c c.space.0 ∙ ap (λ b. cond b (restored (table_at h c.space.0) c.at c.before) (table_at h c.space.0)) (nat_itself c.space.0))
    ∙ restored_same (table_at h c.space.0) c.at c.before ∙ ap (λ b. cond b c.before (entry_at (table_at h c.space.0).entries c.at)) may

undone_fields : (h : Held) (c : UnitChange) (n : ℕ) → (table_at (on_table h c.space.0 (put_back c)) n).fields ≡ (table_at h n).fields
undone_fields h c n = ap (λ (t : DataTable). t.fields) (undone_table h c n) ∙ by (c.space.0 == n)
  where
    by : (a : Bool) → (cond a (restored (table_at h n) c.at c.before) (table_at h n)).fields ≡ (table_at h n).fields
    by true = restored_fields (table_at h n) c.at c.before
    by false = refl

undone_length : (h : Held) (c : UnitChange) (n : ℕ) → length (table_at (on_table h c.space.0 (put_back c)) n).entries ≡ length (table_at h n).entries
undone_length h c n = ap (λ (t : DataTable). length t.entries) (undone_table h c n) ∙ by (c.space.0 == n)
  where
    by : (a : Bool) → length (cond a (restored (table_at h n) c.at c.before) (table_at h n)).entries ≡ length (table_at h n).entries
    by true = restored_length (table_at h n) c.at c.before
    by false = refl

-- all of them
pub record AreUndone (h k : Held) (cs : List UnitChange) : Type 0 where
  pub keeps : Keeps h k
  pub entries : (n : ℕ) → entries_at k n ≡ entries_at h n
  pub fields : (n : ℕ) → (table_at k n).fields ≡ (table_at h n).fields
  pub count : (n : ℕ) → length (table_at k n).entries ≡ length (table_at h n).entries
  pub back : (n at : ℕ) (c : UnitChange) → first_in n at cs ≡ Some c → entry_at (table_at k n).entries at ≡ c.before
  pub others : (n at : ℕ) → has_change n at cs ≡ false → entry_at (table_at k n).entries at ≡ entry_at (table_at h n).entries at

-- and one before them
one_more : (cs : List UnitChange) (h : Held) (d : UnitChange) → AreUndone h (all_undone h cs) cs → may_restore (table_at (all_undone h cs) d.space.0) d.at d.before ≡ true
    → AreUndone h (on_table (all_undone h cs) d.space.0 (put_back d)) (d ∷ cs)
one_more cs h d rest may = record {
  keeps = keeps_then h (all_undone h cs) _ rest.keeps (keeps_table (all_undone h cs) d.space.0 (put_back d));
  entries = λ n. entries_table (all_undone h cs) d.space.0 n (put_back d) ∙ rest.entries n;
  fields = λ n. undone_fields (all_undone h cs) d n ∙ rest.fields n;
  count = λ n. undone_length (all_undone h cs) d n ∙ rest.count n;
  back = λ n at c first. back n at c (is_of_entry n at d) refl first;
  others = λ n at off. others n at (is_of_entry n at d) refl off;
}
  where
    Back : ℕ → ℕ → Type 0
    Back n at = entry_at (table_at (on_table (all_undone h cs) d.space.0 (put_back d)) n).entries at ≡ d.before

    here : (n at : ℕ) → is_of_entry n at d ≡ true → Back n at
    here n at is =
        let parts = is_parts n at d is in
        subst (λ (m : ℕ). Back m at) parts.0 (subst (λ (m : ℕ). Back d.space.0 m) parts.1 (undone_here (all_undone h cs) d may))

    back : (n at : ℕ) (c : UnitChange) (b : Bool) → is_of_entry n at d ≡ b → cond b (Some d) (first_in n at cs) ≡ Some c → entry_at (table_at (on_table (all_undone h cs) d.space.0 (put_back d)) n).entries at ≡ c.before
    back n at c true is first = let same : d ≡ c = cc in here n at is ∙ ap (λ (x : UnitChange). x.before) same
    back n at c false off first = undone_other (all_undone h cs) d n at off ∙ rest.back n at c first

    others : (n at : ℕ) (b : Bool) → is_of_entry n at d ≡ b → (b || has_change n at cs) ≡ false → entry_at (table_at (on_table (all_undone h cs) d.space.0 (put_back d)) n).entries at ≡ entry_at (table_at h n).entries at
    others n at true is off = cc
    others n at false is off = undone_other (all_undone h cs) d n at is ∙ rest.others n at off

pub are_undone : (cs : List UnitChange) (h : Held) → AllPutBack h cs → AreUndone h (all_undone h cs) cs
unfolding all_undone
are_undone [] h all = record {
  keeps = keeps_same h;
  entries = λ n. refl;
  fields = λ n. refl;
  count = λ n. refl;
  back = λ n at c first. cc;
  others = λ n at off. refl;
}
are_undone (d ∷ cs) h all = one_more cs h d (are_undone cs h all.1) all.0

-- ---- the end is written

-- the journal space has the end of a unit after its entries
end_here : (h : Held) (journal : ℕ) (e : JournalRecord) → is_journal h journal ≡ true → can_write (journal_at h journal) e ≡ true → IsWritten h (on_journal h journal (journal_with_entry e)) journal e
end_here h journal e there can = record {
  keeps = keeps_journal h journal (journal_with_entry e);
  here = part journal ∙ ap (λ b. (unwrap_or (cond b (option_map (journal_with_entry e) (part_at journal_part h journal)) (part_at journal_part h journal)) no_journal).entries) (nat_itself journal)
      ∙ own (part_at journal_part h journal) there can;
  others = λ n off. part n ∙ ap (λ b. (unwrap_or (cond b (option_map (journal_with_entry e) (part_at journal_part h n)) (part_at journal_part h n)) no_journal).entries) off;
}
  where
    part : (n : ℕ) → entries_at (on_journal h journal (journal_with_entry e)) n ≡ (unwrap_or (cond (journal == n) (option_map (journal_with_entry e) (part_at journal_part h n)) (part_at journal_part h n)) no_journal).entries
    part n = ap (λ (r : Option JournalList). (unwrap_or r no_journal).entries) (part_over journal_part journal_lawful h journal n (journal_with_entry e))

    own : (r : Option JournalList) → is_some r ≡ true → can_write (unwrap_or r no_journal) e ≡ true → (unwrap_or (option_map (journal_with_entry e) r) no_journal).entries ≡ (unwrap_or r no_journal).entries ++ e ∷ []
    own None there can = absurd (let x : false ≡ true = there in cc)
    own (Some j) there can = ap (λ (b : Bool). (cond b (appended j e) j).entries) can

-- what is known of a unit that ends
pub record IsEnding (h : Held) (units : UnitMap) (block journal : ℕ) (unit : CommitUnit) : Type 0 where
  pub right : AreRight h units
  pub found : unit_of units block ≡ Some unit
  pub leads : journal_for_block h block ≡ Some journal

module _ (h : Held) (units : UnitMap) (block journal : ℕ) (unit : CommitUnit) (ending : IsEnding h units block journal unit) where
  abbrev left : UnitMap
  left = ended units block

  pub is_ended : IsEnded units left block unit
  is_ended = record {
    less = λ n. unit_ended units block n ending.right.rising;
    found = ending.found;
    apart = ending.right.apart;
    some = some_number h units block unit ending.right ending.found;
  }

  -- another unit of the journal space has another number
  number_off : AreTold h units → (other : ℕ) (v : CommitUnit) → unit_of left other ≡ Some v → journal_for_block h other ≡ Some journal → (unit.number == v.number) ≡ false
  number_off told other v found to = by (unit.number == v.number) refl
    where
      by : (b : Bool) → (unit.number == v.number) ≡ b → b ≡ false
      by false is = refl
      by true is =
          let old = ended_other units left block unit is_ended other v found in
          let same : block ≡ other = told.differ block other journal unit v ending.found old ending.leads to (nat_same unit.number v.number is) in
          let self : (block == other) ≡ true = ap (λ (m : ℕ). block == m) (sym same) ∙ nat_itself block in
          let none : None ≡ Some v = sym (unit_ended units block other ending.right.rising ∙ ap (λ (b : Bool). cond b None (unit_of units other)) self) ∙ found in
          absurd (let x : None ≡ Some v = none in cc)

  -- an entry of a data space of another journal space was not changed by the unit
  away : (n at other : ℕ) → journal_for h n ≡ Some other → (journal == other) ≡ false → has_change n at unit.changes ≡ false
  away n at other to off = by (has_change n at unit.changes) refl
    where
      by : (b : Bool) → has_change n at unit.changes ≡ b → b ≡ false
      by false is = refl
      by true is =
          let own = owned h units block n at unit ending.right ending.found is in
          let both : Some journal ≡ Some other = sym ending.leads ∙ own.leads ∙ to in
          let one : journal ≡ other = cc in
          let self : (journal == other) ≡ true = ap (λ (m : ℕ). journal == m) (sym one) ∙ nat_itself journal in
          sym self ∙ off

  low : unit.number ≤ length (entries_at h journal) + 1
  low = let most = low_number h units block journal unit ending.right ending.found ending.leads in omega (arith, most)

  -- what it tells of the other units is the same after the end of this one
  module _ (k : Held) (e : JournalRecord) (written : IsWritten h k journal e) (number : e.unit ≡ unit.number) (small : (n : ℕ) → IsSmall (table_at k n))
      (stays : (other : ℕ) (v : CommitUnit) → unit_of left other ≡ Some v → Unchanged (table_at h) (table_at k) v) where
    pub ended_told : AreTold h units → AreTold k left
    ended_told told = told_written h k units left journal e written told (subst (λ (n : ℕ). n ≤ length (entries_at h journal) + 1) (sym number) low)
        (λ other v found to. told_beside (entries_at h journal) e (table_at h) (table_at k) v (told.each other journal v (ended_other units left block unit is_ended other v found) to)
        (ap (λ (n : ℕ). n == v.number) number ∙ number_off told other v found to) (stays other v found))
        (λ other to v found leads off. told_kept (entries_at h to) (table_at h) (table_at k) v (told.each other to v (ended_other units left block unit is_ended other v found) leads) (stays other v found))
        (λ one other to u v x y p q same. told.differ one other to u v (ended_other units left block unit is_ended one u x) (ended_other units left block unit is_ended other v y) p q same)
        small

  -- of the data spaces of other journal spaces
  others_kept : (t u : DataTable) (n other image : ℕ) (i : DataTable) → u.fields ≡ t.fields → ((at : ℕ) → has_change n at unit.changes ≡ false → entry_at u.entries at ≡ entry_at t.entries at)
      → journal_for h n ≡ Some other → (journal == other) ≡ false → IsTableImage units (entries_at h other) t n image i → IsTableImage left (entries_at h other) u n image i
  others_kept t u n other image i fields same to off is = image_kept units left (entries_at h other) t u n image i is fields
      (λ at none. (ended_settled units left block unit is_ended n at none (away n at other to off), same at (away n at other to off)))
      (λ at b v c found first. (ended_other units left block unit is_ended b v found, same at (away n at other to off)))

  journal_there : is_journal h journal ≡ true
  journal_there = by ending.leads
    where
      by : journal_for_block h block ≡ Some journal → is_journal h journal ≡ true
      by to = port_journal_there h _ journal to

  -- ---- it is committed

  module _ (p : ℕ) where
    abbrev e : JournalRecord
    e = end_entry Commit p unit

    abbrev k : Held
    k = on_journal h journal (journal_with_entry e)

    pub committed_written : IsWritten h k journal e
    committed_written = end_here h journal e journal_there (subst (λ (r : Option ℕ). can_write (journal_at h (unwrap_or r 0)) e ≡ true) ending.leads (can_end h units block unit Commit p ending.right ending.found))

    pub committed_told : AreTold h units → AreTold k left
    committed_told told = ended_told k e committed_written refl (λ n. subst (λ (t : DataTable). IsSmall t) (sym (table_journal h journal n (journal_with_entry e))) (told.small n))
        (λ other v found n at has. (ap (λ (t : DataTable). t.fields) (table_journal h journal n (journal_with_entry e)), ap (λ (t : DataTable). entry_at t.entries at) (table_journal h journal n (journal_with_entry e)))) told

    pub committed_kept : (d : Durable) (anew : ℕ → Bool) → Fewer anew h k → AreTold h units → AreImaged h units d anew → AreImaged k left d anew
    committed_kept d anew fewer told are = written_kept h k units left d anew journal e committed_written fewer
        (λ n image i to is. subst (λ (t : DataTable). IsTableImage left (entries_at h journal ++ e ∷ []) t n image i) (sym (table_journal h journal n (journal_with_entry e)))
        (image_committed units left block unit (entries_at h journal) e (table_at h) (table_at h n) n image i is (told.each block journal unit ending.found ending.leads) is_ended refl refl refl))
        (λ n other image i to off is. others_kept (table_at h n) (table_at k n) n other image i (ap (λ (t : DataTable). t.fields) (table_journal h journal n (journal_with_entry e)))
        (λ at _. ap (λ (t : DataTable). entry_at t.entries at) (table_journal h journal n (journal_with_entry e))) to off is)
        are

  -- ---- it is taken back

  module _ (p : ℕ) where
    abbrev back_entry : JournalRecord
    back_entry = end_entry Decommit p unit

    abbrev undone_held : Held
    undone_held = all_undone h unit.changes

    abbrev back_held : Held
    back_held = on_journal undone_held journal (journal_with_entry back_entry)

    undone : AreUndone h undone_held unit.changes
    undone = are_undone unit.changes h (unit_put_back h units block unit ending.right ending.found)

    after : IsWritten undone_held back_held journal back_entry
    after = end_here undone_held journal back_entry (undone.keeps.journal journal ∙ journal_there)
        (subst (λ (r : Option ℕ). can_write (journal_at undone_held (unwrap_or r 0)) back_entry ≡ true) (keeps_block h undone_held undone.keeps block ∙ ending.leads)
        (can_end undone_held units block unit Decommit p (undone_right unit.changes h units ending.right).right ending.found))

    pub back_written : IsWritten h back_held journal back_entry
    back_written = record {
      keeps = keeps_then h undone_held back_held undone.keeps after.keeps;
      here = after.here ∙ ap (λ (es : List JournalRecord). es ++ back_entry ∷ []) (undone.entries journal);
      others = λ n off. after.others n off ∙ undone.entries n;
    }

    table_back : (n : ℕ) → table_at back_held n ≡ table_at undone_held n
    table_back n = table_journal undone_held journal n (journal_with_entry back_entry)

    pub taken_back : IsTakenBack (table_at h) (table_at back_held) unit
    taken_back = record {
      fields = λ n. ap (λ (t : DataTable). t.fields) (table_back n) ∙ undone.fields n;
      back = λ n at c first. ap (λ (t : DataTable). entry_at t.entries at) (table_back n) ∙ undone.back n at c first;
      others = λ n at off. ap (λ (t : DataTable). entry_at t.entries at) (table_back n) ∙ undone.others n at off;
    }

    small_back : (n : ℕ) → IsSmall (table_at h n) → IsSmall (table_at back_held n)
    small_back n small =
        subst (λ (t : DataTable). IsSmall t) (sym (table_back n))
        (subst (λ (f : List Attr). data_space_image_size f (length (table_at undone_held n).entries) ≤ body_limit) (sym (undone.fields n))
        (subst (λ (c : ℕ). data_space_image_size (table_at h n).fields c ≤ body_limit) (sym (undone.count n)) small))

    pub back_told : AreTold h units → AreTold back_held left
    back_told told = ended_told back_held back_entry back_written refl (λ n. small_back n (told.small n))
        (λ other v found n at has. (taken_back.fields n, taken_back.others n at (apart_by n at other v found has))) told
      where
        apart_by : (n at other : ℕ) (v : CommitUnit) → unit_of left other ≡ Some v → has_change n at v.changes ≡ true → has_change n at unit.changes ≡ false
        apart_by n at other v found has = let first = first_some n at v.changes has in ended_apart units left block unit is_ended n at other v first.0 found first.1

    pub back_kept : (d : Durable) (anew : ℕ → Bool) → Fewer anew h back_held → AreImaged h units d anew → AreImaged back_held left d anew
    back_kept d anew fewer are = written_kept h back_held units left d anew journal back_entry back_written fewer
        (λ n image i to is. image_decommitted units left block unit (entries_at h journal) back_entry (table_at h) (table_at back_held) n image i is taken_back is_ended refl refl)
        (λ n other image i to off is. others_kept (table_at h n) (table_at back_held n) n other image i (taken_back.fields n) (λ at none. taken_back.others n at none) to off is)
        are
