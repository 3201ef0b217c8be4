-- Units stay right where an entry of a data space is changed: the change is logged, and joins the unit of its block.
use Rattle.std.proofs.Common.{◌*◌, ◌+◌, ◌==◌, ◌∙◌, ◌∷◌, ◌≡◌, ◌≤◌, Bool, [], ap, arith, cond, false, length, refl, subst, sym, true, ℕ}
use Rattle.std.proofs.lemmas.Bool.Decides.{nat_tests}
use Rattle.std.proofs.lemmas.Bool.{and_parts}
use Rattle.std.proofs.lemmas.List.Elements.{All-append, All-cons, All-nil}
use Rattle.std.proofs.lemmas.List.{length-append}
use Rattle.std.specs.Option.{option_map, unwrap_or}
use Rattle.std.specs.Prelude.{◌&&◌, All, None, Option, Some, is_none, is_some, not}
use Rattle.s38_base.specs.declared.id.ObjNum.{ObjNum}
use Rattle.s38_commits.proofs.MapLaws.{nat_itself, nat_same}
use Rattle.s38_commits.specs.Changes.{journal_bytes}
use Rattle.s38_commits.specs.Unit.{CommitUnit, noted}
use Rattle.s38_commits.specs.Units.{AreDisjoint, BlocksRise, UnitMap, changes_of, unit_of, with_change_joined, with_unit_changed}
use Rattle.s38_commits.specs.declared.change.UnitChange.{UnitChange}
use Rattle.s38_dataspaces.specs.Table.{DataTable}
use Rattle.s38_journals.specs.Entries.{JournalRecord}
use Rattle.s38_journals.specs.Journals.{JournalList, appended, can_write, journal_with_room}
use Rattle.s38_rules.specs.families.Changing.{bytes_or_none, change_entry, next_sequence, number_for, unit_number_in, units_after, with_change_logged}
use Rattle.s38_rules.specs.state.Held.{Held}
use Rattle.s38_rules.specs.state.Journaling.{begins_unit, block_port, block_port_in, data_port, data_port_in, is_journal, is_journaled_to, is_that_number, journal_for, journal_for_block, journal_of_port, open_after, open_units, unit_goes_to}
use Rattle.s38_rules.specs.state.Parts.{block_part, data_part, journal_part, part_at, port_part}
use Rattle.s38_rules.specs.state.PartsAt.{journal_at, no_journal, on_data, on_journal, over_table}
use Rattle.s38_rules.specs.state.LawfulParts.{data_lawful, journal_lawful}
use Rattle.s38_rules.specs.state.State.{State}
use Rattle.s38_rules.specs.declared.data_body.DataBody.{DataBody}
use Rattle.s38_base.specs.Signals.{first}
use Rattle.s38_commits.proofs.JoinLaws.{empty_unit}
use Rattle.s38_laws_units.proofs.EndLaws.{block_by_data, block_by_journal, data_by_journal, data_spares, data_tables, journal_by_data, journal_spares, port_by_data, port_by_journal}
use Rattle.s38_laws_units.proofs.HeldLaws.{over_unused, part_over}
use Rattle.s38_laws_units.proofs.JoinLaws.{IsFree, apart_more, joined_more, joined_new, more_has, new_has, with_first}
use Rattle.s38_laws_units.proofs.KeptLaws.{IsLater, Spares, all_by, both_hold, open_kept, units_kept}
use Rattle.s38_laws_units.proofs.UnitLaws.{all_changed, all_found, all_put_in, count_changed, count_put_in, one_if, put_in, rising_changed, rising_put_in}
use Rattle.s38_laws_units.specs.Right.{AreRight, IsChangeOf, IsData, IsLogged, IsRight, IsUnit, unit_journal}
use Rattle.s38_laws_units.proofs.ChangeRuleLaws.{IsBlock}
use Rattle.s38_laws_units.proofs.LoggingLaws.{bytes_short, entry_takes, change_may, logged_room, logged_grows, behind_same, journal_there}

-- ---- the objects after a change: a journal space and a data space are others

module _ (h : Held) (journal space : ℕ) (f : JournalList → JournalList) (g : DataBody → DataBody) where
  abbrev between : Held
  between = on_journal h journal f

  abbrev behind : Held
  behind = on_data between space g

  ports_same : (n : ℕ) → part_at port_part behind n ≡ part_at port_part h n
  ports_same n = port_by_data between space n g ∙ port_by_journal h journal n f

  blocks_same : (n : ℕ) → part_at block_part behind n ≡ part_at block_part h n
  blocks_same n = block_by_data between space n g ∙ block_by_journal h journal n f

  journals_then : (n : ℕ) → part_at journal_part behind n ≡ cond (journal == n) (option_map f (part_at journal_part h n)) (part_at journal_part h n)
  journals_then n = journal_by_data between space n g ∙ part_over journal_part journal_lawful h journal n f

  spaces_then : (n : ℕ) → part_at data_part behind n ≡ cond (space == n) (option_map g (part_at data_part h n)) (part_at data_part h n)
  spaces_then n = part_over data_part data_lawful between space n g ∙ ap (λ (x : Option DataBody). cond (space == n) (option_map g x) x) (data_by_journal h journal n f)

  still_journal : (n : ℕ) → is_journal behind n ≡ is_journal h n
  still_journal n = ap is_some (journals_then n) ∙ by (journal == n) (part_at journal_part h n)
    where
      by : (b : Bool) (x : Option JournalList) → is_some (cond b (option_map f x) x) ≡ is_some x
      by true None = refl
      by true (Some j) = refl
      by false x = refl

  port_leads_on : (port : ℕ) → journal_of_port behind port ≡ journal_of_port h port
  port_leads_on port = behind_same h behind port (ports_same port) still_journal

  block_port_same : (block : ℕ) → block_port behind block ≡ block_port h block
  block_port_same block = ap block_port_in (blocks_same block)

  data_port_same : ((d : DataBody) → IsLater d (g d)) → data_port behind space ≡ data_port h space
  data_port_same later = ap data_port_in (spaces_then space) ∙ by (space == space) (part_at data_part h space)
    where
      by : (b : Bool) (x : Option DataBody) → data_port_in (cond b (option_map g x) x) ≡ data_port_in x
      by true None = refl
      by true (Some d) = ap (λ (n : ObjNum). n.0) (later d).port
      by false x = refl

  still_journaled : (block : ℕ) → ((d : DataBody) → IsLater d (g d)) → is_journaled_to behind space (block_port behind block) ≡ is_journaled_to h space (block_port h block)
  still_journaled block later =
      ap (λ n. (n == block_port behind block) && is_some (journal_of_port behind n)) (data_port_same later)
      ∙ ap (λ n. (data_port h space == n) && is_some (journal_of_port behind (data_port h space))) (block_port_same block)
      ∙ ap (λ r. (data_port h space == block_port h block) && is_some r) (port_leads_on (data_port h space))

  each_still : (units : UnitMap) → ((j : JournalList) → length j.entries ≤ length (f j).entries) → ((d : DataBody) → IsLater d (g d)) → All (IsUnit h) units → All (IsUnit behind) units
  each_still units grows later each =
      units_kept between behind units (units_kept h between units each (all_by (Spares h between) units (journal_spares h journal f grows))) (all_by (Spares between behind) units (data_spares between space g later))

  open_still : (units : UnitMap) (i : ℕ) → ((j : JournalList) → length j.entries ≤ length (f j).entries) → ((d : DataBody) → IsLater d (g d)) → All (IsUnit h) units → open_units behind units i ≡ open_units h units i
  open_still units i grows later each =
      let spared = all_by (Spares h between) units (journal_spares h journal f grows) in
      open_kept between behind units i (units_kept h between units each spared) (all_by (Spares between behind) units (data_spares between space g later)) ∙ open_kept h between units i each spared

  change_then : (change : UnitChange) → change.space.0 ≡ space → IsChangeOf change (option_map g (part_at data_part h space)) → IsChangeOf change (part_at data_part behind change.space.0)
  change_then change is of = subst (λ (n : ℕ). IsChangeOf change (part_at data_part behind n)) (sym is)
      (subst (IsChangeOf change) (sym (spaces_then space ∙ ap (λ b. cond b (option_map g (part_at data_part h space)) (part_at data_part h space)) (nat_itself space))) of)

-- ---- the units after a change

module _ (s : State) (p block journal : ℕ) (change : UnitChange) (t : DataTable → DataTable) where
  abbrev space : ℕ
  space = change.space.0

  -- the number of its unit
  abbrev number : ℕ
  number = number_for s.units block (next_sequence (journal_at s.held journal))

  abbrev opened : ℕ
  opened = open_after s.held s.units journal block

  abbrev entry : JournalRecord
  entry = change_entry number p change

  abbrev to_journal : JournalList → JournalList
  to_journal = with_change_logged (journal_bytes change) opened entry

  abbrev to_data : DataBody → DataBody
  to_data = over_table t

  abbrev now : Held
  now = behind s.held journal space to_journal to_data

  -- what is known of the change
  pub record IsKnown : Type 0 where
    pub right : IsRight s
    pub journaled : journal_for s.held space ≡ Some journal
    pub later : (d : DataBody) → IsLater d (to_data d)
    pub table : IsData (option_map to_data (part_at data_part s.held space))
    pub of : IsChangeOf change (option_map to_data (part_at data_part s.held space))
    pub free : IsFree s.units block space change.at
    pub ruled : (block == 0) ≡ false → IsBlock s.held block space

  grows : (j : JournalList) → length j.entries ≤ length (to_journal j).entries
  grows j = logged_grows (journal_bytes change) opened entry j

  each_now : IsKnown → All (IsUnit now) s.units
  each_now known = each_still s.held journal space to_journal to_data s.units grows known.later known.right.each

  open_now : IsKnown → (i : ℕ) → open_units now s.units i ≡ open_units s.held s.units i
  open_now known i = open_still s.held journal space to_journal to_data s.units i grows known.later known.right.each

  -- the journal space is there
  journal_is : IsKnown → is_some (part_at journal_part s.held journal) ≡ true
  journal_is known = journal_there s.held (data_port s.held space) journal known.journaled

  roomed : (x : Option JournalList) → is_some x ≡ true → 41 * opened ≤ (unwrap_or (option_map to_journal x) no_journal).spare
  roomed None there = cc
  roomed (Some j) there = logged_room (journal_bytes change) opened entry j (entry_takes number p change)

  -- how many more are open in a journal space
  abbrev more_in : ℕ → ℕ
  more_in i = cond (journal == i) (one_if (begins_unit s.units block)) 0

  -- units that rise and are apart, each right, and not too many in a journal space
  right_now : (units : UnitMap) → IsKnown → BlocksRise units → AreDisjoint units → All (IsUnit now) units → ((i : ℕ) → open_units now units i ≤ open_units s.held s.units i + more_in i) → AreRight now units
  right_now units known rising apart each few = record {
    rising = rising;
    apart = apart;
    each = each;
    room = λ i. subst (λ (r : Option JournalList). 41 * open_units now units i ≤ (unwrap_or r no_journal).spare) (sym (journals_then s.held journal space to_journal to_data i))
        (elim (journal == i) as (λ b. (journal == i) ≡ b → 41 * open_units now units i ≤ (unwrap_or (cond b (option_map to_journal (part_at journal_part s.held i)) (part_at journal_part s.held i)) no_journal).spare) [
          | true ↦ λ q. subst (λ (m : ℕ). 41 * open_units now units m ≤ (unwrap_or (option_map to_journal (part_at journal_part s.held m)) no_journal).spare) (nat_same journal i q) here
          | false ↦ λ q. there i q
        ] refl);
    tables = λ m. data_tables (on_journal s.held journal to_journal) space m to_data (subst (λ x. IsData (option_map to_data x)) (sym (data_by_journal s.held journal space to_journal)) known.table)
        (subst IsData (sym (data_by_journal s.held journal m to_journal)) (known.right.tables m));
    unused = over_unused data_part (on_journal s.held journal to_journal) space to_data (over_unused journal_part s.held journal to_journal known.right.unused);
  }
    where
      here : 41 * open_units now units journal ≤ (unwrap_or (option_map to_journal (part_at journal_part s.held journal)) no_journal).spare
      here =
          let own : more_in journal ≡ one_if (begins_unit s.units block) = ap (λ b. cond b (one_if (begins_unit s.units block)) 0) (nat_itself journal) in
          omega (arith, roomed (part_at journal_part s.held journal) (journal_is known), few journal, own)

      there : (i : ℕ) → (journal == i) ≡ false → 41 * open_units now units i ≤ (unwrap_or (part_at journal_part s.held i) no_journal).spare
      there i off =
          let none : more_in i ≡ 0 = ap (λ b. cond b (one_if (begins_unit s.units block)) 0) off in
          omega (arith, known.right.room i, few i, none)

  -- the change itself
  logged_now : IsKnown → IsBlock s.held block space → IsLogged now (block_port now block) change
  logged_now known is = record {
    journaled = still_journaled s.held journal space to_journal to_data block known.later ∙ is.journaled;
    entry = change_then s.held journal space to_journal to_data change refl known.of;
  }

  unit_leads : IsKnown → IsBlock s.held block space → journal_for_block now block ≡ Some journal
  unit_leads known is =
      let to : data_port s.held space ≡ block_port s.held block = nat_same _ _ (and_parts (data_port s.held space == block_port s.held block) (is_some (journal_for s.held space)) is.journaled).0 in
      ap (journal_of_port now) (block_port_same s.held journal space to_journal to_data block) ∙ port_leads_on s.held journal space to_journal to_data (block_port s.held block)
      ∙ ap (journal_of_port s.held) (sym to) ∙ known.journaled

  -- ---- without a block

  right_alone : IsKnown → AreRight now s.units
  right_alone known = right_now s.units known known.right.rising known.right.apart (each_now known) (λ i. omega (arith, open_now known i))

  -- ---- in a unit that was begun

  unit_more : (unit : CommitUnit) → IsKnown → IsBlock s.held block space → IsUnit now (block, unit) → IsUnit now (block, noted change unit)
  unit_more unit known is old = record {
    block = old.block;
    journal = old.journal;
    first = old.first;
    last = old.last;
    some = omega (arith, length-append unit.changes (change ∷ []));
    changes = All-append (IsLogged now (block_port now block)) unit.changes (change ∷ []) old.changes (All-cons (IsLogged now (block_port now block)) change [] (logged_now known is) (All-nil (IsLogged now (block_port now block))));
  }

  right_more : (unit : CommitUnit) → IsKnown → IsBlock s.held block space → unit_of s.units block ≡ Some unit → AreRight now (with_change_joined s.units block p number change)
  right_more unit known is found =
      let each = each_now known in
      let new = with_unit_changed s.units block (noted change) in
      subst (AreRight now) (sym (joined_more s.units block p number change unit found)) (right_now new known (rising_changed s.units block (noted change) known.right.rising)
      (subst (λ (us : UnitMap). AreDisjoint us) (joined_more s.units block p number change unit found)
      (apart_more s.units (with_change_joined s.units block p number change) block unit change (more_has s.units block p number change unit found) (ap changes_of found) known.free known.right.apart))
      (all_changed (IsUnit now) s.units block (noted change) unit each found (unit_more unit known is (all_found (IsUnit now) s.units block unit each found)))
      (λ i. omega (arith, count_changed (unit_goes_to now i) s.units block (noted change) (λ n u v. refl), open_now known i)))

  -- ---- in a unit that it begins

  short : IsKnown → (length (bytes_or_none change.before) ≤ 4096) × (length (bytes_or_none change.after) ≤ 4096)
  short known = by (option_map to_data (part_at data_part s.held space)) known.table known.of
    where
      by : (x : Option DataBody) → IsData x → IsChangeOf change x → (length (bytes_or_none change.before) ≤ 4096) × (length (bytes_or_none change.after) ≤ 4096)
      by None table of = absurd of
      by (Some d) table of = (bytes_short d.space.fields change.before table.fields of.before, bytes_short d.space.fields change.after table.fields of.after)

  -- the unit of its block goes to the journal space
  block_leads : IsKnown → IsBlock s.held block space → journal_for_block s.held block ≡ Some journal
  block_leads known is =
      let to : data_port s.held space ≡ block_port s.held block = nat_same _ _ (and_parts (data_port s.held space == block_port s.held block) (is_some (journal_for s.held space)) is.journaled).0 in
      ap (journal_of_port s.held) (sym to) ∙ known.journaled

  -- the number of its unit is that of an entry of the journal space, or of the next one
  number_low : IsKnown → number ≤ length (journal_at s.held journal).entries + 1
  number_low known = by (block == 0) refl
    where
      of_unit : (r : Option CommitUnit) → (block == 0) ≡ false → unit_of s.units block ≡ r → unit_number_in r (next_sequence (journal_at s.held journal)) ≤ length (journal_at s.held journal).entries + 1
      of_unit None some is = omega arith
      of_unit (Some unit) some is =
          let own = all_found (IsUnit s.held) s.units block unit known.right.each is in
          let at : unit_journal s.held block ≡ journal_at s.held journal = ap (λ (r : Option ℕ). journal_at s.held (unwrap_or r 0)) (block_leads known (known.ruled some)) in
          let last : unit.number ≤ length (journal_at s.held journal).entries = subst (λ (j : JournalList). unit.number ≤ length j.entries) at own.last in
          omega (arith, last)

      by : (b : Bool) → (block == 0) ≡ b → cond b 0 (unit_number_in (unit_of s.units block) (next_sequence (journal_at s.held journal))) ≤ length (journal_at s.held journal).entries + 1
      by true is = omega arith
      by false is = of_unit (unit_of s.units block) is refl

  -- what the journal says of the change may be written, and has room
  pub change_written : IsKnown → can_write (journal_with_room (journal_at s.held journal) (journal_bytes change) opened) entry ≡ true
  change_written known = let few = short known in change_may number p opened change (journal_at s.held journal) (number_low known) few.0 few.1

  number_new : (block == 0) ≡ false → unit_of s.units block ≡ None → number ≡ length (journal_at s.held journal).entries + 1
  number_new some none = ap (λ b. cond b 0 (unit_number_in (unit_of s.units block) (next_sequence (journal_at s.held journal)))) some ∙ ap (λ r. unit_number_in r (next_sequence (journal_at s.held journal))) none

  one_longer : (x : Option JournalList) → is_some x ≡ true → number ≡ length (unwrap_or x no_journal).entries + 1 → (length (bytes_or_none change.before) ≤ 4096) × (length (bytes_or_none change.after) ≤ 4096)
      → number ≤ length (unwrap_or (option_map to_journal x) no_journal).entries
  one_longer None there is few = cc
  one_longer (Some j) there is few =
      subst (λ b. number ≤ length (cond b (appended (journal_with_room j (journal_bytes change) opened) entry) (journal_with_room j (journal_bytes change) opened)).entries)
      (sym (change_may number p opened change j (omega (arith, is)) few.0 few.1)) (omega (arith, is, length-append j.entries (entry ∷ [])))

  unit_new : IsKnown → (block == 0) ≡ false → unit_of s.units block ≡ None → IsBlock s.held block space → IsUnit now (block, with_first p number change)
  unit_new known some none is =
      let leads = unit_leads known is in
      let start = number_new some none in
      let at : unit_journal now block ≡ unwrap_or (option_map to_journal (part_at journal_part s.held journal)) no_journal =
      ap (λ r. journal_at now (unwrap_or r 0)) leads ∙ ap (λ (r : Option JournalList). unwrap_or r no_journal)
      (journals_then s.held journal space to_journal to_data journal ∙ ap (λ b. cond b (option_map to_journal (part_at journal_part s.held journal)) (part_at journal_part s.held journal)) (nat_itself journal)) in
      record {
        block = ap is_some (blocks_same s.held journal space to_journal to_data block) ∙ is.there;
        journal = ap is_some leads;
        first = omega (arith, start);
        last = subst (λ (j : JournalList). number ≤ length j.entries) (sym at) (one_longer (part_at journal_part s.held journal) (journal_is known) start (short known));
        some = omega arith;
        changes = All-cons (IsLogged now (block_port now block)) change [] (logged_now known is) (All-nil (IsLogged now (block_port now block)));
      }

  one_more : (i : ℕ) (r : Option ℕ) → r ≡ Some journal → (block == 0) ≡ false → unit_of s.units block ≡ None → one_if (is_that_number i r) ≤ more_in i
  one_more i r leads some none =
      let begins : begins_unit s.units block ≡ true = both_hold _ _ (ap not some) (ap is_none none) in
      let goes : is_that_number i r ≡ (journal == i) = ap (is_that_number i) leads ∙ turned i journal in
      subst (λ b. one_if b ≤ cond (journal == i) (one_if (begins_unit s.units block)) 0) (sym goes)
      (subst (λ c. one_if (journal == i) ≤ cond (journal == i) (one_if c) 0) (sym begins) (by (journal == i)))
    where
      turned : (a b : ℕ) → (a == b) ≡ (b == a)
      turned a b = grind (arith, nat_tests)

      by : (b : Bool) → one_if b ≤ cond b (one_if true) 0
      by true = omega arith
      by false = omega arith

  right_new : IsKnown → (block == 0) ≡ false → unit_of s.units block ≡ None → IsBlock s.held block space → AreRight now (with_change_joined s.units block p number change)
  right_new known some none is =
      let unit = with_first p number change in
      let new = put_in s.units block unit in
      subst (AreRight now) (sym (joined_new s.units block p number change none)) (right_now new known (rising_put_in s.units block unit known.right.rising none)
      (subst (λ (us : UnitMap). AreDisjoint us) (joined_new s.units block p number change none)
      (apart_more s.units (with_change_joined s.units block p number change) block (empty_unit p number) change (new_has s.units block p number change none) (ap changes_of none) known.free known.right.apart))
      (all_put_in (IsUnit now) s.units block unit (each_now known) (unit_new known some none is) none)
      (λ i. omega (arith, count_put_in (unit_goes_to now i) s.units block unit none, open_now known i, one_more i (journal_for_block now block) (unit_leads known is) some none)))

  -- ---- all together

  pub right_logged : IsKnown → AreRight now (units_after s.units p block number change)
  right_logged known = by (block == 0) refl
    where
      with_block : (r : Option CommitUnit) → unit_of s.units block ≡ r → (block == 0) ≡ false → AreRight now (with_change_joined s.units block p number change)
      with_block None found some = right_new known some found (known.ruled some)
      with_block (Some unit) found some = right_more unit known (known.ruled some) found

      by : (b : Bool) → (block == 0) ≡ b → AreRight now (cond b s.units (with_change_joined s.units block p number change))
      by true none = right_alone known
      by false some = with_block (unit_of s.units block) refl some
