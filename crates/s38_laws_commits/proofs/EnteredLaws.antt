-- Where INSDSEN, UPDSEN and DELDSEN change an entry: what the journal space tells then, and what is kept.
use Rattle.std.proofs.Common.{◌≡◌, ◌∙◌, ℕ, ◌+◌, ◌==◌, Bool, true, false, cond, [], ◌∷◌, ◌++◌, length, refl, sym, ap, subst, arith, inl}
use Rattle.std.proofs.lemmas.Bool.Decides.{nat_tests}
use Rattle.std.proofs.lemmas.Bool.{and_parts}
use Rattle.std.specs.Option.{option_map, unwrap_or}
use Rattle.std.specs.Prelude.{◌&&◌, None, Option, Some, is_some}
use Rattle.s38_commits.proofs.JoinLaws.{empty_unit}
use Rattle.s38_commits.proofs.MapLaws.{nat_itself, nat_same}
use Rattle.s38_commits.specs.Changes.{journal_bytes}
use Rattle.s38_commits.specs.Unit.{CommitUnit}
use Rattle.s38_commits.specs.Units.{UnitMap, changes_entry, changes_of, unit_of, with_change_joined}
use Rattle.s38_commits.specs.declared.change.UnitChange.{UnitChange}
use Rattle.s38_dataspaces.specs.Entries.{entry_at}
use Rattle.s38_dataspaces.specs.Table.{DataTable}
use Rattle.s38_durable_state.specs.Durable.{Durable}
use Rattle.s38_journals.specs.Entries.{JournalRecord}
use Rattle.s38_journals.specs.Journals.{JournalList, appended, can_write, journal_with_room}
use Rattle.s38_rules.specs.families.Changing.{bytes_or_none, change_entry, kind_between, next_sequence, number_for, unit_number_in, units_after, with_change_logged}
use Rattle.s38_rules.specs.state.Held.{Held, is_on_disk}
use Rattle.s38_rules.specs.state.Journaling.{block_port, data_port, journal_for, journal_for_block, journal_of_port, open_after}
use Rattle.s38_rules.specs.state.Parts.{data_part, journal_part, part_at}
use Rattle.s38_rules.specs.state.PartsAt.{journal_at, no_journal, on_journal, on_table, over_table, table_at, table_in}
use Rattle.s38_rules.specs.state.LawfulParts.{journal_lawful}
use Rattle.s38_rules.specs.state.State.{State}
use Rattle.s38_rules.specs.declared.data_body.DataBody.{DataBody}
use Rattle.s38_laws_units.specs.Right.{IsRight}
use Rattle.s38_laws_units.proofs.LoggingLaws.{journaled_there}
use Rattle.s38_laws_commits.proofs.CountLaws.{unit_commits, unit_entries}
use Rattle.s38_laws_units.proofs.EndLaws.{data_by_journal}
use Rattle.s38_laws_commits.proofs.EndedLaws.{entries_table, table_over}
use Rattle.s38_laws_units.proofs.EntryLaws.{MayEnter, entered_written}
use Rattle.s38_laws_units.proofs.HeldLaws.{part_over}
use Rattle.s38_laws_units.proofs.JoinLaws.{more_has, new_has}
use Rattle.s38_laws_commits.proofs.LinkLaws.{Keeps, journal_disk, keeps_block, keeps_for, keeps_journal, keeps_table, keeps_then, port_journal_there, table_disk}
use Rattle.s38_laws_commits.proofs.MoveLaws.{Fewer, IsWritten, kept_stays, told_stays}
use Rattle.s38_laws_commits.proofs.ToldLaws.{IsMade}
use Rattle.s38_laws_commits.proofs.WriteLaws.{IsLoggedBy, IsUnitOf, alone_kept, alone_told, joined_kept, joined_told}
use Rattle.s38_laws_commits.proofs.OwnedLaws.{low_number, no_unit, owned, some_number}
use Rattle.s38_laws_commits.specs.Counting.{has_unit}
use Rattle.s38_laws_commits.specs.Imaged.{AreImaged}
use Rattle.s38_laws_commits.specs.Ordinals.{change_redone_at}
use Rattle.s38_laws_commits.specs.Told.{AreTold, IsSmall, IsUntouched, entries_at}

-- an entry of a data space is another one, as a change says
pub record TellsEntry (s : State) (block : ℕ) (change : UnitChange) (t : DataTable → DataTable) : Type 0 where
  pub may : MayEnter s block change t
  pub small : IsSmall (table_at s.held change.space.0) → IsSmall (table_in (option_map (over_table t) (part_at data_part s.held change.space.0)))
  pub before : is_some (part_at data_part s.held change.space.0) ≡ true → entry_at (table_at s.held change.space.0).entries change.at ≡ change.before
  pub after : is_some (part_at data_part s.held change.space.0) ≡ true → entry_at (table_in (option_map (over_table t) (part_at data_part s.held change.space.0))).entries change.at ≡ change.after
  pub others : (i : ℕ) → (change.at == i) ≡ false → entry_at (table_in (option_map (over_table t) (part_at data_part s.held change.space.0))).entries i ≡ entry_at (table_at s.held change.space.0).entries i
  pub redone : is_some (part_at data_part s.held change.space.0) ≡ true
      → change_redone_at (kind_between change.before change.after) (table_at s.held change.space.0).fields change.at (bytes_or_none change.after) change.before ≡ change.after

-- ---- a data space that is not journaled

module _ (s : State) (block : ℕ) (change : UnitChange) (t : DataTable → DataTable) (right : IsRight s) (tells : TellsEntry s block change t) (none : journal_for s.held change.space.0 ≡ None) where
  abbrev space : ℕ
  space = change.space.0

  abbrev alone : Held
  alone = on_table s.held space t

  pub other_table : (m : ℕ) → (space == m) ≡ false → table_at alone m ≡ table_at s.held m
  other_table m off = table_over s.held space m t ∙ ap (λ b. cond b (table_in (option_map (over_table t) (part_at data_part s.held m))) (table_at s.held m)) off

  keeps : Keeps s.held alone
  keeps = keeps_table s.held space t

  journaled_off : (m journal : ℕ) → journal_for s.held m ≡ Some journal → (space == m) ≡ false
  journaled_off m journal to = by (space == m) refl
    where
      by : (b : Bool) → (space == m) ≡ b → b ≡ false
      by false is = refl
      by true is = absurd (let e : None ≡ Some journal = sym none ∙ ap (journal_for s.held) (nat_same space m is) ∙ to in cc)

  pub free_told : AreTold s.held s.units → AreTold alone s.units
  free_told told = told_stays s.held alone s.units (record {
    entries = λ journal. inl (entries_table s.held space journal t);
    leads = λ b journal unit found to. sym (keeps_block s.held alone keeps b) ∙ to;
    same = λ b journal unit found to. entries_table s.held space journal t;
    tables = λ b n at unit found has. other_table n (unit_off n (journal_for s.held n) refl (owned s.held s.units b n at unit right found has).journaled);
    small = λ n small. subst (λ (x : DataTable). IsSmall x) (sym (table_over s.held space n t)) (small_by n (space == n) refl small);
  }) told
    where
      unit_off : (n : ℕ) (r : Option ℕ) → journal_for s.held n ≡ r → is_some r ≡ true → (space == n) ≡ false
      unit_off n None is some = absurd (let e : false ≡ true = some in cc)
      unit_off n (Some journal) is some = journaled_off n journal is

      small_by : (n : ℕ) (b : Bool) → (space == n) ≡ b → IsSmall (table_at s.held n) → IsSmall (cond b (table_in (option_map (over_table t) (part_at data_part s.held n))) (table_at s.held n))
      small_by n true is small = subst (λ (m : ℕ). IsSmall (table_at s.held m) → IsSmall (table_in (option_map (over_table t) (part_at data_part s.held m)))) (nat_same space n is) tells.small small
      small_by n false off small = small

  pub free_kept : (d : Durable) (anew : ℕ → Bool) → Fewer anew s.held alone → AreImaged s.held s.units d anew → AreImaged alone s.units d anew
  free_kept d anew fewer are = kept_stays s.held alone s.units d anew (record {
    fewer = fewer;
    port = λ n p is on. sym (keeps.port n) ∙ is;
    journal = λ n is on. sym (keeps.journal n) ∙ is;
    entries = λ n is on. entries_table s.held space n t;
    leads = λ n journal old to. sym (keeps_for s.held alone keeps n) ∙ to;
    same = λ n journal old to. entries_table s.held space journal t;
    table = λ n journal old to. other_table n (journaled_off n journal (sym (keeps_for s.held alone keeps n) ∙ to));
    to = λ n journal old to. keeps.to n;
  }) are

-- ---- a data space that is journaled

module _ (s : State) (p block journal : ℕ) (change : UnitChange) (t : DataTable → DataTable) (right : IsRight s) (told : AreTold s.held s.units) (tells : TellsEntry s block change t)
    (to : journal_for s.held change.space.0 ≡ Some journal) where
  abbrev h : Held
  h = s.held

  abbrev at_space : ℕ
  at_space = change.space.0

  abbrev number : ℕ
  number = number_for s.units block (next_sequence (journal_at s.held journal))

  abbrev entry : JournalRecord
  entry = change_entry number p change

  abbrev logs : JournalList → JournalList
  logs = with_change_logged (journal_bytes change) (open_after s.held s.units journal block) entry

  abbrev k : Held
  k = on_table (on_journal s.held journal logs) change.space.0 t

  there : is_some (part_at data_part h at_space) ≡ true
  there = journaled_there h at_space journal right.unused to

  entry_written : IsWritten h k journal entry
  entry_written = record {
    keeps = keeps_then h (on_journal h journal logs) k (keeps_journal h journal logs) (keeps_table (on_journal h journal logs) at_space t);
    here = part journal ∙ ap (λ b. (unwrap_or (cond b (option_map logs (part_at journal_part h journal)) (part_at journal_part h journal)) no_journal).entries) (nat_itself journal)
        ∙ own (part_at journal_part h journal) (port_journal_there h (data_port h at_space) journal to) (entered_written s p block journal change t right tells.may to);
    others = λ n off. part n ∙ ap (λ b. (unwrap_or (cond b (option_map logs (part_at journal_part h n)) (part_at journal_part h n)) no_journal).entries) off;
  }
    where
      part : (n : ℕ) → entries_at k n ≡ (unwrap_or (cond (journal == n) (option_map logs (part_at journal_part h n)) (part_at journal_part h n)) no_journal).entries
      part n = entries_table (on_journal h journal logs) at_space n t ∙ ap (λ (r : Option JournalList). (unwrap_or r no_journal).entries) (part_over journal_part journal_lawful h journal n logs)

      own : (r : Option JournalList) → is_some r ≡ true → can_write (journal_with_room (unwrap_or r no_journal) (journal_bytes change) (open_after s.held s.units journal block)) entry ≡ true
          → (unwrap_or (option_map logs r) no_journal).entries ≡ (unwrap_or r no_journal).entries ++ entry ∷ []
      own None some can = absurd (let x : false ≡ true = some in cc)
      own (Some j) some can =
          ap (λ (b : Bool). (cond b (appended (journal_with_room j (journal_bytes change) (open_after s.held s.units journal block)) entry) (journal_with_room j (journal_bytes change) (open_after s.held s.units journal block))).entries) can

  tables : (m : ℕ) → table_at k m ≡ cond (at_space == m) (table_in (option_map (over_table t) (part_at data_part h m))) (table_at h m)
  tables m =
      table_over (on_journal h journal logs) at_space m t
      ∙ ap (λ (x : Option DataBody). cond (at_space == m) (table_in (option_map (over_table t) x)) (table_in x)) (data_by_journal h journal m logs)

  table_here : table_at k at_space ≡ table_in (option_map (over_table t) (part_at data_part h at_space))
  table_here = tables at_space ∙ ap (λ b. cond b (table_in (option_map (over_table t) (part_at data_part h at_space))) (table_at h at_space)) (nat_itself at_space)

  pub entry_made : IsMade (table_at h) (table_at k) change
  entry_made = record {
    fields = λ m. ap (λ (x : DataTable). x.fields) (tables m) ∙ fields (at_space == m) (part_at data_part h m);
    others = λ m i off. ap (λ (x : DataTable). entry_at x.entries i) (tables m) ∙ others m i (at_space == m) refl off;
    before = tells.before there;
    after = ap (λ (x : DataTable). entry_at x.entries change.at) table_here ∙ tells.after there;
    redone = tells.redone there;
  }
    where
      fields : (b : Bool) (x : Option DataBody) → (cond b (table_in (option_map (over_table t) x)) (table_in x)).fields ≡ (table_in x).fields
      fields true None = refl
      fields true (Some d) = (tells.may.later d).fields
      fields false x = refl

      others : (m i : ℕ) (b : Bool) → (at_space == m) ≡ b → (b && (change.at == i)) ≡ false
          → entry_at (cond b (table_in (option_map (over_table t) (part_at data_part h m))) (table_at h m)).entries i ≡ entry_at (table_at h m).entries i
      others m i true is off = subst (λ (n : ℕ). entry_at (table_in (option_map (over_table t) (part_at data_part h n))).entries i ≡ entry_at (table_at h n).entries i) (nat_same at_space m is) (tells.others i off)
      others m i false is off = refl

  small_now : (m : ℕ) → IsSmall (table_at k m)
  small_now m = subst (λ (x : DataTable). IsSmall x) (sym (tables m)) (by (at_space == m) refl)
    where
      by : (b : Bool) → (at_space == m) ≡ b → IsSmall (cond b (table_in (option_map (over_table t) (part_at data_part h m))) (table_at h m))
      by true is = subst (λ (n : ℕ). IsSmall (table_in (option_map (over_table t) (part_at data_part h n)))) (nat_same at_space m is) (tells.small (told.small at_space))
      by false off = told.small m

  logged : (n : ℕ) → number ≡ n → IsLoggedBy h k s.units journal change (change_entry n p change)
  logged n is = record {
    right = right;
    to = to;
    written = subst (λ (m : ℕ). IsWritten h k journal (change_entry m p change)) is entry_written;
    made = entry_made;
    small = small_now;
  }

  -- ---- without a commit block

  settled : (block == 0) ≡ true → IsUntouched s.units at_space change.at
  settled zero_is other = by (changes_entry (unit_of s.units other) at_space change.at) refl
    where
      none_zero : (r : Option CommitUnit) → unit_of s.units 0 ≡ r → changes_entry r at_space change.at ≡ true → ⊥
      none_zero None found has = let e : false ≡ true = has in cc
      none_zero (Some unit) found has = no_unit h s.units unit right found

      by : (b : Bool) → changes_entry (unit_of s.units other) at_space change.at ≡ b → b ≡ false
      by false is = refl
      by true is =
          let same : other ≡ 0 = tells.may.free other is ∙ nat_same block 0 zero_is in
          absurd (none_zero (unit_of s.units 0) refl (ap (λ (m : ℕ). changes_entry (unit_of s.units m) at_space change.at) (sym same) ∙ is))

  -- ---- with one

  block_leads : (block == 0) ≡ false → journal_for_block h block ≡ Some journal
  block_leads some =
      let ruled = tells.may.ruled some in
      let both = and_parts (data_port h at_space == block_port h block) (is_some (journal_for h at_space)) ruled.journaled in
      ap (journal_of_port h) (sym (nat_same (data_port h at_space) (block_port h block) both.0)) ∙ to

  number_is : (block == 0) ≡ false → number ≡ unit_number_in (unit_of s.units block) (next_sequence (journal_at h journal))
  number_is some = ap (λ b. cond b 0 (unit_number_in (unit_of s.units block) (next_sequence (journal_at h journal)))) some

  number_new : (block == 0) ≡ false → unit_of s.units block ≡ None → number ≡ length (entries_at h journal) + 1
  number_new some found = number_is some ∙ ap (λ r. unit_number_in r (next_sequence (journal_at h journal))) found

  of_new : (some : (block == 0) ≡ false) → unit_of s.units block ≡ None → IsUnitOf h s.units (with_change_joined s.units block p number change) block journal (empty_unit p number) change
  of_new some found = record {
    joined = record {
      has = new_has s.units block p number change found;
      changes = ap changes_of found;
      old = λ n at c first. cc;
      free = tells.may.free;
      some = more;
    };
    leads = block_leads some;
    told = record {
      uncommitted = unit_commits number (entries_at h journal) fresh;
      changed = λ n at off. unit_entries number n at (entries_at h journal) fresh;
      now = λ n at c first. cc;
    };
    low = omega (arith, is);
    apart = λ other v other_found leads same. absurd (let low = low_number h s.units other journal v right other_found leads in omega (arith, is, same, low));
  }
    where
      is : number ≡ length (entries_at h journal) + 1
      is = number_new some found

      more : (number == 0) ≡ false
      more = grind (arith, nat_tests, is)

      fresh : has_unit number (entries_at h journal) ≡ false
      fresh = told.fresh journal number (omega (arith, is))

  of_old : (some : (block == 0) ≡ false) (unit : CommitUnit) → unit_of s.units block ≡ Some unit → IsUnitOf h s.units (with_change_joined s.units block p number change) block journal unit change
  of_old some unit found = record {
    joined = record {
      has = more_has s.units block p number change unit found;
      changes = ap changes_of found;
      old = λ n at c first. found;
      free = tells.may.free;
      some = some_number h s.units block unit right found;
    };
    leads = block_leads some;
    told = told.each block journal unit found (block_leads some);
    low = let low = low_number h s.units block journal unit right found (block_leads some) in omega (arith, low);
    apart = λ other v other_found leads same. told.differ other block journal v unit other_found found leads (block_leads some) same;
  }

  abbrev behind : UnitMap
  behind = units_after s.units p block number change

  pub entered_told : AreTold k behind
  entered_told = by (block == 0) refl
    where
      with_block : (some : (block == 0) ≡ false) (r : Option CommitUnit) → unit_of s.units block ≡ r → AreTold k (with_change_joined s.units block p number change)
      with_block some None found = joined_told h k s.units (with_change_joined s.units block p number change) block journal p (empty_unit p number) change (logged number refl) (of_new some found) told
      with_block some (Some unit) found =
          joined_told h k s.units (with_change_joined s.units block p number change) block journal p unit change
          (logged unit.number (number_is some ∙ ap (λ r. unit_number_in r (next_sequence (journal_at h journal))) found)) (of_old some unit found) told

      by : (b : Bool) → (block == 0) ≡ b → AreTold k (cond b s.units (with_change_joined s.units block p number change))
      by true is = alone_told h k s.units journal p change (logged 0 (ap (λ b. cond b 0 (unit_number_in (unit_of s.units block) (next_sequence (journal_at h journal)))) is)) (settled is) told
      by false some = with_block some (unit_of s.units block) refl

  pub entered_kept : (d : Durable) (anew : ℕ → Bool) → Fewer anew h k → AreImaged h s.units d anew → AreImaged k behind d anew
  entered_kept d anew fewer are = by (block == 0) refl
    where
      with_block : (some : (block == 0) ≡ false) (r : Option CommitUnit) → unit_of s.units block ≡ r → AreImaged k (with_change_joined s.units block p number change) d anew
      with_block some None found = joined_kept h k s.units (with_change_joined s.units block p number change) block journal p (empty_unit p number) change (logged number refl) (of_new some found) d anew fewer are
      with_block some (Some unit) found =
          joined_kept h k s.units (with_change_joined s.units block p number change) block journal p unit change
          (logged unit.number (number_is some ∙ ap (λ r. unit_number_in r (next_sequence (journal_at h journal))) found)) (of_old some unit found) d anew fewer are

      by : (b : Bool) → (block == 0) ≡ b → AreImaged k (cond b s.units (with_change_joined s.units block p number change)) d anew
      by true is = alone_kept h k s.units journal p change (logged 0 (ap (λ b. cond b 0 (unit_number_in (unit_of s.units block) (next_sequence (journal_at h journal)))) is)) (settled is) d anew fewer are
      by false some = with_block some (unit_of s.units block) refl

  pub entered_keeps : Keeps h k
  entered_keeps = entry_written.keeps

  pub entered_disk : (m : ℕ) → is_on_disk k m ≡ is_on_disk h m
  entered_disk m = table_disk (on_journal h journal logs) at_space m t ∙ journal_disk h journal m logs
