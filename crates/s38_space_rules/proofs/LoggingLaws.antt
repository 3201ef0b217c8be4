-- The journal space of a data space after a change of an entry.
use Rattle.std.proofs.Common.{◌≡◌, ℕ, ◌+◌, ◌*◌, ◌==◌, Bool, true, false, cond, List, [], ◌∷◌, length, refl, sym, ◌∙◌, ap, subst, arith}
use Rattle.std.proofs.lemmas.Bool.Decides.{nat_tests}
use Rattle.std.proofs.lemmas.List.Sums.{sum_by-append, sum_by-cons}
use Rattle.std.specs.Prelude.{◌&&◌, Option, Some, None, is_some, max, nat_le, nat_lt}
use Rattle.std.specs.Option.{option_map, unwrap_or}
use Rattle.s38_commits.specs.declared.change.UnitChange.{UnitChange}
use Rattle.s38_commits.specs.Changes.{entry_size, journal_bytes}
use Rattle.s38_dataspaces.specs.Table.{DataTable}
use Rattle.s38_journals.specs.Entries.{JournalRecord, is_end, journal_entry_len, may_be_at}
use Rattle.s38_journals.specs.Journals.{JournalList, appended, can_write, entries_len, journal_with_room}
use Rattle.s38_rules.proofs.ChargeLaws.{object_changed}
use Rattle.s38_rules.proofs.PartLaws.{part_apart}
use Rattle.s38_rules.specs.declared.object.Body.{Body}
use Rattle.s38_rules.specs.declared.object.Body.TheVariants as bodies
use Rattle.s38_rules.specs.declared.object.Object.{Object}
use Rattle.s38_rules.specs.declared.port.Port.{Port}
use Rattle.s38_rules.specs.families.Changes.{Entered, done}
use Rattle.s38_rules.specs.families.Changing.{bytes_or_none, change_entry, kind_between, logged, next_sequence, number_for, with_change_logged}
use Rattle.s38_rules.specs.store.Forcing.{Whole, forced_by, most_unforced, overdue}
use Rattle.s38_rules.specs.state.Held.{Held, object}
use Rattle.s38_rules.specs.state.Journaling.{block_port, data_port, is_journal, journal_for, journal_for_block, journal_named, open_after}
use Rattle.s38_rules.specs.state.Parts.{Part, data_part, journal_of, journal_part, over, over_body, over_object, over_part, part_at, part_in, port_part}
use Rattle.s38_rules.specs.state.PartsAt.{journal_at, no_journal, on_journal, on_table, over_table}
use Rattle.s38_rules.specs.state.LawfulParts.{IsPart, journal_lawful}
use Rattle.s38_rules.specs.state.State.{State}
use Rattle.s38_space_rules.specs.Logging.{change_forces, change_growth, logged_bytes, may_log}

itself : (n : ℕ) → (n == n) ≡ true
itself n = grind (arith, nat_tests)

-- ---- what an object holds, once it is changed

pub part_changed : {T : Type 0} (p : Part T) → IsPart T p → (h : Held) (n : ℕ) (f : T → T) (x : T) → part_at p h n ≡ Some x → part_at p (over_part p h n f) n ≡ Some (f x)
part_changed p lawful h n f x there = ap (part_in p) (object_changed n n (over_object p f) h.objects (λ o. refl)) ∙ rw (itself n) (by (object h n) there)
  where
    by : (o : Option Object) → part_in p o ≡ Some x → part_in p (option_map (over_object p f) o) ≡ Some (f x)
    by None e = cc
    by (Some o) e = ap (λ (r : Option _). p.of (over p f o.body r)) e ∙ lawful.got (f x)

-- ---- the journal space of a data space

some_number : (a b : ℕ) → Some a ≡ Some b → a ≡ b
some_number a b h = cc

named_there : (h : Held) (port : Option Port) (j : ℕ) → journal_named h port ≡ Some j → is_journal h j ≡ true
named_there h None j e = cc
named_there h (Some port) j e = by (is_journal h port.journal.0) refl e
  where
    by : (b : Bool) → is_journal h port.journal.0 ≡ b → cond b (Some port.journal.0) None ≡ Some j → is_journal h j ≡ true
    by true is e = subst (λ (n : ℕ). is_journal h n ≡ true) (some_number port.journal.0 j e) is
    by false is e = cc

-- it is there
pub journal_there : (h : Held) (space j : ℕ) → journal_for h space ≡ Some j → part_at journal_part h j ≡ Some (journal_at h j)
journal_there h space j e = by (part_at journal_part h j) (named_there h (part_at port_part h (data_port h space)) j e)
  where
    by : (x : Option JournalList) → is_some x ≡ true → x ≡ Some (unwrap_or x no_journal)
    by None is = cc
    by (Some x) is = refl

-- so is that of a commit block
pub block_journal_there : (h : Held) (block j : ℕ) → journal_for_block h block ≡ Some j → part_at journal_part h j ≡ Some (journal_at h j)
block_journal_there h block j e = by (part_at journal_part h j) (named_there h (part_at port_part h (block_port h block)) j e)
  where
    by : (x : Option JournalList) → is_some x ≡ true → x ≡ Some (unwrap_or x no_journal)
    by None is = cc
    by (Some x) is = refl

no_table_there : (f : DataTable → DataTable) (b : Body) → journal_of (over_body data_part (over_table f) b) ≡ journal_of b
no_table_there f (bodies.DataSpace d) = refl
no_table_there f _ = refl

read_part : (x y : Option JournalList) (j : JournalList) → x ≡ y → y ≡ Some j → unwrap_or x no_journal ≡ j
read_part x y j e f = rw (e, f) refl

-- after a change its entry is there
logged_journal : (s : State) (p block : ℕ) (change : UnitChange) (f : DataTable → DataTable) (j : ℕ) → journal_for s.held change.space.0 ≡ Some j
    → journal_at (done s p (Entered block change f)).held j
    ≡ with_change_logged (journal_bytes change) (open_after s.held s.units j block) (change_entry (number_for s.units block (next_sequence (journal_at s.held j))) p change) (journal_at s.held j)
unfolding logged
logged_journal s p block change f j e =
    let entry = change_entry (number_for s.units block (next_sequence (journal_at s.held j))) p change in
    let grown = with_change_logged (journal_bytes change) (open_after s.held s.units j block) entry in
    let stands : part_at journal_part (on_journal s.held j grown) j ≡ Some (grown (journal_at s.held j)) = part_changed journal_part journal_lawful s.held j grown (journal_at s.held j) (journal_there s.held change.space.0 j e) in
    rw e (read_part (part_at journal_part (on_table (on_journal s.held j grown) change.space.0 f) j) (part_at journal_part (on_journal s.held j grown) j) (grown (journal_at s.held j))
    (part_apart journal_part data_part (over_table f) (no_table_there f) (on_journal s.held j grown) change.space.0 j) stands)

-- ---- by how much it grows

data_len : (bytes : Option (List ℕ)) → length (bytes_or_none bytes) ≡ entry_size bytes
data_len None = refl
data_len (Some bytes) = refl

entry_same : (number p : ℕ) (change : UnitChange) → journal_entry_len (change_entry number p change) ≡ journal_bytes change
entry_same number p change = rw (data_len change.before, data_len change.after) refl

no_end : (before after : Option (List ℕ)) → is_end (kind_between before after) ≡ false
no_end None after = refl
no_end (Some bytes) None = refl
no_end (Some bytes) (Some others) = refl

both_true : (a b : Bool) → ((a && true) && b) ≡ (a && b)
both_true true b = refl
both_true false b = refl

may_same : (sequence number p : ℕ) (change : UnitChange) → may_be_at sequence (change_entry number p change) ≡ may_log number sequence (entry_size change.before) (entry_size change.after)
may_same sequence number p change =
    rw (no_end change.before change.after, data_len change.before, data_len change.after)
    (both_true (nat_le number sequence) (nat_le (entry_size change.before) 65535 && nat_le (entry_size change.after) 65535))

room_left : (bytes units spare : ℕ) → nat_le bytes (max spare (bytes + 41 * units)) ≡ true
room_left bytes units spare = grind (arith, nat_tests)

and_true : (a b : Bool) → b ≡ true → (a && b) ≡ a
and_true true b h = h
and_true false b h = refl

can_same : (j : JournalList) (number p units : ℕ) (change : UnitChange)
    → can_write (journal_with_room j (journal_bytes change) units) (change_entry number p change) ≡ may_log number (next_sequence j) (entry_size change.before) (entry_size change.after)
can_same j number p units change =
    and_true (may_be_at (next_sequence j) (change_entry number p change)) _ (rw (entry_same number p change) (room_left (journal_bytes change) units j.spare))
    ∙ may_same (next_sequence j) number p change

-- how many of its bytes are unforced then
unforced_grown : (j : JournalList) (number p units : ℕ) (change : UnitChange)
    → (with_change_logged (journal_bytes change) units (change_entry number p change) j).unforced ≡ j.unforced + logged_bytes number (next_sequence j) (entry_size change.before) (entry_size change.after)
unforced_grown j number p units change = rw (can_same j number p units change) (by (may_log number (next_sequence j) (entry_size change.before) (entry_size change.after)))
  where
    by : (b : Bool) → (cond b (appended (journal_with_room j (journal_bytes change) units) (change_entry number p change)) (journal_with_room j (journal_bytes change) units)).unforced ≡ j.unforced + cond b (journal_bytes change) 0
    by true = ap (λ (n : ℕ). j.unforced + n) (entry_same number p change)
    by false = omega arith

pub unforced_after : (s : State) (p block : ℕ) (change : UnitChange) (f : DataTable → DataTable) (j : ℕ) → journal_for s.held change.space.0 ≡ Some j
    → (journal_at (done s p (Entered block change f)).held j).unforced ≡ (journal_at s.held j).unforced + change_growth s block j (entry_size change.before) (entry_size change.after)
unforced_after s p block change f j e =
    ap (λ (x : JournalList). x.unforced) (logged_journal s p block change f j e)
    ∙ unforced_grown (journal_at s.held j) (number_for s.units block (next_sequence (journal_at s.held j))) p (open_after s.held s.units j block) change

-- and how long it is
pub length_grown : (j : JournalList) (number p units : ℕ) (change : UnitChange)
    → entries_len (with_change_logged (journal_bytes change) units (change_entry number p change) j).entries ≡ entries_len j.entries + logged_bytes number (next_sequence j) (entry_size change.before) (entry_size change.after)
length_grown j number p units change = rw (can_same j number p units change) (by (may_log number (next_sequence j) (entry_size change.before) (entry_size change.after)))
  where
    entry : JournalRecord
    entry = change_entry number p change

    one : entries_len (entry ∷ []) ≡ journal_bytes change
    one = sum_by-cons journal_entry_len entry [] ∙ omega (arith, entry_same number p change)

    by : (b : Bool) → entries_len (cond b (appended (journal_with_room j (journal_bytes change) units) entry) (journal_with_room j (journal_bytes change) units)).entries ≡ entries_len j.entries + cond b (journal_bytes change) 0
    by true = sum_by-append journal_entry_len j.entries (entry ∷ []) ∙ ap (λ (n : ℕ). entries_len j.entries + n) one
    by false = omega arith

-- ---- what a change forces

pub change_forced : (s : State) (p block : ℕ) (change : UnitChange) (f : DataTable → DataTable) (before after : ℕ) → entry_size change.before ≡ before → entry_size change.after ≡ after
    → forced_by s p (Entered block change f) ≡ change_forces s block before after (journal_for s.held change.space.0)
change_forced s p block change f before after was is = rw (sym was, sym is) (by (journal_for s.held change.space.0) refl)
  where
    by : (x : Option ℕ) → journal_for s.held change.space.0 ≡ x → overdue (done s p (Entered block change f)).held x ≡ change_forces s block (entry_size change.before) (entry_size change.after) x
    by None e = refl
    by (Some j) e = ap (λ (n : ℕ). cond (nat_lt most_unforced n) (Whole j ∷ []) []) (unforced_after s p block change f j e)
