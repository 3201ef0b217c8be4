-- Room that is taken in a data space is nothing to the journals, and an entry that takes it is there as if it had taken
-- none; room that is given back was never taken.
use Rattle.std.proofs.Common.{◌≡◌, ℕ, ◌+◌, ◌<◌, ◌==◌, Bool, true, false, cond, List, [], ◌∷◌, ap, arith, length, refl, subst, sym, ◌∙◌}
use Rattle.std.proofs.lemmas.Bool.Decides.{nat_tests}
use Rattle.std.proofs.lemmas.Option.{same_Some}
use Rattle.std.specs.Prelude.{◌||◌, Err, IfSome, Ok, OnErr, OnOk, Option, Result, Some, None, filter, is_some}
use Rattle.std.specs.Option.{option_map, unwrap_or}
use Rattle.s38_base.specs.declared.fault.NoMemory.{NoMemory}
use Rattle.s38_commits.specs.declared.change.UnitChange.{UnitChange}
use Rattle.s38_commits.specs.Changes.{journal_bytes}
use Rattle.s38_commits.specs.Unit.{CommitUnit}
use Rattle.s38_commits.specs.Units.{UnitMap}
use Rattle.s38_cursors.specs.Insertion.{given_back, insertion_logged, logged_by, needs_room, roomless, roomy, with_room}
use Rattle.s38_dataspaces.specs.Refusals.{insert_refusal}
use Rattle.s38_dataspaces.specs.Table.{DataTable, inserted}
use Rattle.s38_dataspaces.specs.Values.{have_values}
use Rattle.s38_journals.specs.Journals.{JournalList, room_refusal}
use Rattle.s38_rules.specs.declared.block.Block.{Block}
use Rattle.s38_rules.specs.declared.data_body.DataBody.{DataBody}
use Rattle.s38_rules.specs.declared.object.Body.{Body}
use Rattle.s38_rules.specs.declared.object.Body.TheVariants as bodies
use Rattle.s38_rules.specs.declared.object.Object.{Object}
use Rattle.s38_rules.specs.declared.port.Port.{Port}
use Rattle.s38_rules.specs.families.Changing.{are_units_full, change_entry, is_journal_full, is_unit_full, journal_rule, logged, logged_in, next_sequence, number_for, units_after, with_change_logged}
use Rattle.s38_rules.specs.families.EntryChanges.{with_inserted}
use Rattle.s38_rules.specs.state.Held.{Held, object}
use Rattle.s38_rules.specs.state.Journaling.{begins_unit, block_port_in, data_port, is_journal, is_that_number, journal_for, journal_for_block, journal_named, journal_of_port, open_after, open_units, unit_goes_to}
use Rattle.s38_rules.specs.state.Kept.{Mirrors}
use Rattle.s38_rules.specs.state.State.{State}
use Rattle.s38_profiles.specs.ProfileMaps.{ProfileMaps}
use Rattle.s38_units.proofs.KeptLaws.{journal_kept}
use Rattle.s38_cursors.proofs.CursorLaws.{table_kept}
use Rattle.s38_rules.specs.state.Parts.{block_part, data_part, journal_part, over_body, over_object, part_at, part_in, port_part}
use Rattle.s38_rules.specs.state.PartsAt.{journal_at, no_journal, on_data, on_journal, on_table, over_table, table_at, table_in}
use Rattle.s38_rules.specs.state.LawfulParts.{data_lawful}
use Rattle.s38_rules.proofs.ChargeLaws.{object_changed}
use Rattle.s38_rules.proofs.RuleLaws.{fails_none}
use Rattle.s38_rules.proofs.PartLaws.{part_apart, part_left, part_twice, parts_commute}

-- ---- what a data space holds is nothing to ports, journal spaces and commit blocks

no_journal_there : (f : DataBody → DataBody) (b : Body) → journal_part.of (over_body data_part f b) ≡ journal_part.of b
no_journal_there f (bodies.DataSpace d) = refl
no_journal_there f _ = refl

no_port_there : (f : DataBody → DataBody) (b : Body) → port_part.of (over_body data_part f b) ≡ port_part.of b
no_port_there f (bodies.DataSpace d) = refl
no_port_there f _ = refl

no_block_there : (f : DataBody → DataBody) (b : Body) → block_part.of (over_body data_part f b) ≡ block_part.of b
no_block_there f (bodies.DataSpace d) = refl
no_block_there f _ = refl

pub journal_same : (f : DataBody → DataBody) (h : Held) (n m : ℕ) → part_at journal_part (on_data h n f) m ≡ part_at journal_part h m
journal_same f h n m = part_apart journal_part data_part f (no_journal_there f) h n m

port_same : (f : DataBody → DataBody) (h : Held) (n m : ℕ) → part_at port_part (on_data h n f) m ≡ part_at port_part h m
port_same f h n m = part_apart port_part data_part f (no_port_there f) h n m

block_same : (f : DataBody → DataBody) (h : Held) (n m : ℕ) → part_at block_part (on_data h n f) m ≡ part_at block_part h m
block_same f h n m = part_apart block_part data_part f (no_block_there f) h n m

named_same : (f : DataBody → DataBody) (h : Held) (n : ℕ) (port : Option Port) → journal_named (on_data h n f) port ≡ journal_named h port
named_same f h n None = refl
named_same f h n (Some port) = rw (journal_same f h n port.journal.0) refl

behind_same : (f : DataBody → DataBody) (h : Held) (n port : ℕ) → journal_of_port (on_data h n f) port ≡ journal_of_port h port
behind_same f h n port = ap (journal_named (on_data h n f)) (port_same f h n port) ∙ named_same f h n (part_at port_part h port)

for_block_same : (f : DataBody → DataBody) (h : Held) (n block : ℕ) → journal_for_block (on_data h n f) block ≡ journal_for_block h block
for_block_same f h n block =
    ap (λ (b : Option Block). journal_of_port (on_data h n f) (block_port_in b)) (block_same f h n block) ∙ behind_same f h n (block_port_in (part_at block_part h block))

goes_same : (f : DataBody → DataBody) (h : Held) (n journal : ℕ) (e : ℕ × CommitUnit) → unit_goes_to (on_data h n f) journal e ≡ unit_goes_to h journal e
goes_same f h n journal e = ap (is_that_number journal) (for_block_same f h n e.0)

filter_same : (p q : (ℕ × CommitUnit) → Bool) → ((e : ℕ × CommitUnit) → p e ≡ q e) → (units : UnitMap) → filter p units ≡ filter q units
filter_same p q same [] = refl
filter_same p q same (e ∷ units) = rw (same e, filter_same p q same units) refl

pub open_same : (f : DataBody → DataBody) (h : Held) (n : ℕ) (units : UnitMap) (journal block : ℕ) → open_after (on_data h n f) units journal block ≡ open_after h units journal block
open_same f h n units journal block =
    ap (λ (us : UnitMap). length us + cond (begins_unit units block) 1 0) (filter_same (unit_goes_to (on_data h n f) journal) (unit_goes_to h journal) (goes_same f h n journal) units)

there_same : (f : DataBody → DataBody) (h : Held) (n journal : ℕ) → is_journal (on_data h n f) journal ≡ is_journal h journal
there_same f h n journal = ap (λ (o : Option JournalList). is_some o) (journal_same f h n journal)

at_same : (f : DataBody → DataBody) (h : Held) (n journal : ℕ) → journal_at (on_data h n f) journal ≡ journal_at h journal
at_same f h n journal = ap (λ (o : Option JournalList). unwrap_or o no_journal) (journal_same f h n journal)

-- a journal space is there where it was
pub there_with_room : (h k : Held) (n journal : ℕ) → k ≡ with_room h n → is_journal h journal ≡ true → is_journal k journal ≡ true
there_with_room h k n journal same there = ap (λ (x : Held). is_journal x journal) same ∙ there_same (over_table roomy) h n journal ∙ there

-- and has the room that it had
pub full_with_room : (h k : Held) (n : ℕ) (units : UnitMap) (journal block bytes : ℕ) → k ≡ with_room h n
    → is_journal_full h units journal block bytes ≡ false → is_journal_full k units journal block bytes ≡ false
full_with_room h k n units journal block bytes same free =
    ap (λ (x : Held). is_journal_full x units journal block bytes) same
    ∙ ap (λ (x : JournalList). is_some (room_refusal x bytes (open_after (with_room h n) units journal block))) (at_same (over_table roomy) h n journal)
    ∙ ap (λ (count : ℕ). is_some (room_refusal (journal_at h journal) bytes count)) (open_same (over_table roomy) h n units journal block)
    ∙ free

-- the number of a change is what it was
pub number_with_room : (h k : Held) (n : ℕ) (units : UnitMap) (journal block : ℕ) → k ≡ with_room h n
    → number_for units block (next_sequence (journal_at k journal)) ≡ number_for units block (next_sequence (journal_at h journal))
number_with_room h k n units journal block same =
    ap (λ (x : Held). number_for units block (next_sequence (journal_at x journal))) same
    ∙ ap (λ (x : JournalList). number_for units block (next_sequence x)) (at_same (over_table roomy) h n journal)

-- and so is what is logged of it
pub logged_with_room : (h k : Held) (n : ℕ) (units : UnitMap) (p block journal : ℕ) (change : UnitChange) → k ≡ with_room h n
    → logged_by k units p block journal change ≡ logged_by h units p block journal change
logged_with_room h k n units p block journal change same =
    ap (λ (count : ℕ). with_change_logged (journal_bytes change) count (change_entry (number_for units block (next_sequence (journal_at k journal))) p change))
    (ap (λ (x : Held). open_after x units journal block) same ∙ open_same (over_table roomy) h n units journal block)
    ∙ ap (λ (number : ℕ). with_change_logged (journal_bytes change) (open_after h units journal block) (change_entry number p change))
    (number_with_room h k n units journal block same)

-- ---- a data space that has room, after a journal was written

data_apart : (g : JournalList → JournalList) (b : Body) → data_part.of (over_body journal_part g b) ≡ data_part.of b
data_apart g (bodies.Journal j) = refl
data_apart g _ = refl

of_changed : (f : DataBody → DataBody) (b : Body) → data_part.of (over_body data_part f b) ≡ option_map f (data_part.of b)
of_changed f (bodies.DataSpace d) = refl
of_changed f _ = refl

nat_refl : (n : ℕ) → (n == n) ≡ true
nat_refl n = grind (arith, nat_tests)

data_changed : (f : DataBody → DataBody) (h : Held) (n : ℕ) → part_at data_part (on_data h n f) n ≡ option_map f (part_at data_part h n)
data_changed f h n =
    ap (part_in data_part) (object_changed n n (over_object data_part f) h.objects (λ o. refl))
    ∙ ap (λ (b : Bool). part_in data_part (cond b (option_map (over_object data_part f) (object h n)) (object h n))) (nat_refl n)
    ∙ by (object h n)
  where
    by : (x : Option Object) → part_in data_part (option_map (over_object data_part f) x) ≡ option_map f (part_in data_part x)
    by None = refl
    by (Some o) = of_changed f o.body

-- what holds of the data space with room
pub ready : (q : DataBody → Type 0) (h k : Held) (n journal : ℕ) (g : JournalList → JournalList) → k ≡ on_journal (with_room h n) journal g
    → ((d : DataBody) → part_at data_part h n ≡ Some d → q (over_table roomy d)) → IfSome (part_at data_part k n) q
ready q h k n journal g same holds =
    subst (λ (o : Option DataBody). IfSome o q)
    (sym (ap (λ (x : Held). part_at data_part x n) same ∙ part_apart data_part journal_part g (data_apart g) (with_room h n) journal n ∙ data_changed (over_table roomy) h n))
    (by (part_at data_part h n) refl)
  where
    by : (r : Option DataBody) → part_at data_part h n ≡ r → IfSome (option_map (over_table roomy) r) q
    by None there = tt
    by (Some d) there = holds d there

pub roomy_fits : (entry : List ℕ) (h : Held) (n : ℕ) → insert_refusal (table_at h n) entry ≡ None → (d : DataBody) → part_at data_part h n ≡ Some d → insert_refusal (roomy d.space) entry ≡ None
roomy_fits entry h n fits d there =
    by (d.space.spare == 0) ∙ ap (λ (o : Option DataBody). insert_refusal (table_in o) entry) (sym there) ∙ fits
  where
    by : (b : Bool) → insert_refusal (cond b (record (d.space) { spare = 1 }) d.space) entry ≡ insert_refusal d.space entry
    by true = refl
    by false = refl

pub roomy_values : (entry : List ℕ) (h : Held) (n : ℕ) → have_values (table_at h n).fields entry ≡ true → (d : DataBody) → part_at data_part h n ≡ Some d → have_values (roomy d.space).fields entry ≡ true
roomy_values entry h n values d there =
    by (d.space.spare == 0) ∙ ap (λ (o : Option DataBody). have_values (table_in o).fields entry) (sym there) ∙ values
  where
    by : (b : Bool) → have_values (cond b (record (d.space) { spare = 1 }) d.space).fields entry ≡ have_values d.space.fields entry
    by true = refl
    by false = refl

pub roomy_room : (d : DataBody) → 0 < (roomy d.space).spare
roomy_room d = by (d.space.spare == 0) refl
  where
    by : (b : Bool) → (d.space.spare == 0) ≡ b → 0 < (cond b (record (d.space) { spare = 1 }) d.space).spare
    by true e = omega arith
    by false e = grind (arith, nat_tests)

-- ---- an entry that takes the room

inserted_anyway : (entry : List ℕ) (d : DataBody) → over_table (with_inserted entry) (over_table roomy d) ≡ over_table (with_inserted entry) d
inserted_anyway entry d = by (d.space.spare == 0)
  where
    by : (b : Bool) → record d { space = inserted (cond b (record (d.space) { spare = 1 }) d.space) entry } ≡ over_table (with_inserted entry) d
    by true = refl
    by false = refl

journal_and_data : (f : DataBody → DataBody) (g : JournalList → JournalList) (b : Body) → over_body journal_part g (over_body data_part f b) ≡ over_body data_part f (over_body journal_part g b)
journal_and_data f g (bodies.DataSpace d) = refl
journal_and_data f g (bodies.Journal j) = refl
journal_and_data f g _ = refl

-- room is taken, the journal written, and the entry inserted
pub inserted_after : (entry : List ℕ) (g : JournalList → JournalList) (h : Held) (space journal : ℕ)
    → on_table (on_journal (with_room h space) journal g) space (with_inserted entry) ≡ on_table (on_journal h journal g) space (with_inserted entry)
inserted_after entry g h space journal =
    ap (λ (k : Held). on_table k space (with_inserted entry)) (parts_commute data_part journal_part (over_table roomy) g (journal_and_data (over_table roomy) g) h space journal)
    ∙ part_twice data_part data_lawful (over_table roomy) (over_table (with_inserted entry)) (over_table (with_inserted entry)) (inserted_anyway entry) (on_journal h journal g) space

-- ---- room that is given back

room_lost : (d : DataBody) → (d.space.spare == 0) ≡ true → over_table roomless (over_table roomy d) ≡ d
room_lost d none = rw none (ap (λ (n : ℕ). record d { space = record (d.space) { spare = n } }) (zero_is d.space.spare none))
  where
    zero_is : (n : ℕ) → (n == 0) ≡ true → 0 ≡ n
    zero_is n e = grind (arith, nat_tests)

room_kept : (d : DataBody) → (d.space.spare == 0) ≡ false → over_table roomy d ≡ d
room_kept d some = rw some refl

-- it is as if none had been taken
pub room_back : (h : Held) (space : ℕ) → given_back (with_room h space) space (needs_room (part_at data_part h space)) ≡ h
room_back h space = by (part_at data_part h space) refl
  where
    same : (x d : DataBody) → Some d ≡ Some x → d ≡ x
    same x d e = cc

    some_lost : (x d : DataBody) → Some d ≡ Some x → (d.space.spare == 0) ≡ true → over_table roomless (over_table roomy x) ≡ x
    some_lost x d e none = room_lost x (rw (← same x d e) none)

    some_kept : (x d : DataBody) → Some d ≡ Some x → (d.space.spare == 0) ≡ false → over_table roomy x ≡ x
    some_kept x d e some = room_kept x (rw (← same x d e) some)

    of_room : (d : DataBody) → part_at data_part h space ≡ Some d → (b : Bool) → (d.space.spare == 0) ≡ b → given_back (with_room h space) space b ≡ h
    of_room d there true none =
        part_twice data_part data_lawful (over_table roomy) (over_table roomless) (λ x. over_table roomless (over_table roomy x)) (λ x. refl) h space
        ∙ part_left data_part data_lawful (λ x. over_table roomless (over_table roomy x)) h space (Some d) there (λ x e. some_lost x d e none)
    of_room d there false some = part_left data_part data_lawful (over_table roomy) h space (Some d) there (λ x e. some_kept x d e some)

    by : (r : Option DataBody) → part_at data_part h space ≡ r → given_back (with_room h space) space (needs_room r) ≡ h
    by None there = part_left data_part data_lawful (over_table roomy) h space None there (λ x e. cc)
    by (Some d) there = of_room d there (d.space.spare == 0) refl

-- ---- in a world

-- what is kept of users is nothing to an entry that is inserted and logged, or refused for want of memory
pub inserted_left : (maps : ProfileMaps) (h new : Held) (journal : ℕ) (g : JournalList → JournalList) (space : ℕ) (entry : List ℕ) (r : Result (Unit {0}) NoMemory)
    → OnOk r (new ≡ on_table (on_journal h journal g) space (with_inserted entry)) → OnErr r (new ≡ h) → Mirrors maps h → Mirrors maps new
inserted_left maps h new journal g space entry (Ok x) ok err m =
    subst (λ (k : Held). Mirrors maps k) (sym ok) (table_kept maps (on_journal h journal g) space (with_inserted entry) (journal_kept maps h journal g m))
inserted_left maps h new journal g space entry (Err e) ok err m = subst (λ (k : Held). Mirrors maps k) (sym err) m

-- an entry that is inserted and logged, or refused for want of memory
pub insertion_ok : (s : State) (p block journal : ℕ) (change : UnitChange) (entry : List ℕ) (r : Result (Unit {0}) NoMemory) (h : Held) (units : UnitMap) → journal_for s.held change.space.0 ≡ Some journal
    → OnOk r (h ≡ on_table (on_journal s.held journal (logged_by s.held s.units p block journal change)) change.space.0 (with_inserted entry))
    → OnOk r (units ≡ units_after s.units p block (number_for s.units block (next_sequence (journal_at s.held journal))) change)
    → OnOk r (record s { held = h; units = units } ≡ insertion_logged s p block change entry)
unfolding logged
insertion_ok s p block journal change entry (Ok x) h units there objects joined = rw (there, objects, joined) refl
insertion_ok s p block journal change entry (Err e) h units there objects joined = tt

named_there : (h : Held) (port : Option Port) (n : ℕ) → journal_named h port ≡ Some n → is_journal h n ≡ true
named_there h None n e = cc
named_there h (Some port) n e = by (is_journal h port.journal.0) refl e
  where
    by : (b : Bool) → is_journal h port.journal.0 ≡ b → cond b (Some port.journal.0) None ≡ Some n → is_journal h n ≡ true
    by true there same = subst (λ (k : ℕ). is_journal h k ≡ true) (same_Some port.journal.0 n same) there
    by false there same = cc

-- the journal space of a data space that is journaled is there
pub journal_there : (h : Held) (space journal : ℕ) → journal_for h space ≡ Some journal → is_journal h journal ≡ true
journal_there h space journal there = named_there h (part_at port_part h (data_port h space)) journal there

or_false : (a b : Bool) → (a || b) ≡ false → a ≡ false
or_false true b e = cc
or_false false b e = refl

-- and has room, where no rule fails
pub room_met : (s : State) (block bytes journal : ℕ) → journal_rule s block bytes (Some journal) ≡ None → is_journal_full s.held s.units journal block bytes ≡ false
room_met s block bytes journal none =
    or_false (is_journal_full s.held s.units journal block bytes) (are_units_full s.held s.units journal block || is_unit_full s.units block bytes) (fails_none _ _ _ none)

logged_in_table : (s : State) (p block : ℕ) (change : UnitChange) (journal : Option ℕ) (n : ℕ) → table_at (logged_in s p block change journal).held n ≡ table_at s.held n
logged_in_table s p block change None n = refl
logged_in_table s p block change (Some journal) n =
    ap (λ (o : Option DataBody). table_in o) (part_apart data_part journal_part _ (data_apart _) s.held journal n)

-- a change that is logged is nothing to what a data space holds
pub logged_table : (s : State) (p block : ℕ) (change : UnitChange) (n : ℕ) → table_at (logged s p block change).held n ≡ table_at s.held n
unfolding logged
logged_table s p block change n = logged_in_table s p block change (journal_for s.held change.space.0) n

-- an entry that is inserted where nothing is logged
pub inserted_alone : (s : State) (p block : ℕ) (change : UnitChange) (entry : List ℕ) → journal_for s.held change.space.0 ≡ None
    → record s { held = on_table s.held change.space.0 (with_inserted entry) } ≡ insertion_logged s p block change entry
unfolding logged
inserted_alone s p block change entry none = rw none refl
