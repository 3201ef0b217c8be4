-- Units stay right where what they name stays: their commit blocks and ports as they are, their journal spaces with all
-- entries, and their data spaces with their fields, ports and ordinals.
use Rattle.std.proofs.Common.{◌*◌, ◌==◌, ◌∙◌, ◌∷◌, ◌≡◌, ◌≤◌, Bool, List, [], ap, arith, cond, false, length, refl, subst, sym, true, ℕ}
use Rattle.std.proofs.lemmas.Bool.{and_parts}
use Rattle.std.proofs.lemmas.List.Elements.{All-cons, All-head, All-nil, All-tail}
use Rattle.std.specs.Option.{unwrap_or}
use Rattle.std.specs.Prelude.{◌&&◌, All, None, Option, Some, is_some}
use Rattle.s38_base.specs.declared.id.ObjNum.{ObjNum}
use Rattle.s38_commits.proofs.MapLaws.{nat_itself, nat_same}
use Rattle.s38_commits.specs.Units.{UnitMap}
use Rattle.s38_commits.specs.declared.change.UnitChange.{UnitChange}
use Rattle.s38_journals.specs.Journals.{JournalList}
use Rattle.s38_rules.specs.state.Held.{Held}
use Rattle.s38_rules.specs.state.Journaling.{block_port, block_port_in, data_port, data_port_in, is_journal, is_that_number, journal_for, journal_for_block, journal_named, journal_of_port, open_units, unit_goes_to}
use Rattle.s38_rules.specs.state.Parts.{block_part, data_part, journal_part, part_at, port_part}
use Rattle.s38_rules.specs.state.PartsAt.{journal_at, no_journal}
use Rattle.s38_rules.specs.declared.block.Block.{Block}
use Rattle.s38_rules.specs.declared.data_body.DataBody.{DataBody}
use Rattle.s38_rules.specs.declared.port.Port.{Port}
use Rattle.s38_laws_units.proofs.HeldLaws.{Carries, Stays}
use Rattle.s38_laws_units.proofs.UnitLaws.{Both, count_first, one_if}
use Rattle.s38_laws_units.specs.Right.{AreRight, IsChangeOf, IsData, IsEntryOf, IsLogged, IsUnit, IsUnused, unit_journal}

pub both_hold : (a b : Bool) → a ≡ true → b ≡ true → (a && b) ≡ true
both_hold true true p q = refl
both_hold true false p q = cc
both_hold false b p q = cc

-- what holds of each is true of all
pub all_by : {X : Type 0} (P : X → Type 0) (xs : List X) → ((x : X) → P x) → All P xs
all_by P [] each = All-nil P
all_by P (x ∷ xs) each = All-cons P x xs (each x) (all_by P xs each)

pub all_then : {X : Type 0} (P Q R : X → Type 0) (xs : List X) → ((x : X) → P x → Q x → R x) → All P xs → All Q xs → All R xs
all_then P Q R [] each ps qs = All-nil R
all_then P Q R (x ∷ xs) each ps qs = All-cons R x xs (each x (All-head P x xs ps) (All-head Q x xs qs)) (all_then P Q R xs each (All-tail P x xs ps) (All-tail Q x xs qs))

-- ---- what stays of journal spaces and data spaces

-- a journal space stays with all its entries
abbrev pub Grows : Option JournalList → Option JournalList → Type 0
Grows None y = Unit {0}
Grows (Some x) None = ⊥
Grows (Some x) (Some y) = length x.entries ≤ length y.entries

pub record IsLater (x y : DataBody) : Type 0 where
  pub port : y.port ≡ x.port
  pub fields : y.space.fields ≡ x.space.fields
  pub entries : length x.space.entries ≤ length y.space.entries

-- a data space stays with its port, its fields and all ordinals
abbrev pub Lasts : Option DataBody → Option DataBody → Type 0
Lasts None y = Unit {0}
Lasts (Some x) None = ⊥
Lasts (Some x) (Some y) = IsLater x y

pub grows_same : (x : Option JournalList) → Grows x x
grows_same None = tt
grows_same (Some x) = omega arith

pub lasts_same : (x : Option DataBody) → Lasts x x
lasts_same None = tt
lasts_same (Some x) = record { port = refl; fields = refl; entries = omega arith }

pub stays_grow : (x y : Option JournalList) → Stays x y → Grows x y
stays_grow None y e = tt
stays_grow (Some x) y e = subst (Grows (Some x)) (sym e) (omega arith)

pub stays_last : (x y : Option DataBody) → Stays x y → Lasts x y
stays_last None y e = tt
stays_last (Some x) y e = subst (Lasts (Some x)) (sym e) (lasts_same (Some x))

-- what is there is the same
pub stays_by : {T : Type 0} (x y : Option T) → y ≡ x → Stays x y
stays_by None y e = tt
stays_by (Some x) y e = e

pub grows_by : (x y : Option JournalList) → y ≡ x → Grows x y
grows_by x y e = subst (Grows x) (sym e) (grows_same x)

pub lasts_by : (x y : Option DataBody) → y ≡ x → Lasts x y
lasts_by x y e = subst (Lasts x) (sym e) (lasts_same x)

-- the number of the journal space to which the unit of a block goes
abbrev pub journal_number : Held → ℕ → ℕ
journal_number h block = unwrap_or (journal_for_block h block) 0

abbrev pub LastsAt : Held → Held → UnitChange → Type 0
LastsAt h k change = Lasts (part_at data_part h change.space.0) (part_at data_part k change.space.0)

-- what a unit names stays
pub record Spares (h k : Held) (e : Both) : Type 0 where
  pub block : Stays (part_at block_part h e.0) (part_at block_part k e.0)
  pub port : Stays (part_at port_part h (block_port h e.0)) (part_at port_part k (block_port h e.0))
  pub journal : Grows (part_at journal_part h (journal_number h e.0)) (part_at journal_part k (journal_number h e.0))
  pub changes : All (LastsAt h k) e.1.changes

-- ---- a unit

same_block : (x y : Option Block) → is_some x ≡ true → Stays x y → block_port_in y ≡ block_port_in x
same_block None y there stays = cc
same_block (Some x) y there stays = ap block_port_in stays

still_block : (x y : Option Block) → is_some x ≡ true → Stays x y → is_some y ≡ true
still_block None y there stays = cc
still_block (Some x) y there stays = ap is_some stays

grown : (x y : Option JournalList) → Grows x y → is_some x ≡ true → is_some y ≡ true
grown None y grows there = cc
grown (Some x) None grows there = absurd grows
grown (Some x) (Some y) grows there = refl

longer : (x y : Option JournalList) → Grows x y → length (unwrap_or x no_journal).entries ≤ length (unwrap_or y no_journal).entries
longer None y grows = omega arith
longer (Some x) None grows = absurd grows
longer (Some x) (Some y) grows = grows

same_journal : (h k : Held) (x y : Option Port) → Stays x y → is_some (journal_named h x) ≡ true
    → Grows (part_at journal_part h (unwrap_or (journal_named h x) 0)) (part_at journal_part k (unwrap_or (journal_named h x) 0)) → journal_named k y ≡ journal_named h x
same_journal h k None y stays there grows = cc
same_journal h k (Some port) y stays there grows = ap (journal_named k) stays ∙ by (is_journal h port.journal.0) refl there grows
  where
    number : ℕ
    number = port.journal.0

    by : (b : Bool) → is_journal h number ≡ b → is_some (cond b (Some number) None) ≡ true
        → Grows (part_at journal_part h (unwrap_or (cond b (Some number) None) 0)) (part_at journal_part k (unwrap_or (cond b (Some number) None) 0))
        → cond (is_journal k number) (Some number) None ≡ cond b (Some number) None
    by true is there grows = ap (λ b. cond b (Some number) None) (grown (part_at journal_part h number) (part_at journal_part k number) grows is)
    by false is there grows = cc

-- the port of a unit leads where it led
pub port_leads : (h k : Held) (e : Both) → IsUnit h e → Spares h k e → journal_of_port k (block_port h e.0) ≡ journal_of_port h (block_port h e.0)
port_leads h k e unit spares =
    same_journal h k (part_at port_part h (block_port h e.0)) (part_at port_part k (block_port h e.0)) spares.port unit.journal spares.journal

pub block_leads : (h k : Held) (e : Both) → IsUnit h e → Spares h k e → journal_for_block k e.0 ≡ journal_for_block h e.0
block_leads h k e unit spares =
    ap (journal_of_port k) (same_block (part_at block_part h e.0) (part_at block_part k e.0) unit.block spares.block) ∙ port_leads h k e unit spares

port_lasts : (change : UnitChange) (x y : Option DataBody) → IsChangeOf change x → Lasts x y → data_port_in y ≡ data_port_in x
port_lasts change None y of lasts = absurd of
port_lasts change (Some x) None of lasts = absurd lasts
port_lasts change (Some x) (Some y) of lasts = ap (λ (n : ObjNum). n.0) lasts.port

pub change_lasts : (change : UnitChange) (x y : Option DataBody) → IsChangeOf change x → Lasts x y → IsChangeOf change y
change_lasts change None y of lasts = absurd of
change_lasts change (Some x) None of lasts = absurd lasts
change_lasts change (Some x) (Some y) of lasts = record {
  first = of.first;
  last = omega (arith, of.last, lasts.entries);
  before = subst (λ fields. IsEntryOf fields change.before) (sym lasts.fields) of.before;
  after = subst (λ fields. IsEntryOf fields change.after) (sym lasts.fields) of.after;
}

logged_kept : (h k : Held) (port : ℕ) (change : UnitChange) → journal_of_port k port ≡ journal_of_port h port → IsLogged h port change → LastsAt h k change → IsLogged k port change
logged_kept h k port change leads logged lasts =
    let n = change.space.0 in
    let parts = and_parts (data_port h n == port) (is_some (journal_for h n)) logged.journaled in
    let old : data_port h n ≡ port = nat_same (data_port h n) port parts.0 in
    let now : data_port k n ≡ port = port_lasts change (part_at data_part h n) (part_at data_part k n) logged.entry lasts ∙ old in
    let there : is_some (journal_for k n) ≡ true = ap (λ m. is_some (journal_of_port k m)) now ∙ ap is_some leads ∙ sym (ap (λ m. is_some (journal_of_port h m)) old) ∙ parts.1 in
    record {
      journaled = both_hold (data_port k n == port) (is_some (journal_for k n)) (ap (λ m. m == port) now ∙ nat_itself port) there;
      entry = change_lasts change (part_at data_part h n) (part_at data_part k n) logged.entry lasts;
    }

pub unit_kept : (h k : Held) (e : Both) → IsUnit h e → Spares h k e → IsUnit k e
unit_kept h k e unit spares =
    let port = block_port h e.0 in
    let same : block_port k e.0 ≡ port = same_block (part_at block_part h e.0) (part_at block_part k e.0) unit.block spares.block in
    let leads = block_leads h k e unit spares in
    let number = journal_number h e.0 in
    let entries : length (unit_journal k e.0).entries ≡ length (journal_at k number).entries = ap (λ r. length (journal_at k (unwrap_or r 0)).entries) leads in
    record {
      block = still_block (part_at block_part h e.0) (part_at block_part k e.0) unit.block spares.block;
      journal = ap is_some leads ∙ unit.journal;
      first = unit.first;
      last = omega (arith, unit.last, longer (part_at journal_part h number) (part_at journal_part k number) spares.journal, entries);
      some = unit.some;
      changes = subst (λ n. All (IsLogged k n) e.1.changes) (sym same)
          (all_then (IsLogged h port) (LastsAt h k) (IsLogged k port) e.1.changes (λ c logged lasts. logged_kept h k port c (port_leads h k e unit spares) logged lasts) unit.changes spares.changes);
    }

-- ---- all units

pub units_kept : (h k : Held) (units : UnitMap) → All (IsUnit h) units → All (Spares h k) units → All (IsUnit k) units
units_kept h k units each spares = all_then (IsUnit h) (Spares h k) (IsUnit k) units (λ e unit spared. unit_kept h k e unit spared) each spares

-- each goes where it went
pub open_kept : (h k : Held) (units : UnitMap) (journal : ℕ) → All (IsUnit h) units → All (Spares h k) units → open_units k units journal ≡ open_units h units journal
open_kept h k [] journal each spares = refl
open_kept h k (e ∷ es) journal each spares =
    let rest = open_kept h k es journal (All-tail (IsUnit h) e es each) (All-tail (Spares h k) e es spares) in
    let same : unit_goes_to k journal e ≡ unit_goes_to h journal e = ap (is_that_number journal) (block_leads h k e (All-head (IsUnit h) e es each) (All-head (Spares h k) e es spares)) in
    let one : one_if (unit_goes_to k journal e) ≡ one_if (unit_goes_to h journal e) = ap one_if same in
    omega (arith, count_first (unit_goes_to k journal) e es, count_first (unit_goes_to h journal) e es, rest, one)

-- the units stay right where what they name stays, data spaces are as they should be, and journal spaces keep their room
pub right_kept : (h k : Held) (units : UnitMap) → AreRight h units → All (Spares h k) units → ((n : ℕ) → IsData (part_at data_part k n))
    → ((journal : ℕ) → 41 * open_units h units journal ≤ (journal_at k journal).spare) → IsUnused k → AreRight k units
right_kept h k units right spares tables room unused = record {
  rising = right.rising;
  apart = right.apart;
  each = units_kept h k units right.each spares;
  room = λ journal. subst (λ n. 41 * n ≤ (journal_at k journal).spare) (sym (open_kept h k units journal right.each spares)) (room journal);
  tables = tables;
  unused = unused;
}

-- ---- where each object stays

carried_spares : (h k : Held) → Carries h k → (e : Both) → Spares h k e
carried_spares h k carries e = record {
  block = (carries.each e.0).block;
  port = (carries.each (block_port h e.0)).port;
  journal = stays_grow (part_at journal_part h (journal_number h e.0)) (part_at journal_part k (journal_number h e.0)) (carries.each (journal_number h e.0)).journal;
  changes = all_by (LastsAt h k) e.1.changes (λ c. stays_last (part_at data_part h c.space.0) (part_at data_part k c.space.0) (carries.each c.space.0).space);
}

spare_stays : (x y : Option JournalList) → Stays x y → (unwrap_or x no_journal).spare ≤ (unwrap_or y no_journal).spare
spare_stays None y e = omega arith
spare_stays (Some x) y e = subst (λ (r : Option JournalList). x.spare ≤ (unwrap_or r no_journal).spare) (sym e) (omega arith)

pub right_carried : (h k : Held) (units : UnitMap) → AreRight h units → Carries h k → AreRight k units
right_carried h k units right carries =
    right_kept h k units right (all_by (Spares h k) units (carried_spares h k carries)) (λ n. (carries.each n).table (right.tables n))
    (λ journal. omega (arith, right.room journal, spare_stays (part_at journal_part h journal) (part_at journal_part k journal) (carries.each journal).journal))
    (carries.unused right.unused)
