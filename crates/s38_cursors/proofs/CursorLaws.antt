-- Seeks that find nothing, what a change of entries has met, and what it leaves of what is kept of users.
use Rattle.std.proofs.Common.{◌≡◌, ℕ, zero, suc, ◌+◌, ◌*◌, ◌-◌, ◌<◌, ◌≤◌, ◌==◌, ◌∙◌, true, false, List, [], ◌∷◌, ap, arith, length, refl, sym, subst}
use Rattle.std.proofs.lemmas.Bool.Decides.{nat_tests}
use Rattle.std.specs.Prelude.{min, Option, Some, None, Result, Ok, Err, OnOk, OnErr, is_none, is_some, nat_lt}
use Rattle.s38_base.specs.declared.attr.Attr.{Attr}
use Rattle.s38_base.specs.declared.exception.Exception.{Exception}
use Rattle.s38_base.specs.declared.fault.NoMemory.{NoMemory}
use Rattle.s38_base.specs.declared.words.Seek.{Seek}
use Rattle.s38_base.specs.declared.words.Seek.TheVariants.{First, Last, Next, Prev, At}
use Rattle.s38_base.specs.Signals.{first}
use Rattle.s38_base.specs.Exceptions as exceptions
use Rattle.s38_base.specs.Limits.{furthest}
use Rattle.s38_code.specs.declared.operand.Operand.{Operand}
use Rattle.s38_commits.specs.declared.change.UnitChange.{UnitChange}
use Rattle.s38_commits.specs.Changes.{journal_bytes}
use Rattle.s38_dataspaces.specs.Entries.{DataEntry, entry_at}
use Rattle.s38_dataspaces.specs.Refusals.{delete_refusal, insert_refusal, update_refusal}
use Rattle.s38_dataspaces.specs.Seeks.{is_present_at, last_up_to, next_above, sought}
use Rattle.s38_dataspaces.specs.Table.{DataTable, data_space_image_size, entry_len}
use Rattle.s38_dataspaces.specs.Values.{have_values}
use Rattle.s38_profiles.specs.ProfileMaps.{ProfileMaps}
use Rattle.s38_changes.proofs.KeptLaws.{IsUnkept, part_unkept}
use Rattle.s38_rules.specs.declared.cursor.Cursor.{Cursor}
use Rattle.s38_rules.specs.declared.data_body.DataBody.{DataBody}
use Rattle.s38_rules.specs.families.Changing.{block_rules, held_rule, journal_rule, logged}
use Rattle.s38_rules.specs.families.Creation.{creation_fails}
use Rattle.s38_rules.specs.families.DataSpaces.{created_data_space, crtds_fails}
use Rattle.s38_rules.specs.families.EntryChanges.{change_at, change_rules, current_fails, entry_room_rule, entry_rule, insdsen_fails, insertion, insertion_limits, journal_room, next_ordinal, updsen_fails}
use Rattle.s38_rules.specs.families.CursorSeeks.{occupied}
use Rattle.s38_rules.specs.families.Cursors.{created_cursor, crtcr_fails, cursor_named, position_rule, table_of}
use Rattle.s38_rules.specs.state.Held.{Held}
use Rattle.s38_rules.specs.state.Journaling.{journal_for}
use Rattle.s38_rules.specs.state.Kept.{Mirrors}
use Rattle.s38_rules.specs.ask.Operands.{bytes_at}
use Rattle.s38_rules.specs.state.Parts.{cursor_part, data_part}
use Rattle.s38_rules.specs.state.PartsAt.{on_cursor, on_table, over_table}
use Rattle.s38_rules.specs.state.LawfulParts.{cursor_lawful, data_lawful}
use Rattle.s38_rules.specs.state.State.{State}
use Rattle.s38_rules.specs.ask.Users.{user_of}
use Rattle.s38_rules.proofs.RuleLaws.{fails_none, first_none, not_false}

-- ---- creation

pub crtds_created : (s : State) (p : ℕ) (ops : List Operand) → crtds_fails s p ops ≡ None
    → (own : Option Exception) × (creation_fails s.held (user_of s p) (created_data_space s.held ops) own ≡ None)
unfolding crtds_fails
crtds_created s p ops h = (None, h)

pub crtcr_created : (s : State) (p : ℕ) (ops : List Operand) → crtcr_fails s p ops ≡ None
    → (own : Option Exception) × (creation_fails s.held (user_of s p) (created_cursor s.held ops) own ≡ None)
unfolding crtcr_fails
crtcr_created s p ops h = (None, h)

-- ---- images and seeks

-- there are no more ordinals than bytes of the image
pub ordinals_few : (fields : List Attr) (ordinals : ℕ) → data_space_image_size fields ordinals ≤ 16777216 → ordinals ≤ 16777216
ordinals_few fields ordinals small =
    let apart : data_space_image_size fields ordinals ≡ 22 + 3 * length fields + (ordinals + ordinals * entry_len fields) = grind arith in
    let room : 22 + 3 * length fields + (ordinals + ordinals * entry_len fields) ≤ 16777216 = subst (λ (n : ℕ). n ≤ 16777216) apart small in
    omega (arith, room)

-- an image grows by a byte and an entry
pub image_grown : (fields : List Attr) (ordinals : ℕ) → data_space_image_size fields (ordinals + 1) ≡ data_space_image_size fields ordinals + (1 + entry_len fields)
image_grown fields ordinals = grind arith

none_above : (from : ℕ) → next_above [] from ≡ None
none_above zero = refl
none_above (suc k) = refl

none_at : (from : ℕ) → is_present_at [] from ≡ false
none_at zero = refl
none_at (suc k) = refl

none_below : (most : ℕ) → last_up_to [] most ≡ None
none_below zero = refl
none_below (suc k) = none_below k

-- among no entries none is found
pub nowhere : (how : Seek) (from : ℕ) → sought (occupied []) how from ≡ None
nowhere First from = none_above 0
nowhere Last from = refl
nowhere Next from = none_above from
nowhere Prev from = none_below (min (from - 1) 0)
nowhere At from = rw (none_at from) refl

none_behind : (entries : List DataEntry) (k : ℕ) → length entries < k → is_present_at (occupied entries) k ≡ false
none_behind entries zero far = refl
none_behind [] (suc k) far = refl
none_behind (e ∷ entries) (suc zero) far = absurd (omega (arith, far))
none_behind (e ∷ entries) (suc (suc k)) far = none_behind entries (suc k) (omega (arith, far))

-- after the last ordinal there is none
pub too_far : (entries : List DataEntry) (k : ℕ) → length entries < k → sought (occupied entries) At k ≡ None
too_far entries k far = rw (none_behind entries k far) refl

-- ---- what a change has met

is_there : (e : DataEntry) → is_none e ≡ false → is_some e ≡ true
is_there None h = absurd (cc)
is_there (Some bytes) h = refl

deleted_there : (table : DataTable) (at : ℕ) → is_none (entry_at table.entries at) ≡ false → delete_refusal table at ≡ None
deleted_there table at there = rw (is_there (entry_at table.entries at) there) refl

-- the rule of an entry was met
entry_met : (fields : List Attr) (h : Held) (ops : List Operand) → entry_rule fields h ops ≡ None
    → ((length (bytes_at h ops 2) == entry_len fields) ≡ true) × (have_values fields (bytes_at h ops 2) ≡ true)
entry_met fields h ops none =
    let parts = first_none _ _ none in
    (not_false _ (fails_none _ _ _ parts.0), not_false _ (fails_none _ _ _ parts.1))

-- the first of two rules that fails, and the second where the first holds
pub first_some : (a b : Option Exception) (x : Exception) → a ≡ Some x → Some x ≡ first a b
first_some a b x e = sym (ap (λ (o : Option Exception). first o b) e)

pub first_rest : (a b c : Option Exception) → a ≡ None → c ≡ b → c ≡ first a b
first_rest a b c e same = same ∙ sym (ap (λ (o : Option Exception). first o b) e)

nat_same : (a b : ℕ) → (a == b) ≡ true → a ≡ b
nat_same a b h = grind (arith, nat_tests)

nat_at_itself : (n : ℕ) → (n == n) ≡ true
nat_at_itself n = grind (arith, nat_tests)

-- an entry that is taken has the length of the fields
pub entry_sized : (fields : List Attr) (h : Held) (ops : List Operand) → entry_rule fields h ops ≡ None → length (bytes_at h ops 2) ≡ entry_len fields
entry_sized fields h ops none = nat_same _ _ (entry_met fields h ops none).0

pub insdsen_met : (s : State) (p : ℕ) (ops : List Operand) → insdsen_fails s p ops ≡ None → have_values (table_of s.held ops 1).fields (bytes_at s.held ops 2) ≡ true
unfolding insdsen_fails
insdsen_met s p ops none = (entry_met (table_of s.held ops 1).fields s.held ops (first_none _ _ none).0).1

-- the change may be made, and there is room for it
insdsen_changes_limits : (s : State) (p : ℕ) (ops : List Operand) → insdsen_fails s p ops ≡ None
    → (change_rules s p (cursor_named s.held ops 1) (next_ordinal (table_of s.held ops 1)) ≡ None) × (insertion_limits s ops ≡ None)
unfolding insdsen_fails
insdsen_changes_limits s p ops none =
    let change = change_rules s p (cursor_named s.held ops 1) (next_ordinal (table_of s.held ops 1)) in
    let limits = insertion_limits s ops in
    first_none change limits (first_none (entry_rule (table_of s.held ops 1).fields s.held ops) (first change limits) none).1

pub insdsen_limits : (s : State) (p : ℕ) (ops : List Operand) → insdsen_fails s p ops ≡ None
    → (entry_room_rule s.limit (table_of s.held ops 1) ≡ None)
    × (journal_rule s (cursor_named s.held ops 1).block.0 (journal_bytes (insertion s.held ops)) (journal_for s.held (cursor_named s.held ops 1).space.0) ≡ None)
insdsen_limits s p ops none =
    first_none (entry_room_rule s.limit (table_of s.held ops 1)) (journal_room s (cursor_named s.held ops 1) (insertion s.held ops)) (insdsen_changes_limits s p ops none).1

pub insdsen_sized : (s : State) (p : ℕ) (ops : List Operand) → insdsen_fails s p ops ≡ None → length (bytes_at s.held ops 2) ≡ entry_len (table_of s.held ops 1).fields
unfolding insdsen_fails
insdsen_sized s p ops none = entry_sized (table_of s.held ops 1).fields s.held ops (first_none _ _ none).0

not_more : (limit size : ℕ) → nat_lt limit size ≡ false → limit ≤ 16777216 → nat_lt 16777216 size ≡ false
not_more limit size h few = grind (arith, nat_tests)

-- a data space takes an entry of its length, where its image stays within a limit
pub taken_by : (limit : ℕ) (table : DataTable) (entry : List ℕ) → limit ≤ furthest → length entry ≡ entry_len table.fields → entry_room_rule limit table ≡ None → insert_refusal table entry ≡ None
taken_by limit table entry few long room =
    let same : (length entry == entry_len table.fields) ≡ true = rw long (nat_at_itself (entry_len table.fields)) in
    let small : nat_lt 16777216 (data_space_image_size table.fields (length table.entries + 1)) ≡ false =
    not_more limit (data_space_image_size table.fields (length table.entries + 1)) (fails_none (nat_lt limit (data_space_image_size table.fields (length table.entries + 1))) exceptions.limit_exceeded 0 room) few in
    rw (same, small) refl

current_changes_limits : (s : State) (p : ℕ) (ops : List Operand) (entry : DataEntry) → current_fails s p ops entry ≡ None
    → (change_rules s p (cursor_named s.held ops 1) (cursor_named s.held ops 1).position ≡ None)
    × (journal_rule s (cursor_named s.held ops 1).block.0 (journal_bytes (change_at s.held ops entry)) (journal_for s.held (cursor_named s.held ops 1).space.0) ≡ None)
unfolding current_fails
current_changes_limits s p ops entry none =
    let change = change_rules s p (cursor_named s.held ops 1) (cursor_named s.held ops 1).position in
    let room = journal_room s (cursor_named s.held ops 1) (change_at s.held ops entry) in
    first_none change room (first_none (position_rule s.held ops 1) (first change room) none).1

pub current_room : (s : State) (p : ℕ) (ops : List Operand) (entry : DataEntry) → current_fails s p ops entry ≡ None
    → journal_rule s (cursor_named s.held ops 1).block.0 (journal_bytes (change_at s.held ops entry)) (journal_for s.held (cursor_named s.held ops 1).space.0) ≡ None
current_room s p ops entry none = (current_changes_limits s p ops entry none).1

pub current_free : (s : State) (p : ℕ) (ops : List Operand) (entry : DataEntry) → current_fails s p ops entry ≡ None
    → held_rule s.units p (cursor_named s.held ops 1).block.0 (cursor_named s.held ops 1).space.0 (cursor_named s.held ops 1).position ≡ None
current_free s p ops entry none =
    (first_none (held_rule s.units p (cursor_named s.held ops 1).block.0 (cursor_named s.held ops 1).space.0 (cursor_named s.held ops 1).position)
    (block_rules s p (cursor_named s.held ops 1).block.0 (cursor_named s.held ops 1).space.0) (current_changes_limits s p ops entry none).0).0

pub insdsen_free : (s : State) (p : ℕ) (ops : List Operand) → insdsen_fails s p ops ≡ None
    → held_rule s.units p (cursor_named s.held ops 1).block.0 (cursor_named s.held ops 1).space.0 (next_ordinal (table_of s.held ops 1)) ≡ None
insdsen_free s p ops none =
    (first_none (held_rule s.units p (cursor_named s.held ops 1).block.0 (cursor_named s.held ops 1).space.0 (next_ordinal (table_of s.held ops 1)))
    (block_rules s p (cursor_named s.held ops 1).block.0 (cursor_named s.held ops 1).space.0) (insdsen_changes_limits s p ops none).0).0

-- of a data space that is not journaled nothing is logged
pub unlogged : (s : State) (p block : ℕ) (change : UnitChange) → journal_for s.held change.space.0 ≡ None → s ≡ logged s p block change
unfolding logged
unlogged s p block change none = rw none refl

pub updsen_valued : (s : State) (p : ℕ) (ops : List Operand) → updsen_fails s p ops ≡ None → have_values (table_of s.held ops 1).fields (bytes_at s.held ops 2) ≡ true
unfolding updsen_fails
updsen_valued s p ops none = (entry_met (table_of s.held ops 1).fields s.held ops (first_none _ _ none).0).1

-- the entry at which the cursor is, is there
pub current_met : (s : State) (p : ℕ) (ops : List Operand) (entry : DataEntry) → current_fails s p ops entry ≡ None → delete_refusal (table_of s.held ops 1) (cursor_named s.held ops 1).position ≡ None
unfolding current_fails
current_met s p ops entry none = deleted_there (table_of s.held ops 1) (cursor_named s.held ops 1).position (fails_none _ _ _ (first_none _ _ none).0)

pub updsen_met : (s : State) (p : ℕ) (ops : List Operand) → updsen_fails s p ops ≡ None → update_refusal (table_of s.held ops 1) (cursor_named s.held ops 1).position (bytes_at s.held ops 2) ≡ None
unfolding updsen_fails
updsen_met s p ops none =
    let parts = first_none _ _ none in
    rw (entry_met (table_of s.held ops 1).fields s.held ops parts.0).0 (current_met s p ops (Some (bytes_at s.held ops 2)) parts.1)

pub updsen_current : (s : State) (p : ℕ) (ops : List Operand) → updsen_fails s p ops ≡ None → current_fails s p ops (Some (bytes_at s.held ops 2)) ≡ None
unfolding updsen_fails
updsen_current s p ops none = (first_none _ _ none).1

-- ---- what is kept of users

data_free : IsUnkept DataBody data_part
data_free = record { pages = λ x. refl; profile = λ x charge. refl }

cursor_free : IsUnkept Cursor cursor_part
cursor_free = record { pages = λ x. refl; profile = λ x charge. refl }

-- the entries of a data space are others
pub table_kept : (maps : ProfileMaps) (h : Held) (n : ℕ) (f : DataTable → DataTable) → Mirrors maps h → Mirrors maps (on_table h n f)
table_kept maps h n f m = part_unkept data_part data_lawful data_free maps h n (over_table f) m

-- a cursor is elsewhere
pub cursor_kept : (maps : ProfileMaps) (h : Held) (n : ℕ) (f : Cursor → Cursor) → Mirrors maps h → Mirrors maps (on_cursor h n f)
cursor_kept maps h n f m = part_unkept cursor_part cursor_lawful cursor_free maps h n f m

-- a data space that changes, or stays where memory is refused
pub table_left : (maps : ProfileMaps) (h new : Held) (n : ℕ) (f : DataTable → DataTable) (r : Result ℕ NoMemory) → OnOk r (new ≡ on_table h n f) → OnErr r (new ≡ h) → Mirrors maps h → Mirrors maps new
table_left maps h new n f (Ok x) ok err m = subst (λ (k : Held). Mirrors maps k) (sym ok) (table_kept maps h n f m)
table_left maps h new n f (Err e) ok err m = subst (λ (k : Held). Mirrors maps k) (sym err) m
