-- A data space that is printed with every uncommitted change taken back.
use Rattle.std.proofs.Common.{◌≡◌, ℕ, zero, suc, ◌+◌, ◌*◌, ◌<◌, ◌≤◌, ◌==◌, Bool, true, false, cond, List, [], ◌∷◌, ◌++◌, length, take, drop, refl, sym, ap, subst, ◌∙◌, arith, append_assoc}
use Rattle.std.proofs.lemmas.Bool.{eqb-true}
use Rattle.std.proofs.lemmas.Bool.Decides.{nat_tests}
use Rattle.std.proofs.lemmas.List.Elements.{All-head, All-tail}
use Rattle.std.proofs.lemmas.Map.Keys.{sorted_tail}
use Rattle.std.proofs.lemmas.Map.Views.{All-after_first}
use Rattle.std.specs.Prelude.{◌&&◌, All, Some, None, find, nat_le, replicate}
use Rattle.std.specs.declared.cmp.Ordering.TheVariants.{Less}
use Rattle.std.specs.List.{flat_map}
use Rattle.std.specs.Map.{keys_of}
use Rattle.std.specs.Option.{option_map}
use Rattle.std.specs.Ordering.{nat_cmp}
use Rattle.s38_base.specs.declared.attr.Attr.{Attr}
use Rattle.s38_codec.proofs.CodecLaws.{both_true}
use Rattle.s38_codec.specs.Codec.{copies, print_each}
use Rattle.s38_codec.specs.Formats.{u16, u32, u64}
use Rattle.s38_commits.proofs.MapLaws.{at_key, nat_itself}
use Rattle.s38_commits.specs.Changes.{has_change, is_of_entry}
use Rattle.s38_commits.specs.Unit.{CommitUnit}
use Rattle.s38_commits.specs.Units.{BlocksRise, UnitMap, owner, unit_block, unit_of}
use Rattle.s38_commits.specs.declared.change.UnitChange.{UnitChange}
use Rattle.s38_dataspaces.specs.Entries.{DataEntry, entry_at}
use Rattle.s38_dataspaces.specs.Table.{DataTable, data_space_image_size, entry_len, is_entry_of}
use Rattle.s38_image.proofs.HeaderLaws.{zeros}
use Rattle.s38_image_writer.proofs.PrintLaws.{times_print}
use Rattle.s38_image_writer.proofs.WriterLaws.{adds_same, adds_then}
use Rattle.s38_image_writer.specs.Writing.{Adds, Written}
use Rattle.s38_image.specs.DataSpaces.{data_space, slot}
use Rattle.s38_image_writer.specs.Printing.{slot_bytes}
use Rattle.s38_image.specs.Scalars.{attr}
use Rattle.s38_image.specs.Settled.{first_change, oldest_change_of, settled_entries, settled_entry}
use Rattle.s38_image_writer.specs.Restoring.{AreRestorable, IsRestorable}

-- ---- zeros

front_replicated : (n m : ℕ) → n ≤ m → take {A = ℕ} n (replicate m 0) ≡ replicate n 0
front_replicated zero m le = refl
front_replicated (suc n) zero le = absurd (omega arith)
front_replicated (suc n) (suc m) le = ap (λ (t : List ℕ). 0 ∷ t) (front_replicated n m (omega arith))

pub front_zeros : (n m : ℕ) → n ≤ m → take {A = ℕ} n (replicate m 0) ≡ copies n 0
front_zeros n m le = front_replicated n m le ∙ zeros n

-- ---- the first change of an entry

-- what a search finds passes, and has what all have
pub found_fits : {A : Type 0} (P : A → Type 0) (p : A → Bool) (xs : List A) (x : A) → All P xs → find p xs ≡ Some x → P x × (p x ≡ true)
found_fits P p [] x all is = absurd cc
found_fits P p (y ∷ xs) x all is =
    let rest = found_fits P p xs x (All-tail P y xs all) in
    elim (p y) as (λ b. p y ≡ b → cond b (Some y) (find p xs) ≡ Some x → P x × (p x ≡ true)) [
      | true ↦ λ passes q. let same : y ≡ x = cc in subst (λ z. P z × (p z ≡ true)) same (All-head P y xs all, passes)
      | false ↦ λ fails q. rest q
    ] refl is

apart : (a b : ℕ) → nat_cmp a b ≡ Less → (a == b) ≡ false
apart a b is = grind (arith, nat_tests)

-- the block of a unit after another is another
other_block : (k : ℕ) (units : UnitMap) (space at : ℕ) (e : ℕ × CommitUnit) → All (λ j. nat_cmp k j ≡ Less) (keys_of units) → owner units space at ≡ Some e → (k == e.0) ≡ false
other_block k [] space at e all is = absurd cc
other_block k (f ∷ units) space at e all is =
    let here = apart k f.0 (All-head (λ j. nat_cmp k j ≡ Less) f.0 (keys_of units) all) in
    let rest = other_block k units space at e (All-tail (λ j. nat_cmp k j ≡ Less) f.0 (keys_of units) all) in
    elim (has_change space at f.1.changes) as (λ b. cond b (Some f) (owner units space at) ≡ Some e → (k == e.0) ≡ false) [
      | true ↦ λ q. let same : f ≡ e = cc in subst (λ (z : ℕ × CommitUnit). (k == z.0) ≡ false) same here
      | false ↦ λ q. rest q
    ] is

-- a unit that has a change is found under its block
owner_unit : (units : UnitMap) (space at : ℕ) (e : ℕ × CommitUnit) → BlocksRise units → owner units space at ≡ Some e → unit_of units e.0 ≡ Some e.1
owner_unit [] space at e rising is = absurd cc
owner_unit (f ∷ units) space at e rising is =
    let behind = All-after_first nat_cmp f.0 (keys_of units) rising in
    let rest = owner_unit units space at e (sorted_tail nat_cmp f.0 (keys_of units) rising) in
    elim (has_change space at f.1.changes) as (λ b. cond b (Some f) (owner units space at) ≡ Some e → unit_of (f ∷ units) e.0 ≡ Some e.1) [
      | true ↦ λ q. let same : f ≡ e = cc in subst (λ (z : ℕ × CommitUnit). unit_of (f ∷ units) z.0 ≡ Some z.1) same (rw (at_key f.0 f.0, nat_itself f.0) refl)
      | false ↦ λ q. rw (at_key e.0 f.0, other_block f.0 units space at e behind q) (rest q)
    ] is

pub first_in_unit : (units : UnitMap) (space at block : ℕ) (unit : CommitUnit) → BlocksRise units → unit_block units space at ≡ Some block → unit_of units block ≡ Some unit → find (is_of_entry space at) unit.changes ≡ first_change units space at
first_in_unit units space at block unit rising one two =
    elim (owner units space at) as (λ o. owner units space at ≡ o → option_map (λ e. e.0) o ≡ Some block → find (is_of_entry space at) unit.changes ≡ oldest_change_of space at o) [
      | None ↦ λ is q. absurd cc
      | Some e ↦ λ is q.
          let there = owner_unit units space at e rising is in
          let block_is : e.0 ≡ block = cc in
          let unit_is : unit ≡ e.1 = cc in
          ap (λ (u : CommitUnit). find (is_of_entry space at) u.changes) unit_is
    ] refl one

pub no_first : (units : UnitMap) (space at : ℕ) → unit_block units space at ≡ None → first_change units space at ≡ None
no_first units space at none =
    elim (owner units space at) as (λ o. option_map (λ e. e.0) o ≡ None → oldest_change_of space at o ≡ None) [
      | None ↦ λ q. refl
      | Some e ↦ λ q. absurd cc
    ] none

-- a block that was found has a unit
pub unit_there : (units : UnitMap) (space at block : ℕ) → BlocksRise units → unit_block units space at ≡ Some block → unit_of units block ≡ None → ⊥
unit_there units space at block rising one none =
    elim (owner units space at) as (λ o. owner units space at ≡ o → option_map (λ e. e.0) o ≡ Some block → ⊥) [
      | None ↦ λ is q. absurd cc
      | Some e ↦ λ is q. let there = owner_unit units space at e rising is in let block_is : e.0 ≡ block = cc in absurd cc
    ] refl one

-- what the first change found may be put back
pub first_restorable : (units : UnitMap) (space at : ℕ) (t : DataTable) (change : UnitChange) → AreRestorable units space t → first_change units space at ≡ Some change → is_entry_of t.fields change.before ≡ true
first_restorable units space at t change all is =
    elim (owner units space at) as (λ o. owner units space at ≡ o → oldest_change_of space at o ≡ Some change → is_entry_of t.fields change.before ≡ true) [
      | None ↦ λ from q. absurd cc
      | Some e ↦ λ from q.
          let unit = found_fits (λ e. All (IsRestorable space t) e.1.changes) (λ e. has_change space at e.1.changes) units e all from in
          let one = found_fits (IsRestorable space t) (is_of_entry space at) e.1.changes change unit.0 q in
          let here : change.space.0 ≡ space = eqb-true _ _ (both_true (change.space.0 == space) (change.at == at) one.1).0 in
          (both_true (nat_le 1 change.at && nat_le change.at (length t.entries)) (is_entry_of t.fields change.before) (one.0 here)).1
    ] refl is

-- ---- the entries, one after another

pub entry_here : (entries : List DataEntry) (k : ℕ) → k < length entries → drop k entries ≡ entry_at entries (suc k) ∷ drop (k + 1) entries
entry_here [] k lt = absurd (omega arith)
entry_here (e ∷ entries) zero lt = refl
entry_here (e ∷ entries) (suc k) lt =
    let next : suc (k + 1) ≡ suc k + 1 = omega arith in
    entry_here entries k (omega arith) ∙ ap (λ (n : ℕ). entry_at entries (suc k) ∷ drop n (e ∷ entries)) next

-- one more entry comes before the others
pub entry_put : (units : UnitMap) (space k : ℕ) (entries : List DataEntry) (width : ℕ) (old new : List ℕ) → k < length entries → new ≡ old ++ slot_bytes width (settled_entry units space (k + 1) (entry_at entries (k + 1)))
    → new ++ flat_map (slot_bytes width) (settled_entries units space (k + 1 + 1) (drop (k + 1) entries)) ≡ old ++ flat_map (slot_bytes width) (settled_entries units space (k + 1) (drop k entries))
entry_put units space k entries width old new lt is =
    let at : k + 1 ≡ suc k = omega arith in
    let rest = flat_map (slot_bytes width) (settled_entries units space (k + 1 + 1) (drop (k + 1) entries)) in
    ap (λ (q : List ℕ). q ++ rest) is
    ∙ append_assoc old (slot_bytes width (settled_entry units space (k + 1) (entry_at entries (k + 1)))) rest
    ∙ ap (λ (n : ℕ). old ++ (slot_bytes width (settled_entry units space (k + 1) (entry_at entries n)) ++ rest)) at
    ∙ ap (λ (es : List DataEntry). old ++ flat_map (slot_bytes width) (settled_entries units space (k + 1) es)) (sym (entry_here entries k lt))

pub room_left : (a b k w total : ℕ) → a + w ≡ b → b + k * w ≡ total → a + (k + 1) * w ≡ total
room_left a b k w total one so_far =
    let more : (k + 1) * w ≡ k * w + w = omega arith in
    omega (arith, more, one, so_far)

-- the bytes before a unit have the length of the fields
pub first_len : (units : UnitMap) (space at : ℕ) (t : DataTable) (change : UnitChange) (bytes : List ℕ) → AreRestorable units space t → first_change units space at ≡ Some change → change.before ≡ Some bytes → length bytes ≡ entry_len t.fields
first_len units space at t change bytes all is before =
    let one = first_restorable units space at t change all is in
    let fits : is_entry_of t.fields (Some bytes) ≡ true = ap (is_entry_of t.fields) (sym before) ∙ one in
    eqb-true (length bytes) (entry_len t.fields) (both_true (length bytes == entry_len t.fields) _ fits).0

-- ---- a data space in its pieces

slots_printed : (fields : List Attr) (entries : List DataEntry) → flat_map (slot fields).print entries ≡ flat_map (slot_bytes (entry_len fields)) entries
unfolding slot_bytes
slots_printed fields [] = refl
slots_printed fields (e ∷ entries) = ap (λ (t : List ℕ). slot_bytes (entry_len fields) e ++ t) (slots_printed fields entries)

pub data_bytes : (port sequence : ℕ) (fields : List Attr) (entries : List DataEntry) → data_space.print (port, (sequence, (fields, entries)))
    ≡ u64.print port ++ (u64.print sequence ++ (u16.print (length fields) ++ (flat_map attr.print fields ++ (u32.print (length entries) ++ flat_map (slot_bytes (entry_len fields)) entries))))
data_bytes port sequence fields entries =
    ap (λ (t : List ℕ). u64.print port ++ (u64.print sequence ++ ((u16.print (length fields) ++ t) ++ (u32.print (length entries) ++ print_each (copies (length entries) (slot fields)) entries)))) (times_print attr fields)
    ∙ ap (λ (t : List ℕ). u64.print port ++ (u64.print sequence ++ ((u16.print (length fields) ++ flat_map attr.print fields) ++ (u32.print (length entries) ++ t)))) (times_print (slot fields) entries ∙ slots_printed fields entries)
    ∙ ap (λ (t : List ℕ). u64.print port ++ (u64.print sequence ++ t)) (append_assoc (u16.print (length fields)) (flat_map attr.print fields) (u32.print (length entries) ++ flat_map (slot_bytes (entry_len fields)) entries))

pub settled_length : (units : UnitMap) (space at : ℕ) (entries : List DataEntry) → length (settled_entries units space at entries) ≡ length entries
settled_length units space at [] = refl
settled_length units space at (e ∷ entries) = ap suc (settled_length units space (at + 1) entries)

-- the pieces of a data space, one after another
pub data_adds : (a b c d e f g : Written) (port sequence count : ℕ) (fields : List Attr) (entries : List DataEntry) → count ≡ length entries
    → Adds a b 8 (u64.print port) → Adds b c 8 (u64.print sequence) → Adds c d 2 (u16.print (length fields)) → Adds d e (3 * length fields) (flat_map attr.print fields)
    → Adds e f 4 (u32.print count) → Adds f g (count * (1 + entry_len fields)) (flat_map (slot_bytes (entry_len fields)) entries)
    → Adds a g (data_space_image_size fields count) (data_space.print (port, (sequence, (fields, entries))))
data_adds a b c d e f g port sequence count fields entries long one two three four five six =
    let many = adds_same e f 4 4 (u32.print count) (u32.print (length entries)) five refl (ap u32.print long) in
    let all = adds_then a b g 8 _ _ _ one (adds_then b c g 8 _ _ _ two (adds_then c d g 2 _ _ _ three (adds_then d e g _ _ _ _ four (adds_then e f g 4 _ _ _ many six)))) in
    adds_same a g _ (data_space_image_size fields count) _ _ all (omega arith) (sym (data_bytes port sequence fields entries))
