-- The commit blocks are at the places of the entries that their units change.
use Rattle.std.proofs.Common.{◌≡◌, ℕ, suc, ◌==◌, Bool, true, false, cond, List, [], ◌∷◌, refl, sym, ◌∙◌, ap, subst, arith}
use Rattle.std.proofs.lemmas.Bool.Decides.{nat_tests}
use Rattle.std.proofs.lemmas.List.Folds.{list_any-append}
use Rattle.std.proofs.lemmas.Map.Entries.{lookup_from_place}
use Rattle.std.proofs.lemmas.Map.Keys.{IsDistinct-from_sorted}
use Rattle.std.proofs.lemmas.Cmp.{nat_cmp_total}
use Rattle.std.specs.Cmp.{eq_by_cmp_equiv}
use Rattle.std.specs.Prelude.{Option, Some, None, ◌&&◌, ◌||◌, find, slice_get}
use Rattle.std.specs.Option.{IsSome, option_map}
use Rattle.std.specs.declared.cmp.Ordering.{Ordering}
use Rattle.std.specs.declared.cmp.Ordering.TheVariants.{Less, Equal, Greater}
use Rattle.std.specs.Ordering.{is_eq, nat_cmp, ordering_then}
use Rattle.std.specs.List.{AllByRecursion}
use Rattle.std.specs.List.Sorted.{IsStrictlySortedBy}
use Rattle.std.specs.Map.{keys_of, lookup}
use Rattle.std.specs.BTreeMap.{BTreeMap, get, is_at}
use Rattle.s38_commits.specs.Changes.{has_change, is_of_entry}
use Rattle.s38_commits.specs.Unit.{CommitUnit, noted}
use Rattle.s38_commits.specs.Units.{BlocksRise, UnitMap, changes_entry, holder, owner, unit_block, unit_of, with_change}
use Rattle.s38_commits.specs.Places.{AreEntered, is_block, place, place_cmp}
use Rattle.s38_commits.specs.declared.change.UnitChange.{UnitChange}
use Rattle.s38_commits.specs.declared.place.Place.{Place}
use Rattle.s38_commits.proofs.MapLaws.{at_key, keys_changed, nat_itself, nat_same, other_unit, same_unit}

-- ---- places

nat_ties : (a b : ℕ) → is_eq (nat_cmp a b) ≡ (a == b)
nat_ties a b = grind (arith, nat_tests)

both_equal : (a b : Ordering) → is_eq (ordering_then a b) ≡ (is_eq a && is_eq b)
both_equal Less b = refl
both_equal Equal b = refl
both_equal Greater b = refl

-- the place of a changed entry is the place of an entry where the change is of that entry
pub place_same : (change : UnitChange) (space at : ℕ) → is_at (place_cmp (place change.space.0 change.at)) (place space at) ≡ is_of_entry space at change
place_same change space at = rw (both_equal, nat_ties change.space.0 space, nat_ties change.at at) refl

-- ---- which unit has a change of an entry

-- the block at the place of an entry, with its unit
abbrev pub block_there : UnitMap → Option ℕ → Option (ℕ × CommitUnit)
block_there units None = None
block_there units (Some block) = option_map (λ u. (block, u)) (unit_of units block)

find_alike : {X : Type 0} (p q : X → Bool) (xs : List X) → AllByRecursion (λ x. p x ≡ q x) xs → find p xs ≡ find q xs
find_alike p q [] h = refl
find_alike p q (x ∷ xs) h =
    let rest = find_alike p q xs h.1 in
    rw h.0 (ap (λ r. cond (q x) (Some x) r) rest)

find_none : (es : UnitMap) → find (λ e. is_block e.0 None) es ≡ None
find_none [] = refl
find_none (e ∷ es) = find_none es

find_block : (block : ℕ) (es : UnitMap) → find (λ e. is_block e.0 (Some block)) es ≡ option_map (λ u. (block, u)) (unit_of es block)
find_block block [] = refl
find_block block (e ∷ es) =
    let rest = find_block block es in
    rw (at_key block e.0)
    (elim (e.0 == block) as (λ b. (e.0 == block) ≡ b → cond b (Some e) (find (λ e. is_block e.0 (Some block)) es) ≡ option_map (λ u. (block, u)) (cond b (Some e.1) (unit_of es block))) [
      | true ↦ λ is. let same : e.0 ≡ block = nat_same e.0 block is in ap (λ (k : ℕ). Some (k, e.1)) same
      | false ↦ λ is. rest
    ] refl)

find_stander : (there : Option ℕ) (es : UnitMap) → find (λ e. is_block e.0 there) es ≡ block_there es there
find_stander None es = find_none es
find_stander (Some block) es = find_block block es

all_from_places : {X : Type 0} (P : X → Type 0) (xs : List X) → ((i : ℕ) (x : X) → slice_get xs i ≡ Some x → P x) → AllByRecursion P xs
all_from_places P [] h = tt
all_from_places P (x ∷ xs) h = (h 0 x refl, all_from_places P xs (λ i y e. h (suc i) y e))

-- what holds of the unit of each block holds of each pair
each_unit : (P : ℕ × CommitUnit → Type 0) (es : UnitMap) → BlocksRise es → ((block : ℕ) (u : CommitUnit) → unit_of es block ≡ Some u → P (block, u)) → AllByRecursion P es
each_unit P es rising h = all_from_places P es (λ i x e. h x.0 x.1
    (lookup_from_place (eq_by_cmp_equiv nat_cmp_total) es i x.0 x.1 (IsDistinct-from_sorted nat_cmp (keys_of es) rising) e))

changes_known : (o : Option CommitUnit) (u : CommitUnit) (space at : ℕ) → o ≡ Some u → changes_entry o space at ≡ has_change space at u.changes
changes_known o u space at h = ap (λ o. changes_entry o space at) h

pub owner_stands : (units : UnitMap) (places : BTreeMap Place ℕ) (space at : ℕ) → AreEntered units places → owner units space at ≡ block_there units (get place_cmp places (place space at))
owner_stands units places space at h =
    let there = get place_cmp places (place space at) in
    let alike : AllByRecursion (λ e. has_change space at e.1.changes ≡ is_block e.0 there) units =
    each_unit (λ e. has_change space at e.1.changes ≡ is_block e.0 there) units h.rising
    (λ block u found. sym (changes_known (unit_of units block) u space at found) ∙ sym (h.entered block space at)) in
    find_alike (λ e. has_change space at e.1.changes) (λ e. is_block e.0 there) units alike ∙ find_stander there units

-- the block at a place has a unit
stands_alone : (units : UnitMap) (there : Option ℕ) (space at : ℕ) → ((block : ℕ) → is_block block there ≡ changes_entry (unit_of units block) space at) → option_map (λ e. e.0) (block_there units there) ≡ there
stands_alone units None space at h = refl
stands_alone units (Some block) space at h =
    let on : changes_entry (unit_of units block) space at ≡ true = sym (h block) ∙ nat_itself block in
    elim (unit_of units block) as (λ o. changes_entry o space at ≡ true → option_map (λ (e : ℕ × CommitUnit). e.0) (option_map (λ u. (block, u)) o) ≡ Some block) [
      | None ↦ λ q. absurd (cc)
      | Some u ↦ λ q. refl
    ] on

pub block_stands : (units : UnitMap) (places : BTreeMap Place ℕ) (space at : ℕ) → AreEntered units places → unit_block units space at ≡ get place_cmp places (place space at)
block_stands units places space at h =
    ap (λ (o : Option (ℕ × CommitUnit)). option_map (λ e. e.0) o) (owner_stands units places space at h)
    ∙ stands_alone units (get place_cmp places (place space at)) space at (λ block. h.entered block space at)

-- ---- one more change

noted_too : (change : UnitChange) (o : Option CommitUnit) (u : CommitUnit) (space at : ℕ) → o ≡ Some u → changes_entry (option_map (noted change) o) space at ≡ (changes_entry o space at || is_of_entry space at change)
noted_too change o u space at h = rw h (list_any-append (is_of_entry space at) u.changes (change ∷ []) ∙ or_false (has_change space at u.changes) (is_of_entry space at change))
  where
    or_false : (a b : Bool) → (a || (b || false)) ≡ (a || b)
    or_false true b = refl
    or_false false true = refl
    or_false false false = refl

or_true : (a b : Bool) → b ≡ true → (a || b) ≡ true
or_true true b h = refl
or_true false b h = h

or_off : (a b : Bool) → b ≡ false → (a || b) ≡ a
or_off true b h = refl
or_off false b h = h

-- whatever is at a place is that block
abbrev pub IsFree : Option ℕ → ℕ → Type 0
IsFree there block = (other : ℕ) → there ≡ Some other → other ≡ block

free_other : (there : Option ℕ) (block other : ℕ) → IsFree there block → (other == block) ≡ false → is_block other there ≡ false
free_other None block other free off = refl
free_other (Some x) block other free off = ap (λ k. other == k) (free x refl) ∙ off

same_place : (change : UnitChange) (space at : ℕ) → is_of_entry space at change ≡ true → place change.space.0 change.at ≡ place space at
same_place change space at h =
    let spaces : change.space.0 ≡ space = nat_same change.space.0 space (and_left (change.space.0 == space) (change.at == at) h) in
    let ordinals : change.at ≡ at = nat_same change.at at (and_right (change.space.0 == space) (change.at == at) h) in
    ap (λ n. place n change.at) spaces ∙ ap (place space) ordinals
  where
    and_left : (a b : Bool) → (a && b) ≡ true → a ≡ true
    and_left true b h = refl
    and_left false b h = h

    and_right : (a b : Bool) → (a && b) ≡ true → b ≡ true
    and_right true b h = h
    and_right false b h = absurd (cc)

-- at the block whose unit has one more change
more_here : (block : ℕ) (b : Bool) (old : Option ℕ) → is_block block (cond b (Some block) old) ≡ (is_block block old || b)
more_here block true old = nat_itself block ∙ sym (or_true (is_block block old) true refl)
more_here block false old = sym (or_off (is_block block old) false refl)

-- at any other block
more_there : (block other : ℕ) (b : Bool) (old : Option ℕ) → (other == block) ≡ false → (b ≡ true → IsFree old block) → is_block other (cond b (Some block) old) ≡ is_block other old
more_there block other true old off free = off ∙ sym (free_other old block other (free refl) off)
more_there block other false old off free = refl

pub entered_more : (units : UnitMap) (places new : BTreeMap Place ℕ) (change : UnitChange) (block : ℕ) (u : CommitUnit) → AreEntered units places → unit_of units block ≡ Some u →
    IsFree (get place_cmp places (place change.space.0 change.at)) block →
    ((q : Place) → get place_cmp new q ≡ cond (is_at (place_cmp (place change.space.0 change.at)) q) (Some block) (get place_cmp places q)) →
    AreEntered (with_change units block change) new
entered_more units places new change block u h found free updated = record {
  rising = subst (λ (ks : List ℕ). IsStrictlySortedBy nat_cmp ks) (sym (keys_changed block (noted change) units)) h.rising;
  entered = λ k space at.
      let b = is_of_entry space at change in
      let old = get place_cmp places (place space at) in
      let now : get place_cmp new (place space at) ≡ cond b (Some block) old =
      updated (place space at) ∙ ap (λ c. cond c (Some block) old) (place_same change space at) in
      let freed : b ≡ true → IsFree old block = λ on. subst (λ (p : Place). IsFree (get place_cmp places p) block) (same_place change space at on) free in
      let here : is_block block (cond b (Some block) old) ≡ changes_entry (unit_of (with_change units block change) block) space at =
      more_here block b old ∙ ap (λ c. c || b) (h.entered block space at)
      ∙ sym (noted_too change (unit_of units block) u space at found)
      ∙ sym (ap (λ o. changes_entry o space at) (same_unit block (noted change) units)) in
      ap (is_block k) now
      ∙ elim (k == block) as (λ c. (k == block) ≡ c → is_block k (cond b (Some block) old) ≡ changes_entry (unit_of (with_change units block change) k) space at) [
        | true ↦ λ is. subst (λ (n : ℕ). is_block n (cond b (Some block) old) ≡ changes_entry (unit_of (with_change units block change) n) space at) (sym (nat_same k block is)) here
        | false ↦ λ off. more_there block k b old off freed ∙ h.entered k space at ∙ sym (ap (λ o. changes_entry o space at) (other_unit block k (noted change) units off))
      ] refl;
}

-- ---- nothing changes

pub entered_same : (units kept : UnitMap) (places held : BTreeMap Place ℕ) → AreEntered units places → kept ≡ units → held.entries ≡ places.entries → AreEntered kept held
entered_same units kept places held h same alike = record {
  rising = subst (λ (us : UnitMap). BlocksRise us) (sym same) h.rising;
  entered = λ block space at.
      ap (λ (es : List (Place × ℕ)). is_block block (lookup (is_at (place_cmp (place space at))) es)) alike
      ∙ h.entered block space at
      ∙ ap (λ (us : UnitMap). changes_entry (unit_of us block) space at) (sym same);
}

-- ---- a unit ends

is_one : (block other : ℕ) (there : Option ℕ) → is_block block there ≡ true → (other == block) ≡ false → is_block other there ≡ false
is_one block other None on off = refl
is_one block other (Some x) on off = ap (λ k. other == k) (sym (nat_same block x on)) ∙ off

less_here : (block : ℕ) (b : Bool) (old : Option ℕ) → is_block block old ≡ b → is_block block (cond b None old) ≡ false
less_here block true old is = refl
less_here block false old is = is

less_there : (block other : ℕ) (b : Bool) (old : Option ℕ) → is_block block old ≡ b → (other == block) ≡ false → is_block other (cond b None old) ≡ is_block other old
less_there block other true old is off = sym (is_one block other old is off)
less_there block other false old is off = refl

pub entered_less : (units left : UnitMap) (places new : BTreeMap Place ℕ) (block : ℕ) (u : CommitUnit) → AreEntered units places → unit_of units block ≡ Some u → BlocksRise left →
    ((q : ℕ) → unit_of left q ≡ cond (is_at (nat_cmp block) q) None (unit_of units q)) →
    ((space at : ℕ) → get place_cmp new (place space at) ≡ cond (has_change space at u.changes) None (get place_cmp places (place space at))) →
    AreEntered left new
entered_less units left places new block u h found rising removed gone = record {
  rising = rising;
  entered = λ k space at.
      let b = has_change space at u.changes in
      let old = get place_cmp places (place space at) in
      let is : is_block block old ≡ b = h.entered block space at ∙ changes_known (unit_of units block) u space at found in
      let after : unit_of left k ≡ cond (k == block) None (unit_of units k) = removed k ∙ ap (λ c. cond c None (unit_of units k)) (at_key block k) in
      ap (is_block k) (gone space at)
      ∙ elim (k == block) as (λ c. (k == block) ≡ c → is_block k (cond b None old) ≡ changes_entry (cond c None (unit_of units k)) space at) [
        | true ↦ λ same. subst (λ (n : ℕ). is_block n (cond b None old) ≡ false) (sym (nat_same k block same)) (less_here block b old is)
        | false ↦ λ off. less_there block k b old is off ∙ h.entered k space at
      ] refl
      ∙ sym (ap (λ o. changes_entry o space at) after);
}

pub gone_too : (places new : BTreeMap Place ℕ) (shown changes : List UnitChange) → shown ≡ changes →
    ((space at : ℕ) → get place_cmp new (place space at) ≡ cond (has_change space at shown) None (get place_cmp places (place space at))) →
    (space at : ℕ) → get place_cmp new (place space at) ≡ cond (has_change space at changes) None (get place_cmp places (place space at))
gone_too places new shown changes same gone space at =
    gone space at ∙ ap (λ (cs : List UnitChange). cond (has_change space at cs) None (get place_cmp places (place space at))) same

-- ---- what is read

pub block_read : (units seen : UnitMap) (places : BTreeMap Place ℕ) (space at : ℕ) (p : Place) (r : Option ℕ) → AreEntered units places → units ≡ seen → p ≡ place space at → r ≡ get place_cmp places p → r ≡ unit_block seen space at
block_read units seen places space at p r h same is read =
    read ∙ ap (get place_cmp places) is ∙ sym (block_stands units places space at h) ∙ ap (λ (us : UnitMap). unit_block us space at) same

-- the process of the unit that is at a place, if there is one
abbrev pub process_at : ℕ → Option CommitUnit → Option ℕ
process_at block o = option_map (λ (e : ℕ × CommitUnit). e.1.process) (option_map (λ u. (block, u)) o)

pub holder_read : (units seen : UnitMap) (places : BTreeMap Place ℕ) (space at : ℕ) (p : Place) (r : Option ℕ) → AreEntered units places → units ≡ seen → p ≡ place space at → r ≡ get place_cmp places p →
    option_map (λ e. e.1.process) (block_there units r) ≡ holder seen space at
holder_read units seen places space at p r h same is read =
    ap (λ (o : Option ℕ). option_map (λ (e : ℕ × CommitUnit). e.1.process) (block_there units o)) (read ∙ ap (get place_cmp places) is)
    ∙ ap (λ (o : Option (ℕ × CommitUnit)). option_map (λ e. e.1.process) o) (sym (owner_stands units places space at h))
    ∙ ap (λ (us : UnitMap). holder us space at) same

-- no unit is at a place, or that of the block
pub free_read : (units seen : UnitMap) (places : BTreeMap Place ℕ) (space at block : ℕ) → AreEntered units places → units ≡ seen → IsFree (unit_block seen space at) block → IsFree (get place_cmp places (place space at)) block
free_read units seen places space at block h same free =
    subst (λ (o : Option ℕ). IsFree o block) (ap (λ (us : UnitMap). unit_block us space at) (sym same) ∙ block_stands units places space at h) free

-- ---- a change is noted

some_unit : (o : Option CommitUnit) → IsSome o → (u : CommitUnit) × (o ≡ Some u)
some_unit None h = absurd (cc)
some_unit (Some u) h = (u, refl)

pub noted_entered : (units seen after : UnitMap) (places new : BTreeMap Place ℕ) (change copy : UnitChange) (block : ℕ) (p : Place) → AreEntered units places → units ≡ seen →
    after ≡ with_change units block copy → copy ≡ change → IsSome (unit_of seen block) → IsFree (unit_block seen change.space.0 change.at) block → p ≡ place change.space.0 change.at →
    ((q : Place) → get place_cmp new q ≡ cond (is_at (place_cmp p) q) (Some block) (get place_cmp places q)) → AreEntered after new
noted_entered units seen after places new change copy block p h same more is begun free at updated =
    let there = some_unit (unit_of units block) (subst (λ (us : UnitMap). IsSome (unit_of us block)) (sym same) begun) in
    let freed = free_read units seen places change.space.0 change.at block h same free in
    let entered : AreEntered (with_change units block change) new = entered_more units places new change block there.0 h there.1 freed
    (λ q. updated q ∙ ap (λ (r : Place). cond (is_at (place_cmp r) q) (Some block) (get place_cmp places q)) at) in
    subst (λ (us : UnitMap). AreEntered us new) (sym (more ∙ ap (λ (c : UnitChange). with_change units block c) is)) entered
