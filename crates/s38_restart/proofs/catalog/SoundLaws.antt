-- What groups hold by themselves, where their numbers rise: the objects, and the faults of the others.
use Rattle.std.proofs.Common.{◌≡◌, ℕ, ◌+◌, ◌<◌, ◌==◌, Bool, true, false, cond, List, [], ◌∷◌, ◌++◌, length, get_or, take, map, refl, sym, ap, subst, ◌∙◌, arith}
use Rattle.std.proofs.lemmas.Bool.Decides.{nat_tests}
use Rattle.std.proofs.lemmas.List.{take_more}
use Rattle.std.proofs.lemmas.List.Elements.{filter_map-append}
use Rattle.std.proofs.lemmas.Map.Keys.{IsStrictlyIncreasing-from_sorted, sorted_from_strictly_increasing, sorted_head, sorted_tail}
use Rattle.std.specs.Prelude.{Option, Some, None, Result, Ok, Err, filter_map, find, nat_lt, slice_get}
use Rattle.std.specs.List.{AllByRecursion, cons_option}
use Rattle.std.specs.List.Sorted.{IsStrictlyIncreasing, IsStrictlySortedBy}
use Rattle.std.specs.Option.{option_and_then}
use Rattle.std.specs.Ordering.{nat_cmp}
use Rattle.std.specs.Result.{result_ok}
use Rattle.std.specs.declared.cmp.Ordering.TheVariants.{Less}
use Rattle.s38_image.specs.Faults.{Group, fault_after, first_fault_of, group, group_has_number, header_at, is_bad_body, is_bad_header, or_next, sound, sound_at, sound_by}
use Rattle.s38_image.specs.Images.{object_of_parts}
use Rattle.s38_image.specs.PartPlaces.{body_part}
use Rattle.s38_image.specs.declared.header.Header.{Header}
use Rattle.s38_image.specs.declared.stored.Stored.{Stored}
use Rattle.s38_restart.specs.catalog.Readings.{all_faults, all_sound, fault_alone, fault_in, first_beside, is_object, lower, outcome, stored_number}
use Rattle.s38_restart.specs.catalog.Runs.{number_of}
use Rattle.s38_restart.proofs.catalog.LawfulLaws.{object_headed}
use Rattle.s38_restart.proofs.catalog.ReadLaws.{fault_outcome, ok_outcome}

is_lower : (a b : ℕ) → nat_cmp a b ≡ Less → nat_lt a b ≡ true
is_lower a b h = grind (arith, nat_tests)

is_no_lower : (a b : ℕ) → nat_cmp a b ≡ Less → nat_lt b a ≡ false
is_no_lower a b h = grind (arith, nat_tests)

is_other : (a b : ℕ) → nat_cmp a b ≡ Less → (b == a) ≡ false
is_other a b h = grind (arith, nat_tests)

same_number : (a b : ℕ) → (a == b) ≡ true → a ≡ b
same_number a b h = grind (arith, nat_tests)

-- all numbers are above one
abbrev AreAbove : ℕ → List ℕ → Type 0
AreAbove n ns = AllByRecursion (λ k. nat_cmp n k ≡ Less) ns

none_found : (n : ℕ) (ss : List Stored) → AreAbove n (map stored_number ss) → find (is_object n) ss ≡ None
none_found n [] above = refl
none_found n (s ∷ ss) above =
    let other : is_object n s ≡ false = is_other n (stored_number s) above.0 in
    rw other (none_found n ss above.1)

module _ (all : List Group) (limit ceiling : ℕ) where
  abbrev objects : List Group → List Stored
  objects gs = filter_map (sound all limit ceiling) gs

  abbrev faults : List Group → List (ℕ × ℕ)
  faults gs = filter_map (fault_alone all limit ceiling) gs

  -- ---- the objects have the numbers of their groups

  sound_by_test : (g : Group) (h : Header) (t s : Stored) (b : Bool) → header_at g ≡ Some h → object_of_parts limit g.number g.parts ≡ Ok t → cond b None (Some t) ≡ Some s → stored_number s ≡ g.number
  sound_by_test g h t s true e read is = absurd (cc)
  sound_by_test g h t s false e read is =
      let same : s ≡ t = cc in
      ap stored_number same ∙ (object_headed limit g.number g.parts h t e read).number

  sound_by_parts : (g : Group) (h : Option Header) (r : Result Stored ℕ) (s : Stored) → header_at g ≡ h → object_of_parts limit g.number g.parts ≡ r → sound_by all limit ceiling g h r ≡ Some s → stored_number s ≡ g.number
  sound_by_parts g None r s e read is = absurd (cc)
  sound_by_parts g (Some h) (Err part) s e read is = absurd (cc)
  sound_by_parts g (Some h) (Ok t) s e read is = sound_by_test g h t s (is_bad_header all ceiling g.number h) e read is

  sound_number : (g : Group) (s : Stored) → sound all limit ceiling g ≡ Some s → stored_number s ≡ g.number
  sound_number g s is = sound_by_parts g (header_at g) (object_of_parts limit g.number g.parts) s refl refl is

  sound_above : (n : ℕ) (gs : List Group) → AreAbove n (map number_of gs) → AreAbove n (map stored_number (objects gs))
  sound_above n [] above = tt
  sound_above n (g ∷ gs) above =
      let rest = sound_above n gs above.1 in
      elim (sound all limit ceiling g) as (λ o. sound all limit ceiling g ≡ o → AreAbove n (map stored_number (cons_option o (objects gs)))) [
        | None ↦ λ is. rest
        | Some s ↦ λ is. (subst (λ (k : ℕ). nat_cmp n k ≡ Less) (sym (sound_number g s is)) above.0, rest)
      ] refl

  sound_sorted : (gs : List Group) → IsStrictlySortedBy nat_cmp (map number_of gs) → IsStrictlySortedBy nat_cmp (map stored_number (objects gs))
  unfolding IsStrictlySortedBy
  sound_sorted [] h = tt
  sound_sorted (g ∷ gs) h =
      let rest = sound_sorted gs (sorted_tail nat_cmp g.number (map number_of gs) h) in
      let above = sound_above g.number gs (sorted_head nat_cmp g.number (map number_of gs) h) in
      elim (sound all limit ceiling g) as (λ o. sound all limit ceiling g ≡ o → IsStrictlySortedBy nat_cmp (map stored_number (cons_option o (objects gs)))) [
        | None ↦ λ is. rest
        | Some s ↦ λ is. (subst (λ (k : ℕ). AreAbove k (map stored_number (objects gs))) (sym (sound_number g s is)) above, rest)
      ] refl

  -- the numbers of the objects rise
  pub sound_rise : (gs : List Group) → IsStrictlyIncreasing (map number_of gs) → IsStrictlyIncreasing (map stored_number (objects gs))
  sound_rise gs h = IsStrictlyIncreasing-from_sorted (map stored_number (objects gs)) (sound_sorted gs (sorted_from_strictly_increasing (map number_of gs) h))

  -- ---- the object of a number

  find_sorted : (n : ℕ) (gs : List Group) → IsStrictlySortedBy nat_cmp (map number_of gs) → find (is_object n) (objects gs) ≡ option_and_then (sound all limit ceiling) (group gs n)
  find_sorted n [] h = refl
  find_sorted n (g ∷ gs) h =
      let rest = find_sorted n gs (sorted_tail nat_cmp g.number (map number_of gs) h) in
      let above = sound_above g.number gs (sorted_head nat_cmp g.number (map number_of gs) h) in
      elim (sound all limit ceiling g) as (λ o. sound all limit ceiling g ≡ o → find (is_object n) (cons_option o (objects gs)) ≡ option_and_then (sound all limit ceiling) (cond (group_has_number n g) (Some g) (group gs n))) [
        | None ↦ λ is. elim (group_has_number n g) as (λ b. group_has_number n g ≡ b → find (is_object n) (objects gs) ≡ option_and_then (sound all limit ceiling) (cond b (Some g) (group gs n))) [
          | true ↦ λ q. none_found n (objects gs) (subst (λ (k : ℕ). AreAbove k (map stored_number (objects gs))) (same_number g.number n q) above) ∙ sym is
          | false ↦ λ q. rest
        ] refl
        | Some s ↦ λ is.
            let one : is_object n s ≡ group_has_number n g = ap (λ (k : ℕ). k == n) (sound_number g s is) in
            elim (group_has_number n g) as (λ b. group_has_number n g ≡ b → cond (is_object n s) (Some s) (find (is_object n) (objects gs)) ≡ option_and_then (sound all limit ceiling) (cond b (Some g) (group gs n))) [
              | true ↦ λ q. ap (λ (b : Bool). cond b (Some s) (find (is_object n) (objects gs))) (one ∙ q) ∙ sym is
              | false ↦ λ q. ap (λ (b : Bool). cond b (Some s) (find (is_object n) (objects gs))) (one ∙ q) ∙ rest
            ] refl
      ] refl

  -- ---- the first fault

  beside_above : (n part : ℕ) (ss : List Stored) → AreAbove n (map stored_number ss) → lower (first_beside all limit ceiling ss) (Some (n, part)) ≡ Some (n, part)
  beside_above n part [] above = refl
  beside_above n part (s ∷ ss) above =
      let rest = beside_above n part ss above.1 in
      elim (is_bad_body all limit ceiling s.sequence s.object.body) as (λ b. lower (cond b (Some (stored_number s, body_part)) (first_beside all limit ceiling ss)) (Some (n, part)) ≡ Some (n, part)) [
        | true ↦ ap (λ (b : Bool). cond b (Some (stored_number s, body_part)) (Some (n, part))) (is_no_lower n (stored_number s) above.0)
        | false ↦ rest
      ]

  alone_above : (n part : ℕ) (gs : List Group) → AreAbove n (map number_of gs) → lower (Some (n, part)) (slice_get (faults gs) 0) ≡ Some (n, part)
  alone_above n part [] above = refl
  alone_above n part (g ∷ gs) above =
      let rest = alone_above n part gs above.1 in
      elim (outcome all limit ceiling g) as (λ r. lower (Some (n, part)) (slice_get (cons_option (fault_in g.number r) (faults gs)) 0) ≡ Some (n, part)) [
        | Ok s ↦ rest
        | Err p ↦ ap (λ (b : Bool). cond b (Some (n, part)) (Some (g.number, p))) (is_lower n g.number above.0)
      ]

  first_good : (g : Group) (gs : List Group) (s : Stored) → sound all limit ceiling g ≡ Some s → AreAbove g.number (map number_of gs) → first_fault_of all limit ceiling gs ≡ lower (first_beside all limit ceiling (objects gs)) (slice_get (faults gs) 0) →
      or_next g.number (fault_after all limit ceiling (Ok s)) (first_fault_of all limit ceiling gs) ≡ lower (first_beside all limit ceiling (s ∷ objects gs)) (slice_get (faults gs) 0)
  first_good g gs s is above rest =
      elim (is_bad_body all limit ceiling s.sequence s.object.body) as (λ b. or_next g.number (cond b (Some body_part) None) (first_fault_of all limit ceiling gs) ≡ lower (cond b (Some (stored_number s, body_part)) (first_beside all limit ceiling (objects gs))) (slice_get (faults gs) 0)) [
        | true ↦ sym (alone_above g.number body_part gs above) ∙ ap (λ (k : ℕ). lower (Some (k, body_part)) (slice_get (faults gs) 0)) (sym (sound_number g s is))
        | false ↦ rest
      ]

  first_sorted : (gs : List Group) → IsStrictlySortedBy nat_cmp (map number_of gs) → first_fault_of all limit ceiling gs ≡ lower (first_beside all limit ceiling (objects gs)) (slice_get (faults gs) 0)
  first_sorted [] h = refl
  first_sorted (g ∷ gs) h =
      let rest = first_sorted gs (sorted_tail nat_cmp g.number (map number_of gs) h) in
      let above = sorted_head nat_cmp g.number (map number_of gs) h in
      let by : (r : Result Stored ℕ) → outcome all limit ceiling g ≡ r →
      or_next g.number (fault_after all limit ceiling r) (first_fault_of all limit ceiling gs) ≡ lower (first_beside all limit ceiling (cons_option (result_ok r) (objects gs))) (slice_get (cons_option (fault_in g.number r) (faults gs)) 0) = λ r. elim r as (λ r. outcome all limit ceiling g ≡ r →
      or_next g.number (fault_after all limit ceiling r) (first_fault_of all limit ceiling gs) ≡ lower (first_beside all limit ceiling (cons_option (result_ok r) (objects gs))) (slice_get (cons_option (fault_in g.number r) (faults gs)) 0)) [
        | Ok s ↦ λ is. first_good g gs s (sym (ok_outcome all limit ceiling g) ∙ ap result_ok is) above rest
        | Err part ↦ λ is. sym (beside_above g.number part (objects gs) (sound_above g.number gs above))
      ] in
      ap (λ (o : Option ℕ). or_next g.number o (first_fault_of all limit ceiling gs)) (fault_outcome all limit ceiling g)
      ∙ by (outcome all limit ceiling g) refl
      ∙ ap (λ (o : Option Stored). lower (first_beside all limit ceiling (cons_option o (objects gs))) (slice_get (cons_option (fault_in g.number (outcome all limit ceiling g)) (faults gs)) 0)) (ok_outcome all limit ceiling g)

  -- ---- one group after another

  pub stored_more : (gs : List Group) (i : ℕ) (g : Group) (r : Result Stored ℕ) → i < length gs → g ≡ get_or gs i g → r ≡ outcome all limit ceiling g → objects (take (i + 1) gs) ≡ objects (take i gs) ++ cons_option (result_ok r) []
  stored_more gs i g r lt at is =
      ap (λ (l : List Group). objects l) (take_more gs i g lt) ∙ filter_map-append (sound all limit ceiling) (take i gs) (get_or gs i g ∷ [])
      ∙ ap (λ (x : Group). objects (take i gs) ++ cons_option (sound all limit ceiling x) []) (sym at)
      ∙ ap (λ (o : Option Stored). objects (take i gs) ++ cons_option o []) (sym (ok_outcome all limit ceiling g) ∙ ap result_ok (sym is))

  pub faults_more : (gs : List Group) (i : ℕ) (g : Group) (r : Result Stored ℕ) → i < length gs → g ≡ get_or gs i g → r ≡ outcome all limit ceiling g → faults (take (i + 1) gs) ≡ faults (take i gs) ++ cons_option (fault_in g.number r) []
  faults_more gs i g r lt at is =
      ap (λ (l : List Group). faults l) (take_more gs i g lt) ∙ filter_map-append (fault_alone all limit ceiling) (take i gs) (get_or gs i g ∷ [])
      ∙ ap (λ (x : Group). faults (take i gs) ++ cons_option (fault_alone all limit ceiling x) []) (sym at)
      ∙ ap (λ (x : Result Stored ℕ). faults (take i gs) ++ cons_option (fault_in g.number x) []) (sym is)

-- what is found among the objects
pub found_sound : (gs : List Group) (limit ceiling n : ℕ) → IsStrictlyIncreasing (map number_of gs) → find (is_object n) (all_sound gs limit ceiling) ≡ sound_at gs limit ceiling n
found_sound gs limit ceiling n rising = find_sorted gs limit ceiling n gs (sorted_from_strictly_increasing (map number_of gs) rising)

pub first_is : (gs : List Group) (limit ceiling : ℕ) → IsStrictlyIncreasing (map number_of gs) → first_fault_of gs limit ceiling gs ≡ lower (first_beside gs limit ceiling (all_sound gs limit ceiling)) (slice_get (all_faults gs limit ceiling) 0)
first_is gs limit ceiling rising = first_sorted gs limit ceiling gs (sorted_from_strictly_increasing (map number_of gs) rising)
