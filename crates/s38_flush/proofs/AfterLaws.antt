-- The parts that are durable after a step, number by number.
use Rattle.std.proofs.Common.{◌==◌, ◌∙◌, ◌∷◌, ◌≡◌, ◌++◌, ◌<◌, Bool, List, [], ap, arith, cond, false, map, refl, subst, true, ℕ}
use Rattle.std.proofs.lemmas.Bool.Decides.{nat_tests}
use Rattle.std.proofs.lemmas.Map.Keys.{sorted_from_strictly_increasing, sorted_head, sorted_tail}
use Rattle.std.specs.List.{AllByRecursion, flat_map, list_any}
use Rattle.std.specs.List.Sorted.{IsStrictlySortedBy}
use Rattle.std.specs.Ordering.{nat_cmp}
use Rattle.std.specs.Prelude.{None, Option, Some}
use Rattle.std.specs.declared.cmp.Ordering.TheVariants.{Less}
use Rattle.s38_base.specs.declared.id.ObjNum.{ObjNum}
use Rattle.s38_image.specs.PartPlaces.{ceiling_key}
use Rattle.s38_image.specs.declared.stored.Stored.{Stored}
use Rattle.s38_rules.specs.store.Forcing.{Forced, is_whole}
use Rattle.s38_rules.specs.state.Held.{has_number, object, object_in}
use Rattle.s38_rules.specs.state.State.{State}
use Rattle.s38_rules.specs.declared.object.Object.{Object}
use Rattle.s38_durable_state.specs.Durable.{Durable, durable_after, followed_or_whole, is_of_number, kept, kept_after, kept_by_force, whole_object}
use Rattle.s38_durable_state.specs.Following.{NumbersRise, object_number}
use Rattle.s38_durable_state.specs.Represents.{ceiling_parts, parts_at, parts_in}
use Rattle.s38_flush.specs.Stepping.{kept_there}

-- ---- what is kept under a number

-- what is kept of an object has its number
number_kept : (all : List Forced) (s : State) (old : Option Stored) (o : Object) → (kept_after all s old o).object.number ≡ o.number
number_kept all s old o = by (list_any (is_whole o.number.0) all) old
  where
    by : (b : Bool) (x : Option Stored) → (cond b (whole_object s o) (followed_or_whole s o x)).object.number ≡ o.number
    by true x = refl
    by false None = refl
    by false (Some x) = refl

-- what is kept of the object that a number leads to
abbrev pub kept_one : List Forced → State → List Stored → Option Object → Option Stored
kept_one all s old None = None
kept_one all s old (Some o) = kept_there all s old o

-- a number below all is that of none
none_below : (n : ℕ) (os : List Object) → AllByRecursion (λ k. nat_cmp n k ≡ Less) (map object_number os) → object_in os n ≡ None
none_below n [] above = refl
none_below n (o ∷ os) above =
    let here : nat_cmp n o.number.0 ≡ Less = above.0 in
    let off : (o.number.0 == n) ≡ false = grind (arith, nat_tests) in
    rw off (none_below n os above.1)

first_kept : (all : List Forced) (s : State) (old : List Stored) (o : Object) (os : List Object) (n : ℕ) → (has_number n o ≡ true → object_in os n ≡ None)
    → kept (flat_map (kept_by_force all s old) os) n ≡ kept_one all s old (object_in os n) → kept (kept_by_force all s old o ++ flat_map (kept_by_force all s old) os) n ≡ kept_one all s old (object_in (o ∷ os) n)
first_kept all s old o os n none rest = by o.on_disk refl (has_number n o) refl
  where
    x : Stored
    x = kept_after all s (kept old o.number.0) o

    same : is_of_number n x ≡ has_number n o
    same = ap (λ (k : ObjNum). k.0 == n) (number_kept all s (kept old o.number.0) o)

    by : (disk : Bool) → o.on_disk ≡ disk → (b : Bool) → has_number n o ≡ b → kept (cond disk (x ∷ []) [] ++ flat_map (kept_by_force all s old) os) n ≡ kept_one all s old (cond b (Some o) (object_in os n))
    by true on true is = rw (same, is, on) refl
    by true on false is = rw (same, is) rest
    by false off true is = rest ∙ ap (kept_one all s old) (none is) ∙ rw off refl
    by false off false is = rest

all_kept : (all : List Forced) (s : State) (old : List Stored) (os : List Object) (n : ℕ) → IsStrictlySortedBy nat_cmp (map object_number os)
    → kept (flat_map (kept_by_force all s old) os) n ≡ kept_one all s old (object_in os n)
all_kept all s old [] n rising = refl
all_kept all s old (o ∷ os) n rising =
    let above = sorted_head nat_cmp o.number.0 (map object_number os) rising in
    let rest = all_kept all s old os n (sorted_tail nat_cmp o.number.0 (map object_number os) rising) in
    first_kept all s old o os n (λ is. let here : o.number.0 ≡ n = grind (arith, nat_tests) in subst (λ (k : ℕ). object_in os k ≡ None) here (none_below o.number.0 os above)) rest

pub kept_after_step : (all : List Forced) (d : Durable) (s : State) (n : ℕ) → NumbersRise s.held → kept (durable_after all d s).objects n ≡ kept_one all s d.objects (object s.held n)
kept_after_step all d s n rising = all_kept all s d.objects s.held.objects n (sorted_from_strictly_increasing (map object_number s.held.objects) rising)

-- ---- the parts

-- it is another number than that of the ceiling
pub apart_below : (k : ℕ) → k < ceiling_key → (k == ceiling_key) ≡ false
apart_below k low = by (k == ceiling_key) refl
  where
    by : (b : Bool) → (k == ceiling_key) ≡ b → b ≡ false
    by true is = absurd (let same : k ≡ ceiling_key = grind (arith, nat_tests) in omega (arith, same, low))
    by false is = refl

-- of a number that is not that of the ceiling
pub parts_below : (d : Durable) (n : ℕ) → n < ceiling_key → parts_at d n ≡ parts_in (kept d.objects n)
parts_below d n low = ap (λ b. cond b (ceiling_parts d.ceiling) (parts_in (kept d.objects n))) (apart_below n low)

pub parts_after_step : (all : List Forced) (d : Durable) (s : State) (n : ℕ) → NumbersRise s.held → n < ceiling_key → parts_at (durable_after all d s) n ≡ parts_in (kept_one all s d.objects (object s.held n))
parts_after_step all d s n rising low = parts_below (durable_after all d s) n low ∙ ap parts_in (kept_after_step all d s n rising)
