-- What is kept of each object after a step, found by number.
use Rattle.std.proofs.Common.{◌==◌, ◌∙◌, ◌∷◌, ◌≡◌, ◌++◌, Bool, List, [], ap, arith, cond, false, refl, subst, sym, true, ℕ}
use Rattle.std.proofs.lemmas.Bool.Decides.{nat_tests}
use Rattle.std.proofs.lemmas.List.Elements.{All-from_recursion, All-head, All-tail}
use Rattle.std.proofs.lemmas.Map.Keys.{sorted_from_strictly_increasing, sorted_head, sorted_tail}
use Rattle.std.specs.List.{AllByRecursion, flat_map, list_any}
use Rattle.std.specs.List.Sorted.{IsStrictlySortedBy}
use Rattle.std.specs.Option.{option_map}
use Rattle.std.specs.Ordering.{nat_cmp}
use Rattle.std.specs.Prelude.{All, None, Option, Some, map}
use Rattle.std.specs.declared.cmp.Ordering.TheVariants.{Less}
use Rattle.s38_base.specs.declared.id.ObjNum.{ObjNum}
use Rattle.s38_durable_state.specs.Durable.{Durable, durable_after, followed_or_whole, is_of_number, kept, kept_after, kept_by_force, whole_object}
use Rattle.s38_durable_state.specs.Following.{Follows, Header, NumbersRise, header_kept, image_header_in, image_header_of, object_number}
use Rattle.s38_image.specs.declared.stored.Stored.{Stored}
use Rattle.s38_rules.specs.store.Forcing.{Forced, is_whole}
use Rattle.s38_rules.specs.state.Held.{Held, has_number, object, object_in}
use Rattle.s38_rules.specs.state.State.{State}
use Rattle.s38_rules.specs.declared.object.Object.{Object}

-- ---- objects of a list

pub same_object : (x y : Object) → Some x ≡ Some y → x ≡ y
same_object x y h = cc

-- what is true of each object is true of one that is found
pub found_all : (P : Object → Type 0) (os : List Object) (n : ℕ) (o : Object) → All P os → object_in os n ≡ Some o → P o
found_all P [] n o all h = cc
found_all P (x ∷ os) n o all h = by (found_all P os n o (All-tail P x os all)) (has_number n x) h
  where
    by : (object_in os n ≡ Some o → P o) → (b : Bool) → cond b (Some x) (object_in os n) ≡ Some o → P o
    by rest true e = subst P (same_object x o e) (All-head P x os all)
    by rest false e = rest e

-- a number below all is that of none
none_below : (n : ℕ) (os : List Object) → AllByRecursion (λ k. nat_cmp n k ≡ Less) (map object_number os) → object_in os n ≡ None
none_below n [] above = refl
none_below n (o ∷ os) above =
    let here : nat_cmp n o.number.0 ≡ Less = above.0 in
    let off : (o.number.0 == n) ≡ false = grind (arith, nat_tests) in
    rw off (none_below n os above.1)

number_is : (a b : ℕ) → (a == b) ≡ true → a ≡ b
number_is a b h = grind (arith, nat_tests)

not_found : (o : Object) (r : Option Object) → r ≡ None → r ≡ Some o → ⊥
not_found o r none some = cc

-- what is true of all that is found by its number is true of all, where numbers rise
each_found : (P : Object → Type 0) (os : List Object) → IsStrictlySortedBy nat_cmp (map object_number os) → ((o : Object) → object_in os o.number.0 ≡ Some o → P o) → AllByRecursion P os
each_found P [] rising next = tt
each_found P (x ∷ os) rising next =
    let self : (x.number.0 == x.number.0) ≡ true = grind (arith, nat_tests) in
    let above = sorted_head nat_cmp x.number.0 (map object_number os) rising in
    (next x (rw self refl), each_found P os (sorted_tail nat_cmp x.number.0 (map object_number os) rising) (λ o found. next o (behind above o found (x.number.0 == o.number.0) refl)))
  where
    behind : AllByRecursion (λ k. nat_cmp x.number.0 k ≡ Less) (map object_number os) → (o : Object) → object_in os o.number.0 ≡ Some o → (b : Bool) → (x.number.0 == o.number.0) ≡ b → cond b (Some x) (object_in os o.number.0) ≡ Some o
    behind above o found true same = absurd (not_found o (object_in os o.number.0) (subst (λ (n : ℕ). object_in os n ≡ None) (number_is x.number.0 o.number.0 same) (none_below x.number.0 os above)) found)
    behind above o found false other = found

pub all_found : (P : Object → Type 0) (h : Held) → NumbersRise h → ((o : Object) → object h o.number.0 ≡ Some o → P o) → All P h.objects
all_found P h rising next = All-from_recursion P h.objects (each_found P h.objects (sorted_from_strictly_increasing (map object_number h.objects) rising) next)

-- ---- what is kept after a step

number_kept : (all : List Forced) (s : State) (old : Option Stored) (o : Object) → (kept_after all s old o).object.number ≡ o.number
number_kept all s old o = by (list_any (is_whole o.number.0) all) old
  where
    by : (b : Bool) (x : Option Stored) → (cond b (whole_object s o) (followed_or_whole s o x)).object.number ≡ o.number
    by true x = refl
    by false None = refl
    by false (Some x) = refl

-- what is kept of the object that a number leads to
abbrev pub kept_one : List Forced → State → List Stored → Option Object → Option Stored
kept_one all s old None = None
kept_one all s old (Some o) = cond o.on_disk (Some (kept_after all s (kept old o.number.0) o)) None

first_kept : (all : List Forced) (s : State) (old : List Stored) (o : Object) (os : List Object) (n : ℕ) → (has_number n o ≡ true → object_in os n ≡ None)
    → kept (flat_map (kept_by_force all s old) os) n ≡ kept_one all s old (object_in os n) → kept (kept_by_force all s old o ++ flat_map (kept_by_force all s old) os) n ≡ kept_one all s old (object_in (o ∷ os) n)
first_kept all s old o os n none rest = by o.on_disk refl (has_number n o) refl
  where
    x : Stored
    x = kept_after all s (kept old o.number.0) o

    same : is_of_number n x ≡ has_number n o
    same = ap (λ (k : ObjNum). k.0 == n) (number_kept all s (kept old o.number.0) o)

    by : (disk : Bool) → o.on_disk ≡ disk → (b : Bool) → has_number n o ≡ b → kept (cond disk (x ∷ []) [] ++ flat_map (kept_by_force all s old) os) n ≡ kept_one all s old (cond b (Some o) (object_in os n))
    by true on true is = rw (same, is, on) refl
    by true on false is = rw (same, is) rest
    by false off true is = rest ∙ ap (kept_one all s old) (none is) ∙ rw off refl
    by false off false is = rest

all_kept : (all : List Forced) (s : State) (old : List Stored) (os : List Object) (n : ℕ) → IsStrictlySortedBy nat_cmp (map object_number os)
    → kept (flat_map (kept_by_force all s old) os) n ≡ kept_one all s old (object_in os n)
all_kept all s old [] n rising = refl
all_kept all s old (o ∷ os) n rising =
    let above = sorted_head nat_cmp o.number.0 (map object_number os) rising in
    let rest = all_kept all s old os n (sorted_tail nat_cmp o.number.0 (map object_number os) rising) in
    first_kept all s old o os n (λ is. let here : o.number.0 ≡ n = grind (arith, nat_tests) in subst (λ (k : ℕ). object_in os k ≡ None) here (none_below o.number.0 os above)) rest

-- what is kept under a number after a step
pub kept_after_step : (all : List Forced) (d : Durable) (s : State) (n : ℕ) → NumbersRise s.held → kept (durable_after all d s).objects n ≡ kept_one all s d.objects (object s.held n)
kept_after_step all d s n rising = all_kept all s d.objects s.held.objects n (sorted_from_strictly_increasing (map object_number s.held.objects) rising)

-- ---- what is kept is of an object on disk

same_header : (a b : Header) → Some a ≡ Some b → a ≡ b
same_header a b h = cc

-- the object on disk whose header is kept
pub record IsThere (h : Held) (n : ℕ) (x : Stored) : Type 0 where
  pub object : Object
  pub found : object_in h.objects n ≡ Some object
  pub disk : object.on_disk ≡ true
  pub header : header_kept x ≡ image_header_of object

pub there_kept : (h : Held) (d : Durable) (n : ℕ) (x : Stored) → Follows h d → kept d.objects n ≡ Some x → IsThere h n x
there_kept h d n x follows found = by (object h n) refl (sym (ap (option_map header_kept) found) ∙ follows.headers n)
  where
    disk : (o : Object) → object h n ≡ Some o → (b : Bool) → o.on_disk ≡ b → Some (header_kept x) ≡ cond b (Some (image_header_of o)) None → IsThere h n x
    disk o at true on e = record { object = o; found = at; disk = on; header = same_header (header_kept x) (image_header_of o) e }
    disk o at false off e = cc

    by : (y : Option Object) → object h n ≡ y → Some (header_kept x) ≡ image_header_in y → IsThere h n x
    by None at e = cc
    by (Some o) at e = disk o at o.on_disk refl e

-- what is on disk is kept
pub kept_there : (h : Held) (d : Durable) (n : ℕ) (o : Object) → Follows h d → object h n ≡ Some o → o.on_disk ≡ true → (x : Stored) × (kept d.objects n ≡ Some x)
kept_there h d n o follows found on = by (kept d.objects n) refl
  where
    there : image_header_in (object h n) ≡ Some (image_header_of o)
    there = ap image_header_in found ∙ rw on refl

    by : (y : Option Stored) → kept d.objects n ≡ y → (x : Stored) × (kept d.objects n ≡ Some x)
    by None is = absurd (let e : None ≡ Some (image_header_of o) = sym (ap (option_map header_kept) is) ∙ follows.headers n ∙ there in cc)
    by (Some x) is = (x, is)
