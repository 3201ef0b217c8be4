-- Objects that are gone through one after another.
use Rattle.std.proofs.Common.{◌≡◌, ◌≢◌, ℕ, suc, ◌<◌, ◌≤◌, ◌==◌, true, false, cond, List, [], ◌∷◌, ◌++◌, map, refl, sym, ◌∙◌, ap, subst, arith, append-nil}
use Rattle.std.proofs.lemmas.Bool.Decides.{nat_tests}
use Rattle.std.proofs.lemmas.Grind.{flat_map-append}
use Rattle.std.proofs.lemmas.List.{map-append}
use Rattle.std.proofs.lemmas.Map.Keys.{sorted_from_strictly_increasing, sorted_head, sorted_tail}
use Rattle.std.specs.Prelude.{All, Some, None}
use Rattle.std.specs.List.{AllByRecursion, flat_map}
use Rattle.std.specs.List.Sorted.{IsStrictlyIncreasing, IsStrictlySortedBy}
use Rattle.std.specs.Ordering.{nat_cmp}
use Rattle.std.specs.declared.cmp.Ordering.TheVariants.{Less}
use Rattle.s38_base.specs.declared.page.Change.{Change}
use Rattle.s38_checkpoint.specs.Closing.{closing, kept_whole, parts_of_all}
use Rattle.s38_checkpoint.specs.Passing.{last_object_number}
use Rattle.s38_commits.specs.Units.{UnitMap}
use Rattle.s38_durable_state.specs.Durable.{Durable, kept, whole_stored}
use Rattle.s38_durable_state.specs.Represents.{ceiling_parts, parts_at, parts_in}
use Rattle.s38_image.specs.PartPlaces.{ceiling_key}
use Rattle.s38_image.specs.Images.{image_parts}
use Rattle.s38_page_diff.proofs.reconcile.PieceLaws.{each_at}
use Rattle.s38_page_diff.specs.reconcile.Replacing.{each_to}
use Rattle.s38_objects.specs.Lawful.{number_of}
use Rattle.s38_rules.specs.state.Held.{Held}
use Rattle.s38_rules.specs.declared.object.Object.{Object}

-- ---- rising numbers

abbrev pub AreSorted : List Object → Type 0
AreSorted os = IsStrictlySortedBy nat_cmp (map number_of os)

pub sorted_by : (os : List Object) → IsStrictlyIncreasing (map number_of os) → AreSorted os
sorted_by os rising = sorted_from_strictly_increasing (map number_of os) rising

less_by : (a b : ℕ) → nat_cmp a b ≡ Less → a < b
less_by a b h = grind (arith, nat_tests)

above_all : (n : ℕ) (os : List Object) → AllByRecursion (λ k. nat_cmp n k ≡ Less) (map number_of os) → AllByRecursion (λ o. n < o.number.0) os
above_all n [] h = tt
above_all n (o ∷ os) h = (less_by n o.number.0 h.0, above_all n os h.1)

at_last : (n : ℕ) (gone rest : List Object) (o : Object) → AllByRecursion (λ x. n < x.number.0) (gone ++ o ∷ rest) → n < o.number.0
at_last n [] rest o h = h.0
at_last n (x ∷ gone) rest o h = at_last n gone rest o h.1

-- those gone through are below the next one, and the others above it
pub below_next : (gone rest : List Object) (o : Object) → AreSorted (gone ++ o ∷ rest) → AllByRecursion (λ x. x.number.0 < o.number.0) gone
below_next [] rest o sorted = tt
below_next (x ∷ gone) rest o sorted =
    (at_last x.number.0 gone rest o (above_all x.number.0 (gone ++ o ∷ rest) (sorted_head nat_cmp x.number.0 (map number_of (gone ++ o ∷ rest)) sorted)), below_next gone rest o (sorted_tail nat_cmp x.number.0 (map number_of (gone ++ o ∷ rest)) sorted))

pub above_next : (gone rest : List Object) (o : Object) → AreSorted (gone ++ o ∷ rest) → AllByRecursion (λ x. o.number.0 < x.number.0) rest
above_next [] rest o sorted = above_all o.number.0 rest (sorted_head nat_cmp o.number.0 (map number_of rest) sorted)
above_next (x ∷ gone) rest o sorted = above_next gone rest o (sorted_tail nat_cmp x.number.0 (map number_of (gone ++ o ∷ rest)) sorted)

front_of : (n : ℕ) (gone rest : List Object) → AllByRecursion (λ k. nat_cmp n k ≡ Less) (map number_of (gone ++ rest)) → AllByRecursion (λ k. nat_cmp n k ≡ Less) (map number_of gone)
front_of n [] rest h = tt
front_of n (x ∷ gone) rest h = (h.0, front_of n gone rest h.1)

pub sorted_front : (gone rest : List Object) → AreSorted (gone ++ rest) → AreSorted gone
unfolding IsStrictlySortedBy
sorted_front [] rest h = tt
sorted_front (x ∷ gone) rest h = (front_of x.number.0 gone rest h.0, sorted_front gone rest h.1)

-- ---- the last number

pub last_more : (gone : List Object) (o : Object) → last_object_number (gone ++ o ∷ []) ≡ o.number.0
last_more [] o = refl
last_more (x ∷ []) o = refl
last_more (x ∷ y ∷ gone) o = last_more (y ∷ gone) o

pub last_below : (gone : List Object) (n : ℕ) → 1 ≤ n → AllByRecursion (λ x. x.number.0 < n) gone → last_object_number gone < n
last_below [] n from h = from_one n from
  where
    from_one : (n : ℕ) → 1 ≤ n → 0 < n
    from_one n low = omega arith
last_below (x ∷ []) n from h = h.0
last_below (x ∷ y ∷ gone) n from h = last_below (y ∷ gone) n from h.1

first_below : (x : Object) (os : List Object) → AllByRecursion (λ o. x.number.0 < o.number.0) os → x.number.0 ≤ last_object_number (x ∷ os)
first_below x [] h = omega arith
first_below x (y ∷ os) h = by (y ∷ os) h
  where
    by : (os : List Object) → AllByRecursion (λ o. x.number.0 < o.number.0) os → x.number.0 ≤ last_object_number (x ∷ os)
    by [] h = omega arith
    by (y ∷ []) h = omega (arith, h.0)
    by (y ∷ z ∷ os) h = by (z ∷ os) h.1

-- none is above the last one
pub up_to_last : (os : List Object) → AreSorted os → AllByRecursion (λ o. o.number.0 ≤ last_object_number os) os
up_to_last [] sorted = tt
up_to_last (x ∷ []) sorted = (omega arith, tt)
up_to_last (x ∷ y ∷ os) sorted =
    (first_below x (y ∷ os) (above_all x.number.0 (y ∷ os) (sorted_head nat_cmp x.number.0 (map number_of (y ∷ os)) sorted)), up_to_last (y ∷ os) (sorted_tail nat_cmp x.number.0 (map number_of (y ∷ os)) sorted))

-- what is true of all is true of the next one
pub at_place : (P : Object → Type 0) (os gone rest : List Object) (o : Object) → All P os → os ≡ gone ++ o ∷ rest → P o
at_place P os gone rest o all is = let there : All P (gone ++ o ∷ rest) = subst (All P) is all in by gone there
  where
    by : (gone : List Object) → All P (gone ++ o ∷ rest) → P o
    by [] there = there 0 o (omega arith)
    by (x ∷ gone) there = by gone (λ k d low. there (suc k) d (omega (arith, low)))

-- ---- what is kept of them

module _ (units : UnitMap) (h : Held) where
  pub none_kept : (os : List Object) (n : ℕ) → AllByRecursion (λ o. o.number.0 ≢ n) os → kept (map (whole_stored units h) os) n ≡ None
  none_kept [] n off = refl
  none_kept (o ∷ os) n off =
      ap (λ b. cond b (Some (whole_stored units h o)) (kept (map (whole_stored units h) os) n)) (apart o.number.0 n off.0) ∙ none_kept os n off.1
    where
      apart : (a b : ℕ) → a ≢ b → (a == b) ≡ false
      apart a b not = grind (arith, nat_tests)

  pub one_kept : (gone rest : List Object) (o : Object) → AllByRecursion (λ x. x.number.0 < o.number.0) gone → kept (map (whole_stored units h) (gone ++ o ∷ rest)) o.number.0 ≡ Some (whole_stored units h o)
  one_kept [] rest o low = ap (λ b. cond b (Some (whole_stored units h o)) (kept (map (whole_stored units h) rest) o.number.0)) (itself o.number.0)
    where
      itself : (a : ℕ) → (a == a) ≡ true
      itself a = grind (arith, nat_tests)
  one_kept (x ∷ gone) rest o low =
      ap (λ b. cond b (Some (whole_stored units h x)) (kept (map (whole_stored units h) (gone ++ o ∷ rest)) o.number.0)) (below x.number.0 o.number.0 low.0) ∙ one_kept gone rest o low.1
    where
      below : (a b : ℕ) → a < b → (a == b) ≡ false
      below a b less = grind (arith, nat_tests)

  all_apart : (n : ℕ) (os : List Object) (P : Object → Type 0) → ((o : Object) → P o → o.number.0 ≢ n) → AllByRecursion P os → AllByRecursion (λ o. o.number.0 ≢ n) os
  all_apart n [] P f g = tt
  all_apart n (o ∷ os) P f g = (f o g.0, all_apart n os P f g.1)

  apart_on : (n : ℕ) (xs ys : List Object) → AllByRecursion (λ o. o.number.0 ≢ n) xs → AllByRecursion (λ o. o.number.0 ≢ n) ys → AllByRecursion (λ o. o.number.0 ≢ n) (xs ++ ys)
  apart_on n [] ys f g = g
  apart_on n (x ∷ xs) ys f g = (f.0, apart_on n xs ys f.1 g)

  -- between the last one and the next one there is none
  pub none_between : (gone rest : List Object) (o : Object) (n : ℕ) → AreSorted (gone ++ o ∷ rest) → AreSorted gone → last_object_number gone < n → n < o.number.0 → kept (map (whole_stored units h) (gone ++ o ∷ rest)) n ≡ None
  none_between gone rest o n sorted own low high =
      none_kept (gone ++ o ∷ rest) n
      (apart_on n gone (o ∷ rest)
      (all_apart n gone (λ x. x.number.0 ≤ last_object_number gone) (λ x le same. absurd (omega (arith, le, same, low))) (up_to_last gone own))
      ((λ same. absurd (omega (arith, same, high))), all_apart n rest (λ x. o.number.0 < x.number.0) (λ x above same. absurd (omega (arith, above, same, high))) (above_next gone rest o sorted)))

  -- after the last one there is none
  pub none_after : (os : List Object) (n : ℕ) → AreSorted os → last_object_number os < n → kept (map (whole_stored units h) os) n ≡ None
  none_after os n sorted low =
      none_kept os n (all_apart n os (λ x. x.number.0 ≤ last_object_number os) (λ x le same. absurd (omega (arith, le, same, low))) (up_to_last os sorted))

  -- ---- the parts of a number

  pub parts_below : (d : Durable) (n : ℕ) → n < ceiling_key → parts_at d n ≡ parts_in (kept d.objects n)
  parts_below d n low = ap (λ b. cond b (ceiling_parts d.ceiling) (parts_in (kept d.objects n))) (below n ceiling_key low)
    where
      below : (a b : ℕ) → a < b → (a == b) ≡ false
      below a b less = grind (arith, nat_tests)

  pub no_parts : (n : ℕ) → n < ceiling_key → kept (kept_whole units h) n ≡ None → parts_at (closing units h) n ≡ []
  no_parts n low none = parts_below (closing units h) n low ∙ ap parts_in none

  pub whole_at : (gone rest : List Object) (o : Object) → h.objects ≡ gone ++ o ∷ rest → AreSorted (gone ++ o ∷ rest) → o.number.0 < ceiling_key → parts_at (closing units h) o.number.0 ≡ image_parts (whole_stored units h o)
  whole_at gone rest o all sorted low =
      parts_below (closing units h) o.number.0 low
      ∙ ap parts_in (ap (λ (os : List Object). kept (map (whole_stored units h) os) o.number.0) all ∙ one_kept gone rest o (below_next gone rest o sorted))

  -- between the last one and the next one nothing is wanted
  pub nothing_between : (gone rest : List Object) (o : Object) (done k : ℕ) → h.objects ≡ gone ++ o ∷ rest → AreSorted (gone ++ o ∷ rest) → done ≡ last_object_number gone → o.number.0 < ceiling_key → done < k → k < o.number.0 → parts_at (closing units h) k ≡ []
  nothing_between gone rest o done k all sorted last low above below =
      no_parts k (omega (arith, below, low))
      (ap (λ (os : List Object). kept (map (whole_stored units h) os) k) all ∙ none_between gone rest o k sorted (sorted_front gone (o ∷ rest) sorted) (omega (arith, last, above)) below)

  -- the parts of those gone through, and of one more
  pub pieces_more : (gone rest : List Object) (o : Object) (done : ℕ) → h.objects ≡ gone ++ o ∷ rest → AreSorted (gone ++ o ∷ rest) → done ≡ last_object_number gone → 1 ≤ o.number.0 → o.number.0 < ceiling_key
      → each_to (parts_at (closing units h)) done ≡ flat_map image_parts (map (whole_stored units h) gone)
      → each_to (parts_at (closing units h)) o.number.0 ≡ flat_map image_parts (map (whole_stored units h) (gone ++ o ∷ []))
  pieces_more gone rest o done all sorted last from low before =
      let here : done < o.number.0 = omega (arith, last, last_below gone o.number.0 from (below_next gone rest o sorted)) in
      each_at (parts_at (closing units h)) done o.number.0 here (λ k above below. nothing_between gone rest o done k all sorted last low above below)
      ∙ (λ i. before i ++ whole_at gone rest o all sorted low i)
      ∙ sym (ap (flat_map image_parts) (map-append (whole_stored units h) gone (o ∷ [])) ∙ flat_map-append image_parts (map (whole_stored units h) gone) (whole_stored units h o ∷ [])
      ∙ ap (λ (cs : List Change). flat_map image_parts (map (whole_stored units h) gone) ++ cs) (append-nil (image_parts (whole_stored units h o))))

  -- all parts
  pub pieces_all : (done : ℕ) → done < ceiling_key → ((n : ℕ) → done < n → kept (kept_whole units h) n ≡ None)
      → each_to (parts_at (closing units h)) done ≡ flat_map image_parts (kept_whole units h) → each_to (parts_at (closing units h)) ceiling_key ≡ parts_of_all (closing units h)
  pieces_all done low none before =
      each_at (parts_at (closing units h)) done ceiling_key low (λ k above below. no_parts k below (none k above))
      ∙ ap (λ (cs : List Change). cs ++ ceiling_parts h.ceiling) before
