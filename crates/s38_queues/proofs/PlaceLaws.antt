-- The first place whose key is in a relation to a key is the first of all, the first that does not come before the
-- key, or the first after it.
use Rattle.std.proofs.Common.{◌≡◌, ℕ, ◌<◌, Bool, true, false, not, List, refl, sym, ◌∙◌, ap, arith, subst}
use Rattle.std.proofs.lemmas.Bool.Decides.{nat_tests}
use Rattle.std.proofs.lemmas.Map.Lookups.{exact_bytes}
use Rattle.std.specs.Prelude.{Some, None}
use Rattle.std.specs.BTreeSet.{BTreeSet}
use Rattle.std.specs.Cmp.Lexicographic.{nat_list_cmp_total, slice_cmp}
use Rattle.std.specs.Ordering.{is_gt, nat_cmp, ordering_reverse, ordering_then}
use Rattle.std.specs.declared.cmp.Ordering.{Ordering}
use Rattle.std.specs.declared.cmp.Ordering.TheVariants.{Less, Equal, Greater}
use Rattle.s38_base.specs.Relations.{holds, is_greater, is_less}
use Rattle.s38_base.specs.declared.words.Relation.{Relation}
use Rattle.s38_queues.specs.declared.place.Place.{Place}
use Rattle.s38_queues.specs.Places.{AreBefore, IsFirstOf, has, is_from, place_fits}

abbrev pub key_cmp : List ℕ → List ℕ → Ordering
key_cmp = slice_cmp nat_cmp

-- ---- keys

-- what does not come after a key that is below another one is below it too
below_stays : (a b k : List ℕ) → is_gt (key_cmp a b) ≡ false → key_cmp b k ≡ Less → key_cmp a k ≡ Less
below_stays a b k h l =
    elim (key_cmp a b) as (λ r. key_cmp a b ≡ r → is_gt r ≡ false → key_cmp a k ≡ Less) [
      | Less ↦ λ e g. nat_list_cmp_total.trans a b k e l
      | Equal ↦ λ e g. nat_list_cmp_total.congr a b k e ∙ l
      | Greater ↦ λ e g. absurd (cc)
    ] refl h

same_or_less : (r : Ordering) → is_gt r ≡ false → is_less r ≡ false → r ≡ Equal
same_or_less Less g l = absurd (cc)
same_or_less Equal g l = refl
same_or_less Greater g l = absurd (cc)

same_stays : (a b k : List ℕ) → is_gt (key_cmp a b) ≡ false → key_cmp b k ≡ Equal → is_less (key_cmp a k) ≡ false → key_cmp a k ≡ Equal
same_stays a b k h e l =
    let moved : key_cmp a b ≡ key_cmp a k = ap (key_cmp a) (exact_bytes b k e) in
    same_or_less (key_cmp a k) (ap is_gt (sym moved) ∙ h) l

-- ---- places

pub not_true : (b : Bool) → not b ≡ true → b ≡ false
not_true true h = absurd (cc)
not_true false h = refl

first_decides : (a b : Ordering) → not (is_gt (ordering_then a b)) ≡ true → is_gt a ≡ false
first_decides Less b h = refl
first_decides Equal b h = refl
first_decides Greater b h = absurd (cc)

pub key_first : (p q : Place) → is_from p q ≡ true → is_gt (key_cmp p.key q.key) ≡ false
key_first p q h = first_decides (key_cmp p.key q.key) (nat_cmp p.arrival q.arrival) h

earliest : (a b : Ordering) → is_gt b ≡ false → not (is_gt (ordering_then (ordering_reverse a) b)) ≡ not (is_less a)
earliest Less b h = refl
earliest Equal b h = ap not h
earliest Greater b h = refl

latest : (a b : Ordering) → is_gt b ≡ true → not (is_gt (ordering_then (ordering_reverse a) b)) ≡ is_greater a
latest Less b h = refl
latest Equal b h = ap not h
latest Greater b h = refl

never_below : (n : ℕ) → is_gt (nat_cmp 0 n) ≡ false
never_below n = grind (arith, nat_tests)

above : (n m : ℕ) → n < m → is_gt (nat_cmp m n) ≡ true
above n m h = grind (arith, nat_tests)

abbrev pub place : List ℕ → ℕ → Place
place key arrival = record { key = key; arrival = arrival }

pub from_same : (key : List ℕ) (q : Place) → is_from (place key 0) q ≡ not (is_less (key_cmp q.key key))
from_same key q =
    ap (λ r. not (is_gt (ordering_then r (nat_cmp 0 q.arrival)))) (nat_list_cmp_total.antisymm key q.key)
    ∙ earliest (key_cmp q.key key) (nat_cmp 0 q.arrival) (never_below q.arrival)

pub from_above : (key : List ℕ) (next : ℕ) (q : Place) → q.arrival < next → is_from (place key next) q ≡ is_greater (key_cmp q.key key)
from_above key next q h =
    ap (λ r. not (is_gt (ordering_then r (nat_cmp next q.arrival)))) (nat_list_cmp_total.antisymm key q.key)
    ∙ latest (key_cmp q.key key) (nat_cmp next q.arrival) (above q.arrival next h)

-- ---- the first that fits

-- what fits passes a test
abbrev pub AllPass : BTreeSet Place → Relation → List ℕ → (Place → Bool) → Type 0
AllPass places relation key test = (q : Place) → has places q ≡ true → place_fits relation key q ≡ true → test q ≡ true

never : (a b : Bool) → (a ≡ true → b ≡ true) → b ≡ false → a ≡ false
never true b f h = let on : b ≡ true = f refl in absurd (cc)
never false b f h = refl

pub none_fits : (places : BTreeSet Place) (relation : Relation) (key : List ℕ) (test : Place → Bool) → AllPass places relation key test →
    IsFirstOf test places None → IsFirstOf (place_fits relation key) places None
none_fits places relation key test pass none q there = never (place_fits relation key q) (test q) (pass q there) (none q there)

pub this_fits : (places : BTreeSet Place) (relation : Relation) (key : List ℕ) (test : Place → Bool) (p : Place) → AllPass places relation key test →
    IsFirstOf test places (Some p) → place_fits relation key p ≡ true → IsFirstOf (place_fits relation key) places (Some p)
this_fits places relation key test p pass first on = (first.0, on, λ q there fits. first.2 q there (pass q there fits))

-- where the first of all does not fit, no key below fits
none_below : (places : BTreeSet Place) (relation : Relation) (key : List ℕ) (p : Place) → IsFirstOf (λ _. true) places (Some p) → place_fits relation key p ≡ false →
    AllPass places relation key (is_from (place key 0))
none_below places relation key p first off q there fits =
    from_same key q ∙
    elim (key_cmp q.key key) as (λ r. key_cmp q.key key ≡ r → holds relation r ≡ true → not (is_less r) ≡ true) [
      | Less ↦ λ e h.
          let low : key_cmp p.key key ≡ Less = below_stays p.key q.key key (key_first p q (first.2 q there refl)) e in
          let on : place_fits relation key p ≡ true = ap (holds relation) low ∙ h in
          absurd (cc)
      | Equal ↦ λ e h. refl
      | Greater ↦ λ e h. refl
    ] refl fits

-- where the first that does not come before the key does not fit either, no place of the key fits
none_same : (places : BTreeSet Place) (relation : Relation) (key : List ℕ) (next : ℕ) (p : Place) → AreBefore next places → AllPass places relation key (is_from (place key 0)) →
    IsFirstOf (is_from (place key 0)) places (Some p) → place_fits relation key p ≡ false → AllPass places relation key (is_from (place key next))
none_same places relation key next p before pass first off q there fits =
    let from : is_from (place key 0) q ≡ true = pass q there fits in
    from_above key next q (before q there) ∙
    elim (key_cmp q.key key) as (λ r. key_cmp q.key key ≡ r → holds relation r ≡ true → is_greater r ≡ true) [
      | Less ↦ λ e h.
          let high : not (is_less (key_cmp q.key key)) ≡ true = sym (from_same key q) ∙ from in
          let wrong : not (is_less Less) ≡ true = ap (λ r. not (is_less r)) (sym e) ∙ high in
          absurd (cc)
      | Equal ↦ λ e h.
          let here = not_true (is_less (key_cmp p.key key)) (sym (from_same key p) ∙ first.1) in
          let same : key_cmp p.key key ≡ Equal = same_stays p.key q.key key (key_first p q (first.2 q there from)) e here in
          let on : place_fits relation key p ≡ true = ap (holds relation) same ∙ h in
          absurd (cc)
      | Greater ↦ λ e h. refl
    ] refl fits

greater : (r : Ordering) → is_greater r ≡ true → r ≡ Greater
greater Less h = absurd (cc)
greater Equal h = absurd (cc)
greater Greater h = refl

-- where the first after the key does not fit either, none fits
none_above : (places : BTreeSet Place) (relation : Relation) (key : List ℕ) (next : ℕ) (p : Place) → AreBefore next places → AllPass places relation key (is_from (place key next)) →
    IsFirstOf (is_from (place key next)) places (Some p) → place_fits relation key p ≡ false → IsFirstOf (place_fits relation key) places None
none_above places relation key next p before pass first off q there =
    elim (place_fits relation key q) as (λ b. place_fits relation key q ≡ b → b ≡ false) [
      | true ↦ λ fits.
          let high : key_cmp q.key key ≡ Greater = greater (key_cmp q.key key) (sym (from_above key next q (before q there)) ∙ pass q there fits) in
          let top : key_cmp p.key key ≡ Greater = greater (key_cmp p.key key) (sym (from_above key next p (before p first.0)) ∙ first.1) in
          let wrong : place_fits relation key p ≡ true = ap (holds relation) (top ∙ sym high) ∙ fits in
          absurd (cc)
      | false ↦ λ fits. refl
    ] refl

-- ---- the same, with the key that was copied and the answers of the tests

pub pass_same : (places : BTreeSet Place) (relation : Relation) (key start : List ℕ) (p : Place) (fit : Bool) → start ≡ key →
    IsFirstOf (λ _. true) places (Some p) → fit ≡ place_fits relation key p → fit ≡ false → AllPass places relation key (is_from (place start 0))
pass_same places relation key start p fit e first is off =
    subst (λ (k : List ℕ). AllPass places relation key (is_from (place k 0))) (sym e) (none_below places relation key p first (sym is ∙ off))

pub pass_above : (places : BTreeSet Place) (relation : Relation) (key start : List ℕ) (next : ℕ) (p : Place) (fit : Bool) → start ≡ key → AreBefore next places →
    AllPass places relation key (is_from (place start 0)) → IsFirstOf (is_from (place start 0)) places (Some p) → fit ≡ place_fits relation key p → fit ≡ false →
    AllPass places relation key (is_from (place start next))
pass_above places relation key start next p fit e before =
    subst (λ (k : List ℕ). AllPass places relation key (is_from (place k 0)) → IsFirstOf (is_from (place k 0)) places (Some p) → fit ≡ place_fits relation key p → fit ≡ false → AllPass places relation key (is_from (place k next)))
    (sym e) (λ pass first is off. none_same places relation key next p before pass first (sym is ∙ off))

pub pass_none : (places : BTreeSet Place) (relation : Relation) (key start : List ℕ) (next : ℕ) (p : Place) (fit : Bool) → start ≡ key → AreBefore next places →
    AllPass places relation key (is_from (place start next)) → IsFirstOf (is_from (place start next)) places (Some p) → fit ≡ place_fits relation key p → fit ≡ false →
    IsFirstOf (place_fits relation key) places None
pass_none places relation key start next p fit e before =
    subst (λ (k : List ℕ). AllPass places relation key (is_from (place k next)) → IsFirstOf (is_from (place k next)) places (Some p) → fit ≡ place_fits relation key p → fit ≡ false → IsFirstOf (place_fits relation key) places None)
    (sym e) (λ pass first is off. none_above places relation key next p before pass first (sym is ∙ off))
