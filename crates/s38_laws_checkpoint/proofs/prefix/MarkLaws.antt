-- Objects up to a number are on disk, and the others are as they were.
use Rattle.std.proofs.Common.{◌≡◌, ◌∙◌, ℕ, ◌<◌, ◌≤◌, Bool, true, false, cond, List, [], ◌∷◌, ◌++◌, map, refl, sym, ap, arith}
use Rattle.std.specs.List.{AllByRecursion}
use Rattle.std.specs.Option.{option_map}
use Rattle.std.specs.Prelude.{◌||◌, None, Option, Some, nat_le}
use Rattle.s38_commits.specs.Units.{UnitMap}
use Rattle.s38_durable_state.specs.Durable.{kept, whole_stored}
use Rattle.s38_durable_state.specs.Following.{object_number}
use Rattle.s38_rules.specs.state.Held.{Held, change_in, has_number, kept_on_disk, object_in}
use Rattle.s38_rules.specs.declared.object.Object.{Object}
use Rattle.s38_laws_checkpoint.proofs.prefix.BodyLaws.{body_in}
use Rattle.s38_laws_checkpoint.proofs.prefix.TestLaws.{beyond, itself, not_same, or_true, within}

abbrev pub marked : ℕ → Object → Object
marked last o = record o { on_disk = o.on_disk || nat_le o.number.0 last }

pub marked_same : (a b : ℕ) (o : Object) → nat_le o.number.0 a ≡ nat_le o.number.0 b → marked a o ≡ marked b o
marked_same a b o e = λ i. record o { on_disk = o.on_disk || e i }

-- ---- what is found among them

pub marked_found : (last : ℕ) (os : List Object) (n : ℕ) → object_in (map (marked last) os) n ≡ option_map (marked last) (object_in os n)
marked_found last [] n = refl
marked_found last (o ∷ os) n = by (has_number n o) (marked_found last os n)
  where
    by : (b : Bool) → object_in (map (marked last) os) n ≡ option_map (marked last) (object_in os n) → cond b (Some (marked last o)) (object_in (map (marked last) os) n) ≡ option_map (marked last) (cond b (Some o) (object_in os n))
    by true rest = refl
    by false rest = rest

pub marked_numbers : (last : ℕ) (os : List Object) → map object_number (map (marked last) os) ≡ map object_number os
marked_numbers last [] = refl
marked_numbers last (o ∷ os) = ap (λ (ns : List ℕ). object_number o ∷ ns) (marked_numbers last os)

pub marked_body : (last : ℕ) (x : Option Object) → body_in (option_map (marked last) x) ≡ body_in x
marked_body last None = refl
marked_body last (Some o) = refl

-- what is kept whole of all is found as they are
pub whole_found : (units : UnitMap) (h : Held) (os : List Object) (n : ℕ) → kept (map (whole_stored units h) os) n ≡ option_map (whole_stored units h) (object_in os n)
whole_found units h [] n = refl
whole_found units h (o ∷ os) n = by (has_number n o) (whole_found units h os n)
  where
    by : (b : Bool) → kept (map (whole_stored units h) os) n ≡ option_map (whole_stored units h) (object_in os n) → cond b (Some (whole_stored units h o)) (kept (map (whole_stored units h) os) n) ≡ option_map (whole_stored units h) (cond b (Some o) (object_in os n))
    by true rest = refl
    by false rest = rest

-- the object after those below it
pub found_after : (gone rest : List Object) (o : Object) → AllByRecursion (λ x. x.number.0 < o.number.0) gone → object_in (gone ++ o ∷ rest) o.number.0 ≡ Some o
found_after [] rest o low = ap (λ b. cond b (Some o) (object_in rest o.number.0)) (itself o.number.0)
found_after (x ∷ gone) rest o low =
    ap (λ b. cond b (Some x) (object_in (gone ++ o ∷ rest) o.number.0)) (not_same x.number.0 o.number.0 (λ e. omega (arith, e, low.0))) ∙ found_after gone rest o low.1

-- ---- one more

marked_rest : (last k : ℕ) (os : List Object) → last < k → AllByRecursion (λ x. k < x.number.0) os → map (marked last) os ≡ map (marked k) os
marked_rest last k [] less above = refl
marked_rest last k (x ∷ os) less above =
    (λ i. marked_same last k x (beyond x.number.0 last (omega (arith, less, above.0)) ∙ sym (beyond x.number.0 k above.0)) i ∷ marked_rest last k os less above.1 i)

pub marked_more : (last : ℕ) (gone rest : List Object) (o : Object) → last < o.number.0 → AllByRecursion (λ x. x.number.0 ≤ last) gone → AllByRecursion (λ x. o.number.0 < x.number.0) rest
    → change_in (map (marked last) (gone ++ o ∷ rest)) o.number.0 kept_on_disk ≡ map (marked o.number.0) (gone ++ o ∷ rest)
marked_more last [] rest o less low above =
    let disk : true ≡ o.on_disk || nat_le o.number.0 o.number.0 = sym (or_true o.on_disk _ (within o.number.0 o.number.0 (omega arith))) in
    ap (λ b. cond b (kept_on_disk (marked last o) ∷ map (marked last) rest) (marked last o ∷ change_in (map (marked last) rest) o.number.0 kept_on_disk)) (itself o.number.0)
    ∙ (λ i. record o { on_disk = disk i } ∷ marked_rest last o.number.0 rest less above i)
marked_more last (x ∷ gone) rest o less low above =
    ap (λ b. cond b (kept_on_disk (marked last x) ∷ map (marked last) (gone ++ o ∷ rest)) (marked last x ∷ change_in (map (marked last) (gone ++ o ∷ rest)) o.number.0 kept_on_disk)) (not_same x.number.0 o.number.0 (λ e. omega (arith, e, low.0, less)))
    ∙ (λ i. marked_same last o.number.0 x (within x.number.0 last low.0 ∙ sym (within x.number.0 o.number.0 (omega (arith, low.0, less)))) i ∷ marked_more last gone rest o less low.1 above i)
