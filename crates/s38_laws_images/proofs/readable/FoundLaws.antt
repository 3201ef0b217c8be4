-- What is true of all objects is true of one that is found.
use Rattle.std.proofs.Common.{Bool, List, [], arith, cond, drop, get_or, length, subst, suc, sym, take, true, false, ℕ, ◌-◌, ◌==◌, ◌∷◌, ◌≡◌, ◌≤◌, ◌⊎◌}
use Rattle.std.proofs.lemmas.List.{take_all}
use Rattle.s38_space_map.specs.Forcings.{all_forced, forced_as}
use Rattle.s38_space_map.specs.declared.forcing.Forcing.{Forcing}
use Rattle.s38_laws_objects.specs.Outline.{is_forced, speaks_of}
use Rattle.std.proofs.lemmas.Bool.{eqb-true, or_cases}
use Rattle.std.proofs.lemmas.List.Elements.{All-head, All-tail}
use Rattle.std.specs.Prelude.{All, Some}
use Rattle.s38_rules.specs.state.Held.{Held, has_number, object, object_in}
use Rattle.s38_rules.specs.declared.object.Object.{Object}

pub found_all : (P : Object → Type 0) (os : List Object) (n : ℕ) (o : Object) → All P os → object_in os n ≡ Some o → P o
found_all P [] n o all found = cc
found_all P (x ∷ os) n o all found = by (has_number n x) found (λ rest. found_all P os n o (All-tail P x os all) rest)
  where
    by : (b : Bool) → cond b (Some x) (object_in os n) ≡ Some o → (object_in os n ≡ Some o → P o) → P o
    by true is later = let same : x ≡ o = cc in subst P same (All-head P x os all)
    by false is later = later is

-- the object of the same number
pub found_same : (h : Held) (m n : ℕ) (o : Object) → (m == n) ≡ true → object h n ≡ Some o → object h m ≡ Some o
found_same h m n o same found = let is : n ≡ m = sym (eqb-true m n same) in subst (λ (k : ℕ). object h k ≡ Some o) is found

-- what is forced speaks of a number first, or after the first
pub forced_parts : (n : ℕ) (all : List Forcing) (e : Forcing) → 1 ≤ length all → is_forced n (all_forced all) ≡ true
    → (speaks_of n (forced_as (get_or all 0 e)) ≡ true) ⊎ (is_forced n (all_forced (take (length all - 1) (drop 1 all))) ≡ true)
forced_parts n [] e some h = absurd (omega (arith, some))
forced_parts n (one ∷ all) e some h =
    let enough : length all ≤ suc (length all) - 1 = omega arith in
    subst (λ (more : List Forcing). (speaks_of n (forced_as one) ≡ true) ⊎ (is_forced n (all_forced more) ≡ true)) (sym (take_all (suc (length all) - 1) all enough))
    (or_cases (speaks_of n (forced_as one)) (is_forced n (all_forced all)) h)
