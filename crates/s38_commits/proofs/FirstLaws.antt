-- All units, from the first block on: that of block 0, if it has one, and those above it.
use Rattle.std.proofs.Common.{◌≡◌, ℕ, ◌==◌, ◌<◌, ◌≤◌, Bool, true, false, cond, List, [], ◌∷◌, refl, sym, ◌∙◌, ap, arith}
use Rattle.std.proofs.lemmas.Bool.Decides.{nat_tests}
use Rattle.std.proofs.lemmas.List.Elements.{All-head, All-tail}
use Rattle.std.proofs.lemmas.Map.Views.{All-after_first}
use Rattle.std.specs.Prelude.{Option, Some, None, nat_lt}
use Rattle.std.specs.declared.cmp.Ordering.TheVariants.{Less}
use Rattle.std.specs.Ordering.{nat_cmp}
use Rattle.std.specs.List.{All}
use Rattle.std.specs.Map.{keys_of, lookup}
use Rattle.std.specs.BTreeMap.{is_at}
use Rattle.s38_commits.specs.Unit.{CommitUnit}
use Rattle.s38_commits.specs.Units.{BlocksRise, UnitMap, above, unit_of}
use Rattle.s38_commits.proofs.MapLaws.{at_key, nat_itself, nat_same}

over : (a b : ℕ) → nat_cmp a b ≡ Less → nat_lt 0 b ≡ true
over a b is = grind (arith, nat_tests)

-- what comes after a block lies above 0
behind_zero : (block : ℕ) (es : UnitMap) → All (λ k. nat_cmp block k ≡ Less) (keys_of es) → above 0 es ≡ es
behind_zero block [] all = refl
behind_zero block (e ∷ es) all =
    let is : nat_lt 0 e.0 ≡ true = over block e.0 (All-head (λ k. nat_cmp block k ≡ Less) e.0 (keys_of es) all) in
    rw is (ap (λ (fs : UnitMap). e ∷ fs) (behind_zero block es (All-tail (λ k. nat_cmp block k ≡ Less) e.0 (keys_of es) all)))

more : (n : ℕ) → (n == 0) ≡ false → nat_lt 0 n ≡ true
more n is = grind (arith, nat_tests)

-- without a unit of block 0 all lie above it
pub first_none : (units : UnitMap) → BlocksRise units → unit_of units 0 ≡ None → above 0 units ≡ units
first_none [] rising none = refl
first_none (e ∷ es) rising none =
    let rest = behind_zero e.0 es (All-after_first nat_cmp e.0 (keys_of es) rising) in
    let at : cond (e.0 == 0) (Some e.1) (lookup (is_at (nat_cmp 0)) es) ≡ None = rw (at_key 0 e.0) at none in
    elim (e.0 == 0) as (λ b. (e.0 == 0) ≡ b → cond b (Some e.1) (lookup (is_at (nat_cmp 0)) es) ≡ None → above 0 (e ∷ es) ≡ e ∷ es) [
      | true ↦ λ is q. absurd (cc)
      | false ↦ λ is q. rw (more e.0 is) (ap (λ (fs : UnitMap). e ∷ fs) rest)
    ] refl at

not_zero : (a b : ℕ) → nat_cmp a b ≡ Less → (b == 0) ≡ false
not_zero a b is = grind (arith, nat_tests)

none_behind : (block : ℕ) (es : UnitMap) → All (λ k. nat_cmp block k ≡ Less) (keys_of es) → unit_of es 0 ≡ None
none_behind block [] all = refl
none_behind block (e ∷ es) all =
    rw (at_key 0 e.0, not_zero block e.0 (All-head (λ k. nat_cmp block k ≡ Less) e.0 (keys_of es) all)) (none_behind block es (All-tail (λ k. nat_cmp block k ≡ Less) e.0 (keys_of es) all))

none_some : {A : Type 0} (o : Option A) (x : A) → o ≡ None → o ≡ Some x → ⊥
none_some o x one two = cc

-- a unit of block 0 comes first, and the others lie above it
pub first_some : (units : UnitMap) (unit : CommitUnit) → BlocksRise units → unit_of units 0 ≡ Some unit → units ≡ (0, unit) ∷ above 0 units
first_some [] unit rising is = absurd (cc)
first_some ((k, x) ∷ es) unit rising is =
    let all = All-after_first nat_cmp k (keys_of es) rising in
    let at : cond (k == 0) (Some x) (unit_of es 0) ≡ Some unit = rw (at_key 0 k) at is in
    elim (k == 0) as (λ b. (k == 0) ≡ b → cond b (Some x) (unit_of es 0) ≡ Some unit → (k, x) ∷ es ≡ (0, unit) ∷ above 0 ((k, x) ∷ es)) [
      | true ↦ λ here q.
          let zero : k ≡ 0 = nat_same k 0 here in
          let same : x ≡ unit = cc in
          let rest = behind_zero k es all in
          rw (zero, same) (ap (λ (fs : UnitMap). (0, unit) ∷ fs) (sym rest))
      | false ↦ λ here q. absurd (none_some (unit_of es 0) unit (none_behind k es all) q)
    ] refl at
