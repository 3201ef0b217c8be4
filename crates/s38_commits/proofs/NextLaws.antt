-- The first block above a number is the first of those that lie above it.
use Rattle.std.proofs.Common.{◌≡◌, ℕ, Bool, true, false, cond, [], ◌∷◌, refl, ◌∙◌, ap, arith, filter}
use Rattle.std.proofs.lemmas.Bool.Decides.{nat_tests}
use Rattle.std.specs.Prelude.{Option, Some, None, ◌&&◌, find, nat_lt}
use Rattle.std.specs.Option.{option_map}
use Rattle.std.specs.Ordering.{is_lt, nat_cmp}
use Rattle.std.specs.BTreeMap.Range.{entries_between}
use Rattle.std.specs.declared.ops.Bound.TheVariants.{Excluded, Unbounded}
use Rattle.s38_commits.specs.Unit.{CommitUnit}
use Rattle.s38_commits.specs.Units.{UnitMap, next_block}

abbrev pub first_block : UnitMap → Option ℕ
first_block [] = None
first_block (e ∷ es) = Some e.0

first_above : (test : ℕ → Bool) (es : UnitMap) → first_block (filter (λ e. test e.0) es) ≡ option_map (λ e. e.0) (find (λ e. test e.0) es)
first_above test [] = refl
first_above test (e ∷ es) =
    let rest = first_above test es in
    elim (test e.0) as (λ b. first_block (cond b (e ∷ filter (λ e. test e.0) es) (filter (λ e. test e.0) es)) ≡ option_map (λ e. e.0) (cond b (Some e) (find (λ e. test e.0) es))) [
      | true ↦ refl
      | false ↦ rest
    ]

lies_above : (after k : ℕ) → is_lt (nat_cmp after k) && true ≡ nat_lt after k
lies_above after k = grind (arith, nat_tests)

above_alike : (after : ℕ) (es : UnitMap) → find (λ e. is_lt (nat_cmp after e.0) && true) es ≡ find (λ e. nat_lt after e.0) es
above_alike after [] = refl
above_alike after (e ∷ es) = rw (lies_above after e.0, above_alike after es) refl

pub next_read : (units seen run : UnitMap) (after : ℕ) → units ≡ seen → run ≡ entries_between nat_cmp (Excluded after) Unbounded units → first_block run ≡ next_block seen after
next_read units seen run after same between =
    ap first_block between ∙ first_above (λ k. is_lt (nat_cmp after k) && true) units
    ∙ ap (λ (o : Option (ℕ × CommitUnit)). option_map (λ e. e.0) o) (above_alike after units)
    ∙ ap (λ (us : UnitMap). next_block us after) same
