-- Whose units of changes are, where a change joins one, and where one ends.
use Rattle.std.proofs.Common.{◌==◌, ◌∙◌, ◌∷◌, ◌≡◌, Bool, [], arith, cond, false, refl, subst, sym, true, ℕ}
use Rattle.std.proofs.lemmas.Bool.Decides.{nat_tests}
use Rattle.std.proofs.lemmas.List.Elements.{All-cons, All-nil}
use Rattle.std.proofs.lemmas.Map.Keys.{sorted_head}
use Rattle.std.specs.BTreeMap.{is_at}
use Rattle.std.specs.List.{AllByRecursion}
use Rattle.std.specs.Map.{keys_of}
use Rattle.std.specs.Ordering.{nat_cmp}
use Rattle.std.specs.Prelude.{All, None, Option, Some}
use Rattle.std.specs.declared.cmp.Ordering.TheVariants.{Less}
use Rattle.s38_laws_units.proofs.JoinLaws.{joined_more, joined_new}
use Rattle.s38_laws_units.proofs.UnitLaws.{all_changed, all_found, all_put_in, rising_changed, rising_put_in, tail_of}
use Rattle.s38_commits.proofs.MapLaws.{at_key}
use Rattle.s38_commits.specs.Unit.{CommitUnit, noted}
use Rattle.s38_commits.specs.Units.{BlocksRise, UnitMap, ended, unit_of, with_change_joined}
use Rattle.s38_commits.specs.declared.change.UnitChange.{UnitChange}

-- a unit is of such a process
abbrev pub OfUnit : (ℕ → Type 0) → ℕ × CommitUnit → Type 0
OfUnit P e = P e.1.process

pub joined_owned : (P : ℕ → Type 0) (units : UnitMap) (block process number : ℕ) (change : UnitChange) → P process → All (OfUnit P) units → All (OfUnit P) (with_change_joined units block process number change)
joined_owned P units block process number change own all = by (unit_of units block) refl
  where
    by : (r : Option CommitUnit) → unit_of units block ≡ r → All (OfUnit P) (with_change_joined units block process number change)
    by None none = subst (All (OfUnit P)) (sym (joined_new units block process number change none)) (all_put_in (OfUnit P) units block _ all own none)
    by (Some unit) found =
        subst (All (OfUnit P)) (sym (joined_more units block process number change unit found))
        (all_changed (OfUnit P) units block (noted change) unit all found (all_found (OfUnit P) units block unit all found))

pub joined_rising : (units : UnitMap) (block process number : ℕ) (change : UnitChange) → BlocksRise units → BlocksRise (with_change_joined units block process number change)
joined_rising units block process number change rising = by (unit_of units block) refl
  where
    by : (r : Option CommitUnit) → unit_of units block ≡ r → BlocksRise (with_change_joined units block process number change)
    by None none = subst BlocksRise (sym (joined_new units block process number change none)) (rising_put_in units block _ rising none)
    by (Some unit) found = subst BlocksRise (sym (joined_more units block process number change unit found)) (rising_changed units block (noted change) rising)

-- after the end of a block's unit all units are of other blocks
abbrev pub IsOfAnother : ℕ → ℕ × CommitUnit → Type 0
IsOfAnother block e = (e.0 == block) ≡ false

above_other : (block : ℕ) (units : UnitMap) → AllByRecursion (λ q. nat_cmp block q ≡ Less) (keys_of units) → All (IsOfAnother block) units
above_other block [] above = All-nil (IsOfAnother block)
above_other block (e ∷ es) above = All-cons (IsOfAnother block) e es (less block e.0 above.0) (above_other block es above.1)
  where
    less : (a b : ℕ) → nat_cmp a b ≡ Less → (b == a) ≡ false
    less a b h = grind (arith, nat_tests)

pub ended_other : (units : UnitMap) (block : ℕ) → BlocksRise units → All (IsOfAnother block) (ended units block)
ended_other [] block rising = All-nil (IsOfAnother block)
ended_other (e ∷ es) block rising = by (ended_other es block (tail_of e es rising)) (is_at (nat_cmp block) e.0) refl
  where
    above : All (IsOfAnother e.0) es
    above = above_other e.0 es (sorted_head nat_cmp e.0 (keys_of es) rising)

    same : (a b : ℕ) → (a == b) ≡ true → a ≡ b
    same a b h = grind (arith, nat_tests)

    by : All (IsOfAnother block) (ended es block) → (b : Bool) → is_at (nat_cmp block) e.0 ≡ b → All (IsOfAnother block) (cond b es (e ∷ ended es block))
    by rest true own = subst (λ n. All (IsOfAnother n) es) (same e.0 block (sym (at_key block e.0) ∙ own)) above
    by rest false other = All-cons (IsOfAnother block) e (ended es block) (sym (at_key block e.0) ∙ other) rest
