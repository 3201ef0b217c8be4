-- A walk over the units by their blocks: what lies above the block that was reached.
use Rattle.std.proofs.Common.{◌≡◌, ℕ, ◌==◌, ◌<◌, ◌≤◌, Bool, true, false, cond, List, [], ◌∷◌, refl, sym, ◌∙◌, ap, subst, arith}
use Rattle.std.proofs.lemmas.Bool.Decides.{nat_tests}
use Rattle.std.proofs.lemmas.List.Elements.{All-head, All-tail}
use Rattle.std.proofs.lemmas.Map.Keys.{sorted_tail}
use Rattle.std.proofs.lemmas.Map.Views.{All-after_first}
use Rattle.std.specs.Prelude.{Option, Some, None, find, nat_lt}
use Rattle.std.specs.Option.{option_map}
use Rattle.std.specs.declared.cmp.Ordering.TheVariants.{Less}
use Rattle.std.specs.Ordering.{nat_cmp}
use Rattle.std.specs.List.{All}
use Rattle.std.specs.Map.{keys_of, remove_entry}
use Rattle.std.specs.BTreeMap.{is_at}
use Rattle.s38_commits.specs.Unit.{CommitUnit}
use Rattle.s38_commits.specs.Units.{BlocksRise, UnitMap, above, ended, is_above, next_block, unit_of}
use Rattle.s38_commits.proofs.MapLaws.{at_key, nat_itself, nat_same}

some_none : {A : Type 0} (x : A) → Some x ≡ None → ⊥
some_none x h = cc

lt_tells : (a b : ℕ) → nat_lt a b ≡ true → a < b
lt_tells a b e = grind (arith, nat_tests)

not_lt_tells : (a b : ℕ) → nat_lt a b ≡ false → b ≤ a
not_lt_tells a b e = grind (arith, nat_tests)

lt_holds : (a b : ℕ) → a < b → nat_lt a b ≡ true
lt_holds a b e = grind (arith, nat_tests)

lt_fails : (a b : ℕ) → b ≤ a → nat_lt a b ≡ false
lt_fails a b e = grind (arith, nat_tests)

off_key : (n k : ℕ) → k < n → is_at (nat_cmp n) k ≡ false
off_key n k below = grind (arith, nat_tests)

less_tells : (a b : ℕ) → nat_cmp a b ≡ Less → a < b
less_tells a b is = grind (arith, nat_tests)

-- ---- where nothing lies above

pub next_none : (units : UnitMap) (after : ℕ) → next_block units after ≡ None → above after units ≡ []
next_none [] after none = refl
next_none (e ∷ es) after none =
    let rest = next_none es after in
    elim (nat_lt after e.0) as (λ b. option_map (λ x. x.0) (cond b (Some e) (find (λ x. nat_lt after x.0) es)) ≡ None → cond b (e ∷ above after es) (above after es) ≡ []) [
      | true ↦ λ q. absurd (some_none e.0 q)
      | false ↦ λ q. rest q
    ] none

-- ---- the next block

pub next_above : (units : UnitMap) (after block : ℕ) → next_block units after ≡ Some block → after < block
next_above [] after block next = absurd (cc)
next_above (e ∷ es) after block next =
    let rest = next_above es after block in
    elim (nat_lt after e.0) as (λ b. nat_lt after e.0 ≡ b → option_map (λ x. x.0) (cond b (Some e) (find (λ x. nat_lt after x.0) es)) ≡ Some block → after < block) [
      | true ↦ λ is q. let same : e.0 ≡ block = cc in subst (λ (k : ℕ). after < k) same (lt_tells after e.0 is)
      | false ↦ λ is q. rest q
    ] refl next

-- all that come after a block lie above each number up to it
all_above : (block after : ℕ) (es : UnitMap) → All (λ k. nat_cmp block k ≡ Less) (keys_of es) → after ≤ block → above after es ≡ es
all_above block after [] all low = refl
all_above block after (e ∷ es) all low =
    let over = less_tells block e.0 (All-head (λ k. nat_cmp block k ≡ Less) e.0 (keys_of es) all) in
    let is : nat_lt after e.0 ≡ true = lt_holds after e.0 (omega arith) in
    rw is (ap (λ (fs : UnitMap). e ∷ fs) (all_above block after es (All-tail (λ k. nat_cmp block k ≡ Less) e.0 (keys_of es) all) low))

-- the next block has a unit, and what lies above a number is that unit and what lies above the block
pub record IsNext (units : UnitMap) (after block : ℕ) : Type 0 where
  pub unit : CommitUnit
  pub stands : unit_of units block ≡ Some unit
  pub above : above after units ≡ (block, unit) ∷ above block units

next_here : (after block : ℕ) (e : ℕ × CommitUnit) (es : UnitMap) → BlocksRise (e ∷ es) → nat_lt after e.0 ≡ true → e.0 ≡ block → IsNext (e ∷ es) after block
next_here after block e es rising is same =
    subst (λ (k : ℕ). IsNext (e ∷ es) after k) same (record {
      unit = e.1;
      stands = rw (at_key e.0 e.0 ∙ nat_itself e.0) refl;
      above =
          let low = lt_tells after e.0 is in
          let behind = All-after_first nat_cmp e.0 (keys_of es) rising in
          let one = all_above e.0 after es behind (omega arith) in
          let two = all_above e.0 e.0 es behind (omega arith) in
          rw (is, lt_fails e.0 e.0 (omega arith)) (ap (λ (fs : UnitMap). e ∷ fs) (one ∙ sym two));
    })

next_later : (after block : ℕ) (e : ℕ × CommitUnit) (es : UnitMap) → nat_lt after e.0 ≡ false → after < block → IsNext es after block → IsNext (e ∷ es) after block
next_later after block e es is low rest =
    let under = not_lt_tells after e.0 is in
    record {
      unit = rest.unit;
      stands = rw (off_key block e.0 (omega arith)) rest.stands;
      above = rw (is, lt_fails block e.0 (omega arith)) rest.above;
    }

pub next_some : (units : UnitMap) (after block : ℕ) → BlocksRise units → next_block units after ≡ Some block → IsNext units after block
next_some [] after block rising next = absurd (cc)
next_some (e ∷ es) after block rising next =
    let rest = next_some es after block (sorted_tail nat_cmp e.0 (keys_of es) rising) in
    let low = next_above es after block in
    elim (nat_lt after e.0) as (λ b. nat_lt after e.0 ≡ b → option_map (λ x. x.0) (cond b (Some e) (find (λ x. nat_lt after x.0) es)) ≡ Some block → IsNext (e ∷ es) after block) [
      | true ↦ λ is q. let same : e.0 ≡ block = cc in next_here after block e es rising is same
      | false ↦ λ is q. next_later after block e es is (low q) (rest q)
    ] refl next

-- ---- a unit that ends

-- a unit that ends does not change what lies above its block, nor above a later number
pub ended_above : (units : UnitMap) (after block : ℕ) → block ≤ after → above after (ended units block) ≡ above after units
ended_above [] after block low = refl
ended_above (e ∷ es) after block low =
    let rest = ended_above es after block low in
    rw (at_key block e.0)
    (elim (e.0 == block) as (λ b. (e.0 == block) ≡ b → above after (cond b es (e ∷ ended es block)) ≡ above after (e ∷ es)) [
      | true ↦ λ is.
          let same : e.0 ≡ block = nat_same e.0 block is in
          rw (lt_fails after e.0 (omega arith)) refl
      | false ↦ λ is. ap (λ (fs : UnitMap). cond (nat_lt after e.0) (e ∷ fs) fs) rest
    ] refl)
