-- Where no operand lies in a space, the address rules of one need are the rule of the need alone.
use Rattle.std.proofs.Common.{◌≡◌, ◌≤◌, ◌<◌, ◌==◌, ◌&&◌, ◌+◌, ◌∙◌, ℕ, suc, zero, Bool, true, false, not, List, [], ◌∷◌, length, min, cond, Option, Some, None, refl, sym, subst, arith}
use Rattle.std.proofs.lemmas.Bool.Decides.{nat_tests}
use Rattle.s38_base.specs.declared.exception.Exception.{Exception}
use Rattle.s38_base.specs.Limits.{last_operand}
use Rattle.s38_base.specs.Signals.{first}
use Rattle.s38_code.specs.declared.operand.Operand.{Operand}
use Rattle.s38_code.specs.declared.operand.Operand.TheVariants as operands
use Rattle.s38_rules.specs.declared.need.Need.{Need}
use Rattle.s38_rules.specs.state.Held.{Held}
use Rattle.s38_rules.specs.ask.Needs.{first_of}
use Rattle.s38_rules.specs.ask.Receivers.{is_in_space}
use Rattle.s38_rules.specs.ask.AddressRules.{address_rule, address_rules, by_operand, item_rule, needs_rule}
use Rattle.s38_verdicts.specs.Plain.{are_plain}

plain_item : (h : Held) (k : ℕ) (operand : Operand) → not (is_in_space (Some operand)) ≡ true → item_rule h k operand ≡ None
unfolding item_rule
plain_item h k (operands.InSpace base offset attr) plain = cc
plain_item h k (operands.Value attr bytes) plain = refl
plain_item h k (operands.Receiver attr) plain = refl
plain_item h k (operands.Ptr pointer) plain = refl
plain_item h k (operands.Whole number) plain = refl
plain_item h k (operands.Word word) plain = refl
plain_item h k (operands.Ident id) plain = refl
plain_item h k (operands.Text name) plain = refl
plain_item h k (operands.Attrs attrs) plain = refl
plain_item h k operands.Nothing plain = refl
plain_item h k operands.MachineContext plain = refl
plain_item h k operands.ContextList plain = refl

both_true : (a b : Bool) → (a && b) ≡ true → (a ≡ true) × (b ≡ true)
both_true true b h = (refl, h)
both_true false b h = cc

-- ---- the first of failures

pub or_none : (a : Option Exception) → first a None ≡ a
or_none None = refl
or_none (Some x) = refl

skip : (a b later : Option Exception) → a ≡ None → b ≡ None → first a (first b later) ≡ later
skip None None later h k = refl
skip None (Some x) later h k = cc
skip (Some x) b later h k = cc

stop : (a b later : Option Exception) (x : Exception) → a ≡ None → b ≡ Some x → first a (first b later) ≡ Some x
stop None None later x h k = cc
stop None (Some y) later x h k = k
stop (Some y) b later x h k = cc

-- ---- one need

asked : (rule : Need → Option Exception) (need : Need) (k : ℕ) → (need.place == k) ≡ true → needs_rule rule (need ∷ []) k ≡ rule need
asked rule need k h = subst (λ b. first_of rule (cond b (need ∷ []) []) ≡ first (rule need) None) (sym h) refl ∙ or_none (rule need)

passed : (rule : Need → Option Exception) (need : Need) (k : ℕ) → (need.place == k) ≡ false → needs_rule rule (need ∷ []) k ≡ None
passed rule need k h = subst (λ b. first_of rule (cond b (need ∷ []) []) ≡ None) (sym h) refl

quiet : (rule : Need → Option Exception) (need : Need) (k : ℕ) → rule need ≡ None → needs_rule rule (need ∷ []) k ≡ None
quiet rule need k none = by (need.place == k) refl
  where
    by : (b : Bool) → (need.place == k) ≡ b → needs_rule rule (need ∷ []) k ≡ None
    by true h = asked rule need k h ∙ none
    by false h = passed rule need k h

-- ---- operand by operand

met : (h : Held) (rule : Need → Option Exception) (need : Need) (k : ℕ) (ops : List Operand) → are_plain ops ≡ true → rule need ≡ None
    → by_operand (item_rule h) rule (need ∷ []) k ops ≡ None
met h rule need k [] plain none = quiet rule need 0 none
met h rule need k (operand ∷ more) plain none =
    let parts = both_true (not (is_in_space (Some operand))) (are_plain more) plain in
    let at = min k last_operand in
    skip (item_rule h at operand) (needs_rule rule (need ∷ []) at) (by_operand (item_rule h) rule (need ∷ []) (k + 1) more)
    (plain_item h at operand parts.0) (quiet rule need at none)
    ∙ met h rule need (k + 1) more parts.1 none

implied : (h : Held) (rule : Need → Option Exception) (need : Need) (k : ℕ) (ops : List Operand) → are_plain ops ≡ true → need.place ≡ 0 → 0 < k
    → by_operand (item_rule h) rule (need ∷ []) k ops ≡ rule need
implied h rule need k [] plain zero_place low = asked rule need 0 (grind (arith, nat_tests, zero_place))
implied h rule need k (operand ∷ more) plain zero_place low =
    let parts = both_true (not (is_in_space (Some operand))) (are_plain more) plain in
    let at = min k last_operand in
    let above : 0 < min k 255 = omega (arith, low) in
    let other : (need.place == min k 255) ≡ false = grind (arith, nat_tests, zero_place, above) in
    skip (item_rule h at operand) (needs_rule rule (need ∷ []) at) (by_operand (item_rule h) rule (need ∷ []) (k + 1) more)
    (plain_item h at operand parts.0) (passed rule need at other)
    ∙ implied h rule need (k + 1) more parts.1 zero_place (omega (arith, low))

failed : (h : Held) (rule : Need → Option Exception) (need : Need) (x : Exception) (k : ℕ) (ops : List Operand) → are_plain ops ≡ true → rule need ≡ Some x
    → k ≤ need.place → need.place < k + length ops → need.place ≤ 255
    → by_operand (item_rule h) rule (need ∷ []) k ops ≡ Some x
failed h rule need x k [] plain some low high few = absurd (omega (arith, low, high))
failed h rule need x k (operand ∷ more) plain some low high few =
    let parts = both_true (not (is_in_space (Some operand))) (are_plain more) plain in
    by (need.place == min k 255) refl parts.0 (λ past. failed h rule need x (k + 1) more parts.1 some past (omega (arith, high)) few)
  where
    by : (b : Bool) → (need.place == min k 255) ≡ b → not (is_in_space (Some operand)) ≡ true
        → (k + 1 ≤ need.place → by_operand (item_rule h) rule (need ∷ []) (k + 1) more ≡ Some x)
        → by_operand (item_rule h) rule (need ∷ []) k (operand ∷ more) ≡ Some x
    by true here own later =
        let at = min k last_operand in
        stop (item_rule h at operand) (needs_rule rule (need ∷ []) at) (by_operand (item_rule h) rule (need ∷ []) (k + 1) more) x
        (plain_item h at operand own) (asked rule need at here ∙ some)
    by false here own later =
        let at = min k last_operand in
        let past : k + 1 ≤ need.place = grind (arith, nat_tests, here, low, few) in
        skip (item_rule h at operand) (needs_rule rule (need ∷ []) at) (by_operand (item_rule h) rule (need ∷ []) (k + 1) more)
        (plain_item h at operand own) (passed rule need at here)
        ∙ later past

-- the address rules of one need
pub sole_rule : (h : Held) (ops : List Operand) (need : Need) → are_plain ops ≡ true → need.place ≤ length ops → need.place ≤ 255
    → address_rules h ops (need ∷ []) ≡ address_rule h ops need
unfolding address_rules
sole_rule h ops need plain there few = by (address_rule h ops need) refl need.place refl
  where
    by : (r : Option Exception) → address_rule h ops need ≡ r → (place : ℕ) → need.place ≡ place → by_operand (item_rule h) (address_rule h ops) (need ∷ []) 1 ops ≡ address_rule h ops need
    by r e zero at = implied h (address_rule h ops) need 1 ops plain at (omega arith)
    by None e (suc j) at = met h (address_rule h ops) need 1 ops plain e ∙ sym e
    by (Some x) e (suc j) at = failed h (address_rule h ops) need x 1 ops plain e (omega (arith, at)) (omega (arith, there)) few ∙ sym e
