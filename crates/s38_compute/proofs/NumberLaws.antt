-- Small laws of numbers and their attributes.
use Rattle.std.proofs.Common.{◌≡◌, ℕ, ◌+◌, ◌-◌, ◌≤◌, max, Bool, true, false, ◌&&◌, ◌==◌, nat_le, ℤ, pos, ◌*ℤ◌, refl, ap, sym, ◌∙◌, arith, rules}
use Rattle.std.proofs.lemmas.Bool.Decides.{nat_tests}
use Rattle.std.proofs.lemmas.Int.{ints}
use Rattle.std.specs.Option.{option_map}
use Rattle.std.specs.Prelude.{IsTrue, IfSome, MatchOption, Option, Some, None, Result, Err, if◌then◌else◌}
use Rattle.s38_base.specs.declared.attr.Attr.{Attr}
use Rattle.s38_base.specs.declared.exception.Exception.{Exception}
use Rattle.s38_base.specs.declared.op.Op.{Op}
use Rattle.s38_base.specs.declared.pointer.Pointer.{Pointer}
use Rattle.s38_base.specs.Scalar.{fits}
use Rattle.s38_base.specs.Attributes.{digits_of, fraction_of, is_numeric}
use Rattle.s38_decimal.specs.declared.dec.Dec.{Dec}
use Rattle.s38_decimal.specs.declared.dec.DecimalFault.{DecimalFault}
use Rattle.s38_decimal.specs.declared.dec.DecimalFault.TheVariants.{Size}
use Rattle.s38_decimal.specs.Need.{has_one_fraction, need_of, sum_need}
use Rattle.s38_decimal.specs.Values.{Exact, answer, difference_of, exact, scaled_by, sum_of}
use Rattle.s38_decimal.specs.declared.dec.Target.{Target}
use Rattle.s38_base.specs.declared.op.Op.TheVariants.{Addn, Subn}
use Rattle.s38_decimal.proofs.Attributes.{digits_few, fraction_le}
use Rattle.s38_compute.specs.Compute.{pointer_moved, result_has_room, two_computed}

-- what holds a number is numeric
pub fits_numeric : (attr : Attr) (z : ℤ) → IsTrue (fits attr z) → IsTrue (is_numeric attr)
unfolding fits
fits_numeric attr z h = search rules

times_one : (z : ℤ) → z *ℤ pos 1 ≡ z
times_one z = omega (arith, ints)

-- a power of 0 leaves the number
pub scaled-none : (x : Exact) → scaled_by x (pos 0) ≡ x
scaled-none x = ap (λ (t : ℤ). let y : Exact = record { top = t; bottom = x.bottom } in y) (times_one x.top)

-- a pointer is moved by what was read, whatever attribute a number without value had
pub moved_by_read : (op : Op) (p : Option Pointer) (a : Attr) (x : Option ℤ) (read : Option Dec) (r : Result Pointer Exception)
    → option_map (λ d. d.units) read ≡ x → IfSome read (λ n. n.attr ≡ a)
    → MatchOption read ((b : Attr) → r ≡ pointer_moved op p b None) (λ n. r ≡ pointer_moved op p n.attr (Some n.units))
    → r ≡ pointer_moved op p a x
moved_by_read op p a x None r is same gives = gives a ∙ ap (pointer_moved op p a) is
moved_by_read op p a x (Some n) r is same gives = gives ∙ ap (λ b. pointer_moved op p b (Some n.units)) same ∙ ap (pointer_moved op p a) is

-- ---- sums at one fraction

-- both numbers and the receiver have as many digits after the point, and the receiver holds numbers
abbrev pub plain : Attr → Attr → Attr → Bool
plain a b to = is_numeric to && has_one_fraction a b to

plain_numeric : (a b to : Attr) → plain a b to ≡ true → is_numeric to ≡ true
plain_numeric a b to h = grind (arith, nat_tests)

same_fractions : (f g k : ℕ) (numeric : Bool) → (numeric && ((f == k) && (g == k))) ≡ true → (f ≡ k) × (g ≡ k)
same_fractions f g k true h = (grind (arith, nat_tests), grind (arith, nat_tests))
same_fractions f g k false h = cc

need_few : (x y f g k : ℕ) → x ≤ 31 → y ≤ 31 → k ≤ 31 → f ≡ k → g ≡ k → max (x - f) (y - g) + 1 + max (max f g) k ≤ 38
need_few x y f g k x_few y_few few f_is g_is = omega arith

-- then the sum needs 32 digits at most
pub plain_need : (a b to : Attr) → IsTrue (is_numeric a) → IsTrue (is_numeric b) → plain a b to ≡ true → sum_need a b to ≤ 38
plain_need a b to first second h =
    let same = same_fractions (fraction_of a) (fraction_of b) (fraction_of to) (is_numeric to) h in
    let few : fraction_of to ≤ 31 = omega (arith, same.0, fraction_le a first, digits_few a first) in
    need_few (digits_of a) (digits_of b) (fraction_of a) (fraction_of b) (fraction_of to) (digits_few a first) (digits_few b second) few same.0 same.1

true_le : (n m : ℕ) → n ≤ m → nat_le n m ≡ true
true_le n m h = grind (arith, nat_tests)

plain_computed : (op : Op) (r : Result ℤ DecimalFault) (a b to : Attr) → IsTrue (is_numeric a) → IsTrue (is_numeric b) → plain a b to ≡ true → need_of op a b to (pos 0) ≡ sum_need a b to → r ≡ (if result_has_room op a b to (pos 0) then r else Err Size)
plain_computed op r a b to first second h is =
    let few : nat_le (need_of op a b to (pos 0)) 38 ≡ true = true_le (need_of op a b to (pos 0)) 38 (omega (arith, is, plain_need a b to first second h)) in
    let room : result_has_room op a b to (pos 0) ≡ true = ap (λ t. t && nat_le (need_of op a b to (pos 0)) 38) (plain_numeric a b to h) ∙ few in
    sym (ap (λ (t : Bool). if t then r else Err Size) room)

pub plain_sum : (op : Op) (to : Target) (a b : Attr) (x y : ℤ) (r : Result ℤ DecimalFault) → IsTrue (is_numeric a) → IsTrue (is_numeric b) → plain a b to.attr ≡ true → op ≡ Addn → r ≡ answer to (sum_of (exact x (fraction_of a)) (exact y (fraction_of b))) → r ≡ two_computed op to a x b y
unfolding two_computed
plain_sum op to a b x y r first second h which is =
    is ∙ plain_computed Addn (answer to (sum_of (exact x (fraction_of a)) (exact y (fraction_of b)))) a b to.attr first second h refl ∙ ap (λ o. two_computed o to a x b y) (sym which)

pub plain_difference : (op : Op) (to : Target) (a b : Attr) (x y : ℤ) (r : Result ℤ DecimalFault) → IsTrue (is_numeric a) → IsTrue (is_numeric b) → plain a b to.attr ≡ true → op ≡ Subn → r ≡ answer to (difference_of (exact x (fraction_of a)) (exact y (fraction_of b))) → r ≡ two_computed op to a x b y
unfolding two_computed
plain_difference op to a b x y r first second h which is =
    is ∙ plain_computed Subn (answer to (difference_of (exact x (fraction_of a)) (exact y (fraction_of b)))) a b to.attr first second h refl ∙ ap (λ o. two_computed o to a x b y) (sym which)
