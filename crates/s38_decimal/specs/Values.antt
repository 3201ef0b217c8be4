-- Results as exact fractions, and how a receiver takes them.
use Rattle.std.specs.Prelude.{ℕ, ◌+◌, ◌*◌, ◌/◌, ◌^◌, ◌==◌, Bool, false, ℤ, pos, negsuc, neg_ℤ, ◌+ℤ◌, ◌-ℤ◌, ◌*ℤ◌, unsigned_abs, Result, Ok, Err, if◌then◌else◌}
use Rattle.std.specs.Int.{int_signum}
use Rattle.std.specs.Ordering.{int_cmp}
use Rattle.std.specs.declared.cmp.Ordering.{Ordering}
use Rattle.s38_base.specs.Scalar.{fits}
use Rattle.s38_base.specs.Attributes.{fraction_of}
use Rattle.s38_decimal.specs.declared.dec.Dec.{Dec}
use Rattle.s38_decimal.specs.declared.dec.Target.{Target}
use Rattle.s38_decimal.specs.declared.dec.DecimalFault.{DecimalFault}
use Rattle.s38_decimal.specs.declared.dec.DecimalFault.TheVariants.{Size, ZeroDivide}

-- a fraction whose bottom is above 0
pub record Exact : Type 0 where
  pub top : ℤ
  pub bottom : ℕ

-- the value of units with so many digits after the point
abbrev pub exact : ℤ → ℕ → Exact
exact units fraction = record { top = units; bottom = 10 ^ fraction }

abbrev pub exact_of : Dec → Exact
exact_of number = exact number.units (fraction_of number.attr)

abbrev pub whole_number : ℤ → Exact
whole_number z = record { top = z; bottom = 1 }

abbrev pub sum_of : Exact → Exact → Exact
sum_of x y = record { top = x.top *ℤ pos y.bottom +ℤ y.top *ℤ pos x.bottom; bottom = x.bottom * y.bottom }

abbrev pub difference_of : Exact → Exact → Exact
difference_of x y = record { top = x.top *ℤ pos y.bottom -ℤ y.top *ℤ pos x.bottom; bottom = x.bottom * y.bottom }

abbrev pub product_of : Exact → Exact → Exact
product_of x y = record { top = x.top *ℤ y.top; bottom = x.bottom * y.bottom }

abbrev pub negative_of : Exact → Exact
negative_of x = record { top = neg_ℤ x.top; bottom = x.bottom }

-- where y is not 0
abbrev pub quotient_of : Exact → Exact → Exact
quotient_of x y =
    record { top = x.top *ℤ pos y.bottom *ℤ int_signum y.top; bottom = x.bottom * unsigned_abs y.top }

-- n / m, cut, or rounded with halves up
abbrev pub cut_or_rounded : Bool → ℕ → ℕ → ℕ
cut_or_rounded round n m = if round then (2 * n + m) / (2 * m) else n / m

-- n, with the sign of z
abbrev pub with_sign : ℤ → ℕ → ℤ
with_sign (pos _) n = pos n
with_sign (negsuc _) n = neg_ℤ (pos n)

-- the units of a value with so many digits after the point: cut, or rounded with halves away from zero
abbrev pub units_at : Bool → ℕ → Exact → ℤ
units_at round fraction e = with_sign e.top (cut_or_rounded round (unsigned_abs e.top * 10 ^ fraction) e.bottom)

-- x - y * q, where q is the quotient cut to a whole number
abbrev pub remainder_of : Exact → Exact → Exact
remainder_of x y = difference_of x (product_of y (whole_number (units_at false 0 (quotient_of x y))))

-- the value times 10 ^ power
abbrev pub scaled_by : Exact → ℤ → Exact
scaled_by x (pos power) = record { top = x.top *ℤ pos (10 ^ power); bottom = x.bottom }
scaled_by x (negsuc below) = record { top = x.top; bottom = x.bottom * 10 ^ (below + 1) }

-- the value without its fraction
abbrev pub whole_part_of : Exact → ℤ
whole_part_of x = units_at false 0 x

abbrev pub exact_order : Exact → Exact → Ordering
exact_order x y = int_cmp (x.top *ℤ pos y.bottom) (y.top *ℤ pos x.bottom)

-- a receiver takes units, or they don't fit
abbrev pub held_units : Target → ℤ → Result ℤ DecimalFault
held_units to units = if fits to.attr units then Ok units else Err Size

-- what a receiver answers to a value
abbrev pub answer : Target → Exact → Result ℤ DecimalFault
answer to e = held_units to (units_at to.round (fraction_of to.attr) e)

abbrev pub is_zero : Exact → Bool
is_zero x = unsigned_abs x.top == 0

-- what a receiver answers to a quotient, and to a remainder
abbrev pub quotient_answer : Target → Exact → Exact → Result ℤ DecimalFault
quotient_answer to x y = if is_zero y then Err ZeroDivide else answer to (quotient_of x y)

abbrev pub remainder_answer : Target → Exact → Exact → Result ℤ DecimalFault
remainder_answer to x y = if is_zero y then Err ZeroDivide else answer to (remainder_of x y)
