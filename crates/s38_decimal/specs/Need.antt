-- How many digits a computation needs.
use Rattle.std.specs.Prelude.{ℕ, ◌+◌, ◌-◌, ◌==◌, ◌&&◌, max, Bool, true, false, ℤ, pos, negsuc}
use Rattle.s38_base.specs.declared.attr.Attr.{Attr}
use Rattle.s38_base.specs.declared.op.Op.{Op}
use Rattle.s38_base.specs.declared.op.Op.TheVariants.{Addn, Subn, Mult, Div, Rem, Neg, Cpynv, Scale, Cmpnvb}
use Rattle.s38_base.specs.Attributes.{digits_of, fraction_of}

-- the digits before the point
abbrev pub whole_digits : Attr → ℕ
whole_digits attr = digits_of attr - fraction_of attr

abbrev pub longer_fraction : Attr → Attr → ℕ
longer_fraction a b = max (fraction_of a) (fraction_of b)

abbrev pub longer_whole : Attr → Attr → ℕ
longer_whole a b = max (whole_digits a) (whole_digits b)

-- both numbers and the receiver have as many digits after the point
abbrev pub has_one_fraction : Attr → Attr → Attr → Bool
has_one_fraction a b to = (fraction_of a == fraction_of to) && (fraction_of b == fraction_of to)

abbrev pub sum_need : Attr → Attr → Attr → ℕ
sum_need a b to = longer_whole a b + 1 + max (longer_fraction a b) (fraction_of to)

abbrev pub product_need : Attr → Attr → Attr → ℕ
product_need a b to = whole_digits a + whole_digits b + max (fraction_of a + fraction_of b) (fraction_of to)

-- the longer of dividend and divisor, once both are whole numbers
abbrev pub quotient_need : Attr → Attr → Attr → ℕ
quotient_need a b to =
    max (digits_of a + (fraction_of to + fraction_of b - fraction_of a))
    (digits_of b + (fraction_of a - (fraction_of to + fraction_of b)))

abbrev pub remainder_need : Attr → Attr → Attr → ℕ
remainder_need a b to = longer_whole a b + max (longer_fraction a b) (fraction_of to)

abbrev pub copy_need : Attr → Attr → ℕ
copy_need a to = whole_digits a + max (fraction_of a) (fraction_of to)

abbrev pub scale_need : Attr → Attr → ℤ → ℕ
scale_need a to (pos power) = whole_digits a + power + max (fraction_of a) (fraction_of to)
scale_need a to (negsuc below) = whole_digits a + max (fraction_of a + (below + 1)) (fraction_of to)

abbrev pub order_need : Attr → Attr → ℕ
order_need a b = longer_whole a b + longer_fraction a b

-- by the instruction; others compute nothing
abbrev pub need_of : Op → Attr → Attr → Attr → ℤ → ℕ
need_of Addn a b to power = sum_need a b to
need_of Subn a b to power = sum_need a b to
need_of Mult a b to power = product_need a b to
need_of Div a b to power = quotient_need a b to
need_of Rem a b to power = remainder_need a b to
need_of Neg a b to power = copy_need a to
need_of Cpynv a b to power = copy_need a to
need_of Scale a b to power = scale_need a to power
need_of Cmpnvb a b to power = order_need a b
need_of _ a b to power = 0

-- instructions with two numeric sources
abbrev pub has_second : Op → Bool
has_second Addn = true
has_second Subn = true
has_second Mult = true
has_second Div = true
has_second Rem = true
has_second Cmpnvb = true
has_second _ = false

-- instructions with one
abbrev pub has_one : Op → Bool
has_one Neg = true
has_one Cpynv = true
has_one Scale = true
has_one _ = false

-- instructions that compare have no receiver
abbrev pub has_receiver : Op → Bool
has_receiver Cmpnvb = false
has_receiver _ = true
