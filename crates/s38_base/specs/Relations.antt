-- The words of relations are numbered in their order.
use Rattle.std.specs.Prelude.{ℕ, ◌==◌, Bool, true, false, not, Option, Some, None, if◌then◌else◌}
use Rattle.std.specs.declared.cmp.Ordering.{Ordering}
use Rattle.std.specs.declared.cmp.Ordering.TheVariants.{Less, Equal, Greater}
use Rattle.s38_base.specs.declared.words.Relation.{Relation}
use Rattle.s38_base.specs.declared.words.Relation.TheVariants.{Eq, Ne, Lo, Hi, Nl, Nh, Any, First, Last}

abbrev pub relation_word : Relation → ℕ
relation_word Eq = 0
relation_word Ne = 1
relation_word Lo = 2
relation_word Hi = 3
relation_word Nl = 4
relation_word Nh = 5
relation_word Any = 6
relation_word First = 7
relation_word Last = 8

abbrev pub relation_of : ℕ → Option Relation
relation_of word =
    if word == 0 then Some Eq else (if word == 1 then Some Ne else (if word == 2 then Some Lo else
    (if word == 3 then Some Hi else (if word == 4 then Some Nl else (if word == 5 then Some Nh else
    (if word == 6 then Some Any else (if word == 7 then Some First else (if word == 8 then Some Last else None))))))))

abbrev pub is_less : Ordering → Bool
is_less Less = true
is_less _ = false

abbrev pub is_equal : Ordering → Bool
is_equal Equal = true
is_equal _ = false

abbrev pub is_greater : Ordering → Bool
is_greater Greater = true
is_greater _ = false

-- whether a relation holds of what is in this order to the other side; the last three hold always
abbrev pub holds : Relation → Ordering → Bool
holds Eq order = is_equal order
holds Ne order = not (is_equal order)
holds Lo order = is_less order
holds Hi order = is_greater order
holds Nl order = not (is_less order)
holds Nh order = not (is_greater order)
holds Any order = true
holds First order = true
holds Last order = true
