-- Which bytes may be an entry: each numeric field holds a number.
use Rattle.std.specs.Prelude.{ℕ, Bool, true, not, ◌&&◌, ◌||◌, List, [], ◌∷◌, take, drop, Some, None, is_some}
use Rattle.s38_base.specs.Scalar.{value_of}
use Rattle.s38_base.specs.Attributes.{is_numeric, length_of}
use Rattle.s38_base.specs.declared.attr.Attr.{Attr}
use Rattle.s38_dataspaces.specs.Entries.{DataEntry}

-- a numeric field has a value; others hold any bytes
abbrev pub is_valued : Attr → List ℕ → Bool
is_valued attr bytes = not (is_numeric attr) || is_some (value_of attr bytes)

-- each numeric field has a value, where the bytes are cut into fields
abbrev pub have_values : List Attr → List ℕ → Bool
have_values [] bytes = true
have_values (attr ∷ fields) bytes = is_valued attr (take (length_of attr) bytes) && have_values fields (drop (length_of attr) bytes)

-- a deleted entry has no fields
abbrev pub is_proper : List Attr → DataEntry → Bool
is_proper fields None = true
is_proper fields (Some entry) = have_values fields entry
