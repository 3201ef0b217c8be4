-- A map from names to numbers, beside the rows that it speaks of.
use Rattle.std.specs.Prelude.{◌≡◌, ℕ, List}
use Rattle.std.specs.Ordering.{nat_cmp}
use Rattle.std.specs.Cmp.Lexicographic.{slice_cmp}
use Rattle.std.specs.BTreeMap.{BTreeMap, get}
use Rattle.s38_code.specs.declared.program.Row.{Row}
use Rattle.s38_odt.specs.Table.{place_in}

-- the map gives the number of each declared name
pub record IsTied (places : BTreeMap (List ℕ) ℕ) (rows : List Row) : Type 0 where
  pub place : (name : List ℕ) → get (slice_cmp nat_cmp) places name ≡ place_in rows name
