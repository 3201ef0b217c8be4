-- A set that knows the names of a list.
use Rattle.std.specs.Prelude.{◌≡◌, ℕ, List}
use Rattle.std.specs.BTreeSet.{BTreeSet, contains}
use Rattle.std.specs.Cmp.Lexicographic.{slice_cmp}
use Rattle.std.specs.Ordering.{nat_cmp}
use Rattle.s38_template.specs.Grammar.{has}

pub record IsKnown (set : BTreeSet (List ℕ)) (names : List (List ℕ)) : Type 0 where
  pub same : (q : List ℕ) → contains (slice_cmp nat_cmp) set q ≡ has names q
