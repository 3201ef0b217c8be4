-- The extents of the objects that a store keeps: they rise, and each object is one whose extent is told.
use Rattle.std.proofs.Common.{◌≡◌, ℕ, ◌<◌, ◌≤◌, All, List, [], ◌∷◌, map, arith}
use Rattle.std.proofs.lemmas.Bool.Decides.{nat_tests}
use Rattle.std.proofs.lemmas.List.Elements.{All-from_recursion}
use Rattle.std.proofs.lemmas.Map.Keys.{sorted_from_strictly_increasing, sorted_head, sorted_tail}
use Rattle.std.specs.List.{AllByRecursion}
use Rattle.std.specs.List.Sorted.{IsStrictlyIncreasing, IsStrictlySortedBy}
use Rattle.std.specs.Ordering.{nat_cmp}
use Rattle.std.specs.Prelude.{None}
use Rattle.std.specs.declared.cmp.Ordering.TheVariants.{Less}
use Rattle.s38_durable_state.specs.Following.{extent_in}
use Rattle.s38_space_map.specs.Extents.{AreRising, IsBelowAll}
use Rattle.s38_base.specs.declared.page.Change.{Change}
use Rattle.s38_restart.specs.catalog.Stores.{ceiling_of, first_fault, objects_stored_in}
use Rattle.s38_image.specs.declared.stored.Stored.{Stored}
use Rattle.s38_image_writer.proofs.KindLaws.{read_printable}
use Rattle.s38_restart.proofs.StoredLaws.{IsKept, stored_kept}
use Rattle.s38_restart.specs.Parts.{AreParts}
use Rattle.s38_restart.specs.Restarted.{number_in_stored}
use Rattle.s38_rules.specs.store.Storable.{IsStorable}

-- ---- order

below : (n : ℕ) (ss : List Stored) → AllByRecursion (λ k. nat_cmp n k ≡ Less) (map number_in_stored ss) → IsBelowAll n (map extent_in ss)
below n [] above = tt
below n (s ∷ ss) above =
    let first : nat_cmp n s.object.number.0 ≡ Less = above.0 in
    let less : n < s.object.number.0 = grind (arith, nat_tests) in
    (less, below n ss above.1)

sorted_rise : (ss : List Stored) → IsStrictlySortedBy nat_cmp (map number_in_stored ss) → AreRising (map extent_in ss)
sorted_rise [] rising = tt
sorted_rise (s ∷ ss) rising = (
  below s.object.number.0 ss (sorted_head nat_cmp s.object.number.0 (map number_in_stored ss) rising),
  sorted_rise ss (sorted_tail nat_cmp s.object.number.0 (map number_in_stored ss) rising),
)

pub extents_rise : (ss : List Stored) → IsStrictlyIncreasing (map number_in_stored ss) → AreRising (map extent_in ss)
extents_rise ss rising = sorted_rise ss (sorted_from_strictly_increasing (map number_in_stored ss) rising)

-- ---- objects

abbrev pub IsStorableIn : Stored → Type 0
IsStorableIn s = IsStorable s.object

each_storable : (limit ceiling : ℕ) (ss : List Stored) → limit ≤ 16777216 → AllByRecursion (IsKept limit ceiling) ss → AllByRecursion IsStorableIn ss
each_storable limit ceiling [] small all = tt
each_storable limit ceiling (s ∷ ss) small all = (read_printable limit s small all.0.image, each_storable limit ceiling ss small all.1)

pub all_storable : (limit : ℕ) (parts : List Change) → limit ≤ 16777216 → AreParts parts → first_fault limit parts ≡ None → All IsStorableIn (objects_stored_in limit parts)
all_storable limit parts small are fault =
    All-from_recursion IsStorableIn (objects_stored_in limit parts) (each_storable limit (ceiling_of parts) (objects_stored_in limit parts) small (stored_kept limit parts are fault))
