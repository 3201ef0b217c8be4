-- How many changes of a number are of no orphan page: where nothing is kept, its header alone.
use Rattle.std.proofs.Common.{◌≡◌, ◌∙◌, ℕ, zero, suc, ◌+◌, ◌-◌, ◌<◌, ◌≤◌, ◌==◌, Bool, true, false, cond, List, [], ◌∷◌, ◌++◌, length, refl, ap, arith, length-append}
use Rattle.std.proofs.lemmas.Bool.Decides.{nat_tests}
use Rattle.std.proofs.lemmas.List.Elements.{filter-append}
use Rattle.std.proofs.lemmas.List.Filters.{length-filter_both}
use Rattle.std.specs.Prelude.{◌||◌, None, Option, filter, is_some}
use Rattle.s38_base.specs.declared.page.Change.{Change}
use Rattle.s38_base.specs.declared.page.Key.{Key}
use Rattle.s38_base.specs.declared.page.Page.{Page}
use Rattle.s38_durable_state.specs.Durable.{Durable, kept}
use Rattle.s38_durable_state.specs.Represents.{parts_end}
use Rattle.s38_page_diff.proofs.DifferenceLaws.{split}
use Rattle.s38_page_diff.proofs.WalkLaws.{key_at}
use Rattle.s38_page_diff.specs.Differences.{difference_at, differences, differences_from, same_page, wanted_at}
use Rattle.s38_image.specs.PartPlaces.{ceiling_key}
use Rattle.s38_flush.specs.Leftovers.{belongs, belongs_in, is_left_in}
use Rattle.s38_laws_flush.proofs.puts.DifferLaws.{differ, few_differ, range_at}

-- no more of some changes are of no orphan page than there are
pub due_fewer : (d : Durable) (cs : List Change) → length (filter (belongs_in d) cs) ≤ length cs
due_fewer d cs = let both = length-filter_both (belongs_in d) (is_left_in d) (λ c. refl) cs in omega (arith, both)

module _ (d : Durable) (n : ℕ) (low : n < ceiling_key) (none : kept d.objects n ≡ None) (pages : Key → Option Page) (wanted : List Change) where
  -- after the header each part is an orphan page
  behind_header : (part : ℕ) → 1 ≤ part → belongs d (key_at n part) ≡ false
  behind_header part from =
      let not_header : (part == 0) ≡ false = grind (arith, nat_tests, from) in
      let not_ceiling : (n == ceiling_key) ≡ false = grind (arith, nat_tests, low) in
      ap (λ b. b || ((n == ceiling_key) || is_some (kept d.objects n))) not_header
      ∙ ap (λ b. b || is_some (kept d.objects n)) not_ceiling
      ∙ ap is_some none

  none_behind : (count part : ℕ) → 1 ≤ part → filter (belongs_in d) (differences_from pages wanted n part count) ≡ []
  unfolding differences_from
  none_behind zero part from = refl
  none_behind (suc count) part from =
      filter-append (belongs_in d) (difference_at pages wanted (key_at n part)) (differences_from pages wanted n (part + 1) count)
      ∙ ap (λ (cs : List Change). filter (belongs_in d) (difference_at pages wanted (key_at n part)) ++ cs) (none_behind count (part + 1) (omega arith))
      ∙ here (same_page (pages (key_at n part)) (wanted_at wanted (key_at n part)))
    where
      here : (b : Bool) → filter (belongs_in d) (cond b [] (record { key = key_at n part; page = wanted_at wanted (key_at n part) } ∷ [])) ++ [] ≡ []
      here true = refl
      here false = ap (λ b. cond b (record { key = key_at n part; page = wanted_at wanted (key_at n part) } ∷ []) [] ++ []) (behind_header part from)

  pub header_due : length (filter (belongs_in d) (differences pages (range_at n 0 parts_end) wanted)) ≤ 1
  header_due =
      let front = differences_from pages wanted n 0 1 in
      let parts : differences pages (range_at n 0 parts_end) wanted ≡ front ++ differences_from pages wanted n 1 (parts_end - 1) =
      split pages wanted n 1 (parts_end - 1) 0 (parts_end - 0) 1 (omega arith) (omega arith) in
      let all : filter (belongs_in d) (differences pages (range_at n 0 parts_end) wanted) ≡ filter (belongs_in d) front ++ [] =
      ap (filter (belongs_in d)) parts ∙ filter-append (belongs_in d) front (differences_from pages wanted n 1 (parts_end - 1))
      ∙ ap (λ (cs : List Change). filter (belongs_in d) front ++ cs) (none_behind (parts_end - 1) 1 (omega arith)) in
      let long = ap (λ (cs : List Change). length cs) all ∙ length-append (filter (belongs_in d) front) [] in
      let fewer = due_fewer d front in
      let one : differ pages wanted n 0 1 ≤ 1 = few_differ pages wanted n 0 1 in
      omega (arith, long, fewer, one)
