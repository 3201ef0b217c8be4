-- The groups of a content that has the pages of what is durable are the objects that are kept.
use Rattle.std.proofs.Common.{◌≡◌, ◌∙◌, ◌<◌, ◌≤◌, ◌==◌, ◌+◌, ℕ, Bool, true, false, cond, not, List, [], ◌∷◌, Option, Some, None, filter, map, refl, sym, ap, arith, lit≤}
use Rattle.std.proofs.lemmas.Bool.Decides.{nat_tests}
use Rattle.std.proofs.lemmas.Map.Keys.{sorted_from_strictly_increasing}
use Rattle.std.specs.List.{AllByRecursion}
use Rattle.std.specs.Ordering.{eq_by_cmp}
use Rattle.std.specs.Prelude.{◌&&◌, ◌||◌, is_some}
use Rattle.s38_base.specs.Limits.{ceiling_step, last_number}
use Rattle.s38_base.specs.declared.page.Change.{Change}
use Rattle.s38_base.specs.declared.page.Key.{Key}
use Rattle.s38_checkpoint.proofs.PartLaws.{ceiling_wanted}
use Rattle.s38_durable_state.specs.Durable.{Durable, kept}
use Rattle.s38_durable_state.specs.Represents.{ceiling_parts, parts_at, parts_in}
use Rattle.s38_page_diff.proofs.WalkLaws.{key_at}
use Rattle.s38_page_diff.specs.Differences.{wanted_at}
use Rattle.s38_restart.proofs.catalog.RunLaws.{groups_rise, in_order}
use Rattle.s38_restart.specs.catalog.Groups.{group_of, groups, is_header, parts_of_number}
use Rattle.s38_restart.specs.catalog.Runs.{number_of}
use Rattle.s38_image.specs.Faults.{Group, ceiling_page}
use Rattle.s38_image.specs.PartPlaces.{ceiling_key}
use Rattle.s38_image.specs.Pages.{no_tags}
use Rattle.s38_image.specs.Images as images
use Rattle.s38_image.specs.declared.stored.Stored.{Stored}
use Rattle.s38_page_diff.proofs.reconcile.SoFarLaws.{wanted_whole}
use Rattle.s38_laws_flush.proofs.durable.ImageLaws.{image_header}
use Rattle.s38_laws_flush.proofs.durable.RoomLaws.{wanted_object}
use Rattle.s38_laws_flush.proofs.durable.SizeLaws.{header_there}
use Rattle.s38_laws_flush.proofs.durable.CleanedPageLaws.{pages_of}
use Rattle.s38_laws_flush.specs.durable.Kept.{HasParts}
use Rattle.s38_restart.specs.Parts.{all_parts}
use Rattle.s38_restart.specs.Restarted.{number_in_stored}
use Rattle.s38_flush.proofs.KeptLaws.{kept_number}
use Rattle.s38_vault.specs.Content.{Content}
use Rattle.s38_vault.specs.Keys.{key_cmp}
use Rattle.s38_flush.specs.Leftovers.{RepresentsUpToOrphans, belongs}
use Rattle.s38_laws_recovery.specs.Restarting.{CanRestart}
use Rattle.s38_laws_recovery.proofs.NumberLaws.{IsKeptIn, each_kept, has, kept_has, same_numbers}
use Rattle.s38_laws_recovery.proofs.PartLaws.{HasPage, object_pages, parts_pages, parts_rise, parts_same, stream_pages}

-- ---- which numbers have a header

header_key : (n : ℕ) (k : Key) → eq_by_cmp key_cmp (key_at n 0) k ≡ ((k.part == 0) && (k.object == n))
header_key n k = grind (arith, nat_tests)

-- one part more: it is of part 0, of the ceiling's number, of the number that is looked for, which may be the ceiling's
one_more : (first ceiling own at : Bool) (rest more : Bool) → (own ≡ true → ceiling ≡ at) → rest ≡ (not at && more) → cond (first && not ceiling) (own || rest) rest ≡ (not at && cond (first && own) true more)
one_more false ceiling own at rest more same is = is
one_more true true true true rest more same is = is
one_more true true true false rest more same is = absurd (let e : true ≡ false = same refl in cc)
one_more true true false at rest more same is = is
one_more true false true true rest more same is = absurd (let e : false ≡ true = same refl in cc)
one_more true false true false rest more same is = refl
one_more true false false at rest more same is = is

nothing : (at : Bool) → false ≡ (not at && false)
nothing true = refl
nothing false = refl

abbrev numbers_in : List Change → List Change → List ℕ
numbers_in parts cs = map number_of (map (group_of parts) (filter is_header cs))

headers_has : (n : ℕ) (parts cs : List Change) → AllByRecursion HasPage cs → has n (numbers_in parts cs) ≡ (not (n == ceiling_key) && is_some (wanted_at cs (key_at n 0)))
headers_has n parts [] pages = nothing (n == ceiling_key)
headers_has n parts (c ∷ cs) pages =
    pushed (is_header c) ∙ one_more (c.key.part == 0) (c.key.object == ceiling_key) (c.key.object == n) (n == ceiling_key) (has n (numbers_in parts cs)) (is_some (wanted_at cs (key_at n 0))) same (headers_has n parts cs pages.1)
    ∙ ap (λ b. not (n == ceiling_key) && b) (sym found)
  where
    pushed : (b : Bool) → has n (map number_of (map (group_of parts) (cond b (c ∷ filter is_header cs) (filter is_header cs)))) ≡ cond b ((c.key.object == n) || has n (numbers_in parts cs)) (has n (numbers_in parts cs))
    pushed true = refl
    pushed false = refl

    same : (c.key.object == n) ≡ true → (c.key.object == ceiling_key) ≡ (n == ceiling_key)
    same own = let at : c.key.object ≡ n = grind (arith, nat_tests) in ap (λ (k : ℕ). k == ceiling_key) at

    some : (b : Bool) → is_some (cond b c.page (wanted_at cs (key_at n 0))) ≡ cond b true (is_some (wanted_at cs (key_at n 0)))
    some true = pages.0
    some false = refl

    found : is_some (wanted_at (c ∷ cs) (key_at n 0)) ≡ cond ((c.key.part == 0) && (c.key.object == n)) true (is_some (wanted_at cs (key_at n 0)))
    found = ap (λ b. is_some (cond b c.page (wanted_at cs (key_at n 0)))) (header_key n c.key) ∙ some ((c.key.part == 0) && (c.key.object == n))

-- ---- a number with all its parts

abbrev group_at : List Change → ℕ → Group
group_at parts n = record { number = n; parts = parts_of_number n parts }

regrouped : (parts hs : List Change) → map (group_of parts) hs ≡ map (group_at parts) (map number_of (map (group_of parts) hs))
regrouped parts [] = refl
regrouped parts (c ∷ hs) = ap (λ (gs : List Group). group_of parts c ∷ gs) (regrouped parts hs)

-- what is kept, as a group
abbrev pub group_of_stored : Stored → Group
group_of_stored x = record { number = x.object.number.0; parts = images.image_parts x }

abbrev pub groups_kept : Durable → List Group
groups_kept d = map group_of_stored d.objects

-- no object has the number of the ceiling
pub low_number : (n ceiling : ℕ) → n ≤ ceiling → ceiling ≤ last_number + ceiling_step → (n == ceiling_key) ≡ false
low_number n ceiling given low = let high : n < ceiling_key = omega (arith, given, low) in grind (arith, nat_tests)

none_at_ceiling : (d : Durable) → CanRestart d → (n : ℕ) → (n == ceiling_key) ≡ true → is_some (kept d.objects n) ≡ false
none_at_ceiling d can n at = by (kept d.objects n) refl
  where
    by : (r : Option Stored) → kept d.objects n ≡ r → is_some r ≡ false
    by None is = refl
    by (Some x) is = absurd (let e : true ≡ false = sym at ∙ low_number n d.ceiling (can.each n x is).given can.ceiling in cc)

module _ (m : Content) (d : Durable) (low : HasParts m) (pages : RepresentsUpToOrphans m d) (can : CanRestart d) where
  abbrev parts : List Change
  parts = all_parts m

  -- ---- the parts of a number

  at_kept : (x : Stored) → (x.object.number.0 == ceiling_key) ≡ false → kept d.objects x.object.number.0 ≡ Some x → parts_at d x.object.number.0 ≡ images.image_parts x
  at_kept x off is = ap (λ b. cond b (ceiling_parts d.ceiling) (parts_in (kept d.objects x.object.number.0))) off ∙ ap parts_in is

  own_belongs : (n : ℕ) (key : Key) → key.object ≡ n → is_some (kept d.objects n) ≡ true → belongs d key ≡ true
  own_belongs n key own some = by (key.part == 0) (key.object == ceiling_key) (ap (λ (k : ℕ). is_some (kept d.objects k)) own ∙ some)
    where
      by : (a b : Bool) → is_some (kept d.objects key.object) ≡ true → (a || (b || is_some (kept d.objects key.object))) ≡ true
      by true b h = refl
      by false true h = refl
      by false false h = h

  parts_kept : (x : Stored) → IsKeptIn d.objects x → parts_of_number x.object.number.0 parts ≡ images.image_parts x
  parts_kept x is =
      let n = x.object.number.0 in
      let image = can.images n x is in
      let off = low_number n d.ceiling (can.each n x is).given can.ceiling in
      parts_same m low n (images.image_parts x) (wanted_object x n refl (image_header x image)) (object_pages x)
      (λ q own before. pages.each q before (own_belongs n q own (ap is_some is)) ∙ ap (λ (k : ℕ). wanted_at (parts_at d k) q) own ∙ ap (λ (cs : List Change). wanted_at cs q) (at_kept x off is))

  pub ceiling_kept : parts_of_number ceiling_key parts ≡ ceiling_parts d.ceiling
  ceiling_kept =
      parts_same m low ceiling_key (ceiling_parts d.ceiling) (wanted_whole ceiling_key (ceiling_parts d.ceiling) (ceiling_wanted d.ceiling)) (stream_pages ceiling_key 0 (ceiling_page.print d.ceiling) (no_tags ceiling_page d.ceiling))
      (λ q own before. pages.each q before (ceiling_belongs q own) ∙ ap (λ (k : ℕ). wanted_at (parts_at d k) q) own)
    where
      ceiling_belongs : (q : Key) → q.object ≡ ceiling_key → belongs d q ≡ true
      ceiling_belongs q own = by (q.part == 0) (q.object == ceiling_key) (ap (λ (k : ℕ). k == ceiling_key) own)
        where
          by : (a b : Bool) → b ≡ true → (a || (b || is_some (kept d.objects q.object))) ≡ true
          by true b h = refl
          by false true h = refl
          by false false h = absurd (let e : false ≡ true = h in cc)

  -- ---- the numbers

  header_page : (n : ℕ) → (n == ceiling_key) ≡ false → is_some (wanted_at parts (key_at n 0)) ≡ is_some (kept d.objects n)
  header_page n off =
      ap is_some (pages_of m (key_at n 0) ∙ pages.each (key_at n 0) (lit≤ tt) refl)
      ∙ ap (λ b. is_some (wanted_at (cond b (ceiling_parts d.ceiling) (parts_in (kept d.objects n))) (key_at n 0))) off
      ∙ by (kept d.objects n) refl
    where
      by : (r : Option Stored) → kept d.objects n ≡ r → is_some (wanted_at (parts_in r) (key_at n 0)) ≡ is_some r
      by None is = refl
      by (Some x) is =
          ap (λ (k : ℕ). is_some (wanted_at (images.image_parts x) (key_at k 0))) (sym (kept_number n d.objects x is)) ∙ header_there x (image_header x (can.images n x is))

  numbers_has : (n : ℕ) → has n (map number_of (groups parts)) ≡ has n (map number_in_stored d.objects)
  numbers_has n = headers_has n parts parts (parts_pages m) ∙ by (n == ceiling_key) refl ∙ sym (kept_has n d.objects)
    where
      by : (b : Bool) → (n == ceiling_key) ≡ b → (not b && is_some (wanted_at parts (key_at n 0))) ≡ is_some (kept d.objects n)
      by true at = sym (none_at_ceiling d can n at)
      by false off = header_page n off

  numbers_same : map number_of (groups parts) ≡ map number_in_stored d.objects
  numbers_same =
      same_numbers (map number_of (groups parts)) (map number_in_stored d.objects)
      (sorted_from_strictly_increasing (map number_of (groups parts)) (groups_rise parts (in_order parts (parts_rise m))))
      (sorted_from_strictly_increasing (map number_in_stored d.objects) can.rising) numbers_has

  -- ---- the groups

  grouped : (xs : List Stored) → AllByRecursion (IsKeptIn d.objects) xs → map (group_at parts) (map number_in_stored xs) ≡ map group_of_stored xs
  grouped [] each = refl
  grouped (x ∷ xs) each =
      let first = ap (λ (cs : List Change). record { number = x.object.number.0; parts = cs }) (parts_kept x each.0) in
      let rest = grouped xs each.1 in
      λ i. first i ∷ rest i

  pub groups_same : groups parts ≡ groups_kept d
  groups_same =
      regrouped parts (filter is_header parts) ∙ ap (map (group_at parts)) numbers_same
      ∙ grouped d.objects (each_kept d.objects (sorted_from_strictly_increasing (map number_in_stored d.objects) can.rising))
