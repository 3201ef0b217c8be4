-- A store that has the parts of all that can restart, and no others, has the pages of it.
use Rattle.std.proofs.Common.{◌≡◌, ◌∙◌, ◌==◌, ℕ, Bool, true, false, cond, List, [], ◌∷◌, ◌++◌, Option, Some, None, map, refl, sym, ap, arith}
use Rattle.std.proofs.lemmas.Bool.Decides.{nat_tests}
use Rattle.std.proofs.lemmas.Map.Keys.{sorted_from_strictly_increasing, sorted_head, sorted_tail}
use Rattle.std.specs.FinMap.{empty, get, get-empty}
use Rattle.std.specs.List.{AllByRecursion, flat_map}
use Rattle.std.specs.List.Sorted.{IsStrictlySortedBy}
use Rattle.std.specs.Ordering.{eq_by_cmp, nat_cmp}
use Rattle.std.specs.Prelude.{◌≢◌, is_some}
use Rattle.std.specs.declared.cmp.Ordering.TheVariants.{Less}
use Rattle.s38_base.specs.declared.page.Change.{Change}
use Rattle.s38_base.specs.declared.page.Key.{Key}
use Rattle.s38_base.specs.declared.page.Page.{Page}
use Rattle.s38_checkpoint.proofs.PartLaws.{ceiling_wanted}
use Rattle.s38_checkpoint.specs.Closing.{content_of, parts_of_all}
use Rattle.s38_durable_state.specs.Durable.{Durable, kept}
use Rattle.s38_durable_state.specs.Represents.{ceiling_parts, page_of, parts_in}
use Rattle.s38_page_diff.proofs.WalkLaws.{one_key}
use Rattle.s38_page_diff.proofs.WantedLaws.{inside}
use Rattle.s38_page_diff.specs.Differences.{IsWanted, wanted_at}
use Rattle.s38_restart.proofs.catalog.RunLaws.{AreInOrder, in_order, key_of}
use Rattle.s38_image.specs.Faults.{ceiling_page}
use Rattle.s38_image.specs.PartPlaces.{ceiling_key}
use Rattle.s38_image.specs.Images.{image_parts}
use Rattle.s38_image.specs.Pages.{no_tags}
use Rattle.s38_image.specs.declared.stored.Stored.{Stored}
use Rattle.s38_page_diff.proofs.reconcile.ContentLaws.{changed_at, changed_at-append, get-changed, other_number}
use Rattle.s38_page_diff.proofs.reconcile.SoFarLaws.{all_of, wanted_whole}
use Rattle.s38_page_diff.specs.reconcile.Replacing.{range_of}
use Rattle.s38_laws_flush.proofs.durable.ImageLaws.{image_header}
use Rattle.s38_laws_flush.proofs.durable.RoomLaws.{wanted_object}
use Rattle.s38_restart.specs.Restarted.{number_in_stored}
use Rattle.s38_vault.specs.Content.{Content}
use Rattle.s38_vault.specs.Keys.{key_cmp}
use Rattle.s38_laws_recovery.specs.Restarting.{CanRestart}
use Rattle.s38_laws_recovery.proofs.GroupLaws.{low_number}
use Rattle.s38_laws_recovery.proofs.NumberLaws.{IsKeptIn, each_kept, number_same}
use Rattle.s38_laws_recovery.proofs.PartLaws.{HasPage, object_pages, stream_pages}
use Rattle.s38_laws_recovery.proofs.WantedLaws.{none_at}

-- ---- changes of one number

-- the page that a list has for a key, or the one that was there before
abbrev page_or : Option Page → Option Page → Option Page
page_or None old = old
page_or (Some page) old = Some page

page_first : (new old : Option Page) → is_some new ≡ true → new ≡ page_or new old
page_first None old some = absurd (let e : false ≡ true = some in cc)
page_first (Some page) old some = refl

wanted_changed : (cs : List Change) (q : Key) (old : Option Page) → AreInOrder cs → AllByRecursion HasPage cs → changed_at cs q old ≡ page_or (wanted_at cs q) old
unfolding changed_at
wanted_changed [] q old order pages = refl
wanted_changed (c ∷ cs) q old order pages =
    by (eq_by_cmp key_cmp q c.key) refl (wanted_changed cs q (cond (eq_by_cmp key_cmp q c.key) c.page old) (sorted_tail key_cmp c.key (map key_of cs) order) pages.1)
  where
    by : (b : Bool) → eq_by_cmp key_cmp q c.key ≡ b → changed_at cs q (cond b c.page old) ≡ page_or (wanted_at cs q) (cond b c.page old) → changed_at cs q (cond b c.page old) ≡ page_or (cond b c.page (wanted_at cs q)) old
    by true is rest =
        let none : wanted_at cs q ≡ None = ap (wanted_at cs) (one_key q c.key is) ∙ none_at c.key cs (sorted_head key_cmp c.key (map key_of cs) order) in
        rest ∙ ap (λ (r : Option Page). page_or r c.page) none ∙ page_first c.page old pages.0
    by false is rest = rest

of_number : (n : ℕ) (cs : List Change) → IsWanted (range_of n) cs → AllByRecursion (λ c. c.key.object ≡ n) cs
of_number n cs wanted = all_of _ _ cs (λ c own. (inside (range_of n) c.key own).object) wanted.in_range

differ : (a b : ℕ) → (b == a) ≡ false → a ≢ b
differ a b off same = absurd (grind (arith, nat_tests))

-- ---- those of all objects

module _ (d : Durable) (can : CanRestart d) where
  wanted_of : (x : Stored) → IsKeptIn d.objects x → IsWanted (range_of x.object.number.0) (image_parts x)
  wanted_of x at = wanted_object x x.object.number.0 refl (image_header x (can.images x.object.number.0 x at))

  -- where nothing is kept of a number, nothing changes
  none_changed : (xs : List Stored) → AllByRecursion (IsKeptIn d.objects) xs → (q : Key) (old : Option Page) → kept xs q.object ≡ None → changed_at (flat_map image_parts xs) q old ≡ old
  unfolding changed_at
  none_changed [] each q old none = refl
  none_changed (x ∷ xs) each q old none = by (x.object.number.0 == q.object) refl (none_changed xs each.1 q) none
    where
      by : (b : Bool) → (x.object.number.0 == q.object) ≡ b → ((page : Option Page) → kept xs q.object ≡ None → changed_at (flat_map image_parts xs) q page ≡ page) → cond b (Some x) (kept xs q.object) ≡ None
          → changed_at (image_parts x ++ flat_map image_parts xs) q old ≡ old
      by true is rest none = absurd (let e : Some x ≡ None = none in cc)
      by false off rest none =
          changed_at-append (image_parts x) (flat_map image_parts xs) q old
          ∙ ap (changed_at (flat_map image_parts xs) q) (other_number (image_parts x) x.object.number.0 q old (of_number x.object.number.0 (image_parts x) (wanted_of x each.0)) (differ q.object x.object.number.0 off))
          ∙ rest old none

  below_none : (n : ℕ) (xs : List Stored) → AllByRecursion (λ k. nat_cmp n k ≡ Less) (map number_in_stored xs) → kept xs n ≡ None
  below_none n [] above = refl
  below_none n (x ∷ xs) above =
      let less : nat_cmp n x.object.number.0 ≡ Less = above.0 in
      let off : (x.object.number.0 == n) ≡ false = grind (arith, nat_tests) in
      rw off (below_none n xs above.1)

  or_none : (r : Option Page) → page_or r None ≡ r
  or_none None = refl
  or_none (Some page) = refl

  all_changed : (xs : List Stored) → AllByRecursion (IsKeptIn d.objects) xs → IsStrictlySortedBy nat_cmp (map number_in_stored xs) → (q : Key) → changed_at (flat_map image_parts xs) q None ≡ wanted_at (parts_in (kept xs q.object)) q
  unfolding changed_at
  all_changed [] each order q = refl
  all_changed (x ∷ xs) each order q =
      changed_at-append (image_parts x) (flat_map image_parts xs) q None
      ∙ by (x.object.number.0 == q.object) refl (all_changed xs each.1 (sorted_tail nat_cmp x.object.number.0 (map number_in_stored xs) order) q)
    where
      n : ℕ
      n = x.object.number.0

      by : (b : Bool) → (x.object.number.0 == q.object) ≡ b → changed_at (flat_map image_parts xs) q None ≡ wanted_at (parts_in (kept xs q.object)) q
          → changed_at (flat_map image_parts xs) q (changed_at (image_parts x) q None) ≡ wanted_at (parts_in (cond b (Some x) (kept xs q.object))) q
      by true is rest =
          let none : kept xs q.object ≡ None = ap (kept xs) (sym (number_same x.object.number.0 q.object is)) ∙ below_none x.object.number.0 xs (sorted_head nat_cmp x.object.number.0 (map number_in_stored xs) order) in
          none_changed xs each.1 q (changed_at (image_parts x) q None) none
          ∙ wanted_changed (image_parts x) q None (in_order (image_parts x) (wanted_of x each.0).rising) (object_pages x) ∙ or_none (wanted_at (image_parts x) q)
      by false off rest =
          ap (changed_at (flat_map image_parts xs) q) (other_number (image_parts x) x.object.number.0 q None (of_number x.object.number.0 (image_parts x) (wanted_of x each.0)) (differ q.object x.object.number.0 off)) ∙ rest

  -- ---- the whole store

  ceiling_is : IsWanted (range_of ceiling_key) (ceiling_parts d.ceiling)
  ceiling_is = wanted_whole ceiling_key (ceiling_parts d.ceiling) (ceiling_wanted d.ceiling)

  ceiling_pages : AllByRecursion HasPage (ceiling_parts d.ceiling)
  ceiling_pages = stream_pages ceiling_key 0 (ceiling_page.print d.ceiling) (no_tags ceiling_page d.ceiling)

  abbrev nothing : Content
  nothing = empty

  none_empty : (q : Key) → get nothing q ≡ None
  none_empty q = get-empty key_cmp q

  no_ceiling : kept d.objects ceiling_key ≡ None
  no_ceiling = by (kept d.objects ceiling_key) refl
    where
      by : (r : Option Stored) → kept d.objects ceiling_key ≡ r → r ≡ None
      by None at = refl
      by (Some x) at = absurd (let e = low_number ceiling_key d.ceiling (can.each ceiling_key x at).given can.ceiling in let f : true ≡ false = e in cc)

  pub content_pages : (q : Key) → get (content_of d) q ≡ page_of d q
  content_pages q =
      get-changed nothing (parts_of_all d) q ∙ ap (changed_at (parts_of_all d) q) (none_empty q)
      ∙ changed_at-append (flat_map image_parts d.objects) (ceiling_parts d.ceiling) q None
      ∙ ap (changed_at (ceiling_parts d.ceiling) q) (all_changed d.objects each order q) ∙ by (q.object == ceiling_key) refl
    where
      order : IsStrictlySortedBy nat_cmp (map number_in_stored d.objects)
      order = sorted_from_strictly_increasing (map number_in_stored d.objects) can.rising

      each : AllByRecursion (IsKeptIn d.objects) d.objects
      each = each_kept d.objects order

      by : (b : Bool) → (q.object == ceiling_key) ≡ b → changed_at (ceiling_parts d.ceiling) q (wanted_at (parts_in (kept d.objects q.object)) q) ≡ wanted_at (cond b (ceiling_parts d.ceiling) (parts_in (kept d.objects q.object))) q
      by true is =
          ap (λ (r : Option Stored). changed_at (ceiling_parts d.ceiling) q (wanted_at (parts_in r) q)) (ap (kept d.objects) (number_same q.object ceiling_key is) ∙ no_ceiling)
          ∙ wanted_changed (ceiling_parts d.ceiling) q None (in_order (ceiling_parts d.ceiling) ceiling_is.rising) ceiling_pages ∙ or_none (wanted_at (ceiling_parts d.ceiling) q)
      by false off = other_number (ceiling_parts d.ceiling) ceiling_key q (wanted_at (parts_in (kept d.objects q.object)) q) (of_number ceiling_key (ceiling_parts d.ceiling) ceiling_is) (differ q.object ceiling_key (turned off))
        where
          turned : (q.object == ceiling_key) ≡ false → (ceiling_key == q.object) ≡ false
          turned off = grind (arith, nat_tests)
