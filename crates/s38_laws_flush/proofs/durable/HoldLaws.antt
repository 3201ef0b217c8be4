-- All that a store holds of a run is a part of 32 bits.
use Rattle.std.proofs.Common.{◌≡◌, ◌<◌, ◌==◌, ◌∙◌, ◌∷◌, [], Bool, List, None, Option, Some, ap, cond, false, refl, sym, true, ℕ}
use Rattle.std.specs.FinMap.{get}
use Rattle.std.specs.List.{AllByRecursion, list_any}
use Rattle.std.specs.Ordering.{eq_by_cmp}
use Rattle.std.specs.Prelude.{is_some}
use Rattle.s38_base.specs.declared.page.Change.{Change}
use Rattle.s38_base.specs.declared.page.Key.{Key}
use Rattle.s38_base.specs.declared.page.Page.{Page}
use Rattle.s38_checkpoint.proofs.PartLaws.{ceiling_wanted}
use Rattle.s38_durable_state.specs.Durable.{Durable, kept}
use Rattle.s38_durable_state.specs.Represents.{aims_of, ceiling_parts, page_of, pages_put_at, parts_at, parts_end, parts_in}
use Rattle.s38_page_diff.proofs.AimLaws.{aims_made}
use Rattle.s38_page_diff.proofs.WalkLaws.{one_key}
use Rattle.s38_page_diff.proofs.WantedLaws.{inside, pages_held}
use Rattle.s38_page_diff.specs.Aims.{RiseByObject, aimed_at}
use Rattle.s38_page_diff.specs.Differences.{is_part_in_range, wanted_at}
use Rattle.s38_page_diff.specs.declared.range.PartRange.{PartRange}
use Rattle.s38_image.specs.PartPlaces.{ceiling_key}
use Rattle.s38_image.specs.Images.{image_parts}
use Rattle.s38_image.specs.declared.stored.Stored.{Stored}
use Rattle.s38_page_diff.proofs.reconcile.SoFarLaws.{wanted_whole}
use Rattle.s38_page_diff.specs.reconcile.Replacing.{range_of}
use Rattle.s38_rules.specs.store.Forcing.{Forced}
use Rattle.s38_vault.specs.Content.{Content}
use Rattle.s38_vault.specs.Directory.{keys_of}
use Rattle.s38_vault.specs.Keys.{key_cmp}
use Rattle.s38_flush.proofs.KeptLaws.{kept_number}
use Rattle.s38_flush.proofs.NumberLaws.{AreAbove, Rise, numbers_rise}
use Rattle.s38_flush.specs.Numbers.{numbers}
use Rattle.s38_flush.specs.Stepping.{HaveHeaders, is_forced_ceiling, put_ceiling, put_forced}
use Rattle.s38_laws_flush.specs.durable.Kept.{HasParts}
use Rattle.s38_laws_flush.proofs.durable.RoomLaws.{wanted_object}

wanted_in : (range : PartRange) (cs : List Change) (q : Key) → AllByRecursion (λ c. is_part_in_range range c.key ≡ true) cs → is_some (wanted_at cs q) ≡ true → is_part_in_range range q ≡ true
wanted_in range [] q each some = cc
wanted_in range (c ∷ cs) q each some = by (eq_by_cmp key_cmp q c.key) refl some (wanted_in range cs q each.1)
  where
    by : (b : Bool) → eq_by_cmp key_cmp q c.key ≡ b → is_some (cond b c.page (wanted_at cs q)) ≡ true → (is_some (wanted_at cs q) ≡ true → is_part_in_range range q ≡ true) → is_part_in_range range q ≡ true
    by true is some rest = ap (is_part_in_range range) (one_key q c.key is) ∙ each.0
    by false is some rest = rest some

-- what is durable is
pub durable_low : (d : Durable) → HaveHeaders d → (q : Key) → is_some (page_of d q) ≡ true → q.part < parts_end
durable_low d headers q = by (q.object == ceiling_key)
  where
    found : (r : Option Stored) → kept d.objects q.object ≡ r → is_some (wanted_at (parts_in r) q) ≡ true → q.part < parts_end
    found None none some = cc
    found (Some x) at some = (inside (range_of q.object) q (wanted_in (range_of q.object) (image_parts x) q (wanted_object x q.object (kept_number q.object d.objects x at) (headers q.object x at)).in_range some)).before

    by : (b : Bool) → is_some (wanted_at (cond b (ceiling_parts d.ceiling) (parts_in (kept d.objects q.object))) q) ≡ true → q.part < parts_end
    by true some = (inside (range_of ceiling_key) q (wanted_in (range_of ceiling_key) (ceiling_parts d.ceiling) q (wanted_whole ceiling_key (ceiling_parts d.ceiling) (ceiling_wanted d.ceiling)).in_range some)).before
    by false some = found (kept d.objects q.object) refl some

aimed_low : (pages : Key → Option Page) (d : Durable) (q : Key) → (is_some (pages q) ≡ true → q.part < parts_end) → (ns : List ℕ) → is_some (aimed_at pages (aims_of d ns) q) ≡ true → q.part < parts_end
aimed_low pages d q low [] some = low some
aimed_low pages d q low (n ∷ ns) some = by (is_part_in_range (range_of n) q) refl some (aimed_low pages d q low ns)
  where
    by : (b : Bool) → is_part_in_range (range_of n) q ≡ b → is_some (cond b (wanted_at (parts_at d n) q) (aimed_at pages (aims_of d ns) q)) ≡ true → (is_some (aimed_at pages (aims_of d ns) q) ≡ true → q.part < parts_end) → q.part < parts_end
    by true is some rest = (inside (range_of n) q is).before
    by false is some rest = rest some

in_order : (d : Durable) (ns : List ℕ) → Rise ns → RiseByObject (aims_of d ns)
unfolding AreAbove Rise
in_order d [] rise = tt
in_order d (n ∷ []) rise = tt
in_order d (n ∷ k ∷ ns) rise = (rise.0.0, in_order d (k ∷ ns) rise.1)

put_low : (ns : List ℕ) (m : Content) (d : Durable) → RiseByObject (aims_of d ns) → HasParts m → HasParts (pages_put_at ns m d)
put_low ns m d order low q is =
    let some : is_some (get (pages_put_at ns m d) q) ≡ true = pages_held (keys_of (pages_put_at ns m d)) (pages_put_at ns m d) refl q ∙ is in
    aimed_low (get m) d q (λ old. low q (sym (pages_held (keys_of m) m refl q) ∙ old)) ns (sym (ap is_some (aims_made m (aims_of d ns) q order)) ∙ some)

-- after the puts it does too
pub forced_low : (all : List Forced) (m : Content) (d : Durable) → HasParts m → HasParts (put_forced all m d)
forced_low all m d low = put_low (numbers all) (put_ceiling all m d) d (in_order d (numbers all) (numbers_rise all)) (ceiling (list_any is_forced_ceiling all))
  where
    ceiling : (b : Bool) → HasParts (pages_put_at (cond b (ceiling_key ∷ []) []) m d)
    ceiling true = put_low (ceiling_key ∷ []) m d tt low
    ceiling false = low

-- a content that has what is durable at each key holds such parts alone
pub begun_low : (m : Content) (d : Durable) → HaveHeaders d → ((q : Key) → get m q ≡ page_of d q) → HasParts m
begun_low m d headers same q is = durable_low d headers q (ap is_some (sym (same q)) ∙ pages_held (keys_of m) m refl q ∙ is)
