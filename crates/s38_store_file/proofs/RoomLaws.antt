-- The room of a store that was opened: it fits the objects, and all parts but one are for objects.
use Rattle.std.proofs.Common.{◌≡◌, ◌==◌, ◌∷◌, ℕ, Bool, List, [], ap, cond, map, refl, subst, sym, true, false}
use Rattle.std.specs.List.{AllByRecursion}
use Rattle.std.specs.Option.{option_map}
use Rattle.std.specs.Prelude.{None, Some}
use Rattle.s38_base.specs.Limits.{body_limit}
use Rattle.s38_base.specs.declared.page.Change.{Change}
use Rattle.s38_durable_state.specs.Following.{extent_in}
use Rattle.s38_restart.specs.catalog.Stores.{ceiling_of, objects_stored_in}
use Rattle.s38_image.specs.declared.stored.Stored.{Stored}
use Rattle.s38_restart.proofs.StoredLaws.{IsKept, stored_kept}
use Rattle.s38_restart.specs.Restarted.{data_space_followed, extents_kept, imaged, restarted}
use Rattle.s38_space_rules.specs.Following.{Fits, rows_in, rows_kept}
use Rattle.s38_rules.specs.state.Held.{Held, object_in}
use Rattle.s38_rules.specs.store.Room.{Extent, extent_at, rows_pages}
use Rattle.s38_store_file.proofs.OpenLaws.{IsReadOf}

module _ (h : Held) (limit ceiling : ℕ) where
  -- the rows of what was kept are those of what is followed
  rows_same : (s : Stored) → s.object.on_disk ≡ true → Some (rows_pages s.object) ≡ rows_kept (Some (data_space_followed h s))
  rows_same s disk = sym (ap (λ (b : Bool). cond b (Some (rows_pages s.object)) None) disk)

  rows_at : (ss : List Stored) → AllByRecursion (IsKept limit ceiling) ss → (n : ℕ) → option_map rows_in (extent_at (map extent_in ss) n) ≡ rows_kept (object_in (map (data_space_followed h) ss) n)
  rows_at [] all n = refl
  rows_at (s ∷ ss) all n = by (rows_at ss all.1 n) (s.object.number.0 == n)
    where
      by : option_map rows_in (extent_at (map extent_in ss) n) ≡ rows_kept (object_in (map (data_space_followed h) ss) n)
          → (b : Bool) → option_map rows_in (cond b (Some (extent_in s)) (extent_at (map extent_in ss) n)) ≡ rows_kept (cond b (Some (data_space_followed h s)) (object_in (map (data_space_followed h) ss) n))
      by rest true = rows_same s all.0.image.on_disk
      by rest false = rest

-- what was restarted has the rows that were read
pub fits_of : (h : Held) (xs : List Extent) → (parts : List Change) × IsReadOf h xs parts → Fits xs h
fits_of h xs r =
    let parts = r.0 in
    let ss = objects_stored_in body_limit parts in
    let fits : Fits (extents_kept body_limit parts) (restarted body_limit parts) = record { rows = λ n. rows_at (imaged ss) body_limit (ceiling_of parts) ss (stored_kept body_limit parts r.1.0 r.1.1.0) n } in
    subst (λ (k : Held). Fits xs k) (sym r.1.1.1.0) (subst (λ (ys : List Extent). Fits ys (restarted body_limit parts)) (sym r.1.1.1.1) fits)
