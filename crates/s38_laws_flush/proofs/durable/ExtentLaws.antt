-- After a step the room of a store has, for each object, the extent of what is kept of it.
use Rattle.std.proofs.Common.{◌≡◌, ◌∙◌, ◌==◌, ◌∷◌, [], Bool, List, None, Option, Some, ap, cond, false, refl, sym, true, ℕ}
use Rattle.std.specs.List.{list_any}
use Rattle.std.specs.Option.{option_map}
use Rattle.std.specs.Prelude.{map}
use Rattle.s38_durable_state.specs.Durable.{body_after, followed_or_whole, kept, kept_after, whole_object}
use Rattle.s38_durable_state.specs.Following.{StaysUser, StaysUserOf, extent_in}
use Rattle.s38_image.specs.declared.stored.Stored.{Stored}
use Rattle.s38_rules.specs.store.Forcing.{Forced, extent_after, extent_with_rows, is_whole}
use Rattle.s38_rules.specs.store.Room.{Extent, extent_at, extent_of, image_len, pages_begun, rows_pages}
use Rattle.s38_rules.specs.state.State.{State}
use Rattle.s38_rules.specs.declared.object.Body.TheVariants as bodies
use Rattle.s38_rules.specs.declared.object.Body.{Body}
use Rattle.s38_rules.specs.declared.object.Object.{Object}
use Rattle.s38_flush.proofs.KeptLaws.{settled_len}

whole_extent : (s : State) (o : Object) → extent_of o ≡ extent_in (whole_object s o)
whole_extent s o = ap (λ (len : ℕ). record { number = o.number.0; rows = rows_pages o; body = pages_begun len }) (sym (settled_len s.units o.number.0 o.body))

behind_len : (b old : Body) → StaysUser b old → image_len old ≡ image_len (body_after b old)
behind_len (bodies.Profile special limit) (bodies.Profile s l) user = refl
behind_len (bodies.Profile special limit) _ user = cc
behind_len _ old user = refl

pub extent_same : (all : List Forced) (s : State) (o : Object) (old : Option Stored) → StaysUserOf o.body old → extent_after all (option_map extent_in old) o ≡ extent_in (kept_after all s old o)
extent_same all s o old user = by (list_any (is_whole o.number.0) all) old user
  where
    by : (b : Bool) (x : Option Stored) → StaysUserOf o.body x → cond b (extent_of o) (extent_with_rows o (option_map extent_in x)) ≡ extent_in (cond b (whole_object s o) (followed_or_whole s o x))
    by true x user = whole_extent s o
    by false None user = whole_extent s o
    by false (Some x) user = ap (λ (len : ℕ). record { number = o.number.0; rows = rows_pages o; body = pages_begun len }) (behind_len o.body x.object.body user)

pub extent_found : (xs : List Stored) (n : ℕ) → extent_at (map extent_in xs) n ≡ option_map extent_in (kept xs n)
extent_found [] n = refl
extent_found (x ∷ xs) n = by (extent_found xs n) (x.object.number.0 == n)
  where
    by : extent_at (map extent_in xs) n ≡ option_map extent_in (kept xs n) → (b : Bool) → cond b (Some (extent_in x)) (extent_at (map extent_in xs) n) ≡ option_map extent_in (cond b (Some x) (kept xs n))
    by rest true = refl
    by rest false = rest
