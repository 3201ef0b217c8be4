-- The room of a store counts what is durable.
use Rattle.std.proofs.Common.{◌+◌, ◌==◌, ◌∙◌, ◌∷◌, ◌≡◌, ◌++◌, Bool, List, [], ap, cond, false, length, refl, suc, sym, true, ℕ}
use Rattle.std.proofs.lemmas.List.Elements.{All-head, All-tail}
use Rattle.std.proofs.lemmas.List.{map-append}
use Rattle.std.specs.List.{flat_map, list_any}
use Rattle.std.specs.Option.{option_map}
use Rattle.std.specs.Prelude.{All, None, Option, Some, map}
use Rattle.s38_commits.specs.Units.{UnitMap}
use Rattle.s38_dataspaces.specs.Entries.{DataEntry}
use Rattle.s38_dataspaces.specs.Table as tables
use Rattle.s38_image.specs.Settled.{settled_body, settled_entries}
use Rattle.s38_image.specs.declared.stored.Stored.{Stored}
use Rattle.s38_rules.specs.store.Forcing.{Forced, extent_after, extent_with_rows, is_whole}
use Rattle.s38_rules.specs.store.Room.{Extent, Room, extent_at, extent_of, image_len, pages_begun, rows_pages}
use Rattle.s38_rules.specs.state.State.{State}
use Rattle.s38_rules.specs.store.Storing.{extents_of, room_after}
use Rattle.s38_rules.specs.declared.object.Body.TheVariants as bodies
use Rattle.s38_rules.specs.declared.object.Body.{Body}
use Rattle.s38_rules.specs.declared.object.Object.{Object}
use Rattle.s38_durable_state.specs.Durable.{Durable, body_after, durable_after, followed_or_whole, kept, kept_after, kept_by_force, whole_object}
use Rattle.s38_durable_state.specs.Following.{Counts, StaysUser, StaysUserIn, StaysUserOf, extent_in}

-- as many entries as before
settled_count : (units : UnitMap) (space at : ℕ) (entries : List DataEntry) → length (settled_entries units space at entries) ≡ length entries
settled_count units space at [] = refl
settled_count units space at (entry ∷ entries) = ap suc (settled_count units space (at + 1) entries)

settled_len : (units : UnitMap) (n : ℕ) (b : Body) → image_len (settled_body units n b) ≡ image_len b
settled_len units n (bodies.DataSpace d) = ap (tables.data_space_image_size d.space.fields) (settled_count units n 1 d.space.entries)
settled_len units n (bodies.Journal j) = refl
settled_len units n _ = refl

whole_extent : (s : State) (o : Object) → extent_of o ≡ extent_in (whole_object s o)
whole_extent s o = ap (λ (len : ℕ). record { number = o.number.0; rows = rows_pages o; body = pages_begun len }) (sym (settled_len s.units o.number.0 o.body))

-- the body of a user has one length
behind_len : (b old : Body) → StaysUser b old → image_len old ≡ image_len (body_after b old)
behind_len (bodies.Profile special limit) (bodies.Profile s l) user = refl
behind_len (bodies.Profile special limit) _ user = cc
behind_len _ old user = refl

extent_same : (all : List Forced) (s : State) (o : Object) (old : Option Stored) → StaysUserOf o.body old → extent_after all (option_map extent_in old) o ≡ extent_in (kept_after all s old o)
extent_same all s o old user = by (list_any (is_whole o.number.0) all) old user
  where
    by : (b : Bool) (x : Option Stored) → StaysUserOf o.body x → cond b (extent_of o) (extent_with_rows o (option_map extent_in x)) ≡ extent_in (cond b (whole_object s o) (followed_or_whole s o x))
    by true x user = whole_extent s o
    by false None user = whole_extent s o
    by false (Some x) user = ap (λ (len : ℕ). record { number = o.number.0; rows = rows_pages o; body = pages_begun len }) (behind_len o.body x.object.body user)

extent_found : (xs : List Stored) (n : ℕ) → extent_at (map extent_in xs) n ≡ option_map extent_in (kept xs n)
extent_found [] n = refl
extent_found (x ∷ xs) n = by (extent_found xs n) (x.object.number.0 == n)
  where
    by : extent_at (map extent_in xs) n ≡ option_map extent_in (kept xs n) → (b : Bool) → cond b (Some (extent_in x)) (extent_at (map extent_in xs) n) ≡ option_map extent_in (cond b (Some x) (kept xs n))
    by rest true = refl
    by rest false = rest

one_extent : (all : List Forced) (s : State) (d : Durable) (o : Object) → StaysUserOf o.body (kept d.objects o.number.0)
    → extents_of all (map extent_in d.objects) o ≡ map extent_in (kept_by_force all s d.objects o)
one_extent all s d o user = by o.on_disk
  where
    same : extent_after all (extent_at (map extent_in d.objects) o.number.0) o ≡ extent_in (kept_after all s (kept d.objects o.number.0) o)
    same = ap (λ (x : Option Extent). extent_after all x o) (extent_found d.objects o.number.0) ∙ extent_same all s o (kept d.objects o.number.0) user

    by : (b : Bool) → cond b (extent_after all (extent_at (map extent_in d.objects) o.number.0) o ∷ []) [] ≡ map extent_in (cond b (kept_after all s (kept d.objects o.number.0) o ∷ []) [])
    by true = ap (λ (x : Extent). x ∷ []) same
    by false = refl

all_extents : (all : List Forced) (s : State) (d : Durable) (os : List Object) → All (StaysUserIn d) os
    → flat_map (extents_of all (map extent_in d.objects)) os ≡ map extent_in (flat_map (kept_by_force all s d.objects) os)
all_extents all s d [] users = refl
all_extents all s d (o ∷ os) users =
    let one = one_extent all s d o (All-head (StaysUserIn d) o os users) in
    let rest = all_extents all s d os (All-tail (StaysUserIn d) o os users) in
    ap (λ (xs : List Extent). xs ++ flat_map (extents_of all (map extent_in d.objects)) os) one
    ∙ ap (λ (xs : List Extent). map extent_in (kept_by_force all s d.objects o) ++ xs) rest
    ∙ sym (map-append extent_in (kept_by_force all s d.objects o) (flat_map (kept_by_force all s d.objects) os))

pub room_counts : (all : List Forced) (d : Durable) (s : State) (room : Room) → All (StaysUserIn d) s.held.objects → Counts (Some room) d → Counts (Some (room_after room all s.held.objects)) (durable_after all d s)
room_counts all d s room users counts =
    ap (λ (xs : List Extent). flat_map (extents_of all xs) s.held.objects) counts ∙ all_extents all s d s.held.objects users
