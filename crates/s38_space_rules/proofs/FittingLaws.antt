-- The room of a store fits the objects: where it counts what is durable, and after each step that it followed.
use Rattle.std.proofs.Common.{◌==◌, ◌∙◌, ◌∷◌, ◌≡◌, Bool, List, [], ap, cond, false, length, map, refl, true, ℕ, ◌*◌}
use Rattle.std.proofs.lemmas.Map.Keys.{sorted_from_strictly_increasing}
use Rattle.std.specs.List.{list_any}
use Rattle.std.specs.List.Sorted.{IsStrictlyIncreasing}
use Rattle.std.specs.Option.{option_map}
use Rattle.std.specs.Prelude.{None, Option, Some}
use Rattle.s38_base.specs.Pointers.{target_of}
use Rattle.s38_code.specs.declared.event.Event.TheVariants.{Act, Finish, Start}
use Rattle.s38_code.specs.declared.event.Event.{Event}
use Rattle.s38_code.specs.declared.operand.Operand.TheVariants as operands
use Rattle.s38_code.specs.declared.operand.Operand.{Operand}
use Rattle.s38_code.specs.declared.reply.Val.TheVariants as vals
use Rattle.s38_code.specs.declared.reply.Val.{Val}
use Rattle.s38_durable_state.specs.Durable.{Durable, kept}
use Rattle.s38_durable_state.specs.Following.{Counts, Follows, Header, extent_in, header_kept, image_header_in, image_header_of}
use Rattle.s38_image.specs.declared.stored.Stored.{Stored}
use Rattle.s38_journals.specs.Journals as journals
use Rattle.s38_laws_objects.proofs.OutlineLaws.{all_decommitted_outline, done_outline, journal_outline, space_outline}
use Rattle.s38_laws_objects.specs.Outline.{is_forced, outline_at}
use Rattle.s38_objects.specs.Lawful.{number_of}
use Rattle.s38_rules.proofs.StoreLaws.{stored_holds}
use Rattle.s38_rules.specs.state.Cells.{with_bytes, with_pointer}
use Rattle.s38_rules.specs.families.Changes.{done}
use Rattle.s38_rules.specs.families.Computing.{receiver_at, shift_at}
use Rattle.s38_rules.specs.step.Effect.{effect, effect_of, end_at, start_at}
use Rattle.s38_rules.specs.store.Forcing.{Forced, extent_after, extent_with_rows, is_whole, must_persist}
use Rattle.s38_rules.specs.state.Held.{Held, object}
use Rattle.s38_rules.specs.ask.Receivers.{delivered, put_value}
use Rattle.s38_rules.specs.state.PartsAt.{on_journal}
use Rattle.s38_rules.specs.store.Room.{Extent, Room, extent_at, extent_of, pages_begun, row_len, rows_pages}
use Rattle.s38_rules.specs.families.Rows.{row}
use Rattle.s38_rules.specs.state.State.{State, process_entry}
use Rattle.s38_rules.specs.store.Storing.{room_after, stored}
use Rattle.s38_rules.specs.declared.object.Object.{Object}
use Rattle.s38_rules.specs.declared.process.ProcessEntry.{ProcessEntry}
use Rattle.s38_space_rules.proofs.FollowLaws.{flat_at}
use Rattle.s38_space_rules.proofs.GrowthLaws.{fits_by}
use Rattle.s38_space_rules.specs.Following.{Fits, FitsBut, kept_extent, rows_in, rows_kept}

-- ---- what need not persist

value_same : (h : Held) (n at m : ℕ) (v : Val) → outline_at (put_value h n at v) m ≡ outline_at h m
value_same h n at m (vals.Bytes bytes) = space_outline h n m (with_bytes at bytes)
value_same h n at m (vals.Ptr p) = space_outline h n m (with_pointer at p)
value_same h n at m _ = refl

delivered_same : (s : State) (shift m : ℕ) (receiver : Option Operand) (v : Option Val) → outline_at (delivered s shift receiver v).state.held m ≡ outline_at s.held m
delivered_same s shift m receiver None = refl
delivered_same s shift m (Some (operands.InSpace base offset attr)) (Some v) = value_same s.held (target_of base) _ m v
delivered_same s shift m _ (Some v) = refl

start_same : (s : State) (p m : ℕ) (x : Option ProcessEntry) → outline_at (start_at s p x).held m ≡ outline_at s.held m
start_same s p m None = refl
start_same s p m (Some x) = refl

end_same : (s : State) (p m : ℕ) (x : Option ProcessEntry) → outline_at (end_at s p x).held m ≡ outline_at s.held m
end_same s p m None = refl
end_same s p m (Some x) = all_decommitted_outline s.units s p m

event_same : (s : State) (p : ℕ) (e : Event) (m : ℕ) → is_forced m (must_persist s p e) ≡ false → outline_at (effect_of s p e).state.held m ≡ outline_at s.held m
unfolding effect_of effect must_persist
event_same s p Start m unforced = start_same s p m (process_entry s p)
event_same s p (Act d t) m unforced =
    let x = (row t.op).changes s p d t in
    delivered_same (done s p x) (shift_at s.held t.op t.operands) m (receiver_at t.op t.operands) ((row t.op).gives s p d t) ∙ done_outline x s p m unforced
event_same s p (Finish cause) m unforced = end_same s p m (process_entry s p)

-- the room still fits the objects of which nothing must persist
pub fits_but : (s : State) (p : ℕ) (e : Event) (xs : List Extent) → Fits xs s.held → FitsBut (must_persist s p e) xs (effect_of s p e).state.held
fits_but s p e xs fits = record { rows = λ m unforced. fits.rows m ∙ fits_by s.held (effect_of s p e).state.held m (event_same s p e m unforced) }

-- ---- after a step

after_rows : (all : List Forced) (old : Option Extent) (o : Object) → (extent_after all old o).rows ≡ rows_pages o
after_rows all old o = by (list_any (is_whole o.number.0) all) old
  where
    by : (b : Bool) (x : Option Extent) → (cond b (extent_of o) (extent_with_rows o x)).rows ≡ rows_pages o
    by true x = refl
    by false None = refl
    by false (Some x) = refl

kept_rows : (all : List Forced) (old : Option Extent) (y : Option Object) → option_map rows_in (kept_extent all old y) ≡ rows_kept y
kept_rows all old None = refl
kept_rows all old (Some o) = by o.on_disk
  where
    by : (b : Bool) → option_map rows_in (cond b (Some (extent_after all old o)) None) ≡ cond b (Some (rows_pages o)) None
    by true = ap (λ (n : ℕ). Some n) (after_rows all old o)
    by false = refl

-- the room after a step fits the objects to which it leads
pub fits_after : (room : Room) (all : List Forced) (h : Held) → IsStrictlyIncreasing (map number_of h.objects) → Fits (room_after room all h.objects).extents h
fits_after room all h rising = record {
  rows = λ m.
      ap (option_map rows_in) (flat_at all room.extents h.objects m (sorted_from_strictly_increasing (map number_of h.objects) rising))
      ∙ kept_rows all (extent_at room.extents m) (object h m);
}

-- and those of which the store has kept all bytes
pub fits_stored : (s : State) (p : ℕ) (e : Event) (t : State) (xs : List Extent) → Fits xs t.held → Fits xs (stored s p e t).held
fits_stored s p e t xs fits =
    stored_holds (Fits xs) (λ h n so_far. record { rows = λ m. so_far.rows m ∙ fits_by h (on_journal h n journals.forced) m (journal_outline h n m journals.forced) }) s p e t fits

-- ---- what is durable

extent_found : (xs : List Stored) (n : ℕ) → extent_at (map extent_in xs) n ≡ option_map extent_in (kept xs n)
extent_found [] n = refl
extent_found (x ∷ xs) n = by (extent_found xs n) (x.object.number.0 == n)
  where
    by : extent_at (map extent_in xs) n ≡ option_map extent_in (kept xs n) → (b : Bool) → cond b (Some (extent_in x)) (extent_at (map extent_in xs) n) ≡ option_map extent_in (cond b (Some x) (kept xs n))
    by rest true = refl
    by rest false = rest

abbrev rows_said : Header → ℕ
rows_said header = pages_begun (row_len * length header.standing.rows)

rows_of : (x : Option Stored) → option_map rows_in (option_map extent_in x) ≡ option_map rows_said (option_map header_kept x)
rows_of None = refl
rows_of (Some x) = refl

said_by : (y : Option Object) → option_map rows_said (image_header_in y) ≡ rows_kept y
said_by None = refl
said_by (Some o) = by o.on_disk
  where
    by : (b : Bool) → option_map rows_said (cond b (Some (image_header_of o)) None) ≡ cond b (Some (rows_pages o)) None
    by true = refl
    by false = refl

-- a room that counts what is durable fits the objects that this follows
pub fits_counted : (room : Room) (d : Durable) (h : Held) → Follows h d → Counts (Some room) d → Fits room.extents h
fits_counted room d h follows counts = record {
  rows = λ m.
      ap (λ (xs : List Extent). option_map rows_in (extent_at xs m)) counts
      ∙ ap (option_map rows_in) (extent_found d.objects m)
      ∙ rows_of (kept d.objects m)
      ∙ ap (option_map rows_said) (follows.headers m)
      ∙ said_by (object h m);
}
