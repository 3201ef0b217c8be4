-- How many new parts an event needs: those of its changes. A value that goes to its receiver needs none.
use Rattle.std.proofs.Common.{◌≡◌, ◌==◌, ℕ, true, false, List, [], ◌∷◌, length, ◌*◌, refl, ◌∙◌, ap}
use Rattle.std.proofs.lemmas.Bool.{eqb-true}
use Rattle.std.proofs.lemmas.List.{nil_from_length}
use Rattle.std.specs.Prelude.{Option, Some, None}
use Rattle.s38_base.specs.declared.op.Op.{Op}
use Rattle.s38_base.specs.declared.op.Op.TheVariants.{Callx, Crtctx, Crtinx, Crtpg, Crtq, Crts, Lock, Rename, Rslvsp}
use Rattle.s38_base.specs.Pointers.{target_of}
use Rattle.s38_changes.proofs.CellLaws.{bytes_length, pointer_length}
use Rattle.s38_code.specs.declared.event.EndCause.{EndCause}
use Rattle.s38_code.specs.declared.event.Event.TheVariants.{Act, Finish, Start}
use Rattle.s38_code.specs.declared.event.Request.{Request}
use Rattle.s38_code.specs.declared.operand.Operand.{Operand}
use Rattle.s38_code.specs.declared.operand.Operand.TheVariants as operands
use Rattle.s38_code.specs.declared.reply.Val.{Val}
use Rattle.s38_code.specs.declared.reply.Val.TheVariants as vals
use Rattle.s38_memory.specs.declared.cell.Cell.{Cell}
use Rattle.s38_laws_objects.proofs.OutlineLaws.{all_decommitted_outline}
use Rattle.s38_rules.specs.declared.object.Body.{Body}
use Rattle.s38_rules.specs.declared.object.Body.TheVariants as bodies
use Rattle.s38_rules.specs.declared.object.Object.{Object}
use Rattle.s38_rules.specs.declared.process.ProcessEntry.{ProcessEntry}
use Rattle.s38_rules.specs.state.Cells.{with_bytes, with_pointer}
use Rattle.s38_rules.specs.families.Changes.{done}
use Rattle.s38_rules.specs.families.Computing.{receiver_at, shift_at}
use Rattle.s38_rules.specs.families.Contexts.{contexts_row}
use Rattle.s38_rules.specs.step.Effect.{effect, effect_of, end_at, start_at}
use Rattle.s38_rules.specs.store.Forcing.{Forced, forced_by, must_persist, new_parts, room_rule, store_rule}
use Rattle.s38_rules.specs.state.Held.{Held, object}
use Rattle.s38_rules.specs.families.Indexes.{indexes_row}
use Rattle.s38_rules.specs.families.Locking.{locks_row}
use Rattle.s38_rules.specs.ask.Receivers.{delivered, put_value}
use Rattle.s38_rules.specs.state.Parts.{over_body, over_object, space_part}
use Rattle.s38_rules.specs.state.PartsAt.{on_space}
use Rattle.s38_rules.specs.families.Programs.{program_in, programs_row, template_at}
use Rattle.s38_rules.specs.families.Queues.{queues_row}
use Rattle.s38_rules.specs.families.Resolving.{resolving_row}
use Rattle.s38_rules.specs.store.Room.{Room, image_len}
use Rattle.s38_rules.specs.families.Rows.{row}
use Rattle.s38_rules.specs.families.Spaces.{spaces_row}
use Rattle.s38_rules.specs.state.State.{State, process_entry}
use Rattle.s38_rules.specs.families.Units.{all_decommitted}
use Rattle.s38_space_rules.proofs.CreationLaws.{program_user}
use Rattle.s38_space_rules.proofs.GrowthLaws.{fits_by, growth_is, parts_left}
use Rattle.s38_space_rules.proofs.ObjectGrowth.{new_same}
use Rattle.s38_space_rules.proofs.NumberLaws.{AreNumbered, all_decommitted_numbered}
use Rattle.s38_space_rules.proofs.SumLaws.{parts_counted}
use Rattle.s38_space_rules.specs.Following.{Fits}
use Rattle.s38_space_rules.specs.Growing.{growth}

-- ---- a value goes to its receiver

space_len : (f : List Cell → List Cell) → ((cells : List Cell) → length (f cells) ≡ length cells) → (b : Body) → image_len (over_body space_part f b) ≡ image_len b
space_len f same (bodies.Space cells) = ap (λ (n : ℕ). 16 * n) (same cells)
space_len f same _ = refl

space_parts : (room : Room) (all : List Forced) (h : Held) (n : ℕ) (f : List Cell → List Cell) → ((cells : List Cell) → length (f cells) ≡ length cells) → new_parts room all (on_space h n f).objects ≡ new_parts room all h.objects
space_parts room all h n f same = parts_left room all h n (over_object space_part f) (λ o. new_same room all (over_object space_part f o) o refl refl refl (space_len f same o.body))

value_parts : (room : Room) (all : List Forced) (h : Held) (n at : ℕ) (v : Val) → new_parts room all (put_value h n at v).objects ≡ new_parts room all h.objects
value_parts room all h n at (vals.Bytes bytes) = space_parts room all h n (with_bytes at bytes) (bytes_length at bytes)
value_parts room all h n at (vals.Ptr p) = space_parts room all h n (with_pointer at p) (pointer_length at p)
value_parts room all h n at _ = refl

delivered_parts : (room : Room) (all : List Forced) (s : State) (shift : ℕ) (receiver : Option Operand) (v : Option Val) → new_parts room all (delivered s shift receiver v).state.held.objects ≡ new_parts room all s.held.objects
delivered_parts room all s shift receiver None = refl
delivered_parts room all s shift (Some (operands.InSpace base offset attr)) (Some v) = value_parts room all s.held (target_of base) _ v
delivered_parts room all s shift _ (Some v) = refl

-- ---- an instruction, a start and an end

pub act_parts : (room : Room) (s : State) (p d : ℕ) (r : Request) → AreNumbered s.held → object s.held s.held.next ≡ None → Fits room.extents s.held
    → new_parts room (must_persist s p (Act d r)) (effect_of s p (Act d r)).state.held.objects ≡ growth room s p ((row r.op).changes s p d r)
unfolding must_persist effect_of effect
act_parts room s p d r numbered free fits =
    let x = (row r.op).changes s p d r in
    delivered_parts room (forced_by s p x) (done s p x) (shift_at s.held r.op r.operands) (receiver_at r.op r.operands) ((row r.op).gives s p d r)
    ∙ growth_is x room s p numbered free fits

silent_parts : (room : Room) (h : Held) → AreNumbered h → Fits room.extents h → new_parts room [] h.objects ≡ 0
silent_parts room h numbered fits = parts_counted room [] h numbered (record { rows = λ m unforced. fits.rows m })

started_parts : (room : Room) (s : State) (p : ℕ) (x : Option ProcessEntry) → AreNumbered s.held → Fits room.extents s.held → new_parts room [] (start_at s p x).held.objects ≡ 0
started_parts room s p None numbered fits = silent_parts room s.held numbered fits
started_parts room s p (Some x) numbered fits = silent_parts room s.held numbered fits

pub start_parts : (room : Room) (s : State) (p : ℕ) → AreNumbered s.held → Fits room.extents s.held → new_parts room (must_persist s p Start) (effect_of s p Start).state.held.objects ≡ 0
unfolding must_persist effect_of
start_parts room s p numbered fits = started_parts room s p (process_entry s p) numbered fits

ended_parts : (room : Room) (s : State) (p : ℕ) (x : Option ProcessEntry) → AreNumbered s.held → Fits room.extents s.held → new_parts room [] (end_at s p x).held.objects ≡ 0
ended_parts room s p None numbered fits = silent_parts room s.held numbered fits
ended_parts room s p (Some x) numbered fits =
    silent_parts room (all_decommitted s p s.units).held (all_decommitted_numbered s.units s p numbered)
    (record { rows = λ m. fits.rows m ∙ fits_by s.held (all_decommitted s p s.units).held m (all_decommitted_outline s.units s p m) })

pub end_parts : (room : Room) (s : State) (p : ℕ) (cause : EndCause) → AreNumbered s.held → Fits room.extents s.held → new_parts room (must_persist s p (Finish cause)) (effect_of s p (Finish cause)).state.held.objects ≡ 0
unfolding must_persist effect_of
end_parts room s p cause numbered fits = ended_parts room s p (process_entry s p) numbered fits

-- ---- families of instructions that need no new part

pub contexts_still : (op : Op) (room : Room) (s : State) (p d : ℕ) (r : Request) → growth room s p ((contexts_row op).changes s p d r) ≡ 0
unfolding contexts_row
contexts_still Crtctx room s p d r = refl
contexts_still Rename room s p d r = refl
contexts_still _ room s p d r = refl

pub programs_still : (op : Op) (room : Room) (s : State) (p d : ℕ) (r : Request) → growth room s p ((programs_row op).changes s p d r) ≡ 0
unfolding programs_row
programs_still Crtpg room s p d r = rw (program_user (program_in (template_at s r.operands))) refl
programs_still Callx room s p d r = refl
programs_still _ room s p d r = refl

pub spaces_still : (op : Op) (room : Room) (s : State) (p d : ℕ) (r : Request) → growth room s p ((spaces_row op).changes s p d r) ≡ 0
unfolding spaces_row
spaces_still Crts room s p d r = refl
spaces_still _ room s p d r = refl

pub queues_still : (op : Op) (room : Room) (s : State) (p d : ℕ) (r : Request) → growth room s p ((queues_row op).changes s p d r) ≡ 0
unfolding queues_row
queues_still Crtq room s p d r = refl
queues_still _ room s p d r = refl

pub indexes_still : (op : Op) (room : Room) (s : State) (p d : ℕ) (r : Request) → growth room s p ((indexes_row op).changes s p d r) ≡ 0
unfolding indexes_row
indexes_still Crtinx room s p d r = refl
indexes_still _ room s p d r = refl

pub locks_still : (op : Op) (room : Room) (s : State) (p d : ℕ) (r : Request) → growth room s p ((locks_row op).changes s p d r) ≡ 0
unfolding locks_row
locks_still Lock room s p d r = refl
locks_still _ room s p d r = refl

pub resolving_still : (op : Op) (room : Room) (s : State) (p d : ℕ) (r : Request) → growth room s p ((resolving_row op).changes s p d r) ≡ 0
unfolding resolving_row
resolving_still Rslvsp room s p d r = refl
resolving_still _ room s p d r = refl

-- ---- whether there is room

pub store_none : (room : Room) (all : List Forced) (os : List Object) → (length all == 0) ≡ true → store_rule (Some room) all os ≡ None
store_none room all os is = ap (λ (l : List Forced). store_rule (Some room) l os) (nil_from_length all (eqb-true (length all) 0 is))

pub store_some : (room : Room) (all : List Forced) (os : List Object) → (length all == 0) ≡ false → store_rule (Some room) all os ≡ room_rule room (new_parts room all os)
store_some room [] os is = cc
store_some room (one ∷ more) os is = refl
