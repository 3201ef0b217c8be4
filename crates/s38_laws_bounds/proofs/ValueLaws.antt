-- What each instruction gives suits the receiver that its class asks for: so many bytes at most, or a pointer that a cell
-- can hold. One lemma for each family.
use Rattle.std.proofs.Common.{◌∷◌, ◌≡◌, ◌≤◌, Bool, List, [], arith, cond, false, refl, true, ℕ}
use Rattle.std.proofs.lemmas.Bool.Decides.{nat_tests}
use Rattle.std.proofs.lemmas.Bool.{and_parts}
use Rattle.std.specs.Option.{option_map}
use Rattle.std.specs.Prelude.{IfSome, None, Option, Some, not}
use Rattle.s38_base.specs.Pointers.{is_storable}
use Rattle.s38_base.specs.Attributes.{is_pointer_attr}
use Rattle.s38_base.specs.declared.id.Id.{Id}
use Rattle.s38_base.specs.declared.op.Op.{Op}
use Rattle.s38_base.specs.declared.op.Op.TheVariants.{Callx, Cpybwp, Crtcb, Crtcr, Crtctx, Crtds, Crtinx, Crtjp, Crtjs, Crtpg, Crtq, Crts, Crtup, Deq, Fndinxen, Matau, Matauobj, Matctx, Matobjlk, Retdsen, Retjent, Rslvsp, Setdp, Setspfp, Setsppfp, Testau, Xctl}
use Rattle.s38_base.specs.declared.pointer.Pointer.{Pointer}
use Rattle.s38_code.specs.Operations.{classes, operand_rule}
use Rattle.s38_code.specs.declared.class.Class.TheVariants.{Constant, PointerReceiver}
use Rattle.s38_code.specs.declared.class.Constant.TheVariants.{Attribute}
use Rattle.s38_code.specs.declared.event.Request.{Request}
use Rattle.s38_code.specs.declared.family.Family.TheVariants as families
use Rattle.s38_code.specs.declared.family.Family.{Family}
use Rattle.s38_code.specs.declared.operand.Operand.TheVariants as operands
use Rattle.s38_code.specs.declared.operand.Operand.{Operand}
use Rattle.s38_code.specs.declared.program.Program.{Program}
use Rattle.s38_code.specs.declared.reply.Val.TheVariants as vals
use Rattle.s38_code.specs.declared.reply.Val.{Val}
use Rattle.s38_rules.specs.families.Changes.{Changes}
use Rattle.s38_rules.specs.families.Contexts.{contexts_row}
use Rattle.s38_rules.specs.families.ContextLists.{matctx_bytes}
use Rattle.s38_rules.specs.families.Creation.{creation_gives, new_pointer}
use Rattle.s38_rules.specs.families.DataSpaces.{data_spaces_row}
use Rattle.s38_rules.specs.families.Cursors.{retdsen_bytes}
use Rattle.s38_rules.specs.families.Grants.{grants_row}
use Rattle.s38_rules.specs.families.AuthorityReads.{matau_bytes, matauobj_bytes, testau_bytes}
use Rattle.s38_rules.specs.state.Held.{Held}
use Rattle.s38_rules.specs.families.Indexes.{fndinxen_bytes, indexes_row}
use Rattle.s38_rules.specs.families.Journals.{journals_row, retjent_bytes}
use Rattle.s38_rules.specs.families.Locking.{locks_row, matobjlk_bytes}
use Rattle.s38_rules.specs.ask.Operands.{attr_at, attr_of as attr_written, place, pointer_at, rights_at, room_at}
use Rattle.s38_rules.specs.ask.Receivers.{is_in_space}
use Rattle.s38_rules.specs.families.Profiles.{profiles_row}
use Rattle.s38_rules.specs.families.Programs.{programs_row}
use Rattle.s38_rules.specs.families.Calls.{call_gives, callx_changes, program_at, xctl_changes}
use Rattle.s38_rules.specs.families.Queues.{deq_bytes, queues_row}
use Rattle.s38_rules.specs.families.Resolving.{pointer_to, resolved, resolving_row, rslvsp_gives, setspfp_gives}
use Rattle.s38_rules.specs.families.Rows.{row_in}
use Rattle.s38_rules.specs.families.Spaces.{spaces_row}
use Rattle.s38_rules.specs.families.SpacePointers.{cpybwp_changes, cpybwp_gives, setdp_gives, setsppfp_gives}
use Rattle.s38_rules.specs.state.State.{State}
use Rattle.s38_rules.specs.declared.creating.Creating.{Creating}
use Rattle.s38_rules.specs.declared.need.Located.{Located}
use Rattle.s38_laws_bounds.specs.Placed.{is_cell_value, leaves_spaces}
use Rattle.s38_laws_bounds.specs.Suited.{all_suit, has_two_bytes, suits}
use Rattle.s38_laws_bounds.proofs.FitLaws.{gets_pointer, goes_back, Fits, SuitsRow, GivesWell, fitted_fits}
use Rattle.s38_laws_bounds.proofs.ComputedLaws.{computing_fits}

-- ---- the families

new_held : (h : Held) (id : Option Id) → is_cell_value (new_pointer h id) ≡ true
new_held h None = refl
new_held h (Some id) = refl

-- a pointer to a new object
new_fits : (op : Op) (room shift : ℕ) (h : Held) (made : Creating) → shift ≡ 0 → gets_pointer op ≡ true → Fits op room shift (creation_gives h made)
unfolding creation_gives
new_fits op room shift h made none gets = (new_held h made.id, (none, gets))

contexts_fit : (op : Op) (s : State) (p d : ℕ) (t : Request) → GivesWell op (contexts_row op) s p d t
unfolding contexts_row classes matctx_bytes
contexts_fit Crtctx s p d t = (new_fits Crtctx _ _ s.held _ refl refl, refl)
contexts_fit Matctx s p d t = (fitted_fits (room_at t.operands 1) 0 _, refl)
contexts_fit _ s p d t = tt

profiles_fit : (op : Op) (s : State) (p d : ℕ) (t : Request) → GivesWell op (profiles_row op) s p d t
unfolding profiles_row classes
profiles_fit Crtup s p d t = (new_fits Crtup _ _ s.held _ refl refl, refl)
profiles_fit _ s p d t = tt

locks_fit : (op : Op) (s : State) (p d : ℕ) (t : Request) → GivesWell op (locks_row op) s p d t
unfolding locks_row matobjlk_bytes
locks_fit Matobjlk s p d t = (fitted_fits (room_at t.operands 1) 0 _, refl)
locks_fit _ s p d t = tt

queues_fit : (op : Op) (s : State) (p d : ℕ) (t : Request) → GivesWell op (queues_row op) s p d t
unfolding queues_row classes deq_bytes
queues_fit Crtq s p d t = (new_fits Crtq _ _ s.held _ refl refl, refl)
queues_fit Deq s p d t = (fitted_fits (room_at t.operands 1) 64 _, refl)
queues_fit _ s p d t = tt

indexes_fit : (op : Op) (s : State) (p d : ℕ) (t : Request) → GivesWell op (indexes_row op) s p d t
unfolding indexes_row classes fndinxen_bytes
indexes_fit Crtinx s p d t = (new_fits Crtinx _ _ s.held _ refl refl, refl)
indexes_fit Fndinxen s p d t = (fitted_fits (room_at t.operands 1) 0 _, refl)
indexes_fit _ s p d t = tt

data_spaces_fit : (op : Op) (s : State) (p d : ℕ) (t : Request) → GivesWell op (data_spaces_row op) s p d t
unfolding data_spaces_row classes retdsen_bytes
data_spaces_fit Crtds s p d t = (new_fits Crtds _ _ s.held _ refl refl, refl)
data_spaces_fit Crtcr s p d t = (new_fits Crtcr _ _ s.held _ refl refl, refl)
data_spaces_fit Retdsen s p d t = (fitted_fits (room_at t.operands 1) 0 _, refl)
data_spaces_fit _ s p d t = tt

journals_fit : (op : Op) (s : State) (p d : ℕ) (t : Request) → GivesWell op (journals_row op) s p d t
unfolding journals_row classes retjent_bytes
journals_fit Crtjs s p d t = (new_fits Crtjs _ _ s.held _ refl refl, refl)
journals_fit Crtjp s p d t = (new_fits Crtjp _ _ s.held _ refl refl, refl)
journals_fit Crtcb s p d t = (new_fits Crtcb _ _ s.held _ refl refl, refl)
journals_fit Retjent s p d t = (fitted_fits (room_at t.operands 1) 0 _, refl)
journals_fit _ s p d t = tt

-- a program that is called
code_back : (op : Op) (room shift : ℕ) (x : Changes) (program : Option Program) → goes_back op ≡ true → leaves_spaces x ≡ true
    → IfSome (option_map vals.Code program) (λ v. Fits op room shift v × (leaves_spaces x ≡ true))
code_back op room shift x None back leaves = tt
code_back op room shift x (Some program) back leaves = (back, leaves)

programs_fit : (op : Op) (s : State) (p d : ℕ) (t : Request) → GivesWell op (programs_row op) s p d t
unfolding programs_row classes call_gives
programs_fit Crtpg s p d t = (new_fits Crtpg _ _ s.held _ refl refl, refl)
programs_fit Callx s p d t = code_back Callx _ _ (callx_changes s.held d t.operands) (program_at s.held t.operands) refl refl
programs_fit Xctl s p d t = code_back Xctl _ _ (xctl_changes s.held d t.operands) (program_at s.held t.operands) refl refl
programs_fit _ s p d t = tt

located_held : (word : ℕ) (found : Option Located) → is_cell_value (pointer_to word found) ≡ true
located_held word None = refl
located_held word (Some l) = refl

-- a pointer that is made of another one
mapped_held : (f : Pointer → Pointer) (x : Option Pointer) → ((p : Pointer) → is_storable (f p) ≡ true) → is_cell_value (option_map f x) ≡ true
mapped_held f None holds = refl
mapped_held f (Some p) holds = holds p

resolving_fit : (op : Op) (s : State) (p d : ℕ) (t : Request) → GivesWell op (resolving_row op) s p d t
unfolding resolving_row classes rslvsp_gives setspfp_gives
resolving_fit Rslvsp s p d t = ((located_held (rights_at t.operands 4) (resolved s p d t.operands), (refl, refl)), refl)
resolving_fit Setspfp s p d t = ((mapped_held _ (pointer_at s.held t.operands 2) (λ p. refl), (refl, refl)), refl)
resolving_fit _ s p d t = tt

-- an attribute that is in a program is that of a scalar
scalar_there : (z : Operand) → suits (Constant Attribute) z ≡ true → not (is_pointer_attr (attr_written (Some z))) ≡ true
scalar_there (operands.Attrs (attr ∷ [])) is = is
scalar_there _ is = refl

scalar_third : (ops : List Operand) → all_suit (classes Setdp) ops ≡ true → not (is_pointer_attr (attr_at ops 3)) ≡ true
unfolding classes
scalar_third (x ∷ y ∷ z ∷ more) is =
    let one = and_parts (suits PointerReceiver x) _ is in
    scalar_there z (and_parts (suits (Constant Attribute) z) _ one.1).0
scalar_third _ is = refl

copied_fits : (in_space : Bool) (v : Val) (op : Op) (room shift : ℕ) (x : Changes) → in_space ≡ true → IfSome (cond in_space None (Some v)) (λ v. Fits op room shift v × (leaves_spaces x ≡ true))
copied_fits true v op room shift x is = tt
copied_fits false v op room shift x is = cc

spaces_fit : (op : Op) (s : State) (p d : ℕ) (t : Request) → SuitsRow op t.operands → is_in_space (place t.operands 1) ≡ true → GivesWell op (spaces_row op) s p d t
unfolding spaces_row classes setsppfp_gives setdp_gives cpybwp_gives
spaces_fit Setsppfp s p d t suited there = ((mapped_held _ (pointer_at s.held t.operands 2) (λ p. refl), (refl, refl)), refl)
spaces_fit Setdp s p d t suited there = ((mapped_held _ (pointer_at s.held t.operands 2) (λ p. scalar_third t.operands suited.classes), (refl, refl)), refl)
spaces_fit Cpybwp s p d t suited there = copied_fits (is_in_space (place t.operands 1)) _ Cpybwp _ _ (cpybwp_changes s.held t.operands) there
spaces_fit Crts s p d t suited there = (new_fits Crts _ _ s.held _ refl refl, refl)
spaces_fit _ s p d t suited there = tt

-- what gets a short binary number has two bytes
two_bytes : (ops : List Operand) → is_in_space (place ops 1) ≡ true → has_two_bytes ops ≡ true → 2 ≤ room_at ops 1
two_bytes (operands.InSpace base offset attr ∷ more) there is = grind (arith, nat_tests)
two_bytes _ there is = cc

grants_fit : (op : Op) (s : State) (p d : ℕ) (t : Request) → SuitsRow op t.operands → is_in_space (place t.operands 1) ≡ true → GivesWell op (grants_row op) s p d t
unfolding grants_row operand_rule testau_bytes matau_bytes matauobj_bytes
grants_fit Testau s p d t suited there = (two_bytes t.operands there suited.ruled, refl)
grants_fit Matau s p d t suited there = (fitted_fits (room_at t.operands 1) 0 _, refl)
grants_fit Matauobj s p d t suited there = (fitted_fits (room_at t.operands 1) 0 _, refl)
grants_fit _ s p d t suited there = tt

pub row_fits : (f : Family) (s : State) (p d : ℕ) (t : Request) → SuitsRow t.op t.operands → is_in_space (place t.operands 1) ≡ true → GivesWell t.op (row_in f t.op) s p d t
unfolding row_in
row_fits families.Computing s p d t suited there = computing_fits s p d t
row_fits families.Resolving s p d t suited there = resolving_fit t.op s p d t
row_fits families.Contexts s p d t suited there = contexts_fit t.op s p d t
row_fits families.Profiles s p d t suited there = profiles_fit t.op s p d t
row_fits families.Grants s p d t suited there = grants_fit t.op s p d t suited there
row_fits families.Programs s p d t suited there = programs_fit t.op s p d t
row_fits families.Locks s p d t suited there = locks_fit t.op s p d t
row_fits families.Spaces s p d t suited there = spaces_fit t.op s p d t suited there
row_fits families.Queues s p d t suited there = queues_fit t.op s p d t
row_fits families.Indexes s p d t suited there = indexes_fit t.op s p d t
row_fits families.DataSpaces s p d t suited there = data_spaces_fit t.op s p d t
row_fits families.Journals s p d t suited there = journals_fit t.op s p d t
row_fits _ s p d t suited there = tt
