-- What each instruction gives fills the receiver that its class asks for, where that is a variable: as many bytes as it
-- has, or a pointer. One lemma for each family.
use Rattle.std.proofs.Common.{◌≡◌, Bool, List, cond, false, inr, refl, sym, true, ℕ}
use Rattle.std.specs.Option.{option_map}
use Rattle.std.specs.Prelude.{IfSome, None, Option, Some}
use Rattle.s38_base.specs.declared.op.Op.{Op}
use Rattle.s38_base.specs.declared.op.Op.TheVariants.{Callx, Cpybwp, Crtcb, Crtcr, Crtctx, Crtds, Crtinx, Crtjp, Crtjs, Crtpg, Crtq, Crts, Crtup, Deq, Fndinxen, Matau, Matauobj, Matctx, Matobjlk, Retdsen, Retjent, Rslvsp, Setdp, Setspfp, Setsppfp, Testau, Xctl}
use Rattle.s38_base.specs.declared.pointer.Pointer.{Pointer}
use Rattle.s38_code.specs.Operations.{classes, operand_rule}
use Rattle.s38_code.specs.declared.event.Request.{Request}
use Rattle.s38_code.specs.declared.family.Family.TheVariants as families
use Rattle.s38_code.specs.declared.family.Family.{Family}
use Rattle.s38_code.specs.declared.operand.Operand.{Operand}
use Rattle.s38_code.specs.declared.program.Program.{Program}
use Rattle.s38_code.specs.declared.reply.Val.TheVariants as vals
use Rattle.s38_rules.specs.families.Contexts.{contexts_row}
use Rattle.s38_rules.specs.families.ContextLists.{matctx_bytes}
use Rattle.s38_rules.specs.families.Creation.{creation_gives}
use Rattle.s38_rules.specs.families.DataSpaces.{data_spaces_row}
use Rattle.s38_rules.specs.families.Cursors.{retdsen_bytes}
use Rattle.s38_rules.specs.families.Grants.{grants_row}
use Rattle.s38_rules.specs.families.AuthorityReads.{matau_bytes, matauobj_bytes, testau_bytes}
use Rattle.s38_rules.specs.state.Held.{Held}
use Rattle.s38_rules.specs.families.Indexes.{fndinxen_bytes, indexes_row}
use Rattle.s38_rules.specs.families.Journals.{journals_row, retjent_bytes}
use Rattle.s38_rules.specs.families.Locking.{locks_row, matobjlk_bytes}
use Rattle.s38_rules.specs.ask.Operands.{place}
use Rattle.s38_rules.specs.ask.Receivers.{is_in_space}
use Rattle.s38_rules.specs.families.Profiles.{profiles_row}
use Rattle.s38_rules.specs.families.Programs.{programs_row}
use Rattle.s38_rules.specs.families.Calls.{call_gives, program_at}
use Rattle.s38_rules.specs.families.Queues.{deq_bytes, queues_row}
use Rattle.s38_rules.specs.families.Resolving.{resolving_row, rslvsp_gives, setspfp_gives}
use Rattle.s38_rules.specs.families.Rows.{row_in}
use Rattle.s38_rules.specs.families.Spaces.{spaces_row}
use Rattle.s38_rules.specs.families.SpacePointers.{cpybwp_gives, setdp_gives, setsppfp_gives}
use Rattle.s38_rules.specs.state.State.{State}
use Rattle.s38_rules.specs.declared.creating.Creating.{Creating}
use Rattle.s38_laws_processes.proofs.replies.FillLaws.{first_gets_pointer, goes_back, Fills, GivesWell, fitted_fills}
use Rattle.s38_laws_processes.proofs.replies.ComputedLaws.{computing_fills}

-- ---- the families

-- a pointer to a new object
new_fills : (op : Op) (ops : List Operand) (h : Held) (made : Creating) → first_gets_pointer (classes op) ≡ true → Fills op ops (creation_gives h made)
unfolding creation_gives
new_fills op ops h made gets = (gets, λ attr local. tt)

contexts_fill : (op : Op) (s : State) (p d : ℕ) (t : Request) → GivesWell op (contexts_row op) s p d t
unfolding contexts_row classes matctx_bytes
contexts_fill Crtctx s p d t = new_fills Crtctx t.operands s.held _ refl
contexts_fill Matctx s p d t = fitted_fills Matctx t.operands 0 _ refl
contexts_fill _ s p d t = tt

profiles_fill : (op : Op) (s : State) (p d : ℕ) (t : Request) → GivesWell op (profiles_row op) s p d t
unfolding profiles_row classes
profiles_fill Crtup s p d t = new_fills Crtup t.operands s.held _ refl
profiles_fill _ s p d t = tt

locks_fill : (op : Op) (s : State) (p d : ℕ) (t : Request) → GivesWell op (locks_row op) s p d t
unfolding locks_row classes matobjlk_bytes
locks_fill Matobjlk s p d t = fitted_fills Matobjlk t.operands 0 _ refl
locks_fill _ s p d t = tt

queues_fill : (op : Op) (s : State) (p d : ℕ) (t : Request) → GivesWell op (queues_row op) s p d t
unfolding queues_row classes deq_bytes
queues_fill Crtq s p d t = new_fills Crtq t.operands s.held _ refl
queues_fill Deq s p d t = fitted_fills Deq t.operands 64 _ refl
queues_fill _ s p d t = tt

indexes_fill : (op : Op) (s : State) (p d : ℕ) (t : Request) → GivesWell op (indexes_row op) s p d t
unfolding indexes_row classes fndinxen_bytes
indexes_fill Crtinx s p d t = new_fills Crtinx t.operands s.held _ refl
indexes_fill Fndinxen s p d t = fitted_fills Fndinxen t.operands 0 _ refl
indexes_fill _ s p d t = tt

data_spaces_fill : (op : Op) (s : State) (p d : ℕ) (t : Request) → GivesWell op (data_spaces_row op) s p d t
unfolding data_spaces_row classes retdsen_bytes
data_spaces_fill Crtds s p d t = new_fills Crtds t.operands s.held _ refl
data_spaces_fill Crtcr s p d t = new_fills Crtcr t.operands s.held _ refl
data_spaces_fill Retdsen s p d t = fitted_fills Retdsen t.operands 0 _ refl
data_spaces_fill _ s p d t = tt

journals_fill : (op : Op) (s : State) (p d : ℕ) (t : Request) → GivesWell op (journals_row op) s p d t
unfolding journals_row classes retjent_bytes
journals_fill Crtjs s p d t = new_fills Crtjs t.operands s.held _ refl
journals_fill Crtjp s p d t = new_fills Crtjp t.operands s.held _ refl
journals_fill Crtcb s p d t = new_fills Crtcb t.operands s.held _ refl
journals_fill Retjent s p d t = fitted_fills Retjent t.operands 0 _ refl
journals_fill _ s p d t = tt

-- a program that is called
code_back : (op : Op) (ops : List Operand) (program : Option Program) → goes_back op ≡ true → IfSome (option_map vals.Code program) (Fills op ops)
code_back op ops None back = tt
code_back op ops (Some program) back = (back, λ attr local. tt)

programs_fill : (op : Op) (s : State) (p d : ℕ) (t : Request) → GivesWell op (programs_row op) s p d t
unfolding programs_row classes call_gives
programs_fill Crtpg s p d t = new_fills Crtpg t.operands s.held _ refl
programs_fill Callx s p d t = code_back Callx t.operands (program_at s.held t.operands) refl
programs_fill Xctl s p d t = code_back Xctl t.operands (program_at s.held t.operands) refl
programs_fill _ s p d t = tt

resolving_fill : (op : Op) (s : State) (p d : ℕ) (t : Request) → GivesWell op (resolving_row op) s p d t
unfolding resolving_row classes rslvsp_gives setspfp_gives
resolving_fill Rslvsp s p d t = (refl, λ attr local. tt)
resolving_fill Setspfp s p d t = (refl, λ attr local. tt)
resolving_fill _ s p d t = tt

copied_fills : (in_space : Bool) (ops : List Operand) (p : Option Pointer) (op : Op) → first_gets_pointer (classes op) ≡ true → IfSome (cond in_space None (Some (vals.Ptr p))) (Fills op ops)
copied_fills true ops p op gets = tt
copied_fills false ops p op gets = (gets, λ attr local. tt)

spaces_fill : (op : Op) (s : State) (p d : ℕ) (t : Request) → GivesWell op (spaces_row op) s p d t
unfolding spaces_row classes setsppfp_gives setdp_gives cpybwp_gives
spaces_fill Setsppfp s p d t = (refl, λ attr local. tt)
spaces_fill Setdp s p d t = (refl, λ attr local. tt)
spaces_fill Cpybwp s p d t = copied_fills (is_in_space (place t.operands 1)) t.operands _ Cpybwp refl
spaces_fill Crts s p d t = new_fills Crts t.operands s.held _ refl
spaces_fill _ s p d t = tt

grants_fill : (op : Op) (s : State) (p d : ℕ) (t : Request) → GivesWell op (grants_row op) s p d t
unfolding grants_row classes operand_rule testau_bytes matau_bytes matauobj_bytes
grants_fill Testau s p d t = (refl, λ attr local. inr (sym (local.short refl)))
grants_fill Matau s p d t = fitted_fills Matau t.operands 0 _ refl
grants_fill Matauobj s p d t = fitted_fills Matauobj t.operands 0 _ refl
grants_fill _ s p d t = tt

-- what any row gives
pub row_fills : (f : Family) (s : State) (p d : ℕ) (t : Request) → GivesWell t.op (row_in f t.op) s p d t
unfolding row_in
row_fills families.Computing s p d t = computing_fills s p d t
row_fills families.Resolving s p d t = resolving_fill t.op s p d t
row_fills families.Contexts s p d t = contexts_fill t.op s p d t
row_fills families.Profiles s p d t = profiles_fill t.op s p d t
row_fills families.Grants s p d t = grants_fill t.op s p d t
row_fills families.Programs s p d t = programs_fill t.op s p d t
row_fills families.Locks s p d t = locks_fill t.op s p d t
row_fills families.Spaces s p d t = spaces_fill t.op s p d t
row_fills families.Queues s p d t = queues_fill t.op s p d t
row_fills families.Indexes s p d t = indexes_fill t.op s p d t
row_fills families.DataSpaces s p d t = data_spaces_fill t.op s p d t
row_fills families.Journals s p d t = journals_fill t.op s p d t
row_fills _ s p d t = tt
