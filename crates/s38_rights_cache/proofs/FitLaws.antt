-- What the rules of an instruction say of a change that is not quiet: who owns an object was given a number, a user that
-- goes is not needed, and frames stay but for a new last one. One case for each row.
use Rattle.std.proofs.Common.{◌+◌, ◌-◌, ◌<◌, ◌≤◌, ◌∷◌, ◌++◌, ◌≡◌, Bool, List, [], arith, cond, false, length, min, refl, subst, sym, take, true, ℕ}
use Rattle.std.proofs.lemmas.Bool.Decides.{nat_tests}
use Rattle.std.specs.Prelude.{None, Option, Some, is_some, nat_lt}
use Rattle.s38_base.specs.Exceptions as exceptions
use Rattle.s38_base.specs.Ids.{same_kind}
use Rattle.s38_base.specs.Limits.{last_operand}
use Rattle.s38_base.specs.Pointers.{object_of, target_of}
use Rattle.s38_base.specs.RightNames as rights
use Rattle.s38_base.specs.Signals.{first, plain}
use Rattle.s38_base.specs.declared.exception.Exception.{Exception}
use Rattle.s38_base.specs.declared.id.Kind.TheVariants as kinds
use Rattle.s38_base.specs.declared.id.ObjNum.{ObjNum}
use Rattle.s38_base.specs.declared.op.Op.TheVariants.{Callx, Crtcb, Crtcr, Crtctx, Crtds, Crtinx, Crtjp, Crtjs, Crtpg, Crtq, Crts, Crtup, Descb, Descr, Desctx, Desds, Desinx, Desjp, Desjs, Despg, Desq, Dess, Desup, Grant, Insdsen, Jrnlobj, Lock, Retract, Rslvsp, Xctl, Xfro}
use Rattle.s38_base.specs.declared.op.Op.{Op}
use Rattle.s38_base.specs.declared.pointer.Pointer.{Pointer}
use Rattle.s38_base.specs.declared.words.Category.TheVariants.{Read}
use Rattle.s38_code.specs.declared.event.Request.{Request}
use Rattle.s38_code.specs.declared.family.Family.TheVariants as families
use Rattle.s38_code.specs.declared.family.Family.{Family}
use Rattle.s38_code.specs.declared.operand.Operand.{Operand}
use Rattle.s38_rules.proofs.ChargeLaws.{some_page}
use Rattle.s38_rules.proofs.RuleLaws.{fails_none, first_none}
use Rattle.s38_rules.proofs.VerdictLaws.{rule_met}
use Rattle.s38_rules.specs.families.Changes.{Changes, Framed, Gone, Made, OnAccess, Then}
use Rattle.s38_rules.specs.families.Contexts.{contexts_row, crtctx, crtctx_fails, new_context}
use Rattle.s38_rules.specs.families.Creation.{creation_fails, creation_limits, limit_in, name_rule, number_rule, pages_rule}
use Rattle.s38_rules.specs.families.DataSpaces.{created_data_space, crtds, crtds_fails, data_spaces_row}
use Rattle.s38_rules.specs.families.Cursors.{created_cursor, crtcr, crtcr_fails}
use Rattle.s38_rules.specs.families.Grants.{grants_row, taker_rule, xfro, xfro_fails}
use Rattle.s38_rules.specs.families.Grantees.{user_at, with_rights}
use Rattle.s38_rules.specs.state.Held.{Held, charge_in, is_there, object, pages_of, without_in}
use Rattle.s38_rules.specs.families.Indexes.{created_index, crtinx, crtinx_fails, indexes_row}
use Rattle.s38_rules.specs.families.Instruction.{Instruction}
use Rattle.s38_rules.specs.state.Invocations.{frames_used, stack_of}
use Rattle.s38_rules.specs.families.Journals.{created_journal, crtjs, crtjs_fails, journals_row}
use Rattle.s38_rules.specs.families.CommitBlocks.{created_block, crtcb, crtcb_fails}
use Rattle.s38_rules.specs.families.Ports.{created_port, crtjp, crtjp_fails}
use Rattle.s38_rules.specs.families.Locking.{locks_row}
use Rattle.s38_rules.specs.ask.Operands.{is_given, pointer_at, target}
use Rattle.s38_rules.specs.families.Profiles.{crtup, crtup_fails, desup, desup_fails, is_needed, new_profile, profiles_row}
use Rattle.s38_rules.specs.families.Programs.{crtpg, crtpg_fails, new_program, programs_row, template_at, template_rule}
use Rattle.s38_rules.specs.families.Calls.{call_needs, callx, xctl}
use Rattle.s38_rules.specs.families.Queues.{created_queue, crtq, crtq_fails, queues_row}
use Rattle.s38_rules.specs.families.Resolving.{resolving_row}
use Rattle.s38_rules.specs.families.Rows.{row_in}
use Rattle.s38_rules.specs.families.Spaces.{crts, crts_fails, length_rule, new_space, spaces_row}
use Rattle.s38_rules.specs.state.Access.{Access, access_of}
use Rattle.s38_rules.specs.state.State.{State}
use Rattle.s38_rules.specs.ask.Users.{user_of}
use Rattle.s38_rules.specs.step.Verdict.{refused_by}
use Rattle.s38_rules.specs.ask.AddressRules.{address_rule, address_rules, is_pointer, item_rule, object_rule, pointer_rule}
use Rattle.s38_rules.specs.declared.creating.Creating.{Creating}
use Rattle.s38_rules.specs.declared.need.Claim.TheVariants.{Available}
use Rattle.s38_rules.specs.declared.need.Named.TheVariants.{Written}
use Rattle.s38_rules.specs.declared.need.Need.{Need}
use Rattle.s38_rules.specs.declared.need.PointerKind.TheVariants as pointer_kinds
use Rattle.s38_rules.specs.declared.need.Sought.TheVariants.{Of}
use Rattle.s38_rules.specs.declared.object.Object.{Object}
use Rattle.s38_rights_cache.specs.Following.{is_quiet}
use Rattle.s38_rights_cache.specs.Places.{AreOwned}

-- ---- what a change keeps to

-- so many frames stay, and the next is that of a program whose number was given
pub record KeepsFrames (next : ℕ) (frames : List ObjNum) (f : List ObjNum → List ObjNum) : Type 0 where
  pub stays : ℕ
  pub program : ObjNum
  pub within : stays ≤ length frames
  pub is : f frames ≡ take stays frames ++ program ∷ []
  pub given : 0 < next → program.0 < next

abbrev pub IsFit : State → ℕ → Changes → Type 0
IsFit s p (OnAccess n f) = (o : Object) → object s.held n ≡ Some o → (f (access_of o)).owner.0 < s.held.next
IsFit s p (Made owner made body) = owner < s.held.next
IsFit s p (Gone kind n) = same_kind kind kinds.Profile ≡ true → is_needed s n ≡ false
IsFit s p (Framed f) = KeepsFrames s.held.next (stack_of s p) f
IsFit s p (Then a b) = (is_quiet a ≡ true) × (is_quiet b ≡ true)
IsFit s p _ = Unit {0}

-- where no rule refuses an instruction, its change keeps to that
abbrev pub FitRow : Instruction → Type 0
FitRow i = (s : State) (p d : ℕ) (t : Request) → AreOwned s.held → refused_by i s p d t ≡ None → IsFit s p (i.changes s p d t)

-- ---- who may pay is there

one_page : (x : Option Object) → 1 ≤ limit_in x → is_some x ≡ true
one_page None h = absurd (omega (arith, h))
one_page (Some o) h = refl

pays : (h : Held) (user pages operand : ℕ) → AreOwned h → 1 ≤ pages → pages_rule h user pages operand ≡ None → user < h.next
pays h user pages operand owned some met = owned.numbers user (one_page (object h user) (enough (limit_in (object h user)) pages some (fails_none _ exceptions.pages_exceeded operand met)))
  where
    enough : (limit pages : ℕ) → 1 ≤ pages → nat_lt limit pages ≡ false → 1 ≤ limit
    enough limit pages one low = grind (arith, nat_tests, one, low)

made_fit : (h : Held) (owner : ℕ) (made : Creating) (own : Option Exception) → AreOwned h → 1 ≤ made.pages → creation_fails h owner made own ≡ None → owner < h.next
unfolding creation_fails creation_limits
made_fit h owner made own owned some met =
    let one = first_none (name_rule h made) (first own (creation_limits h owner made.pages)) met in
    let two = first_none own (creation_limits h owner made.pages) one.1 in
    let three = first_none (pages_rule h owner (charge_in h.objects owner + made.pages) 0) (number_rule h) two.1 in
    pays h owner (charge_in h.objects owner + made.pages) 0 owned (omega (arith, some)) three.0

-- ---- the program that is called was given its number

abbrev called : Need
called = record {
  place = 1;
  named = Written;
  pointer = pointer_kinds.System;
  sought = Of kinds.Program;
  rights = record { 0 = rights.retrieve };
  claim = Available;
  category = Some Read;
}

object_met : (x : Option Object) → object_rule called x ≡ None → is_some x ≡ true
object_met None met = cc
object_met (Some o) met = refl

pointer_met : (h : Held) (x : Option Pointer) → pointer_rule h called x ≡ None → is_there h (target_of x) ≡ true
pointer_met h None met = cc
pointer_met h (Some p) met = by (is_pointer pointer_kinds.System p) met
  where
    by : (b : Bool) → cond b (object_rule called (object h (object_of p))) (Some (plain exceptions.pointer_type_invalid 1)) ≡ None → is_there h (object_of p) ≡ true
    by true e = object_met (object h (object_of p)) e
    by false e = cc

called_given : (h : Held) (ops : List Operand) → AreOwned h → address_rules h ops call_needs ≡ None → 0 < h.next → target h ops 1 < h.next
unfolding address_rules call_needs address_rule
called_given h [] owned met some = some
called_given h (operand ∷ more) owned met some =
    let own = first_none (item_rule h (min 1 last_operand) operand) _ met in
    let needs = first_none (first (pointer_rule h called (pointer_at h (operand ∷ more) 1)) None) _ own.1 in
    owned.numbers (target h (operand ∷ more) 1) (pointer_met h (pointer_at h (operand ∷ more) 1) (first_none _ _ needs.0).0)

addresses_met : (i : Instruction) (s : State) (p d : ℕ) (t : Request) → refused_by i s p d t ≡ None → address_rules s.held t.operands (i.needs s p d t) ≡ None
unfolding refused_by
addresses_met i s p d t met = (first_none (address_rules s.held t.operands (i.needs s p d t)) _ met).0

callx_fit : FitRow callx
callx_fit s p d t owned met = record {
  stays = frames_used d (stack_of s p);
  program = record { 0 = target s.held t.operands 1 };
  within = omega arith;
  is = refl;
  given = called_given s.held t.operands owned (addresses_met callx s p d t met);
}

xctl_fit : FitRow xctl
xctl_fit s p d t owned met = record {
  stays = frames_used d (stack_of s p) - 1;
  program = record { 0 = target s.held t.operands 1 };
  within = omega arith;
  is = refl;
  given = called_given s.held t.operands owned (addresses_met xctl s p d t met);
}

-- ---- the families

contexts_fit : (op : Op) → FitRow (contexts_row op)
unfolding contexts_row crtctx_fails
contexts_fit Crtctx = λ s p d t owned e. made_fit s.held (user_of s p) (new_context s.held t.operands) None owned (omega arith) (rule_met crtctx s p d t e)
contexts_fit Desctx = λ s p d t owned e is. cc
contexts_fit _ = λ s p d t owned e. tt

profiles_fit : (op : Op) → FitRow (profiles_row op)
unfolding profiles_row crtup_fails desup_fails
profiles_fit Crtup = λ s p d t owned e. made_fit s.held (user_of s p) (new_profile s.held t.operands) None owned (omega arith) (rule_met crtup s p d t e)
profiles_fit Desup = λ s p d t owned e is. fails_none (is_needed s (target s.held t.operands 1)) exceptions.object_in_use 1 (rule_met desup s p d t e)
profiles_fit _ = λ s p d t owned e. tt

owner_stays : (given : Bool) (user : ObjNum) (r : ℕ) (x : Access) → (with_rights given user r x).owner ≡ x.owner
owner_stays true user r x = refl
owner_stays false user r x = refl

xfro_fit : FitRow xfro
unfolding xfro_fails
xfro_fit s p d t owned e = λ o at. takes o (subst (λ (r : Option Object). taker_rule s.held n user r ≡ None) at (first_none _ _ (rule_met xfro s p d t e)).0)
  where
    n : ℕ
    n = target s.held t.operands 1

    user : ℕ
    user = target s.held t.operands 2

    takes : (o : Object) → taker_rule s.held n user (Some o) ≡ None → user < s.held.next
    takes o met = pays s.held user (charge_in (without_in s.held.objects n) user + pages_of o.body) 2 owned (more (pages_of o.body) (some_page o.body)) met
      where
        more : (pages : ℕ) → 1 ≤ pages → 1 ≤ charge_in (without_in s.held.objects n) user + pages
        more pages some = omega (arith, some)

grants_fit : (op : Op) → FitRow (grants_row op)
unfolding grants_row
grants_fit Grant = λ s p d t owned e o at.
    subst (λ (u : ObjNum). u.0 < s.held.next) (sym (owner_stays (is_given t.operands 2) (user_at s.held t.operands 2) _ (access_of o))) (owned.owners (target s.held t.operands 1) o at)
grants_fit Retract = λ s p d t owned e o at.
    subst (λ (u : ObjNum). u.0 < s.held.next) (sym (owner_stays (is_given t.operands 2) (user_at s.held t.operands 2) _ (access_of o))) (owned.owners (target s.held t.operands 1) o at)
grants_fit Xfro = xfro_fit
grants_fit _ = λ s p d t owned e. tt

programs_fit : (op : Op) → FitRow (programs_row op)
unfolding programs_row crtpg_fails
programs_fit Crtpg = λ s p d t owned e.
    made_fit s.held (user_of s p) (new_program s.held t.operands) (template_rule (template_at s t.operands)) owned (omega arith) (first_none _ _ (rule_met crtpg s p d t e)).0
programs_fit Callx = callx_fit
programs_fit Xctl = xctl_fit
programs_fit Despg = λ s p d t owned e is. cc
programs_fit _ = λ s p d t owned e. tt

locks_fit : (op : Op) → FitRow (locks_row op)
unfolding locks_row
locks_fit Lock = λ s p d t owned e. tt
locks_fit _ = λ s p d t owned e. tt

resolving_fit : (op : Op) → FitRow (resolving_row op)
unfolding resolving_row
resolving_fit Rslvsp = λ s p d t owned e. tt
resolving_fit _ = λ s p d t owned e. tt

spaces_fit : (op : Op) → FitRow (spaces_row op)
unfolding spaces_row crts_fails
spaces_fit Crts = λ s p d t owned e. made_fit s.held (user_of s p) (new_space s t.operands) (length_rule s t.operands 5) owned (omega arith) (rule_met crts s p d t e)
spaces_fit Dess = λ s p d t owned e is. cc
spaces_fit _ = λ s p d t owned e. tt

queues_fit : (op : Op) → FitRow (queues_row op)
unfolding queues_row crtq_fails
queues_fit Crtq = λ s p d t owned e. made_fit s.held (user_of s p) (created_queue s.held t.operands) None owned (omega arith) (rule_met crtq s p d t e)
queues_fit Desq = λ s p d t owned e is. cc
queues_fit _ = λ s p d t owned e. tt

indexes_fit : (op : Op) → FitRow (indexes_row op)
unfolding indexes_row crtinx_fails
indexes_fit Crtinx = λ s p d t owned e. made_fit s.held (user_of s p) (created_index s.held t.operands) None owned (omega arith) (rule_met crtinx s p d t e)
indexes_fit Desinx = λ s p d t owned e is. cc
indexes_fit _ = λ s p d t owned e. tt

data_spaces_fit : (op : Op) → FitRow (data_spaces_row op)
unfolding data_spaces_row crtds_fails crtcr_fails
data_spaces_fit Crtds = λ s p d t owned e. made_fit s.held (user_of s p) (created_data_space s.held t.operands) None owned (omega arith) (rule_met crtds s p d t e)
data_spaces_fit Desds = λ s p d t owned e is. cc
data_spaces_fit Crtcr = λ s p d t owned e. made_fit s.held (user_of s p) (created_cursor s.held t.operands) None owned (omega arith) (rule_met crtcr s p d t e)
data_spaces_fit Descr = λ s p d t owned e is. cc
data_spaces_fit Insdsen = λ s p d t owned e. (refl, refl)
data_spaces_fit _ = λ s p d t owned e. tt

journals_fit : (op : Op) → FitRow (journals_row op)
unfolding journals_row crtjs_fails crtjp_fails crtcb_fails
journals_fit Crtjs = λ s p d t owned e. made_fit s.held (user_of s p) (created_journal s.held t.operands) None owned (omega arith) (rule_met crtjs s p d t e)
journals_fit Desjs = λ s p d t owned e is. cc
journals_fit Crtjp = λ s p d t owned e. made_fit s.held (user_of s p) (created_port s.held t.operands) _ owned (omega arith) (rule_met crtjp s p d t e)
journals_fit Desjp = λ s p d t owned e is. cc
journals_fit Crtcb = λ s p d t owned e. made_fit s.held (user_of s p) (created_block s.held t.operands) None owned (omega arith) (rule_met crtcb s p d t e)
journals_fit Descb = λ s p d t owned e is. cc
journals_fit Jrnlobj = λ s p d t owned e. (refl, refl)
journals_fit _ = λ s p d t owned e. tt

pub row_fit : (f : Family) (op : Op) → FitRow (row_in f op)
unfolding row_in
row_fit families.Computing op = λ s p d t owned e. tt
row_fit families.Resolving op = resolving_fit op
row_fit families.Contexts op = contexts_fit op
row_fit families.Profiles op = profiles_fit op
row_fit families.Grants op = grants_fit op
row_fit families.Programs op = programs_fit op
row_fit families.Locks op = locks_fit op
row_fit families.Spaces op = spaces_fit op
row_fit families.Queues op = queues_fit op
row_fit families.Indexes op = indexes_fit op
row_fit families.DataSpaces op = data_spaces_fit op
row_fit families.Journals op = journals_fit op
row_fit _ op = λ s p d t owned e. tt
