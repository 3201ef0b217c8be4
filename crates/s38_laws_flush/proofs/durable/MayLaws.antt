-- Where no rule refuses an instruction, it makes an object only while a number is left, and ensures one that was given.
use Rattle.std.proofs.Common.{Bool, List, [], arith, cond, false, refl, suc, sym, true, zero, ℕ, ◌+◌, ◌<◌, ◌∙◌, ◌∷◌, ◌≡◌, ◌≤◌}
use Rattle.std.proofs.lemmas.Bool.Decides.{nat_tests}
use Rattle.std.specs.Prelude.{◌||◌, None, Option, Some, length, nat_le, nat_lt}
use Rattle.s38_base.specs.Exceptions as exceptions
use Rattle.s38_base.specs.Limits.{last_number, most_objects}
use Rattle.s38_base.specs.Pointers.{object_of, target_of}
use Rattle.s38_base.specs.RightNames as rights
use Rattle.s38_base.specs.Signals.{first, plain}
use Rattle.s38_base.specs.declared.exception.Exception.{Exception}
use Rattle.s38_base.specs.declared.op.Op.TheVariants.{Crtcb, Crtcr, Crtctx, Crtds, Crtinx, Crtjp, Crtjs, Crtpg, Crtq, Crts, Crtup, Ensobj, Grant, Insdsen, Jrnlobj, Lock, Rslvsp}
use Rattle.s38_base.specs.declared.op.Op.{Op}
use Rattle.s38_base.specs.declared.id.Kind.TheVariants as kinds
use Rattle.s38_base.specs.declared.pointer.Pointer.{Pointer}
use Rattle.s38_base.specs.declared.words.Category.TheVariants.{Change, Read}
use Rattle.s38_base.specs.declared.words.Category.{Category}
use Rattle.s38_code.specs.declared.event.Request.{Request}
use Rattle.s38_code.specs.declared.family.Family.TheVariants as families
use Rattle.s38_code.specs.declared.family.Family.{Family}
use Rattle.s38_code.specs.declared.operand.Operand.{Operand}
use Rattle.s38_rules.proofs.RuleLaws.{fails_none, first_none}
use Rattle.s38_rules.proofs.VerdictLaws.{rule_met}
use Rattle.s38_rules.specs.families.Contexts.{contexts_row, crtctx, crtctx_fails, new_context}
use Rattle.s38_rules.specs.families.Creation.{creation_fails, creation_limits, name_rule, number_rule, pages_rule}
use Rattle.s38_rules.specs.families.DataSpaces.{created_data_space, crtds, crtds_fails, data_spaces_row}
use Rattle.s38_rules.specs.families.Cursors.{created_cursor, crtcr, crtcr_fails}
use Rattle.s38_rules.specs.families.Grants.{grants_row}
use Rattle.s38_rules.specs.state.Held.{Held, charge_in, object}
use Rattle.s38_rules.specs.families.Indexes.{created_index, crtinx, crtinx_fails, indexes_row}
use Rattle.s38_rules.specs.families.Instruction.{Instruction}
use Rattle.s38_rules.specs.families.Journals.{created_journal, crtjs, crtjs_fails, ensobj, ensobj_needs, journals_row}
use Rattle.s38_rules.specs.families.CommitBlocks.{created_block, crtcb, crtcb_fails}
use Rattle.s38_rules.specs.families.Ports.{created_port, crtjp, crtjp_fails, jrnlobj, jrnlobj_needs}
use Rattle.s38_rules.specs.families.Locking.{locks_row}
use Rattle.s38_rules.specs.ask.Operands.{pointer_at, target}
use Rattle.s38_rules.specs.families.Profiles.{crtup, crtup_fails, new_profile, profiles_row}
use Rattle.s38_rules.specs.families.Programs.{crtpg, crtpg_fails, new_program, programs_row, template_at, template_rule}
use Rattle.s38_rules.specs.families.Queues.{created_queue, crtq, crtq_fails, queues_row}
use Rattle.s38_rules.specs.families.Resolving.{resolving_row}
use Rattle.s38_rules.specs.families.Rows.{row_in}
use Rattle.s38_rules.specs.families.Spaces.{crts, crts_fails, length_rule, new_space, spaces_row}
use Rattle.s38_rules.specs.state.State.{State}
use Rattle.s38_rules.specs.ask.Users.{user_of}
use Rattle.s38_rules.specs.step.Verdict.{refused_by}
use Rattle.s38_rules.specs.ask.AddressRules.{address_rule, address_rules, is_looked_at, is_pointer, object_rule, pointer_rule}
use Rattle.s38_rules.specs.declared.need.Claim.TheVariants.{Available}
use Rattle.s38_rules.specs.declared.need.Named.TheVariants.{Written}
use Rattle.s38_rules.specs.declared.need.Need.{Need}
use Rattle.s38_rules.specs.declared.need.PointerKind.TheVariants as pointer_kinds
use Rattle.s38_rules.specs.declared.need.Sought.TheVariants.{Any, Of}
use Rattle.s38_rules.specs.declared.need.Sought.{Sought}
use Rattle.s38_rules.specs.declared.object.Object.{Object}
use Rattle.s38_laws_flush.specs.durable.Kept.{AreNumbered}
use Rattle.s38_laws_flush.proofs.durable.GoesLaws.{May}
use Rattle.s38_laws_flush.proofs.durable.GoesThenLaws.{object_given}

-- ---- a number is left

number_left : (full high : Bool) → (full || high) ≡ false → high ≡ false
number_left true high h = absurd cc
number_left false high h = h

not_above : (a b : ℕ) → nat_lt a b ≡ false → b ≤ a
not_above a b h = grind (arith, nat_tests)

creation_left : (h : Held) (owner : ℕ) (made : _) (own : Option Exception) → creation_fails h owner made own ≡ None → h.next ≤ last_number
unfolding creation_fails creation_limits
creation_left h owner made own met =
    let one = first_none (name_rule h made) (first own (creation_limits h owner made.pages)) met in
    let two = first_none own (creation_limits h owner made.pages) one.1 in
    let three = first_none (pages_rule h owner (charge_in h.objects owner + made.pages) 0) (number_rule h) two.1 in
    not_above last_number h.next (number_left (nat_le most_objects (length h.objects)) (nat_lt last_number h.next) (fails_none _ exceptions.limit_exceeded 0 three.1))

-- ---- the object of the first operand was given

refused_none : (i : Instruction) (s : State) (p d : ℕ) (t : Request) → refused_by i s p d t ≡ None → address_rules s.held t.operands (i.needs s p d t) ≡ None
unfolding refused_by
refused_none i s p d t h = (first_none (address_rules s.held t.operands (i.needs s p d t)) _ h).0

passed : (b : Bool) (more : Option Exception) (x : Exception) → cond b more (Some x) ≡ None → more ≡ None
passed true more x h = h
passed false more x h = cc

-- a pointer to an object that is looked at is to one that is there
pointer_there : (h : Held) (need : Need) (x : Option Pointer) → pointer_rule h need x ≡ None → is_looked_at need.sought ≡ true → (o : Object) × (object h (target_of x) ≡ Some o)
pointer_there h need None met looked = cc
pointer_there h need (Some used) met looked =
    by (object h (object_of used)) refl (passed (is_pointer need.pointer used) (object_rule need (object h (object_of used))) (plain exceptions.pointer_type_invalid need.place) met)
  where
    not_both : (b : Bool) → b ≡ true → b ≡ false → ⊥
    not_both true p q = let e : true ≡ false = q in cc
    not_both false p q = let e : false ≡ true = p in cc

    by : (y : Option Object) → object h (object_of used) ≡ y → object_rule need y ≡ None → (o : Object) × (object h (object_of used) ≡ Some o)
    by None is met = absurd (not_both (is_looked_at need.sought) looked (fails_none (is_looked_at need.sought) exceptions.object_destroyed need.place met))
    by (Some o) is met = (o, is)

-- and so its number was given, and is not 0
there_may : (h : Held) (n : ℕ) (Z : Type 0) → AreNumbered h → (o : Object) × (object h n ≡ Some o) → (n < h.next) × (Z → 1 ≤ n)
there_may h n Z are there = (object_given h n there.0 are there.1, λ z. first n there.1)
  where
    first : (k : ℕ) → object h k ≡ Some there.0 → 1 ≤ k
    first zero found = absurd (let e : None ≡ Some there.0 = sym are.none ∙ found in cc)
    first (suc k) found = omega arith

none_may : (h : Held) → AreNumbered h → (0 < h.next) × (1 ≤ 0 → 1 ≤ 0)
none_may h are = (are.first, λ z. z)

abbrev first_need : Sought → ℕ → Category → Need
first_need sought bits category = record { place = 1; named = Written; pointer = pointer_kinds.System; sought = sought; rights = record { 0 = bits }; claim = Available; category = Some category }

abbrev MayFirst : State → List Operand → Type 0
MayFirst s ops = (target s.held ops 1 < s.held.next) × (1 ≤ length ops → 1 ≤ target s.held ops 1)

ensobj_given : (s : State) (p d : ℕ) (t : Request) → AreNumbered s.held → refused_by ensobj s p d t ≡ None → MayFirst s t.operands
unfolding address_rules address_rule ensobj_needs
ensobj_given s p d t are met = by t.operands (refused_none ensobj s p d t met)
  where
    by : (ops : List Operand) → address_rules s.held ops ensobj_needs ≡ None → MayFirst s ops
    by [] met = none_may s.held are
    by (x ∷ ops) met =
        there_may s.held (target s.held (x ∷ ops) 1) (1 ≤ length (x ∷ ops)) are
        (pointer_there s.held (first_need Any rights.retrieve Read) (pointer_at s.held (x ∷ ops) 1) (first_none _ _ (first_none _ _ (first_none _ _ met).1).0).0 refl)

jrnlobj_given : (s : State) (p d : ℕ) (t : Request) → AreNumbered s.held → refused_by jrnlobj s p d t ≡ None → MayFirst s t.operands
unfolding address_rules address_rule jrnlobj_needs
jrnlobj_given s p d t are met = by t.operands (refused_none jrnlobj s p d t met)
  where
    by : (ops : List Operand) → address_rules s.held ops jrnlobj_needs ≡ None → MayFirst s ops
    by [] met = none_may s.held are
    by (x ∷ ops) met =
        there_may s.held (target s.held (x ∷ ops) 1) (1 ≤ length (x ∷ ops)) are
        (pointer_there s.held (first_need (Of kinds.DataSpace) rights.objmgt Change) (pointer_at s.held (x ∷ ops) 1) (first_none _ _ (first_none _ _ (first_none _ _ met).1).0).0 refl)

-- ---- each family

-- where no rule refuses an instruction, its changes meet what they must
abbrev pub MayRow : Instruction → Type 0
MayRow i = (s : State) (p d : ℕ) (t : Request) → AreNumbered s.held → refused_by i s p d t ≡ None → May (1 ≤ length t.operands) s p (i.changes s p d t)

contexts_may : (op : Op) → MayRow (contexts_row op)
unfolding contexts_row crtctx_fails
contexts_may Crtctx = λ s p d t are e. creation_left s.held (user_of s p) (new_context s.held t.operands) None (rule_met crtctx s p d t e)
contexts_may _ = λ s p d t are e. tt

profiles_may : (op : Op) → MayRow (profiles_row op)
unfolding profiles_row crtup_fails
profiles_may Crtup = λ s p d t are e. creation_left s.held (user_of s p) (new_profile s.held t.operands) None (rule_met crtup s p d t e)
profiles_may _ = λ s p d t are e. tt

grants_may : (op : Op) → MayRow (grants_row op)
unfolding grants_row
grants_may Grant = λ s p d t are e. tt
grants_may _ = λ s p d t are e. tt

programs_may : (op : Op) → MayRow (programs_row op)
unfolding programs_row crtpg_fails
programs_may Crtpg = λ s p d t are e.
    creation_left s.held (user_of s p) (new_program s.held t.operands) (template_rule (template_at s t.operands)) (first_none _ _ (rule_met crtpg s p d t e)).0
programs_may _ = λ s p d t are e. tt

locks_may : (op : Op) → MayRow (locks_row op)
unfolding locks_row
locks_may Lock = λ s p d t are e. tt
locks_may _ = λ s p d t are e. tt

resolving_may : (op : Op) → MayRow (resolving_row op)
unfolding resolving_row
resolving_may Rslvsp = λ s p d t are e. tt
resolving_may _ = λ s p d t are e. tt

spaces_may : (op : Op) → MayRow (spaces_row op)
unfolding spaces_row crts_fails
spaces_may Crts = λ s p d t are e. creation_left s.held (user_of s p) (new_space s t.operands) (length_rule s t.operands 5) (rule_met crts s p d t e)
spaces_may _ = λ s p d t are e. tt

queues_may : (op : Op) → MayRow (queues_row op)
unfolding queues_row crtq_fails
queues_may Crtq = λ s p d t are e. creation_left s.held (user_of s p) (created_queue s.held t.operands) None (rule_met crtq s p d t e)
queues_may _ = λ s p d t are e. tt

indexes_may : (op : Op) → MayRow (indexes_row op)
unfolding indexes_row crtinx_fails
indexes_may Crtinx = λ s p d t are e. creation_left s.held (user_of s p) (created_index s.held t.operands) None (rule_met crtinx s p d t e)
indexes_may _ = λ s p d t are e. tt

data_spaces_may : (op : Op) → MayRow (data_spaces_row op)
unfolding data_spaces_row crtds_fails crtcr_fails
data_spaces_may Crtds = λ s p d t are e. creation_left s.held (user_of s p) (created_data_space s.held t.operands) None (rule_met crtds s p d t e)
data_spaces_may Crtcr = λ s p d t are e. creation_left s.held (user_of s p) (created_cursor s.held t.operands) None (rule_met crtcr s p d t e)
data_spaces_may Insdsen = λ s p d t are e. (tt, tt)
data_spaces_may _ = λ s p d t are e. tt

journals_may : (op : Op) → MayRow (journals_row op)
unfolding journals_row crtjs_fails crtjp_fails crtcb_fails
journals_may Crtjs = λ s p d t are e. creation_left s.held (user_of s p) (created_journal s.held t.operands) None (rule_met crtjs s p d t e)
journals_may Crtjp = λ s p d t are e. creation_left s.held (user_of s p) (created_port s.held t.operands) _ (rule_met crtjp s p d t e)
journals_may Crtcb = λ s p d t are e. creation_left s.held (user_of s p) (created_block s.held t.operands) None (rule_met crtcb s p d t e)
journals_may Jrnlobj = λ s p d t are e. (tt, jrnlobj_given s p d t are e)
journals_may Ensobj = λ s p d t are e. ensobj_given s p d t are e
journals_may _ = λ s p d t are e. tt

pub row_may : (f : Family) (op : Op) → MayRow (row_in f op)
unfolding row_in
row_may families.Computing op = λ s p d t are e. tt
row_may families.Resolving op = resolving_may op
row_may families.Contexts op = contexts_may op
row_may families.Profiles op = profiles_may op
row_may families.Grants op = grants_may op
row_may families.Programs op = programs_may op
row_may families.Locks op = locks_may op
row_may families.Spaces op = spaces_may op
row_may families.Queues op = queues_may op
row_may families.Indexes op = indexes_may op
row_may families.DataSpaces op = data_spaces_may op
row_may families.Journals op = journals_may op
row_may _ op = λ s p d t are e. tt
