-- Where no rule refuses an instruction, a port that it makes names a journal space that is there, and neither the machine
-- context nor the security officer is destroyed.
use Rattle.std.proofs.Common.{◌≡◌, ◌<◌, ◌==◌, ℕ, Bool, true, false, List, [], ◌∷◌, Option, Some, None, refl, ap, arith}
use Rattle.std.proofs.lemmas.List.Elements.{Contains-append_right}
use Rattle.std.specs.List.{Contains}
use Rattle.std.specs.Option.{option_map}
use Rattle.std.specs.Prelude.{◌||◌}
use Rattle.s38_base.specs.Exceptions as exceptions
use Rattle.s38_base.specs.Limits.{machine_context}
use Rattle.s38_base.specs.Pointers.{object_of, target_of}
use Rattle.s38_base.specs.RightNames as rights
use Rattle.s38_base.specs.declared.id.Kind.TheVariants as kinds
use Rattle.s38_base.specs.declared.op.Op.TheVariants.{Crtcb, Crtcr, Crtctx, Crtds, Crtinx, Crtjp, Crtjs, Crtpg, Crtq, Crts, Crtup, Descb, Descr, Desctx, Desds, Desinx, Desjp, Desjs, Despg, Desq, Dess, Desup, Grant, Insdsen, Jrnlobj, Lock, Rslvsp}
use Rattle.s38_base.specs.declared.op.Op.{Op}
use Rattle.s38_base.specs.declared.pointer.Pointer.{Pointer}
use Rattle.s38_code.specs.declared.event.Request.{Request}
use Rattle.s38_code.specs.declared.family.Family.TheVariants as families
use Rattle.s38_code.specs.declared.family.Family.{Family}
use Rattle.s38_code.specs.declared.operand.Operand.{Operand}
use Rattle.s38_code.specs.declared.program.Program.{Program}
use Rattle.s38_laws_confinement.proofs.RightLaws.{permitted, used_parts}
use Rattle.s38_laws_flush.proofs.durable.GoesThenLaws.{object_given}
use Rattle.s38_laws_flush.specs.durable.Kept.{AreNumbered}
use Rattle.s38_rules.proofs.RuleLaws.{fails_none}
use Rattle.s38_rules.proofs.VerdictLaws.{rule_met}
use Rattle.s38_rules.specs.families.Changes.{Changes, Gone, Made, Then, done}
use Rattle.s38_rules.specs.families.Contexts.{contexts_row, desctx, desctx_fails}
use Rattle.s38_rules.specs.families.Creation.{creation_needs}
use Rattle.s38_rules.specs.families.DataSpaces.{data_spaces_row}
use Rattle.s38_rules.specs.families.Grants.{grants_row}
use Rattle.s38_rules.specs.state.Held.{Held, object}
use Rattle.s38_rules.specs.families.Indexes.{indexes_row}
use Rattle.s38_rules.specs.families.Instruction.{Instruction}
use Rattle.s38_rules.specs.families.Journals.{journals_row}
use Rattle.s38_rules.specs.families.Ports.{crtjp, crtjp_needs}
use Rattle.s38_rules.specs.families.Locking.{locks_row}
use Rattle.s38_rules.specs.ask.Operands.{pointer_at, target}
use Rattle.s38_rules.specs.families.Profiles.{desup, desup_fails, officer, profiles_row}
use Rattle.s38_rules.specs.families.Programs.{program_in, programs_row, template_at}
use Rattle.s38_rules.specs.families.Queues.{queues_row}
use Rattle.s38_rules.specs.families.Resolving.{resolving_row}
use Rattle.s38_rules.specs.families.Rows.{row_in}
use Rattle.s38_rules.specs.families.Spaces.{spaces_row}
use Rattle.s38_rules.specs.state.State.{State}
use Rattle.s38_rules.specs.step.Verdict.{refused_by}
use Rattle.s38_rules.specs.ask.AddressRules.{object_rule}
use Rattle.s38_rules.specs.declared.need.Claim.TheVariants.{Available}
use Rattle.s38_rules.specs.declared.need.Named.TheVariants.{Written}
use Rattle.s38_rules.specs.declared.need.Need.{Need}
use Rattle.s38_rules.specs.declared.need.PointerKind.TheVariants as pointer_kinds
use Rattle.s38_rules.specs.declared.need.Sought.TheVariants.{Of}
use Rattle.s38_rules.specs.declared.object.Body.TheVariants as bodies
use Rattle.s38_rules.specs.declared.object.Object.{Object}
use Rattle.s38_laws_recovery.proofs.NewLaws.{IsSpared, NamesGiven}

abbrev pub MayLink : State → ℕ → Changes → Type 0
MayLink s p (Made owner made body) = NamesGiven s.held body
MayLink s p (Gone kind n) = IsSpared kind n
MayLink s p (Then a b) = MayLink s p a × MayLink (done s p a) p b
MayLink s p _ = Unit {0}

-- where no rule refuses an instruction, its changes meet what they must
abbrev pub LinkRow : Instruction → Type 0
LinkRow i = (s : State) (p d : ℕ) (t : Request) → AreNumbered s.held → refused_by i s p d t ≡ None → MayLink s p (i.changes s p d t)

-- ---- the journal space of a new port

abbrev journal_need : Need
journal_need = record { place = 5; named = Written; pointer = pointer_kinds.System; sought = Of kinds.Journal; rights = record { 0 = rights.insert }; claim = Available; category = None }

needs_journal : (ops : List Operand) → Contains (crtjp_needs ops) journal_need
unfolding crtjp_needs
needs_journal ops = Contains-append_right (creation_needs ops) (journal_need ∷ []) journal_need (0, omega arith, refl)

seen_there : (x : Option Object) → object_rule journal_need x ≡ None → (o : Object) × (x ≡ Some o)
seen_there None met = absurd cc
seen_there (Some o) met = (o, refl)

crtjp_links : LinkRow crtjp
crtjp_links s p d t are e = by (pointer_at s.held t.operands 5) refl
  where
    by : (r : Option Pointer) → pointer_at s.held t.operands 5 ≡ r → target_of (pointer_at s.held t.operands 5) < s.held.next
    by None is = let one = are.first in let zero_is = ap target_of is in omega (arith, one, zero_is)
    by (Some used) is =
        let there = seen_there (object s.held (object_of used)) (used_parts crtjp s p d t journal_need 4 used (permitted crtjp s p d t e) (needs_journal t.operands) refl (omega arith) refl is).1 in
        let less = object_given s.held (object_of used) there.0 are there.1 in
        let same = ap target_of is in
        omega (arith, less, same)

-- ---- what is destroyed

or_first : (a b : Bool) → (a || b) ≡ false → a ≡ false
or_first true b h = absurd (let e : true ≡ false = h in cc)
or_first false b h = refl

desctx_links : LinkRow desctx
unfolding desctx_fails
desctx_links s p d t are e = record {
  context = λ is. fails_none (target s.held t.operands 1 == machine_context) exceptions.object_in_use 1 (rule_met desctx s p d t e);
  profile = λ is. absurd cc;
}

desup_links : LinkRow desup
unfolding desup_fails
desup_links s p d t are e = record {
  context = λ is. absurd cc;
  profile = λ is. or_first (target s.held t.operands 1 == officer) _ (fails_none _ exceptions.object_in_use 1 (rule_met desup s p d t e));
}

-- ---- each family

contexts_link : (op : Op) → LinkRow (contexts_row op)
unfolding contexts_row
contexts_link Crtctx = λ s p d t are e. tt
contexts_link Desctx = desctx_links
contexts_link _ = λ s p d t are e. tt

profiles_link : (op : Op) → LinkRow (profiles_row op)
unfolding profiles_row
profiles_link Crtup = λ s p d t are e. tt
profiles_link Desup = desup_links
profiles_link _ = λ s p d t are e. tt

grants_link : (op : Op) → LinkRow (grants_row op)
unfolding grants_row
grants_link Grant = λ s p d t are e. tt
grants_link _ = λ s p d t are e. tt

program_names : (h : Held) (program : Option Program) → NamesGiven h (option_map bodies.Program program)
program_names h None = tt
program_names h (Some program) = tt

programs_link : (op : Op) → LinkRow (programs_row op)
unfolding programs_row
programs_link Crtpg = λ s p d t are e. program_names s.held (program_in (template_at s t.operands))
programs_link Despg = λ s p d t are e. record { context = λ is. absurd cc; profile = λ is. absurd cc }
programs_link _ = λ s p d t are e. tt

locks_link : (op : Op) → LinkRow (locks_row op)
unfolding locks_row
locks_link Lock = λ s p d t are e. tt
locks_link _ = λ s p d t are e. tt

resolving_link : (op : Op) → LinkRow (resolving_row op)
unfolding resolving_row
resolving_link Rslvsp = λ s p d t are e. tt
resolving_link _ = λ s p d t are e. tt

spaces_link : (op : Op) → LinkRow (spaces_row op)
unfolding spaces_row
spaces_link Crts = λ s p d t are e. tt
spaces_link Dess = λ s p d t are e. record { context = λ is. absurd cc; profile = λ is. absurd cc }
spaces_link _ = λ s p d t are e. tt

queues_link : (op : Op) → LinkRow (queues_row op)
unfolding queues_row
queues_link Crtq = λ s p d t are e. tt
queues_link Desq = λ s p d t are e. record { context = λ is. absurd cc; profile = λ is. absurd cc }
queues_link _ = λ s p d t are e. tt

indexes_link : (op : Op) → LinkRow (indexes_row op)
unfolding indexes_row
indexes_link Crtinx = λ s p d t are e. tt
indexes_link Desinx = λ s p d t are e. record { context = λ is. absurd cc; profile = λ is. absurd cc }
indexes_link _ = λ s p d t are e. tt

data_spaces_link : (op : Op) → LinkRow (data_spaces_row op)
unfolding data_spaces_row
data_spaces_link Crtds = λ s p d t are e. tt
data_spaces_link Desds = λ s p d t are e. record { context = λ is. absurd cc; profile = λ is. absurd cc }
data_spaces_link Crtcr = λ s p d t are e. tt
data_spaces_link Descr = λ s p d t are e. record { context = λ is. absurd cc; profile = λ is. absurd cc }
data_spaces_link Insdsen = λ s p d t are e. (tt, tt)
data_spaces_link _ = λ s p d t are e. tt

journals_link : (op : Op) → LinkRow (journals_row op)
unfolding journals_row
journals_link Crtjs = λ s p d t are e. tt
journals_link Desjs = λ s p d t are e. record { context = λ is. absurd cc; profile = λ is. absurd cc }
journals_link Crtjp = crtjp_links
journals_link Desjp = λ s p d t are e. record { context = λ is. absurd cc; profile = λ is. absurd cc }
journals_link Jrnlobj = λ s p d t are e. (tt, tt)
journals_link Crtcb = λ s p d t are e. tt
journals_link Descb = λ s p d t are e. record { context = λ is. absurd cc; profile = λ is. absurd cc }
journals_link _ = λ s p d t are e. tt

pub row_links : (f : Family) (op : Op) → LinkRow (row_in f op)
unfolding row_in
row_links families.Computing op = λ s p d t are e. tt
row_links families.Resolving op = resolving_link op
row_links families.Contexts op = contexts_link op
row_links families.Profiles op = profiles_link op
row_links families.Grants op = grants_link op
row_links families.Programs op = programs_link op
row_links families.Locks op = locks_link op
row_links families.Spaces op = spaces_link op
row_links families.Queues op = queues_link op
row_links families.Indexes op = indexes_link op
row_links families.DataSpaces op = data_spaces_link op
row_links families.Journals op = journals_link op
row_links _ op = λ s p d t are e. tt
