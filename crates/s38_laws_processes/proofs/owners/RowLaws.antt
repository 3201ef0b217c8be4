-- Programs are made by one instruction alone, of the deck's templates, and frames are changed by calls alone: one case a
-- family.
use Rattle.std.proofs.Common.{◌≡◌, Bool, List, [], ◌∷◌, false, refl, true, ℕ}
use Rattle.std.proofs.lemmas.Bool.{cond_both}
use Rattle.std.proofs.lemmas.List.Elements.{All-head, All-tail}
use Rattle.std.specs.Option.{option_map}
use Rattle.std.specs.Prelude.{All, ◌&&◌, IfSome, None, Option, Some, find}
use Rattle.s38_base.specs.declared.op.Op.TheVariants.{Callx, Crtcb, Crtcr, Crtctx, Crtds, Crtinx, Crtjp, Crtjs, Crtpg, Crtq, Crts, Crtup, Grant, Insdsen, Jrnlobj, Lock, Rslvsp, Xctl}
use Rattle.s38_base.specs.declared.op.Op.{Op}
use Rattle.s38_code.specs.declared.event.Request.{Request}
use Rattle.s38_code.specs.declared.family.Family.TheVariants as families
use Rattle.s38_code.specs.declared.family.Family.{Family}
use Rattle.s38_code.specs.declared.made.CheckedTemplate.{CheckedTemplate}
use Rattle.s38_code.specs.declared.operand.Operand.TheVariants as operands
use Rattle.s38_code.specs.declared.operand.Operand.{Operand}
use Rattle.s38_code.specs.declared.program.Program.{Program}
use Rattle.s38_rules.specs.families.Changes.{Changes, Framed, Then}
use Rattle.s38_rules.specs.families.Computing.{is_call}
use Rattle.s38_rules.specs.families.Contexts.{contexts_row}
use Rattle.s38_rules.specs.families.DataSpaces.{data_spaces_row}
use Rattle.s38_rules.specs.families.Grants.{grants_row}
use Rattle.s38_rules.specs.families.Indexes.{indexes_row}
use Rattle.s38_rules.specs.families.Instruction.{Instruction}
use Rattle.s38_rules.specs.families.Journals.{journals_row}
use Rattle.s38_rules.specs.families.Locking.{locks_row}
use Rattle.s38_rules.specs.ask.Operands.{place}
use Rattle.s38_rules.specs.families.Profiles.{profiles_row}
use Rattle.s38_rules.specs.families.Programs.{program_by, program_in, programs_row, template_at, template_in, template_is_named}
use Rattle.s38_rules.specs.families.Queues.{queues_row}
use Rattle.s38_rules.specs.families.Resolving.{resolving_row}
use Rattle.s38_rules.specs.families.Rows.{row_in as instruction_in}
use Rattle.s38_rules.specs.families.Spaces.{spaces_row}
use Rattle.s38_rules.specs.state.State.{State}
use Rattle.s38_rules.specs.declared.object.Body.TheVariants as bodies
use Rattle.s38_laws_processes.proofs.owners.ObjectLaws.{Makes, MakesBody}

-- a change leaves the frames
abbrev pub leaves_frames : Changes → Bool
leaves_frames (Framed f) = false
leaves_frames (Then a b) = leaves_frames a && leaves_frames b
leaves_frames _ = true

-- programs of templates are of these
abbrev pub OfTemplates : (Program → Type 0) → List CheckedTemplate → Type 0
OfTemplates q templates = All (λ t. IfSome (program_by t.made) q) templates

-- what a row changes: it makes programs of templates, and leaves the frames unless it is a call
pub record IsQuiet (q : Program → Type 0) (op : Op) (x : Changes) : Type 0 where
  pub makes : Makes q x
  pub leaves : is_call op ≡ false → leaves_frames x ≡ true

abbrev pub QuietRow : (Program → Type 0) → Op → Instruction → Type 0
QuietRow q op i = (s : State) (p d : ℕ) (t : Request) → OfTemplates q s.templates → IsQuiet q op (i.changes s p d t)

contexts_quiet : (q : Program → Type 0) (op : Op) → QuietRow q op (contexts_row op)
unfolding contexts_row
contexts_quiet q Crtctx = λ s p d t of. record { makes = tt; leaves = λ h. refl }
contexts_quiet q _ = λ s p d t of. record { makes = tt; leaves = λ h. refl }

profiles_quiet : (q : Program → Type 0) (op : Op) → QuietRow q op (profiles_row op)
unfolding profiles_row
profiles_quiet q Crtup = λ s p d t of. record { makes = tt; leaves = λ h. refl }
profiles_quiet q _ = λ s p d t of. record { makes = tt; leaves = λ h. refl }

grants_quiet : (q : Program → Type 0) (op : Op) → QuietRow q op (grants_row op)
unfolding grants_row
grants_quiet q Grant = λ s p d t of. record { makes = tt; leaves = λ h. refl }
grants_quiet q _ = λ s p d t of. record { makes = tt; leaves = λ h. refl }

-- ---- programs

named_of : (q : Program → Type 0) (name : List ℕ) (templates : List CheckedTemplate) → OfTemplates q templates → IfSome (program_in (find (template_is_named name) templates)) q
named_of q name [] of = tt
named_of q name (t ∷ templates) of =
    cond_both (template_is_named name t) (Some t) (find (template_is_named name) templates) (λ x. IfSome (program_in x) q)
    (λ is. All-head (λ (x : CheckedTemplate). IfSome (program_by x.made) q) t templates of)
    (λ other. named_of q name templates (All-tail (λ (x : CheckedTemplate). IfSome (program_by x.made) q) t templates of))

found_of : (q : Program → Type 0) (templates : List CheckedTemplate) (o : Option Operand) → OfTemplates q templates → IfSome (program_in (template_in templates o)) q
found_of q templates (Some (operands.Text name)) of = named_of q name templates of
found_of q templates _ of = tt

made_body : (q : Program → Type 0) (x : Option Program) → IfSome x q → MakesBody q (option_map bodies.Program x)
made_body q None of = tt
made_body q (Some program) of = of

programs_quiet : (q : Program → Type 0) (op : Op) → QuietRow q op (programs_row op)
unfolding programs_row
programs_quiet q Crtpg = λ s p d t of. record {
  makes = made_body q (program_in (template_at s t.operands)) (found_of q s.templates (place t.operands 5) of);
  leaves = λ h. refl;
}
programs_quiet q Callx = λ s p d t of. record { makes = tt; leaves = λ h. cc }
programs_quiet q Xctl = λ s p d t of. record { makes = tt; leaves = λ h. cc }
programs_quiet q _ = λ s p d t of. record { makes = tt; leaves = λ h. refl }

-- ---- the other families

locks_quiet : (q : Program → Type 0) (op : Op) → QuietRow q op (locks_row op)
unfolding locks_row
locks_quiet q Lock = λ s p d t of. record { makes = tt; leaves = λ h. refl }
locks_quiet q _ = λ s p d t of. record { makes = tt; leaves = λ h. refl }

resolving_quiet : (q : Program → Type 0) (op : Op) → QuietRow q op (resolving_row op)
unfolding resolving_row
resolving_quiet q Rslvsp = λ s p d t of. record { makes = tt; leaves = λ h. refl }
resolving_quiet q _ = λ s p d t of. record { makes = tt; leaves = λ h. refl }

spaces_quiet : (q : Program → Type 0) (op : Op) → QuietRow q op (spaces_row op)
unfolding spaces_row
spaces_quiet q Crts = λ s p d t of. record { makes = tt; leaves = λ h. refl }
spaces_quiet q _ = λ s p d t of. record { makes = tt; leaves = λ h. refl }

queues_quiet : (q : Program → Type 0) (op : Op) → QuietRow q op (queues_row op)
unfolding queues_row
queues_quiet q Crtq = λ s p d t of. record { makes = tt; leaves = λ h. refl }
queues_quiet q _ = λ s p d t of. record { makes = tt; leaves = λ h. refl }

indexes_quiet : (q : Program → Type 0) (op : Op) → QuietRow q op (indexes_row op)
unfolding indexes_row
indexes_quiet q Crtinx = λ s p d t of. record { makes = tt; leaves = λ h. refl }
indexes_quiet q _ = λ s p d t of. record { makes = tt; leaves = λ h. refl }

data_spaces_quiet : (q : Program → Type 0) (op : Op) → QuietRow q op (data_spaces_row op)
unfolding data_spaces_row
data_spaces_quiet q Crtds = λ s p d t of. record { makes = tt; leaves = λ h. refl }
data_spaces_quiet q Crtcr = λ s p d t of. record { makes = tt; leaves = λ h. refl }
data_spaces_quiet q Insdsen = λ s p d t of. record { makes = (tt, tt); leaves = λ h. refl }
data_spaces_quiet q _ = λ s p d t of. record { makes = tt; leaves = λ h. refl }

journals_quiet : (q : Program → Type 0) (op : Op) → QuietRow q op (journals_row op)
unfolding journals_row
journals_quiet q Crtjs = λ s p d t of. record { makes = tt; leaves = λ h. refl }
journals_quiet q Crtjp = λ s p d t of. record { makes = tt; leaves = λ h. refl }
journals_quiet q Crtcb = λ s p d t of. record { makes = tt; leaves = λ h. refl }
journals_quiet q Jrnlobj = λ s p d t of. record { makes = (tt, tt); leaves = λ h. refl }
journals_quiet q _ = λ s p d t of. record { makes = tt; leaves = λ h. refl }

pub row_quiet : (q : Program → Type 0) (f : Family) (op : Op) → QuietRow q op (instruction_in f op)
unfolding instruction_in
row_quiet q families.Computing op = λ s p d t of. record { makes = tt; leaves = λ h. refl }
row_quiet q families.Resolving op = resolving_quiet q op
row_quiet q families.Contexts op = contexts_quiet q op
row_quiet q families.Profiles op = profiles_quiet q op
row_quiet q families.Grants op = grants_quiet q op
row_quiet q families.Programs op = programs_quiet q op
row_quiet q families.Locks op = locks_quiet q op
row_quiet q families.Spaces op = spaces_quiet q op
row_quiet q families.Queues op = queues_quiet q op
row_quiet q families.Indexes op = indexes_quiet q op
row_quiet q families.DataSpaces op = data_spaces_quiet q op
row_quiet q families.Journals op = journals_quiet q op
row_quiet q _ op = λ s p d t of. record { makes = tt; leaves = λ h. refl }
