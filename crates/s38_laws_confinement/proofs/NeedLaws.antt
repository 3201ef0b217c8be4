-- Of what the needs of each instruction speak: one that grants, or gives away, speaks of the object of its first
-- operand, which is there.
use Rattle.std.proofs.Common.{◌++◌, ◌==◌, ◌∷◌, ◌≡◌, Bool, List, [], cond, false, refl, true, ℕ}
use Rattle.std.proofs.lemmas.Bool.{and_parts, cond_both}
use Rattle.std.proofs.lemmas.List.Elements.{All-cons, All-nil}
use Rattle.std.specs.List.{list_all}
use Rattle.std.specs.Prelude.{◌||◌, All, None, Option, Some}
use Rattle.s38_base.specs.declared.id.Kind.TheVariants as kinds
use Rattle.s38_base.specs.RightNames as rights
use Rattle.s38_base.specs.declared.op.Op.TheVariants.{Crtcb, Crtcr, Crtds, Crtinx, Crtjp, Crtjs, Crtpg, Crtq, Crts, Grant, Lock, Matau, Matctx, Modadr, Modup, Rename, Retract, Rslvsp}
use Rattle.s38_base.specs.declared.op.Op.{Op}
use Rattle.s38_code.specs.declared.event.Request.{Request}
use Rattle.s38_code.specs.declared.family.Family.TheVariants as families
use Rattle.s38_code.specs.declared.family.Family.{Family}
use Rattle.s38_code.specs.declared.operand.Operand.{Operand}
use Rattle.s38_compute.specs.Computed.{moves_pointer}
use Rattle.s38_rules.specs.families.Computing.{computing_needs}
use Rattle.s38_rules.specs.families.Contexts.{contexts_row, modadr_needs, own_context, rename_needs}
use Rattle.s38_rules.specs.families.ContextLists.{matctx_needs}
use Rattle.s38_rules.specs.families.Creation.{creation_needs, destruction_needs, machine_needs}
use Rattle.s38_rules.specs.families.Grants.{grant_needs, grants_row, xfro_needs}
use Rattle.s38_rules.specs.families.AuthorityReads.{matau_needs, matauobj_needs, testau_needs}
use Rattle.s38_rules.specs.families.Grantees.{user_needs}
use Rattle.s38_rules.specs.state.Held.{Held, context_in, is_there, object}
use Rattle.s38_rules.specs.families.Instruction.{Instruction}
use Rattle.s38_rules.specs.ask.Needs.{need, on_object}
use Rattle.s38_rules.specs.ask.Operands.{is_given, is_list, is_machine, place, target}
use Rattle.s38_rules.specs.families.Profiles.{modup_needs, profiles_row}
use Rattle.s38_rules.specs.families.Programs.{programs_row}
use Rattle.s38_rules.specs.families.Calls.{call_needs}
use Rattle.s38_rules.specs.families.Locking.{lock_needs, locks_row, matobjlk_needs, unlock_needs}
use Rattle.s38_rules.specs.families.DataSpaces.{data_spaces_row}
use Rattle.s38_rules.specs.families.Cursors.{block_needs, crtcr_needs, through_cursor}
use Rattle.s38_rules.specs.families.Journals.{ensobj_needs, journals_row, retjent_needs}
use Rattle.s38_rules.specs.families.CommitBlocks.{crtcb_needs, unit_needs}
use Rattle.s38_rules.specs.families.Ports.{crtjp_needs, jrnlobj_needs}
use Rattle.s38_rules.specs.families.Indexes.{fndinxen_needs, indexes_row, insinxen_needs, rmvinxen_needs}
use Rattle.s38_rules.specs.families.Queues.{deq_needs, enq_needs, queues_row}
use Rattle.s38_rules.specs.families.Resolving.{listed_need, resolved, resolving_row, rslvsp_needs, setspfp_needs}
use Rattle.s38_rules.specs.families.Rows.{row_in}
use Rattle.s38_rules.specs.families.Spaces.{mods_needs, spaces_row}
use Rattle.s38_rules.specs.families.SpacePointers.{setdp_needs, setsppfp_needs}
use Rattle.s38_rules.specs.state.State.{State}
use Rattle.s38_rules.specs.declared.need.Claim.TheVariants.{Available}
use Rattle.s38_rules.specs.declared.need.Claim.{Claim}
use Rattle.s38_rules.specs.declared.need.Located.{Located}
use Rattle.s38_rules.specs.declared.need.Named.TheVariants.{Written}
use Rattle.s38_rules.specs.declared.need.Named.{Named}
use Rattle.s38_rules.specs.declared.need.Need.{Need}
use Rattle.s38_rules.specs.declared.need.Sought.TheVariants.{Any, Of}
use Rattle.s38_rules.specs.declared.need.Sought.{Sought}
use Rattle.s38_laws_confinement.proofs.AccessLaws.{nat_same}

-- a need of the first operand's object, whatever its kind
pub record IsOfFirst (need : Need) : Type 0 where
  pub place : need.place ≡ 1
  pub named : need.named ≡ Written
  pub sought : need.sought ≡ Any

-- a need that asks more than rights speaks of it
abbrev pub Speaks : Claim → Need → Type 0
Speaks Available need = Unit {0}
Speaks _ need = IsOfFirst need

abbrev pub SpeaksSo : Need → Type 0
SpeaksSo need = Speaks need.claim need

abbrev pub SpeakSo : List Need → Type 0
SpeakSo wanted = All SpeaksSo wanted

-- ---- the same as a test

abbrev asks_rights : Claim → Bool
asks_rights Available = true
asks_rights _ = false

abbrev is_of_first : ℕ → Named → Sought → Bool
is_of_first place Written Any = place == 1
is_of_first _ _ _ = false

abbrev speaks : Need → Bool
speaks need = asks_rights need.claim || is_of_first need.place need.named need.sought

abbrev AreSo : List Need → Type 0
AreSo wanted = list_all speaks wanted ≡ true

first_by : (place : ℕ) (named : Named) (sought : Sought) → is_of_first place named sought ≡ true → (place ≡ 1) × (named ≡ Written) × (sought ≡ Any)
first_by place Written Any h = (nat_same place 1 h, refl, refl)
first_by place _ _ h = cc

speaks_by : (claim : Claim) (need : Need) → (asks_rights claim || is_of_first need.place need.named need.sought) ≡ true → Speaks claim need
speaks_by Available need h = tt
speaks_by _ need h =
    let parts = first_by need.place need.named need.sought h in
    record { place = parts.0; named = parts.1; sought = parts.2 }

all_so : (wanted : List Need) → AreSo wanted → SpeakSo wanted
all_so [] h = All-nil SpeaksSo
all_so (need ∷ more) h =
    let both = and_parts (speaks need) _ h in
    All-cons SpeaksSo need more (speaks_by need.claim need both.0) (all_so more both.1)

-- ---- the rows

either : (b : Bool) (wanted more : List Need) → AreSo wanted → AreSo more → AreSo (cond b wanted more)
either b wanted more h g = cond_both b wanted more AreSo (λ yes. h) (λ no. g)

listed_so : (found : Option Located) → AreSo (listed_need found)
listed_so None = refl
listed_so (Some l) = refl

-- each need of a row is so
abbrev RowSpeaks : Instruction → Type 0
RowSpeaks i = (s : State) (p d : ℕ) (t : Request) → AreSo (i.needs s p d t)

resolving_so : (op : Op) → RowSpeaks (resolving_row op)
unfolding resolving_row rslvsp_needs setspfp_needs
resolving_so Rslvsp s p d t = either (is_list t.operands 2) _ _ (listed_so (resolved s p d t.operands)) (either (is_machine t.operands 2) _ _ refl refl)
resolving_so _ s p d t = refl

creation_so : (ops : List Operand) → AreSo (creation_needs ops)
unfolding creation_needs
creation_so ops = either (is_given ops 2) _ _ refl refl

context_so : (h : Held) (context rights : ℕ) → AreSo (own_context h context rights)
context_so h context rights = either (is_there h context) _ _ refl refl

contexts_so : (op : Op) → RowSpeaks (contexts_row op)
unfolding contexts_row machine_needs destruction_needs modadr_needs rename_needs matctx_needs
contexts_so Modadr s p d t =
    let own = own_context s.held (context_in (object s.held (target s.held t.operands 1))).0 rights.delete in
    let so : AreSo own = context_so s.held (context_in (object s.held (target s.held t.operands 1))).0 rights.delete in
    cond_both (is_given t.operands 2) _ [] (λ w. AreSo (w ++ own)) (λ yes. so) (λ no. so)
contexts_so Rename s p d t = context_so s.held (context_in (object s.held (target s.held t.operands 1))).0 rights.update
contexts_so Matctx s p d t = either (is_machine t.operands 2) _ _ refl refl
contexts_so _ s p d t = refl

profiles_so : (op : Op) → RowSpeaks (profiles_row op)
unfolding profiles_row machine_needs destruction_needs modup_needs
profiles_so Modup s p d t = refl
profiles_so _ s p d t = refl

user_so : (ops : List Operand) (k : ℕ) → AreSo (user_needs ops k)
user_so ops k = either (is_given ops k) _ _ refl refl

grants_so : (op : Op) → RowSpeaks (grants_row op)
unfolding grants_row grant_needs xfro_needs testau_needs matau_needs matauobj_needs
grants_so Grant s p d t = user_so t.operands 2
grants_so Retract s p d t = user_so t.operands 2
grants_so Matau s p d t = user_so t.operands 3
grants_so _ s p d t = refl

locks_so : (op : Op) → RowSpeaks (locks_row op)
unfolding locks_row lock_needs unlock_needs matobjlk_needs
locks_so Lock s p d t = refl
locks_so _ s p d t = refl

programs_so : (op : Op) → RowSpeaks (programs_row op)
unfolding programs_row call_needs destruction_needs
programs_so Crtpg s p d t = creation_so t.operands
programs_so _ s p d t = refl

spaces_so : (op : Op) → RowSpeaks (spaces_row op)
unfolding spaces_row setsppfp_needs setdp_needs mods_needs destruction_needs
spaces_so Crts s p d t = creation_so t.operands
spaces_so _ s p d t = refl

queues_so : (op : Op) → RowSpeaks (queues_row op)
unfolding queues_row enq_needs deq_needs destruction_needs
queues_so Crtq s p d t = creation_so t.operands
queues_so _ s p d t = refl

indexes_so : (op : Op) → RowSpeaks (indexes_row op)
unfolding indexes_row insinxen_needs fndinxen_needs rmvinxen_needs destruction_needs
indexes_so Crtinx s p d t = creation_so t.operands
indexes_so _ s p d t = refl

-- a need beside those of a creation
beside_creation : (ops : List Operand) (own : List Need) → AreSo own → AreSo (creation_needs ops ++ own)
unfolding creation_needs
beside_creation ops own so = cond_both (is_given ops 2) _ [] (λ w. AreSo (w ++ own)) (λ yes. so) (λ no. so)

data_spaces_so : (op : Op) → RowSpeaks (data_spaces_row op)
unfolding data_spaces_row crtcr_needs block_needs through_cursor destruction_needs
data_spaces_so Crtds s p d t = creation_so t.operands
data_spaces_so Crtcr s p d t =
    beside_creation t.operands (on_object 5 (Of kinds.DataSpace) rights.retrieve None ++ block_needs t.operands) (either (is_given t.operands 6) _ _ refl refl)
data_spaces_so _ s p d t = refl

journals_so : (op : Op) → RowSpeaks (journals_row op)
unfolding journals_row crtjp_needs crtcb_needs jrnlobj_needs retjent_needs unit_needs ensobj_needs destruction_needs
journals_so Crtjs s p d t = creation_so t.operands
journals_so Crtjp s p d t = beside_creation t.operands (on_object 5 (Of kinds.Journal) rights.insert None) refl
journals_so Crtcb s p d t = beside_creation t.operands (on_object 5 (Of kinds.Port) rights.insert None) refl
journals_so _ s p d t = refl

row_so : (f : Family) (op : Op) → RowSpeaks (row_in f op)
unfolding row_in computing_needs
row_so families.Computing op = λ s p d t. either (moves_pointer t.op) _ _ refl refl
row_so families.Resolving op = resolving_so op
row_so families.Contexts op = contexts_so op
row_so families.Profiles op = profiles_so op
row_so families.Grants op = grants_so op
row_so families.Programs op = programs_so op
row_so families.Locks op = locks_so op
row_so families.Spaces op = spaces_so op
row_so families.Queues op = queues_so op
row_so families.Indexes op = indexes_so op
row_so families.DataSpaces op = data_spaces_so op
row_so families.Journals op = journals_so op
row_so _ op = λ s p d t. refl

-- each need of an instruction
pub row_speaks : (f : Family) (op : Op) (s : State) (p d : ℕ) (t : Request) → SpeakSo ((row_in f op).needs s p d t)
row_speaks f op s p d t = all_so ((row_in f op).needs s p d t) (row_so f op s p d t)
