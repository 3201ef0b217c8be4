-- The rows whose changes must meet something for objects to stay well: those that make an object, name one, or change its
-- private rows. What they must meet follows from their own rules.
use Rattle.std.proofs.Common.{◌∙◌, ap, sym, ◌+◌, ◌==◌, ◌∷◌, ◌≡◌, ◌≢◌, ◌≤◌, ◌<◌, Bool, List, arith, cond, drop, false, length, refl, subst, suc, take, true, ℕ}
use Rattle.std.proofs.lemmas.Bool.Decides.{nat_tests}
use Rattle.std.proofs.lemmas.List.{length-append, length-drop, length-set, take-append-drop}
use Rattle.std.specs.Int.RustNames.{bit_or}
use Rattle.std.specs.Option.{option_map}
use Rattle.std.specs.Prelude.{◌&&◌, None, Option, Some, nat_le, nat_lt, not, if◌then◌else◌}
use Rattle.bitflags.specs.Sets.{without}
use Rattle.s38_base.specs.Exceptions as exceptions
use Rattle.s38_base.specs.Ids.{kind_code, same_kind}
use Rattle.s38_base.specs.Limits.{most_rows}
use Rattle.s38_base.specs.RightNames as rights
use Rattle.s38_base.specs.declared.id.Id.{Id}
use Rattle.s38_base.specs.declared.id.Kind.TheVariants as kinds
use Rattle.s38_base.specs.declared.id.Kind.{Kind}
use Rattle.s38_base.specs.declared.id.ObjNum.{ObjNum}
use Rattle.s38_base.specs.declared.op.Op.TheVariants.{Callx, Crtcb, Crtcr, Crtctx, Crtds, Crtinx, Crtjp, Crtjs, Crtpg, Crtq, Crts, Crtup, Grant, Insdsen, Jrnlobj, Lock, Rename, Retract, Rslvsp, Xfro}
use Rattle.s38_base.specs.declared.op.Op.{Op}
use Rattle.s38_base.specs.declared.rights.Rights.{Rights}
use Rattle.s38_code.specs.declared.event.Request.{Request}
use Rattle.s38_code.specs.declared.family.Family.TheVariants as families
use Rattle.s38_code.specs.declared.family.Family.{Family}
use Rattle.s38_code.specs.declared.operand.Operand.{Operand}
use Rattle.s38_code.specs.declared.program.Program.{Program}
use Rattle.s38_commits.proofs.MapLaws.{nat_same}
use Rattle.s38_rules.proofs.RowLaws.{none_at, row_absent, row_inserted, row_removed, row_replaced, rows_kept}
use Rattle.s38_rules.proofs.RuleLaws.{fails_none, first_none, not_false}
use Rattle.s38_rules.proofs.VerdictLaws.{rule_met}
use Rattle.s38_rules.specs.families.Contexts.{contexts_row, is_other_kind, rename, rename_fails, rename_rule}
use Rattle.s38_rules.specs.families.Creation.{creation_fails, of_kind}
use Rattle.s38_rules.specs.families.DataSpaces.{data_spaces_row, new_data_space}
use Rattle.s38_rules.specs.families.Cursors.{new_cursor}
use Rattle.s38_rules.specs.families.Grants.{given_to, grant, grant_fails, grants_row, taker_rule, with_granted, with_retracted, xfro, xfro_fails}
use Rattle.s38_rules.specs.families.Grantees.{rights_of, row_rule, user_at, with_rights}
use Rattle.s38_rules.specs.state.Headers.{rights_in_row, rows_in}
use Rattle.s38_rules.specs.state.Held.{Held, kind_of, object}
use Rattle.s38_rules.specs.families.Indexes.{indexes_row, new_index}
use Rattle.s38_rules.specs.families.Instruction.{Instruction}
use Rattle.s38_rules.specs.families.Journals.{journals_row}
use Rattle.s38_rules.specs.families.CommitBlocks.{new_block}
use Rattle.s38_rules.specs.families.Ports.{new_port}
use Rattle.s38_rules.specs.families.Locking.{locks_row}
use Rattle.s38_rules.specs.ask.Operands.{id_at, is_given, rights_at, target}
use Rattle.s38_rules.specs.state.PartsAt.{no_journal}
use Rattle.s38_rules.specs.state.PrivateRows.{count_before, row_is_at, row_of, with_row}
use Rattle.s38_rules.specs.families.Profiles.{profile_body, profiles_row}
use Rattle.s38_rules.specs.families.Programs.{crtpg, crtpg_fails, new_program, program_in, programs_row, size_of, template_at, template_rule}
use Rattle.s38_rules.specs.families.Queues.{new_queue, queues_row}
use Rattle.s38_rules.specs.families.Resolving.{resolving_row}
use Rattle.s38_rules.specs.families.Rows.{row_in as instruction_in}
use Rattle.s38_rules.specs.families.Spaces.{spaces_row}
use Rattle.s38_rules.specs.state.Access.{access_of}
use Rattle.s38_rules.specs.state.State.{State}
use Rattle.s38_rules.specs.store.Storable.{HasShortText}
use Rattle.s38_rules.specs.ask.Users.{user_of}
use Rattle.s38_rules.specs.step.Verdict.{refused_by}
use Rattle.s38_rules.specs.declared.object.Body.TheVariants as bodies
use Rattle.s38_rules.specs.declared.object.Body.{Body}
use Rattle.s38_rules.specs.declared.object.Object.{Object}
use Rattle.s38_rules.specs.declared.rows.PrivateRow.{PrivateRow}
use Rattle.s38_laws_objects.proofs.WordLaws.{AreFit, KeepsRowsFit, MadeWell, May, RenamedWell}
use Rattle.s38_laws_objects.specs.Well.{AreWell, IsWell}

-- where no rule refuses an instruction, its changes meet what they must
abbrev pub MayRow : Instruction → Type 0
MayRow i = (s : State) (p d : ℕ) (t : Request) → AreWell s → refused_by i s p d t ≡ None → May s p (i.changes s p d t)

-- ---- what is made is of the kind that its row makes

made_so : (kind : Kind) (id : Option Id) (body : Option Body) → ((b : Body) → body ≡ Some b → (kind_of b ≡ kind) × HasShortText b) → MadeWell (of_kind kind id) body
made_so kind None body so = tt
made_so kind (Some id) None so = tt
made_so kind (Some id) (Some b) so = so b refl

made_one : (kind : Kind) (id : Option Id) (body : Body) → kind_of body ≡ kind → HasShortText body → MadeWell (of_kind kind id) (Some body)
made_one kind None body is short = tt
made_one kind (Some id) body is short = (is, short)

-- ---- private rows

-- rows with the rights of a user at the user's place are in order, and not too many where there is room for one that is new
with_fit : (rows : List PrivateRow) (user : ObjNum) (r : Rights) → AreFit rows → (r.0 ≢ 0 → row_of rows user.0 ≡ 0 → length rows < most_rows) → AreFit (with_row rows user r)
with_fit rows user r fit room = record { few = by (r.0 == 0) refl (row_is_at rows (count_before rows user) user) refl; rising = rows_kept rows user r fit.rising }
  where
    k : ℕ
    k = count_before rows user

    zero_is : (r.0 == 0) ≡ true → r.0 ≡ 0
    zero_is h = grind (arith, nat_tests)

    some_is : (r.0 == 0) ≡ false → r.0 ≢ 0
    some_is h e = grind (arith, nat_tests)

    both : (xs : List PrivateRow) (i : ℕ) → length (take i xs) + length (drop i xs) ≡ length xs
    both xs i = sym (length-append (take i xs) (drop i xs)) ∙ ap length (take-append-drop i xs)

    shorter : (xs : List PrivateRow) (i : ℕ) → length (take i xs) + length (drop (suc i) xs) ≤ length xs
    shorter xs i = omega (arith, both xs i, length-drop i xs, length-drop (suc i) xs)

    longer : (xs : List PrivateRow) (i : ℕ) (x : PrivateRow) → length (take i xs) + length (x ∷ drop i xs) ≤ length xs + 1
    longer xs i x = omega (arith, both xs i)

    by : (a : Bool) → (r.0 == 0) ≡ a → (b : Bool) → row_is_at rows k user ≡ b → length (with_row rows user r) ≤ most_rows
    by true none false off = rw (row_absent rows user r (zero_is none) off) fit.few
    by true none true on = rw (row_removed rows user r (zero_is none) on, length-append) (omega (arith, shorter rows k, fit.few))
    by false some true on = rw (row_replaced rows user r (some_is some) on, length-set) fit.few
    by false some false off = rw (row_inserted rows user r (some_is some) off, length-append)
        (omega (arith, longer rows k (record { user = user; rights = r }), room (some_is some) (none_at rows user fit.rising off)))

fit_of : (o : Object) → IsWell o → AreFit o.rows
fit_of o well = record { few = well.storable.rows; rising = well.rows }

-- the rule on a new row leaves room for it
rule_room : (h : Held) (n user r : ℕ) (o : Object) → row_rule h n user r ≡ None → object h n ≡ Some o → r ≢ 0 → row_of o.rows user ≡ 0 → length o.rows < most_rows
rule_room h n user r o met found some none = by (fails_none (tested (object h n)) exceptions.limit_exceeded 1 met)
  where
    tested : Option Object → Bool
    tested x = not (r == rights.no_rights) && ((rights_in_row x user == rights.no_rights) && nat_le most_rows (length (rows_in x)))

    by : tested (object h n) ≡ false → length o.rows < most_rows
    by h = grind (arith, nat_tests, subst (λ x. tested x ≡ false) found h, some, none)

zero_or : (a : ℕ) → a ≡ 0 → (b : ℕ) → bit_or a b ≢ 0 → b ≢ 0
zero_or a is b some none = some (rw (is, none) refl)

granted_fit : (h : Held) (ops : List Operand) → grant_fails h ops ≡ None → KeepsRowsFit (object h (target h ops 1)) (with_granted h ops)
unfolding grant_fails
granted_fit h ops met = by (object h (target h ops 1)) refl
  where
    user : ObjNum
    user = user_at h ops 2

    r : ℕ
    r = rights_at ops 3

    of : (o : Object) → object h (target h ops 1) ≡ Some o → IsWell o → (g : Bool) → is_given ops 2 ≡ g → AreFit (with_rights g user (bit_or (rights_of g user (access_of o)) r) (access_of o)).rows
    of o found well false given = fit_of o well
    of o found well true given = with_fit o.rows user (record { 0 = bit_or (row_of o.rows user.0) r }) (fit_of o well)
        (λ some none. rule_room h (target h ops 1) (target h ops 2) r o
        (subst (λ g. cond g (row_rule h (target h ops 1) (target h ops 2) r) None ≡ None) given met) found (zero_or (row_of o.rows user.0) none r some) none)

    by : (x : Option Object) → object h (target h ops 1) ≡ x → KeepsRowsFit x (with_granted h ops)
    by None found = tt
    by (Some o) found = λ well. of o found well (is_given ops 2) refl

zero_without : (a b : ℕ) → a ≡ 0 → without 8 a b ≡ 0
zero_without a b is = rw is refl

retracted_fit : (h : Held) (ops : List Operand) → KeepsRowsFit (object h (target h ops 1)) (with_retracted h ops)
retracted_fit h ops = by (object h (target h ops 1))
  where
    user : ObjNum
    user = user_at h ops 2

    r : ℕ
    r = rights_at ops 3

    of : (o : Object) → IsWell o → (g : Bool) → AreFit (with_rights g user (without 8 (rights_of g user (access_of o)) r) (access_of o)).rows
    of o well false = fit_of o well
    of o well true = with_fit o.rows user (record { 0 = without 8 (row_of o.rows user.0) r }) (fit_of o well)
        (λ some none. absurd (some (zero_without (row_of o.rows user.0) r none)))

    by : (x : Option Object) → KeepsRowsFit x (with_retracted h ops)
    by None = tt
    by (Some o) = λ well. of o well (is_given ops 2)

given_fit : (h : Held) (ops : List Operand) → xfro_fails h ops ≡ None → KeepsRowsFit (object h (target h ops 1)) (given_to (user_at h ops 2))
unfolding xfro_fails
given_fit h ops met = by (object h (target h ops 1)) refl
  where
    rule : row_rule h (target h ops 1) (target h ops 2) rights.all_rights ≡ None
    rule = (first_none (taker_rule h (target h ops 1) (target h ops 2) (object h (target h ops 1))) _ met).1

    by : (x : Option Object) → object h (target h ops 1) ≡ x → KeepsRowsFit x (given_to (user_at h ops 2))
    by None found = tt
    by (Some o) found = λ well. with_fit o.rows (user_at h ops 2) (record { 0 = rights.all_rights }) (fit_of o well)
        (λ some none. rule_room h (target h ops 1) (target h ops 2) rights.all_rights o rule found some none)

grants_may : (op : Op) → MayRow (grants_row op)
unfolding grants_row
grants_may Grant = λ s p d t well e. granted_fit s.held t.operands (rule_met grant s p d t e)
grants_may Retract = λ s p d t well e. retracted_fit s.held t.operands
grants_may Xfro = λ s p d t well e. given_fit s.held t.operands (rule_met xfro s p d t e)
grants_may _ = λ s p d t well e. tt

-- ---- contexts and names

-- the kind of a code
abbrev kind_from : ℕ → Kind
kind_from n =
    if n == 1 then kinds.Context else (if n == 2 then kinds.Program else (if n == 3 then kinds.Profile else (if n == 4 then kinds.Space else (if n == 5 then kinds.Queue else (if n == 6 then kinds.Index else (if n == 7 then kinds.DataSpace else (if n == 8 then kinds.Cursor else (if n == 9 then kinds.Port else (if n == 10 then kinds.Journal else (kinds.Block))))))))))

from_code : (k : Kind) → kind_from (kind_code k) ≡ k
from_code kinds.Context = refl
from_code kinds.Program = refl
from_code kinds.Profile = refl
from_code kinds.Space = refl
from_code kinds.Queue = refl
from_code kinds.Index = refl
from_code kinds.DataSpace = refl
from_code kinds.Cursor = refl
from_code kinds.Port = refl
from_code kinds.Journal = refl
from_code kinds.Block = refl

same_kinds : (a b : Kind) → same_kind a b ≡ true → b ≡ a
same_kinds a b h = sym (from_code b) ∙ ap kind_from (sym (nat_same (kind_code a) (kind_code b) h)) ∙ from_code a

renamed_so : (h : Held) (n : ℕ) (id : Option Id) → rename_rule h n id ≡ None → RenamedWell (object h n) id
renamed_so h n None met = by (object h n)
  where
    by : (x : Option Object) → RenamedWell x None
    by None = tt
    by (Some o) = tt
renamed_so h n (Some id) met = by (object h n) (fails_none (is_other_kind (object h n) id) exceptions.object_type_invalid 2 (first_none _ _ met).0)
  where
    by : (x : Option Object) → is_other_kind x id ≡ false → RenamedWell x (Some id)
    by None other = tt
    by (Some o) other = same_kinds id.kind (kind_of o.body) (not_false _ other)

rename_may : MayRow rename
unfolding rename_fails
rename_may s p d t well e = renamed_so s.held (target s.held t.operands 1) (id_at t.operands 2) (rule_met rename s p d t e)

contexts_may : (op : Op) → MayRow (contexts_row op)
unfolding contexts_row
contexts_may Crtctx = λ s p d t well e. made_one kinds.Context (id_at t.operands 2) bodies.Context refl tt
contexts_may Rename = rename_may
contexts_may _ = λ s p d t well e. tt

-- ---- the other families

profiles_may : (op : Op) → MayRow (profiles_row op)
unfolding profiles_row
profiles_may Crtup = λ s p d t well e. made_one kinds.Profile (id_at t.operands 2) (profile_body t.operands) refl tt
profiles_may _ = λ s p d t well e. tt

short_program : (limit : ℕ) (x : Option Program) → limit ≤ 16777216 → nat_lt limit (size_of x) ≡ false → (b : Body) → option_map bodies.Program x ≡ Some b → (kind_of b ≡ kinds.Program) × HasShortText b
short_program limit None within short b is = cc
short_program limit (Some program) within short b is =
    subst (λ y. (kind_of y ≡ kinds.Program) × HasShortText y) (same is) (refl, grind (arith, nat_tests, within, short))
  where
    same : Some (bodies.Program program) ≡ Some b → bodies.Program program ≡ b
    same h = cc

crtpg_may : MayRow crtpg
unfolding crtpg_fails
crtpg_may s p d t well e =
    let met = first_none (creation_fails s.held (user_of s p) (new_program s.held t.operands) (template_rule (template_at s t.operands))) _ (rule_met crtpg s p d t e) in
    made_so kinds.Program (id_at t.operands 3) (option_map bodies.Program (program_in (template_at s t.operands)))
    (short_program s.limit (program_in (template_at s t.operands)) well.limit (fails_none _ exceptions.limit_exceeded 0 met.1))

programs_may : (op : Op) → MayRow (programs_row op)
unfolding programs_row
programs_may Crtpg = crtpg_may
programs_may Callx = λ s p d t well e. tt
programs_may _ = λ s p d t well e. tt

locks_may : (op : Op) → MayRow (locks_row op)
unfolding locks_row
locks_may Lock = λ s p d t well e. tt
locks_may _ = λ s p d t well e. tt

resolving_may : (op : Op) → MayRow (resolving_row op)
unfolding resolving_row
resolving_may Rslvsp = λ s p d t well e. tt
resolving_may _ = λ s p d t well e. tt

spaces_may : (op : Op) → MayRow (spaces_row op)
unfolding spaces_row
spaces_may Crts = λ s p d t well e. made_one kinds.Space (id_at t.operands 3) _ refl tt
spaces_may _ = λ s p d t well e. tt

queues_may : (op : Op) → MayRow (queues_row op)
unfolding queues_row
queues_may Crtq = λ s p d t well e. made_one kinds.Queue (id_at t.operands 3) (bodies.Queue (new_queue t.operands)) refl tt
queues_may _ = λ s p d t well e. tt

indexes_may : (op : Op) → MayRow (indexes_row op)
unfolding indexes_row
indexes_may Crtinx = λ s p d t well e. made_one kinds.Index (id_at t.operands 3) (bodies.Index (new_index t.operands)) refl tt
indexes_may _ = λ s p d t well e. tt

data_spaces_may : (op : Op) → MayRow (data_spaces_row op)
unfolding data_spaces_row
data_spaces_may Crtds = λ s p d t well e. made_one kinds.DataSpace (id_at t.operands 3) (bodies.DataSpace (new_data_space t.operands)) refl tt
data_spaces_may Crtcr = λ s p d t well e. made_one kinds.Cursor (id_at t.operands 3) (bodies.Cursor (new_cursor s.held t.operands)) refl tt
data_spaces_may Insdsen = λ s p d t well e. (tt, tt)
data_spaces_may _ = λ s p d t well e. tt

journals_may : (op : Op) → MayRow (journals_row op)
unfolding journals_row
journals_may Crtjs = λ s p d t well e. made_one kinds.Journal (id_at t.operands 3) (bodies.Journal no_journal) refl tt
journals_may Crtjp = λ s p d t well e. made_one kinds.Port (id_at t.operands 3) (bodies.Port (new_port s.held t.operands)) refl tt
journals_may Crtcb = λ s p d t well e. made_one kinds.Block (id_at t.operands 3) (bodies.Block (new_block s.held t.operands)) refl tt
journals_may Jrnlobj = λ s p d t well e. (tt, tt)
journals_may _ = λ s p d t well e. tt

pub row_may : (f : Family) (op : Op) → MayRow (instruction_in f op)
unfolding instruction_in
row_may families.Computing op = λ s p d t well e. tt
row_may families.Resolving op = resolving_may op
row_may families.Contexts op = contexts_may op
row_may families.Profiles op = profiles_may op
row_may families.Grants op = grants_may op
row_may families.Programs op = programs_may op
row_may families.Locks op = locks_may op
row_may families.Spaces op = spaces_may op
row_may families.Queues op = queues_may op
row_may families.Indexes op = indexes_may op
row_may families.DataSpaces op = data_spaces_may op
row_may families.Journals op = journals_may op
row_may _ op = λ s p d t well e. tt
