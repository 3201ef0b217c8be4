-- An exception is taken where the law holds on: its label lies within the code.
use Rattle.std.proofs.Common.{◌≡◌, ℕ, zero, suc, ◌≤◌, Bool, false, ◌&&◌, List, [], ◌∷◌, length, take, refl, arith}
use Rattle.std.proofs.lemmas.List.{take-map}
use Rattle.std.proofs.lemmas.List.Elements.{All-nil}
use Rattle.std.proofs.lemmas.Option.{cond_some}
use Rattle.std.specs.Prelude.{Option, Some, None, slice_get}
use Rattle.std.specs.Option.{option_or}
use Rattle.s38_code.specs.declared.program.Form.{Form}
use Rattle.s38_code.specs.declared.program.Form.TheVariants.{Local, Parm, Based, Handler}
use Rattle.s38_code.specs.declared.program.Row.{Row}
use Rattle.s38_code.specs.declared.reply.Val.{Val}
use Rattle.s38_local.specs.Law.{shape_of, shapes_of}
use Rattle.s38_odt.specs.Formed.{IsForm}
use Rattle.s38_process.specs.declared.invocation.Invocation.{Invocation}
use Rattle.s38_process.specs.Exceptions.{Offered, label_by, label_for, names, offered, offered_from, or_else, taken_by, takes}
use Rattle.s38_process.specs.Invocations.{Stack, instructions_in, program_rows_in}
use Rattle.s38_process.specs.Lawful.{AreLawfulFrom, IsLawfulStack}
use Rattle.s38_process.proofs.LawfulLawsOfCalls.{invocation_well, lawful_at_frame}

-- ---- labels

taken_within : (count : ℕ) (rows : List Row) (form : Form) (on : Bool) (code at : ℕ) → IsForm count rows form → taken_by form on code ≡ Some at → at ≤ count
taken_within count rows (Handler named label) on code at formed is = omega (arith, (cond_some (on && names named code) label at is).1)
taken_within count rows (Local attr first) on code at formed is = cc
taken_within count rows (Parm k attr) on code at formed is = cc
taken_within count rows (Based base offset attr) on code at formed is = cc

either_within : (count : ℕ) (one other : Option ℕ) (at : ℕ) → ((x : ℕ) → one ≡ Some x → x ≤ count) → ((x : ℕ) → other ≡ Some x → x ≤ count) → option_or one other ≡ Some at → at ≤ count
either_within count None other at a b is = b at is
either_within count (Some x) other at a b is = a at is

label_within : (count : ℕ) (rows : List Row) (on : List Bool) (code at : ℕ) → ((k : ℕ) (row : Row) → slice_get rows k ≡ Some row → (before : List Row) × IsForm count before row.form)
    → label_for rows on code ≡ Some at → at ≤ count
label_within count [] on code at each is = cc
label_within count (row ∷ rows) [] code at each is = cc
label_within count (row ∷ rows) (b ∷ more) code at each is =
    either_within count (taken_by row.form b code) (label_for rows more code) at
    (λ x there. taken_within count (each zero row refl).0 row.form b code x (each zero row refl).1 there)
    (λ x there. label_within count rows more code x (λ k r h. each (suc k) r h) there)
    is

-- ---- who takes it

takes_lawful : (s : Stack) (code at : ℕ) → IsLawfulStack s → label_by s.top code ≡ Some at → IsLawfulStack (record s { top = takes s.top code at })
takes_lawful s code at stand is =
    let well = invocation_well (shapes_of s.values) s.top s.callers stand in
    let count = length (instructions_in s.top.made) in
    let rows = program_rows_in s.top.made in
    lawful_at_frame (shapes_of s.values) s.top (takes s.top code at) s.callers stand refl (record {
      program = well.program;
      within = record {
        at = label_within count rows s.top.frame.on code at (λ k row h. (take k rows, well.program.formed.each k row h)) is;
        returns = All-nil (λ at. at ≤ count);
      };
      held = well.held;
      lent = well.lent;
      base = well.base;
    })

or_else_lawful : (code : ℕ) (s : Stack) (o : Option ℕ) (next : Offered) → IsLawfulStack s → label_by s.top code ≡ o → IsLawfulStack next.stack → IsLawfulStack (or_else code s o next).stack
or_else_lawful code s None next stand is further = further
or_else_lawful code s (Some at) next stand is further = takes_lawful s code at stand is

offered_from_lawful : (code : ℕ) (values : List Val) (top : Invocation) (callers : List Invocation) → AreLawfulFrom (shapes_of values) top callers → IsLawfulStack (offered_from code values top callers).stack
offered_from_lawful code values top [] stand =
    let s : Stack = record { values = values; top = top; callers = [] } in
    or_else_lawful code s (label_by top code) (record { stack = s; taken = false }) stand refl stand
offered_from_lawful code values top (caller ∷ more) stand =
    let s : Stack = record { values = values; top = top; callers = caller ∷ more } in
    or_else_lawful code s (label_by top code) (offered_from code (take top.frame.base values) caller more) stand refl
    (offered_from_lawful code (take top.frame.base values) caller more (rw (← take-map shape_of top.frame.base values) stand.1))

-- the invocations that are left are as they have to be
pub offered_lawful : (code : ℕ) (s : Stack) → IsLawfulStack s → IsLawfulStack (offered code s).stack
offered_lawful code s stand = offered_from_lawful code s.values s.top s.callers stand
