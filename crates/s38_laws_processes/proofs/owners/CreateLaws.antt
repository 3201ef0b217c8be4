-- What creation makes of a template is checked.
use Rattle.std.proofs.Common.{◌≡◌, ◌≤◌, ◌<◌, List, [], arith, length, refl, subst, ℕ}
use Rattle.std.proofs.lemmas.Bool.Decides.{nat_tests}
use Rattle.std.proofs.lemmas.Bool.{and_parts, cond_both}
use Rattle.std.proofs.lemmas.List.Elements.{All-cons, All-nil}
use Rattle.std.proofs.lemmas.List.{length-take}
use Rattle.std.proofs.lemmas.Option.{same_Some, slice_get_within}
use Rattle.std.specs.Prelude.{Err, IfOk, None, Ok, Option, Result, Some, map, nat_le, slice_get}
use Rattle.std.proofs.Common.{◌∷◌, suc, zero}
use Rattle.s38_code.specs.declared.made.CheckedTemplate.{CheckedTemplate}
use Rattle.s38_code.specs.declared.made.CreateResult.TheVariants.{Refused}
use Rattle.s38_code.specs.declared.program.CreateFault.TheVariants.{Bad, NoMemory}
use Rattle.s38_code.specs.declared.program.CreateFault.{CreateFault}
use Rattle.s38_code.specs.declared.program.Instruction.{Instruction}
use Rattle.s38_code.specs.declared.program.Program.{Program}
use Rattle.s38_code.specs.declared.program.Row.{Row}
use Rattle.s38_create.proofs.FitLemmas.{program-well_formed, well_formed_suited}
use Rattle.s38_create.specs.Checked.{made_of, result_of_creation}
use Rattle.s38_create.specs.Created.{code, created_by, created_inner, declaration_count, declarations, inner, is_ended, line_at, no_template, program_created, program_is_small, program_of_parts, program_with_rows, with_code}
use Rattle.s38_create.specs.Instruction.{code_from, result_and_then}
use Rattle.s38_odt.proofs.FormLaws.{rows_of-formed}
use Rattle.s38_odt.specs.Formed.{AreFormed}
use Rattle.s38_odt.specs.Labels.{instruction_count}
use Rattle.s38_odt.specs.Suited.{AreSuited, IsSuited}
use Rattle.s38_odt.specs.Table.{rows_of}
use Rattle.s38_process.specs.Process.{ProcessState}
use Rattle.s38_words.specs.ProgramLine.{head_of}
use Rattle.s38_words.specs.declared.program_lines.Head.{Head}
use Rattle.s38_laws_processes.specs.owners.Beginnings.{AreChecked, IsChecked, IsFresh}

-- ---- programs

abbrev Suits : Result Program CreateFault → Type 0
Suits r = IfOk r (λ p. AreSuited p.rows p.code)

code_suits : (lines : List (List ℕ)) (head : Head) (body : List (List ℕ)) (rows : List Row) (r : Result (List Instruction) CreateFault) → length rows ≤ 1024 → AreFormed (instruction_count body) rows
    → instruction_count body ≤ 16384 → code_from rows body [] body ≡ r → Suits (with_code lines head rows r)
code_suits lines head body rows (Err fault) few formed small is = tt
code_suits lines head body rows (Ok made) few formed small is = well_formed_suited (program_of_parts lines head rows made) (program-well_formed lines head rows body made few formed small is)

rows_suit : (lines : List (List ℕ)) (head : Head) (body above : List (List ℕ)) (r : Result (List Row) CreateFault) → length above ≤ 1024 → instruction_count body ≤ 16384 → rows_of body above ≡ r
    → Suits (result_and_then (program_with_rows lines head body) r)
unfolding rows_of
rows_suit lines head body above (Err fault) few small is = tt
rows_suit lines head body above (Ok rows) few small is =
    let formed = rows_of-formed body above rows is in
    code_suits lines head body rows (code_from rows body [] body) (omega (arith, few, formed.1)) formed.0 small refl

inner_suits : (lines : List (List ℕ)) (head : Head) (body : List (List ℕ)) → Suits (created_inner lines head body)
inner_suits lines head body =
    cond_both (program_is_small body) (result_and_then (program_with_rows lines head (code body)) (rows_of (code body) (declarations body))) no_template Suits
    (λ yes.
    let both = and_parts (nat_le (declaration_count body) 1024) (nat_le (instruction_count (code body)) 16384) yes in
    let few : declaration_count body ≤ 1024 = grind (arith, nat_tests, both.0) in
    let small : instruction_count (code body) ≤ 16384 = grind (arith, nat_tests, both.1) in
    rows_suit lines head (code body) (declarations body) (rows_of (code body) (declarations body)) (omega (arith, few, length-take (declaration_count body) body)) small refl)
    (λ no. tt)

headed_suits : (lines : List (List ℕ)) (o : Option Head) → Suits (created_by lines o)
headed_suits lines None = tt
headed_suits lines (Some head) = inner_suits lines head (inner lines)

created_suits : (lines : List (List ℕ)) → Suits (program_created lines)
unfolding program_created
created_suits lines = cond_both (is_ended lines) (created_by lines (head_of (line_at lines 0))) no_template Suits (λ yes. headed_suits lines (head_of (line_at lines 0))) (λ no. tt)

-- a program that is created is checked
pub program_checked : (lines : List (List ℕ)) (p : Program) → program_created lines ≡ Ok p → AreSuited p.rows p.code
program_checked lines p is = subst Suits is (created_suits lines)

-- ---- what is made of a template

-- a template that was refused has no instruction
pub refused_checked : (id number : ℕ) → IsChecked (Refused id number)
refused_checked id number = record {
  formed = record { each = λ k row there. let within : k < length {A = Row} [] = slice_get_within [] k row there in absurd (omega (arith, within)) };
  each = All-nil (IsSuited [] 0);
}

made_checked : (r : Result Program CreateFault) → Suits r → IsChecked (result_of_creation r)
made_checked (Ok p) suits = suits
made_checked (Err (Bad id number)) suits = refused_checked id number
made_checked (Err NoMemory) suits = refused_checked 0 0

pub template_checked : (lines : List (List ℕ)) → IsChecked (made_of lines)
template_checked lines = made_checked (program_created lines) (created_suits lines)

-- ---- of a deck

-- templates that are each checked
pub templates_checked : {A : Type 0} (f : A → CheckedTemplate) (xs : List A) → ((x : A) → IsChecked (f x).made) → AreChecked (map f xs)
templates_checked f [] each = All-nil (λ (t : CheckedTemplate). IsChecked t.made)
templates_checked f (x ∷ xs) each = All-cons (λ (t : CheckedTemplate). IsChecked t.made) (f x) (map f xs) (each x) (templates_checked f xs each)

-- processes that are each before their first event
pub each_fresh : {A : Type 0} (f : A → ProcessState) (xs : List A) → ((x : A) → IsFresh (f x)) → (k : ℕ) (d : ProcessState) → slice_get (map f xs) k ≡ Some d → IsFresh d
each_fresh f [] each k d there = cc
each_fresh f (x ∷ xs) each zero d there = let same : f x ≡ d = same_Some (f x) d there in subst IsFresh same (each x)
each_fresh f (x ∷ xs) each (suc k) d there = each_fresh f xs each k d there
