-- Instructions that creation makes fit their rows.
use Rattle.std.proofs.Common.{◌≡◌, ◌≤◌, ◌+◌, ℕ, Bool, true, false, cond, List, [], ◌∷◌, ◌++◌, map, length, length-append, Option, Some, None, Result, Ok, Err, refl, sym, ◌∙◌, ap, subst, arith, leb-true}
use Rattle.std.specs.Prelude.{◌&&◌}
use Rattle.std.specs.Bool.{nat_le}
use Rattle.std.specs.List.{All, list_all}
use Rattle.std.proofs.lemmas.List.Elements.{All-append, All-cons, All-nil, All-weaker}
use Rattle.std.proofs.lemmas.List.Folds.{list_all-map}
use Rattle.s38_base.specs.declared.op.Op.{Op}
use Rattle.s38_code.specs.Operations.{classes, made_kind, operand_rule}
use Rattle.s38_base.specs.Exceptions as exceptions
use Rattle.s38_words.specs.ProgramLine.{ActLine, act_line_of, rounds_right}
use Rattle.s38_code.specs.declared.program.CreateFault.{CreateFault}
use Rattle.s38_code.specs.declared.program.CreateFault.TheVariants.{Bad}
use Rattle.s38_code.specs.declared.program.Instruction.{Instruction}
use Rattle.s38_code.specs.declared.program.Program.{Program}
use Rattle.s38_code.specs.declared.program.Row.{Row}
use Rattle.s38_odt.proofs.LabelLemmas.{instruction_count-label, instruction_count-more}
use Rattle.s38_create.proofs.Parts.{and-both, if-some, no-cause}
use Rattle.s38_create.proofs.ParsedLemmas.{parsed_operand-good, parsed_from-all}
use Rattle.s38_create.specs.Instruction.{by_act, by_parsed, cause_of, checked, code_from, instruction_from, instruction_made, parsed_of, result_and_then, round_is_taken, takes_relation, unless}
use Rattle.s38_odt.specs.Labels.{instruction_count, is_label}
use Rattle.s38_create.specs.Parsed.{arg_of, is_declared, is_placed, parsed_from}
use Rattle.s38_odt.specs.Suits.{all_suit}
use Rattle.s38_odt.specs.OperandRules.{digits_needed, keeps_rule, names_kind, operands_fit}
use Rattle.s38_create.specs.WellFormed.{InstructionFits, WellFormed}
use Rattle.s38_odt.specs.Suited.{AreSuited, IsSuited, is_filled, lands_in}
use Rattle.s38_create.specs.Created.{program_of_parts}
use Rattle.s38_words.specs.declared.program_lines.Head.{Head}
use Rattle.s38_odt.specs.Formed.{AreFormed}
use Rattle.s38_create.specs.declared.parsed.ParsedOperand.{ParsedOperand}

-- where no cause is found against it, the operands are the row's
cause_of-none : (rows : List Row) (i : Instruction) (declared placed : Bool) → cause_of rows i declared placed ≡ None →
    (operands_fit rows i.op i.args ≡ true) × (takes_relation i.op i.args ≡ true) × (digits_needed rows i.op i.args ≤ 38)
unfolding cause_of
cause_of-none rows i declared placed h =
    let named = no-cause declared exceptions.name_missing _ h in
    let fitting = no-cause (operands_fit rows i.op i.args && takes_relation i.op i.args) exceptions.attributes_invalid _ named.1 in
    let both = and-both (operands_fit rows i.op i.args) _ fitting.0 in
    let few = no-cause (nat_le (digits_needed rows i.op i.args) 38) exceptions.digits_exceeded _ fitting.1 in
    (both.0, both.1, leb-true (digits_needed rows i.op i.args) 38 few.0)

unless-ok : (cause : Option ℕ) (number : ℕ) (i made : Instruction) → unless cause number i ≡ Ok made → (cause ≡ None) × (i ≡ made)
unless-ok None number i made h = (refl, cc)
unless-ok (Some id) number i made h = absurd (let e : Err (Bad id number) ≡ Ok made = h in cc)

fits-parts : (rows : List Row) (op : Op) (args : List _) → operands_fit rows op args ≡ true →
    (all_suit rows (classes op) args ≡ true) × (list_all (names_kind (made_kind op)) args ≡ true) × (keeps_rule rows (operand_rule op) args ≡ true)
unfolding operands_fit
fits-parts rows op args h =
    let first = and-both (all_suit rows (classes op) args) _ h in
    let second = and-both (list_all (names_kind (made_kind op)) args) _ first.1 in
    (first.0, second.0, second.1)

checked-fits : (rows : List Row) (code : List (List ℕ)) (number : ℕ) (op : Op) (round : Bool) (parsed : List ParsedOperand) (made : Instruction) →
    rounds_right round op ≡ true →
    list_all (λ s. is_filled (arg_of s)) parsed ≡ true → list_all (λ s. lands_in (instruction_count code) (arg_of s)) parsed ≡ true →
    checked rows number op round parsed ≡ Ok made → InstructionFits rows (instruction_count code) made
checked-fits rows code number op round parsed made rounded filled lands h =
    let fine = unless-ok (cause_of rows (instruction_from op round parsed) (list_all is_declared parsed) (list_all is_placed parsed)) number (instruction_from op round parsed) made h in
    let held = cause_of-none rows (instruction_from op round parsed) (list_all is_declared parsed) (list_all is_placed parsed) fine.0 in
    let parts = fits-parts rows op (map arg_of parsed) held.0 in
    let P : Instruction → Type 0 = λ i. InstructionFits rows (instruction_count code) i in
    subst P fine.1 (record {
      rounded = rounded;
      suited = record {
        classes = parts.0;
        ruled = parts.2;
        filled = list_all-map is_filled arg_of parsed ∙ filled;
        jumps = list_all-map (lands_in (instruction_count code)) arg_of parsed ∙ lands;
      };
      relation = held.1;
      kinds = parts.1;
      digits = held.2;
    })

by_parsed-fits : (rows : List Row) (code : List (List ℕ)) (number : ℕ) (act : ActLine) (made : Instruction) (o : Option (List ParsedOperand)) →
    parsed_of rows code act ≡ o → by_parsed rows number act.op act.round o ≡ Ok made → InstructionFits rows (instruction_count code) made
by_parsed-fits rows code number act made None is h = absurd (let e : Err (Bad exceptions.operands_invalid number) ≡ Ok made = h in cc)
by_parsed-fits rows code number act made (Some parsed) is h =
    let taken = if-some (round_is_taken act) (parsed_from rows code [] (classes act.op) act.operands) parsed is in
    checked-fits rows code number act.op act.round parsed made taken.0
    (parsed_from-all (λ s. is_filled (arg_of s)) rows code [] (classes act.op) act.operands parsed
    (λ class word operand found. (parsed_operand-good rows code class word operand found).filled) refl taken.1)
    (parsed_from-all (λ s. lands_in (instruction_count code) (arg_of s)) rows code [] (classes act.op) act.operands parsed
    (λ class word operand found. (parsed_operand-good rows code class word operand found).lands) refl taken.1)
    h

by_act-fits : (rows : List Row) (code : List (List ℕ)) (number : ℕ) (made : Instruction) (o : Option ActLine) →
    by_act rows code number o ≡ Ok made → InstructionFits rows (instruction_count code) made
by_act-fits rows code number made None h = absurd (let e : Err (Bad exceptions.operands_invalid number) ≡ Ok made = h in cc)
by_act-fits rows code number made (Some act) h = by_parsed-fits rows code number act made (parsed_of rows code act) refl h

instruction_of-fits : (rows : List Row) (code : List (List ℕ)) (number : ℕ) (line : List ℕ) (made : Instruction) →
    instruction_made rows code number line ≡ Ok made → InstructionFits rows (instruction_count code) made
unfolding instruction_made
instruction_of-fits rows code number line made h = by_act-fits rows code number made (act_line_of line) h

-- ---- code

and_then-ok : {A B : Type 0} (f : A → Result B CreateFault) (r : Result A CreateFault) (x : B) → result_and_then f r ≡ Ok x → (y : A) × (r ≡ Ok y) × (f y ≡ Ok x)
and_then-ok f (Ok y) x h = (y, refl, h)
and_then-ok f (Err e) x h = absurd (let e : Err e ≡ Ok x = h in cc)

abbrev AreFit : List Row → List (List ℕ) → List Instruction → Type 0
AreFit rows code made = All (InstructionFits rows (instruction_count code)) made

code_from-step : (rows : List Row) (code : List (List ℕ)) (made : List Instruction) (line : List ℕ) (lines : List (List ℕ)) (out : List Instruction) →
    ((made : List Instruction) → AreFit rows code made → code_from rows code made lines ≡ Ok out → AreFit rows code out × (length out ≡ length made + instruction_count lines)) →
    AreFit rows code made → (b : Bool) → is_label line ≡ b →
    cond b (code_from rows code made lines) (result_and_then (λ i. code_from rows code (made ++ i ∷ []) lines) (instruction_made rows code (length made + 1) line)) ≡ Ok out →
    AreFit rows code out × (length out ≡ length made + instruction_count (line ∷ lines))
code_from-step rows code made line lines out more fit true is h =
    let later = more made fit h in
    let counted : instruction_count (line ∷ lines) ≡ instruction_count lines = instruction_count-label line lines is in
    let long : length out ≡ length made + instruction_count lines = later.1 in
    (later.0, omega arith)
code_from-step rows code made line lines out more fit false is h =
    let step = and_then-ok (λ i. code_from rows code (made ++ i ∷ []) lines) (instruction_made rows code (length made + 1) line) out h in
    let one : AreFit rows code (step.0 ∷ []) = All-cons (InstructionFits rows (instruction_count code)) step.0 []
    (instruction_of-fits rows code (length made + 1) line step.0 step.1) (All-nil (InstructionFits rows (instruction_count code))) in
    let later = more (made ++ step.0 ∷ []) (All-append (InstructionFits rows (instruction_count code)) made (step.0 ∷ []) fit one) step.2 in
    let counted : instruction_count (line ∷ lines) ≡ 1 + instruction_count lines = instruction_count-more line lines is in
    let long : length out ≡ length (made ++ step.0 ∷ []) + instruction_count lines = later.1 in
    (later.0, omega (arith, length-append {A = Instruction}))

-- the instructions of the code fit, and are as many as its lines that are no labels
pub code_from-fits : (rows : List Row) (code : List (List ℕ)) (made : List Instruction) (lines : List (List ℕ)) (out : List Instruction) →
    AreFit rows code made → code_from rows code made lines ≡ Ok out → AreFit rows code out × (length out ≡ length made + instruction_count lines)
code_from-fits rows code made [] out fit h =
    let same : made ≡ out = cc in
    let P : List Instruction → Type 0 = λ xs. AreFit rows code xs in
    (subst P same fit, ap length (sym same) ∙ omega arith)
code_from-fits rows code made (line ∷ lines) out fit h =
    code_from-step rows code made line lines out (λ made fit h. code_from-fits rows code made lines out fit h) fit (is_label line) refl h

-- a program of such declarations and of this code is well formed
pub program-well_formed : (template : List (List ℕ)) (head : Head) (rows : List Row) (code : List (List ℕ)) (made : List Instruction) →
    length rows ≤ 1024 → AreFormed (instruction_count code) rows → instruction_count code ≤ 16384 → code_from rows code [] code ≡ Ok made →
    WellFormed (program_of_parts template head rows made)
program-well_formed template head rows code made few formed small h =
    let fit = code_from-fits rows code [] code made (All-nil (InstructionFits rows (instruction_count code))) h in
    let long : length made ≡ instruction_count code = fit.1 ∙ omega arith in
    let P : ℕ → Type 0 = λ n. All (InstructionFits rows n) made in
    let Q : ℕ → Type 0 = λ n. AreFormed n rows in
    record { few_rows = few; formed = subst Q (sym long) formed; few_instructions = omega arith; fits = subst P (sym long) fit.0 }

-- its instructions suit its declarations
pub well_formed_suited : (program_of_parts : Program) → WellFormed program_of_parts → AreSuited program_of_parts.rows program_of_parts.code
well_formed_suited program_of_parts formed = record {
  formed = formed.formed;
  each = All-weaker (InstructionFits program_of_parts.rows (length program_of_parts.code)) (IsSuited program_of_parts.rows (length program_of_parts.code)) (λ i operands_fit. operands_fit.suited) program_of_parts.code formed.fits;
}
