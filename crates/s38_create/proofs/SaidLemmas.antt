-- What is said as words are read is what the parsed operands say.
use Rattle.std.proofs.Common.{◌≡◌, ℕ, Bool, true, false, cond, ◌&&◌, List, [], ◌∷◌, ◌++◌, Option, Some, None, refl, ap, ◌∙◌}
use Rattle.std.specs.List.{list_all}
use Rattle.std.specs.Option.{option_map, option_and_then}
use Rattle.std.proofs.lemmas.List.{map_push}
use Rattle.std.proofs.lemmas.List.Folds.{list_all-append}
use Rattle.s38_base.specs.declared.op.Op.{Op}
use Rattle.s38_code.specs.declared.class.Class.{Class}
use Rattle.s38_code.specs.declared.program.Row.{Row}
use Rattle.s38_words.specs.Text.{after_byte, before}
use Rattle.s38_odt.specs.Suits.{class_is_argument}
use Rattle.s38_create.specs.Instruction.{by_parsed}
use Rattle.s38_create.specs.Parsed.{arg_of, is_declared, is_placed, parsed_from, parsed_operand}
use Rattle.s38_create.specs.Said.{by_said, said_from, said_of, with_operand}
use Rattle.s38_create.specs.declared.parsed.ParsedOperand.{ParsedOperand}

-- ---- one operand more

and_true : (b : Bool) → (b && true) ≡ b
and_true true = refl
and_true false = refl

all_more : (p : ParsedOperand → Bool) (parsed : List ParsedOperand) (operand : ParsedOperand) → list_all p (parsed ++ operand ∷ []) ≡ (list_all p parsed && p operand)
all_more p parsed operand = list_all-append p parsed (operand ∷ []) ∙ ap (λ b. list_all p parsed && b) (and_true (p operand))

said_of_more : (parsed : List ParsedOperand) (operand : ParsedOperand) → said_of (parsed ++ operand ∷ []) ≡ with_operand (said_of parsed) operand
said_of_more parsed operand =
    rw (map_push arg_of parsed operand) (rw (all_more is_declared parsed operand) (rw (all_more is_placed parsed operand) refl))

-- ---- a line's words

if_map : (b : Bool) (parsed : List ParsedOperand) → option_map said_of (cond b (Some parsed) None) ≡ cond b (Some (said_of parsed)) None
if_map true parsed = refl
if_map false parsed = refl

word_map : (rows : List Row) (code : List (List ℕ)) (parsed : List ParsedOperand) (later : List Class) (text : Option (List ℕ)) (o : Option ParsedOperand) →
    ((parsed : List ParsedOperand) → option_map said_of (parsed_from rows code parsed later text) ≡ said_from rows code (said_of parsed) later text) →
    option_map said_of (option_and_then (λ operand. parsed_from rows code (parsed ++ operand ∷ []) later text) o)
    ≡ option_and_then (λ more. said_from rows code more later text) (option_map (with_operand (said_of parsed)) o)
word_map rows code parsed later text None more = refl
word_map rows code parsed later text (Some operand) more =
    more (parsed ++ operand ∷ []) ∙ ap (λ said. said_from rows code said later text) (said_of_more parsed operand)

pub said_from_map : (rows : List Row) (code : List (List ℕ)) (parsed : List ParsedOperand) (classes : List Class) (text : Option (List ℕ)) →
    option_map said_of (parsed_from rows code parsed classes text) ≡ said_from rows code (said_of parsed) classes text
said_from_map rows code parsed [] None = refl
said_from_map rows code parsed [] (Some text) = refl
said_from_map rows code parsed (class ∷ classes) None = if_map (class_is_argument class) parsed
said_from_map rows code parsed (class ∷ classes) (Some text) =
    word_map rows code parsed classes (after_byte 44 text) (parsed_operand rows code class (before 44 text)) (λ parsed. said_from_map rows code parsed classes (after_byte 44 text))

-- ---- the instruction

pub by_said_map : (rows : List Row) (number : ℕ) (op : Op) (round : Bool) (o : Option (List ParsedOperand)) →
    by_parsed rows number op round o ≡ by_said rows number op round (option_map said_of o)
by_said_map rows number op round None = refl
by_said_map rows number op round (Some parsed) = refl
