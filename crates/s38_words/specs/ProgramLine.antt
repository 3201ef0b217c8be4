-- The lines of a template beside its declarations: its head, its labels and its instructions.
use Rattle.std.specs.Prelude.{ℕ, Bool, true, false, not, ◌||◌, List, codes, Option, Some, None, if◌then◌else◌}
use Rattle.std.specs.Option.{option_map, option_and_then}
use Rattle.s38_base.specs.declared.op.Op.{Op}
use Rattle.s38_code.specs.Operations.{may_round}
use Rattle.s38_words.specs.Name.{declared_name}
use Rattle.s38_words.specs.Operation.{op_of}
use Rattle.s38_words.specs.Text.{after_byte, before, is_word, rest_after}
use Rattle.s38_words.specs.declared.program_lines.Head.{Head}

-- ---- PROGRAM name [ADOPT] [PROPAGATE]

abbrev pub program_word : List ℕ
program_word = codes "PROGRAM "

-- whether it adopts, and whether that propagates
abbrev pub adoption : Option (List ℕ) → Option (Bool × Bool)
adoption None = Some (false, false)
adoption (Some text) =
    if is_word (codes "ADOPT") text then Some (true, false)
    else (if is_word (codes "PROPAGATE") text then Some (false, true)
    else (if is_word (codes "ADOPT PROPAGATE") text then Some (true, true) else None))

abbrev pub head_from : Option (List ℕ) → Option (Bool × Bool) → Option Head
head_from (Some name) (Some marks) = Some (record { name = name; adopts = marks.0; propagates = marks.1 })
head_from _ _ = None

abbrev pub head_after_word : List ℕ → Option Head
head_after_word text = head_from (declared_name (before 32 text)) (adoption (after_byte 32 text))

-- what the head of a template says
unfoldable pub head_of : List ℕ → Option Head
head_of line = option_and_then head_after_word (rest_after program_word line)

-- ---- LABEL name

unfoldable pub label_spelled : List ℕ → Option (List ℕ)
label_spelled line = option_and_then declared_name (rest_after (codes "LABEL ") line)

-- ---- a mnemonic, perhaps (R), and words of operands

-- the operation, whether (R) follows its mnemonic, and the words of its operands
pub record ActLine : Type 0 where
  pub op : Op
  pub round : Bool
  pub operands : Option (List ℕ)

abbrev pub act : Op → Bool → Option (List ℕ) → ActLine
act op round operands = record { op = op; round = round; operands = operands }

abbrev pub suffixed : Op → List ℕ → Option (List ℕ) → ActLine
suffixed op text None = act op false (Some text)
suffixed op text (Some operands) = act op true (Some operands)

abbrev pub act_from : Op → Option (List ℕ) → ActLine
act_from op None = act op false None
act_from op (Some text) = if is_word (codes "(R)") text then act op true None else suffixed op text (rest_after (codes "(R) ") text)

-- the instruction of a line that begins with a mnemonic
unfoldable pub act_line_of : List ℕ → Option ActLine
act_line_of line = option_map (λ op. act_from op (after_byte 32 line)) (op_of (before 32 line))

-- (R) is allowed only where a result may be rounded
abbrev pub rounds_right : Bool → Op → Bool
rounds_right round op = not round || may_round op
