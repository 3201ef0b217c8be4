-- A line that is an instruction says that alone.
use Rattle.std.proofs.Common.{◌≡◌, ℕ, true, false, List, Some, None, codes, ap, refl, inl, inr}
use Rattle.std.proofs.lemmas.Bool.{cases_Bool}
use Rattle.std.proofs.lemmas.Slice.Eq.{bytes_eq-Decides}
use Rattle.s38_code.specs.Operations.{mnemonic}
use Rattle.s38_words.specs.Operation.{op_of, operations}
use Rattle.s38_words.specs.ProgramLine.{act_line_of}
use Rattle.s38_words.specs.Text.{before, is_word}
use Rattle.s38_template.specs.declared.said.Line.TheVariants.{Act}
use Rattle.s38_template.specs.Lines.{end_line, is_instruction, line_of, line_said_by, stage_line}

-- what begins with no mnemonic is no instruction
none_begun : (word line : List ℕ) → op_of word ≡ None → before 32 line ≡ word → is_instruction line ≡ false
unfolding is_instruction act_line_of
none_begun word line none first = rw first (rw none refl)

-- so an instruction begins with no word that is no mnemonic, and is no such word
begins_else : (word line : List ℕ) → op_of word ≡ None → is_instruction line ≡ true → is_word word (before 32 line) ≡ false
begins_else word line none h =
    elim (cases_Bool (is_word word (before 32 line))) [
      | inl y ↦ absurd (let e = none_begun word line none ((bytes_eq-Decides (before 32 line) word).0 y) in cc)
      | inr n ↦ n
    ]

is_else : (word line : List ℕ) → op_of (before 32 word) ≡ None → is_instruction line ≡ true → is_word word line ≡ false
is_else word line none h =
    elim (cases_Bool (is_word word line)) [
      | inl y ↦ absurd (let e = none_begun (before 32 word) line none (ap (before 32) ((bytes_eq-Decides line word).0 y)) in cc)
      | inr n ↦ n
    ]

-- ---- no mnemonics

job_none : op_of (codes "JOB") ≡ None
unfolding operations mnemonic
job_none = refl

program_none : op_of (codes "PROGRAM") ≡ None
unfolding operations mnemonic
program_none = refl

dcl_none : op_of (codes "DCL") ≡ None
unfolding operations mnemonic
dcl_none = refl

label_none : op_of (codes "LABEL") ≡ None
unfolding operations mnemonic
label_none = refl

end_none : op_of (before 32 end_line) ≡ None
unfolding operations mnemonic
end_none = refl

stage_none : op_of (before 32 stage_line) ≡ None
unfolding operations mnemonic
stage_none = refl

pub act_said : (line : List ℕ) → is_instruction line ≡ true → line_of line ≡ Some Act
unfolding line_of line_said_by
act_said line h =
    rw (begins_else (codes "JOB") line job_none h)
    (rw (begins_else (codes "PROGRAM") line program_none h)
    (rw (begins_else (codes "DCL") line dcl_none h)
    (rw (begins_else (codes "LABEL") line label_none h)
    (rw (is_else end_line line end_none h)
    (rw (is_else stage_line line stage_none h)
    (rw h refl))))))
