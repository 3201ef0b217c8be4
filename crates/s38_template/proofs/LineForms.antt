-- What a line with a form is made of.
use Rattle.std.proofs.Common.{◌≡◌, ℕ, Bool, true, List, ◌++◌, length, drop, Option, Some, None, codes, ap, subst, ◌∙◌, refl, inl, inr}
use Rattle.std.proofs.lemmas.Bool.{cases_Bool}
use Rattle.std.proofs.lemmas.Option.{same_Some, cond_some}
use Rattle.std.proofs.lemmas.Slice.Eq.{bytes_eq-Decides}
use Rattle.std.specs.Option.{option_map}
use Rattle.s38_words.specs.DeclarationLine.{declaration_of}
use Rattle.s38_words.specs.Text.{after_byte, before, is_word, rest_after}
use Rattle.s38_template.specs.declared.said.JobSaid.{JobSaid}
use Rattle.s38_template.specs.declared.said.Line.{Line}
use Rattle.s38_template.specs.declared.said.Line.TheVariants.{Program, Act, End, Stage, Job}
use Rattle.s38_template.specs.Lines.{declare, end_line, is_instruction, job, job_in, job_word, label, line_of, line_of_head, line_said_by, rest_said, stage_line}
use Rattle.s38_template.proofs.JobText.{after_joins}
use Rattle.s38_template.proofs.Options.{map_some, then_some}
use Rattle.s38_template.proofs.Texts.{before_cut}
use Rattle.s38_words.specs.ProgramLine.{adoption, head_after_word, head_from, head_of, label_spelled, program_word}
use Rattle.s38_words.specs.declared.program_lines.Head.{Head}
use Rattle.s38_words.specs.Name.{declared_name, is_declared_name}

abbrev pub named : Head → List ℕ
named head = head.name

-- what a line of each kind was read from
abbrev pub IsSaid : List ℕ → Line → Type 0
IsSaid text (Program name) = option_map named (head_of text) ≡ Some name
IsSaid text (Job said) = job_in text ≡ Some said
IsSaid text End = text ≡ end_line
IsSaid text Stage = text ≡ stage_line
IsSaid text _ = Unit {0}

word_is : (word text : List ℕ) → is_word word text ≡ true → text ≡ word
word_is word text h = (bytes_eq-Decides text word).0 h

rest_told : (text : List ℕ) (line : Line) → rest_said text ≡ Some line → IsSaid text line
rest_told text line e =
    let P : Line → Type 0 = IsSaid text in
    elim (cases_Bool (is_word end_line text)) [
      | inl y ↦ subst P (same_Some End line (rw y at e)) (word_is end_line text y)
      | inr n ↦ elim (cases_Bool (is_word stage_line text)) [
        | inl y ↦ subst P (same_Some Stage line (rw n at (rw y at e))) (word_is stage_line text y)
        | inr m ↦ elim (cases_Bool (is_instruction text)) [
          | inl y ↦ subst P (same_Some Act line (rw n at (rw m at (rw y at e)))) tt
          | inr l ↦ absurd (let h = rw n at (rw m at (rw l at e)) in cc)
        ]
      ]
    ]

by_told : (word text : List ℕ) (line : Line) → line_said_by word text ≡ Some line → IsSaid text line
unfolding line_said_by
by_told word text line e =
    let P : Line → Type 0 = IsSaid text in
    elim (cases_Bool (is_word (codes "PROGRAM") word)) [
      | inl y ↦ map_some line_of_head (head_of text) line (rw y at e) (λ head h back. subst P back (ap (option_map named) h))
      | inr n ↦ elim (cases_Bool (is_word (codes "DCL") word)) [
        | inl y ↦ map_some declare (declaration_of text) line (rw n at (rw y at e)) (λ d h back. subst P back tt)
        | inr m ↦ elim (cases_Bool (is_word (codes "LABEL") word)) [
          | inl y ↦ map_some label (label_spelled text) line (rw n at (rw m at (rw y at e))) (λ name h back. subst P back tt)
          | inr l ↦ rest_told text line (rw n at (rw m at (rw l at e)))
        ]
      ]
    ]

pub line_told : (text : List ℕ) (line : Line) → line_of text ≡ Some line → IsSaid text line
unfolding line_of
line_told text line e =
    let P : Line → Type 0 = IsSaid text in
    elim (cases_Bool (is_word (codes "JOB") (before 32 text))) [
      | inl y ↦ map_some job (job_in text) line (rw y at e) (λ said h back. subst P back h)
      | inr n ↦ by_told (before 32 text) text line (rw n at e)
    ]

-- ---- heads

head_from-name : (o : Option (List ℕ)) (marks : Option (Bool × Bool)) (head : Head) → head_from o marks ≡ Some head → o ≡ Some head.name
head_from-name (Some name) (Some marks) head e = ap (option_map named) e
head_from-name (Some name) None head e = absurd cc
head_from-name None marks head e = absurd cc

pub head_name : (text name : List ℕ) → option_map named (head_of text) ≡ Some name → (is_declared_name name ≡ true) × (before 32 (drop (length program_word) text) ≡ name)
unfolding head_of
head_name text name e =
    map_some named (head_of text) name e (λ head h is.
    then_some head_after_word (rest_after program_word text) head h (λ rest a g.
    let joined : text ≡ program_word ++ rest = after_joins program_word text rest a in
    let own = cond_some (is_declared_name (before 32 rest)) (before 32 rest) head.name (head_from-name (declared_name (before 32 rest)) (adoption (after_byte 32 rest)) head g) in
    let P : List ℕ → Type 0 = λ n. (is_declared_name n ≡ true) × (before 32 (drop (length program_word) text) ≡ n) in
    subst P (own.1 ∙ is) (own.0, ap (λ t. before 32 (drop (length program_word) t)) joined)))

-- ---- lines that are read

pub end_read : line_of end_line ≡ Some End
unfolding line_of line_said_by
end_read = refl

pub stage_read : line_of stage_line ≡ Some Stage
unfolding line_of line_said_by
stage_read = refl

job_word_is : (rest : List ℕ) → before 32 (job_word ++ rest) ≡ codes "JOB"
job_word_is rest = before_cut 32 (job_word ++ rest) (codes "JOB", rest) refl

pub job_line_read : (rest : List ℕ) (said : JobSaid) → job_in (job_word ++ rest) ≡ Some said → line_of (job_word ++ rest) ≡ Some (Job said)
unfolding line_of
job_line_read rest said e = rw (job_word_is rest) (rw e refl)
