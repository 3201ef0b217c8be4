-- A line that begins as a declaration says what it declares, or nothing.
use Rattle.std.proofs.Common.{◌≡◌, ℕ, true, List, ◌++◌, Some, None, codes, sym, subst, refl}
use Rattle.std.specs.Option.{is_some, option_map}
use Rattle.s38_words.specs.DeclarationLine.{after_dcl, declaration_of}
use Rattle.s38_template.specs.Lines.{declare, line_of, line_said_by}
use Rattle.s38_template.proofs.JobText.{after_joins}
use Rattle.s38_template.proofs.Texts.{before_cut}
use Rattle.s38_words.specs.Text.{before}

dcl_word_is : (rest : List ℕ) → before 32 (codes "DCL " ++ rest) ≡ codes "DCL"
dcl_word_is rest = before_cut 32 (codes "DCL " ++ rest) (codes "DCL", rest) refl

behind_word : (rest : List ℕ) → line_of (codes "DCL " ++ rest) ≡ option_map declare (declaration_of (codes "DCL " ++ rest))
unfolding line_of line_said_by
behind_word rest = rw (dcl_word_is rest) refl

pub declaration_said : (line : List ℕ) → is_some (after_dcl line) ≡ true → line_of line ≡ option_map declare (declaration_of line)
declaration_said line h =
    elim (after_dcl line) as (λ o. after_dcl line ≡ o → is_some o ≡ true → line_of line ≡ option_map declare (declaration_of line)) [
      | None ↦ λ e k. absurd (cc)
      | Some rest ↦ λ e k. subst (λ (l : List ℕ). line_of l ≡ option_map declare (declaration_of l)) (sym (after_joins (codes "DCL ") line rest e)) (behind_word rest)
    ] refl h
