-- Checked templates, at their places.
use Rattle.std.proofs.Common.{◌≡◌, ℕ, zero, suc, List, [], ◌∷◌, map, sym, ◌∙◌, ap, subst}
use Rattle.std.specs.Prelude.{Some, slice_get}
use Rattle.std.specs.List.{AllByRecursion}
use Rattle.std.specs.Option.{option_map, option_and_then}
use Rattle.std.proofs.lemmas.Option.{slice_get_within}
use Rattle.s38_code.specs.declared.deck.Deck.{Deck}
use Rattle.s38_code.specs.declared.deck.Job.{Job}
use Rattle.s38_code.specs.declared.made.CheckedTemplate.{CheckedTemplate}
use Rattle.s38_create.specs.Checked.{made_of}
use Rattle.s38_template.specs.Grammar.{IsTemplate, template_names}
use Rattle.s38_template.specs.Places.{HasTemplate, template_place}
use Rattle.s38_top.specs.Decks.{MadeAt, checked_of, checked_template}

-- the checked template is at the template's place
checked_at : (ts : List (List (List ℕ))) (at : ℕ) (lines : List (List ℕ)) → slice_get ts at ≡ Some lines → slice_get (map checked_template ts) at ≡ Some (checked_template lines)
checked_at [] at lines h = cc
checked_at (t ∷ ts) zero lines h = ap (option_map checked_template) h
checked_at (t ∷ ts) (suc at) lines h = checked_at ts at lines h

pub made_at : (deck : Deck) (job : Job) (ts : List CheckedTemplate) (at : ℕ) → HasTemplate deck job → ts ≡ checked_of deck → template_place (template_names deck.templates) job.template ≡ Some at → MadeAt deck job ts at
made_at deck job ts at has is place =
    let there : slice_get deck.templates at ≡ Some has.lines = sym (ap (option_and_then (slice_get deck.templates)) place) ∙ has.there in
    let checked : slice_get ts at ≡ Some (checked_template has.lines) = ap (λ xs. slice_get xs at) is ∙ checked_at deck.templates at has.lines there in
    record {
      within = slice_get_within ts at (checked_template has.lines) checked;
      template = checked_template has.lines;
      there = checked;
      is = ap (option_map made_of) has.there;
    }

some_is : (a b : List (List ℕ)) → Some a ≡ Some b → a ≡ b
some_is a b e = cc

-- there is a template at each place, where all are templates
pub all_templates : (ts : List (List (List ℕ))) → AllByRecursion IsTemplate ts → (k : ℕ) (lines : List (List ℕ)) → slice_get ts k ≡ Some lines → IsTemplate lines
all_templates [] all k lines h = cc
all_templates (t ∷ ts) all zero lines h = subst (λ (ls : List (List ℕ)). IsTemplate ls) (some_is t lines h) all.0
all_templates (t ∷ ts) all (suc k) lines h = all_templates ts all.1 k lines h
