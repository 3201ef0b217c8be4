-- The head of a template has a name.
use Rattle.std.proofs.Common.{◌≡◌, ℕ, cond, List, Some, None, sym, ◌∙◌, ap, subst}
use Rattle.std.proofs.lemmas.Bool.{and_parts}
use Rattle.s38_base.specs.NameText.{is_name}
use Rattle.s38_template.specs.declared.said.Line.TheVariants.{Program}
use Rattle.s38_template.specs.Grammar.{IsTemplate, name_of}
use Rattle.s38_template.proofs.LineForms.{head_name, line_told}
use Rattle.s38_words.specs.Name.{begins_with_letter, object_name}

pub template_named : (lines : List (List ℕ)) → IsTemplate lines → object_name (name_of lines) ≡ Some (name_of lines)
template_named lines h =
    let told = head_name h.head h.name (line_told h.head (Program h.name) h.named) in
    let same : name_of lines ≡ h.name = ap name_of h.lines_are ∙ told.1 in
    let read : object_name h.name ≡ Some h.name = ap (λ b. cond b (Some h.name) None) ((and_parts (begins_with_letter h.name) (is_name h.name) told.0).1) in
    subst (λ (t : List ℕ). object_name t ≡ Some t) (sym same) read
