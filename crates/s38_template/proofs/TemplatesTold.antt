-- What the lines of a template say.
use Rattle.std.proofs.Common.{◌≡◌, ℕ, ◌+◌, ◌≤◌, Bool, true, false, not, ◌&&◌, List, [], ◌∷◌, ◌++◌, length, sym, ap, subst, ◌∙◌, refl, arith}
use Rattle.std.proofs.lemmas.Bool.{and_from}
use Rattle.std.proofs.lemmas.List.{append_assoc}
use Rattle.std.specs.List.{filter, flat_map, list_all}
use Rattle.s38_code.specs.declared.deck.Deck.{Deck}
use Rattle.s38_template.specs.declared.said.Line.TheVariants.{Declare, Act, End}
use Rattle.s38_template.specs.Grammar.{FitJobs, IsTemplate, are_new, declares, goes_on, has, is_act_line, is_action, is_declaration, is_step, labels_in, labels_said, name_of, stage_lines, template_names}
use Rattle.s38_template.specs.Lines.{end_line, label, program_line}
use Rattle.s38_template.specs.Reading.{ReadingState, taken}
use Rattle.s38_template.proofs.Ends.{Step}
use Rattle.s38_template.proofs.LineForms.{head_name, line_told}
use Rattle.s38_template.proofs.LinesTold.{core_of, with_template, ToldAll, ToldSteps, ToldTemplate}

pub head_told : (s : ReadingState) (text name : List ℕ) (lines : List (List ℕ)) (deck : Deck) → Step s text (program_line name) → ToldTemplate (taken s text (program_line name)) lines deck → ToldAll (core_of s) (text ∷ lines) deck
head_told s text name lines deck step r =
    let made : List (List ℕ) = text ∷ (r.declarations ++ (r.steps ++ end_line ∷ [])) in
    let ts : List (List (List ℕ)) = r.more.ts in
    let last : List (List ℕ) = stage_lines s.stage r.more.texts r.more.told in
    let flat : List (List ℕ) = flat_map (λ l. l) ts in
    let few : length r.declarations ≤ 1024 = omega (arith, r.few_declarations) in
    let few_acts : length (filter is_action r.steps) ≤ 16384 = omega (arith, r.few_instructions) in
    let is : IsTemplate made = record {
      head = text;
      declarations = r.declarations;
      steps = r.steps;
      name = name;
      lines_are = refl;
      named = step.says;
      declared = r.declared;
      few_declarations = few;
      stepped = r.stepped;
      few_instructions = few_acts;
      apart = r.apart;
    } in
    let called : name_of made ≡ name = (head_name text name (line_told text (program_line name) step.says)).1 in
    let A : List ℕ → Type 0 = λ m. (not (has s.names m) && are_new (s.names ++ m ∷ []) (template_names ts)) ≡ true in
    let F : List (List ℕ) → Type 0 = λ ns. FitJobs ns s.job_names s.stage r.more.told in
    let joined : r.declarations ++ (r.steps ++ end_line ∷ (flat ++ last)) ≡ (r.declarations ++ (r.steps ++ end_line ∷ [])) ++ (flat ++ last) =
    ap (λ l. r.declarations ++ l) (sym (append_assoc r.steps (end_line ∷ []) (flat ++ last))) ∙ sym (append_assoc r.declarations (r.steps ++ end_line ∷ []) (flat ++ last))
    in
    record {
      ts = made ∷ ts;
      texts = r.more.texts;
      told = r.more.told;
      said = ap (λ l. text ∷ l) (r.said ∙ ap (λ l. r.declarations ++ (r.steps ++ end_line ∷ l)) r.more.said ∙ joined) ∙ sym (append_assoc made flat last);
      says = r.more.says;
      jobs_are = r.more.jobs_are;
      templates_are = r.more.templates_are ∙ append_assoc s.templates (made ∷ []) ts;
      each = (is, r.more.each);
      apart = subst A (sym called) (and_from (not (has s.names name)) (are_new (s.names ++ name ∷ []) (template_names ts)) step.new r.more.apart);
      fit = subst F (append_assoc s.names (name ∷ []) (template_names ts) ∙ ap (λ m. s.names ++ m ∷ template_names ts) (sym called)) r.more.fit;
      few = r.more.few;
      few_templates = r.more.few_templates;
    }

pub declared_told : (s : ReadingState) (text : List ℕ) (in_range : Bool) (lines : List (List ℕ)) (deck : Deck) → Step s text (Declare in_range) → ToldTemplate (taken s text (Declare in_range)) lines deck → ToldTemplate s (text ∷ lines) deck
declared_told s text in_range lines deck step r =
    let declares_it : is_declaration text ≡ true = ap declares step.says ∙ step.range in
    let all : List (List ℕ) = r.declarations ++ (r.steps ++ end_line ∷ []) in
    let P : List (List ℕ) → Type 0 = λ d. ToldAll (with_template (core_of s) d) r.rest deck in
    let few : s.declared + length (text ∷ r.declarations) ≤ 1024 = omega (arith, r.few_declarations) in
    record {
      declarations = text ∷ r.declarations;
      steps = r.steps;
      rest = r.rest;
      said = ap (λ l. text ∷ l) r.said;
      declared = and_from (is_declaration text) (list_all is_declaration r.declarations) declares_it r.declared;
      few_declarations = few;
      stepped = r.stepped;
      few_instructions = r.few_instructions;
      apart = r.apart;
      more = subst P (append_assoc s.draft (text ∷ []) all) r.more;
    }

pub no_declaration : (s : ReadingState) (lines : List (List ℕ)) (deck : Deck) → s.declared ≤ 1024 → ToldSteps s lines deck → ToldTemplate s lines deck
no_declaration s lines deck few r =
    let enough : s.declared + length {A = List ℕ} [] ≤ 1024 = omega arith in
    record {
      declarations = [];
      steps = r.steps;
      rest = r.rest;
      said = r.said;
      declared = refl;
      few_declarations = enough;
      stepped = r.stepped;
      few_instructions = r.few_instructions;
      apart = r.apart;
      more = r.more;
    }

pub label_told : (s : ReadingState) (text name : List ℕ) (lines : List (List ℕ)) (deck : Deck) → Step s text (label name) → ToldSteps (taken s text (label name)) lines deck → ToldSteps s (text ∷ lines) deck
label_told s text name lines deck step r =
    let is : is_step text ≡ true = ap goes_on step.says in
    let no_act : is_action text ≡ false = ap is_act_line step.says in
    let labels : labels_in text ≡ name ∷ [] = ap labels_said step.says in
    let P : List (List ℕ) → Type 0 = λ d. ToldAll (with_template (core_of s) d) r.rest deck in
    let N : List (List ℕ) → Type 0 = λ l. are_new s.labels (l ++ flat_map labels_in r.steps) ≡ true in
    let count : s.acts + length (filter is_action (text ∷ r.steps)) ≤ 16384 = rw no_act r.few_instructions in
    record {
      steps = text ∷ r.steps;
      rest = r.rest;
      said = ap (λ l. text ∷ l) r.said;
      stepped = and_from (is_step text) (list_all is_step r.steps) is r.stepped;
      few_instructions = count;
      apart = subst N (sym labels) (and_from (not (has s.labels name)) (are_new (s.labels ++ name ∷ []) (flat_map labels_in r.steps)) step.new r.apart);
      more = subst P (append_assoc s.draft (text ∷ []) (r.steps ++ end_line ∷ [])) r.more;
    }

pub act_told : (s : ReadingState) (text : List ℕ) (lines : List (List ℕ)) (deck : Deck) → Step s text Act → ToldSteps (taken s text Act) lines deck → ToldSteps s (text ∷ lines) deck
act_told s text lines deck step r =
    let is : is_step text ≡ true = ap goes_on step.says in
    let act : is_action text ≡ true = ap is_act_line step.says in
    let labels : labels_in text ≡ [] = ap labels_said step.says in
    let P : List (List ℕ) → Type 0 = λ d. ToldAll (with_template (core_of s) d) r.rest deck in
    let N : List (List ℕ) → Type 0 = λ l. are_new s.labels (l ++ flat_map labels_in r.steps) ≡ true in
    let one_more : s.acts + length (text ∷ filter is_action r.steps) ≤ 16384 = omega (arith, r.few_instructions) in
    let count : s.acts + length (filter is_action (text ∷ r.steps)) ≤ 16384 = rw act one_more in
    record {
      steps = text ∷ r.steps;
      rest = r.rest;
      said = ap (λ l. text ∷ l) r.said;
      stepped = and_from (is_step text) (list_all is_step r.steps) is r.stepped;
      few_instructions = count;
      apart = subst N (sym labels) r.apart;
      more = subst P (append_assoc s.draft (text ∷ []) (r.steps ++ end_line ∷ [])) r.more;
    }

pub end_told : (s : ReadingState) (text : List ℕ) (lines : List (List ℕ)) (deck : Deck) → text ≡ end_line → s.acts ≤ 16384 → ToldAll (core_of (taken s text End)) lines deck → ToldSteps s (text ∷ lines) deck
end_told s text lines deck e few r =
    let P : List ℕ → Type 0 = λ t. ToldAll (with_template (core_of s) (s.draft ++ t ∷ [])) lines deck in
    let count : s.acts + length (filter is_action []) ≤ 16384 = omega arith in
    record { steps = []; rest = lines; said = ap (λ t. t ∷ lines) e; stepped = refl; few_instructions = count; apart = refl; more = subst P e r }
