-- The lines of templates that are spelled are read.
use Rattle.std.proofs.Common.{◌≡◌, ◌⊎◌, ℕ, ◌+◌, ◌<◌, ◌≤◌, true, false, not, nat_lt, List, [], ◌∷◌, ◌++◌, length, Option, Some, None, sym, ap, subst, ◌∙◌, refl, arith, inl, inr}
use Rattle.std.proofs.lemmas.Bool.{and_parts, lt-ltb, not-true, not_from_false}
use Rattle.std.proofs.lemmas.List.{append_assoc, append-nil, length_push}
use Rattle.std.specs.List.{AllByRecursion, filter, list_all, flat_map}
use Rattle.s38_code.specs.declared.deck.Deck.{Deck}
use Rattle.s38_template.specs.declared.place.Place.TheVariants.{Between, Declaring, Acting}
use Rattle.s38_template.specs.declared.said.Line.{Line}
use Rattle.s38_template.specs.declared.said.Line.TheVariants.{Program, Declare, Label, Act, End, Stage, Job as JobLine}
use Rattle.s38_template.specs.Grammar.{IsTemplate, are_new, declares, goes_on, has, is_act_line, is_action, is_declaration, is_step, labels_in, labels_said, name_of, template_names}
use Rattle.s38_template.specs.Lines.{end_line, label, line_of, program_line}
use Rattle.s38_template.specs.Reading.{ReadingState, may_come, taken}
use Rattle.s38_template.proofs.Ends.{Ends, Step}
use Rattle.s38_template.proofs.LineForms.{end_read, head_name, line_told}

-- these lines of a template were read
record IsOn (s t : ReadingState) (lines : List (List ℕ)) : Type 0 where
  pub place : (t.place ≡ Declaring) ⊎ (t.place ≡ Acting)
  pub draft : t.draft ≡ s.draft ++ lines
  pub templates : t.templates ≡ s.templates
  pub names : t.names ≡ s.names
  pub jobs : t.jobs ≡ s.jobs
  pub job_names : t.job_names ≡ s.job_names
  pub stage : t.stage ≡ s.stage

step_cases : (o : Option Line) → goes_on o ≡ true → ((name : List ℕ) × (o ≡ Some (label name))) ⊎ (o ≡ Some Act)
step_cases None h = absurd cc
step_cases (Some (Program name)) h = absurd cc
step_cases (Some (Declare b)) h = absurd cc
step_cases (Some (Label name)) h = inl (name, refl)
step_cases (Some Act) h = inr refl
step_cases (Some End) h = absurd cc
step_cases (Some Stage) h = absurd cc
step_cases (Some (JobLine said)) h = absurd cc

declaration_case : (o : Option Line) → declares o ≡ true → o ≡ Some (Declare true)
declaration_case None h = absurd cc
declaration_case (Some (Program name)) h = absurd cc
declaration_case (Some (Declare b)) h = ap (λ x. Some (Declare x)) h
declaration_case (Some (Label name)) h = absurd cc
declaration_case (Some Act) h = absurd cc
declaration_case (Some End) h = absurd cc
declaration_case (Some Stage) h = absurd cc
declaration_case (Some (JobLine said)) h = absurd cc

inside_stands : (s : ReadingState) (line : Line) → (s.place ≡ Declaring) ⊎ (s.place ≡ Acting) → may_come Declaring line ≡ true → may_come Acting line ≡ true → may_come s.place line ≡ true
inside_stands s line (inl e) a b = ap (λ p. may_come p line) e ∙ a
inside_stands s line (inr e) a b = ap (λ p. may_come p line) e ∙ b

-- labels and instructions
steps_end : (steps : List (List ℕ)) (s : ReadingState) (rest : List (List ℕ)) (deck : Deck) → (s.place ≡ Declaring) ⊎ (s.place ≡ Acting) → list_all is_step steps ≡ true → are_new s.labels (flat_map labels_in steps) ≡ true → s.acts + length (filter is_action steps) ≤ 16384
    → ((t : ReadingState) → IsOn s t steps → Ends t rest deck) → Ends s (steps ++ rest) deck
steps_end [] s rest deck place all new few next =
    next s (record { place = place; draft = sym (append-nil s.draft); templates = refl; names = refl; jobs = refl; job_names = refl; stage = refl })
steps_end (line ∷ steps) s rest deck place all new few next =
    let both = and_parts (is_step line) (list_all is_step steps) all in
    elim (step_cases (line_of line) both.0) [
      | inl c ↦
          let o : line_of line ≡ Some (label c.0) = c.1 in
          let labels : labels_in line ≡ c.0 ∷ [] = ap labels_said o in
          let no_act : is_action line ≡ false = ap is_act_line o in
          let N : List (List ℕ) → Type 0 = λ l. are_new s.labels (l ++ flat_map labels_in steps) ≡ true in
          let fresh = and_parts (not (has s.labels c.0)) (are_new (s.labels ++ c.0 ∷ []) (flat_map labels_in steps)) (subst N labels new) in
          let count : s.acts + length (filter is_action steps) ≤ 16384 = rw no_act at few in
          let step : Step s line (label c.0) = record { says = o; stands = inside_stands s (label c.0) place refl refl; new = fresh.0; range = refl; room = refl; found = refl } in (
            label c.0,
            (
              step,
              steps_end steps (taken s line (label c.0)) rest deck (inr refl) both.1 fresh.1 count
                  (λ t on. next t (record { place = on.place; draft = on.draft ∙ append_assoc s.draft (line ∷ []) steps; templates = on.templates; names = on.names; jobs = on.jobs; job_names = on.job_names; stage = on.stage })),
            ),
          )
      | inr o ↦
          let labels : labels_in line ≡ [] = ap labels_said o in
          let act : is_action line ≡ true = ap is_act_line o in
          let N : List (List ℕ) → Type 0 = λ l. are_new s.labels (l ++ flat_map labels_in steps) ≡ true in
          let one_more : s.acts + length (line ∷ filter is_action steps) ≤ 16384 = rw act at few in
          let count : s.acts + 1 + length (filter is_action steps) ≤ 16384 = omega arith in
          let room : nat_lt s.acts 16384 ≡ true = lt-ltb s.acts 16384 (omega arith) in
          let step : Step s line Act = record { says = o; stands = inside_stands s Act place refl refl; new = refl; range = refl; room = room; found = refl } in (
            Act,
            (
              step,
              steps_end steps (taken s line Act) rest deck (inr refl) both.1 (subst N labels new) count
                  (λ t on. next t (record { place = on.place; draft = on.draft ∙ append_assoc s.draft (line ∷ []) steps; templates = on.templates; names = on.names; jobs = on.jobs; job_names = on.job_names; stage = on.stage })),
            ),
          )
    ]

record AreDeclared (s t : ReadingState) (lines : List (List ℕ)) : Type 0 where
  pub on : IsOn s t lines
  pub place : t.place ≡ Declaring
  pub labels : t.labels ≡ s.labels
  pub acts : t.acts ≡ s.acts

declarations_end : (lines : List (List ℕ)) (s : ReadingState) (rest : List (List ℕ)) (deck : Deck) → s.place ≡ Declaring → list_all is_declaration lines ≡ true → s.declared + length lines ≤ 1024
    → ((t : ReadingState) → AreDeclared s t lines → Ends t rest deck) → Ends s (lines ++ rest) deck
declarations_end [] s rest deck place all few next =
    let on : IsOn s s [] = record { place = inl place; draft = sym (append-nil s.draft); templates = refl; names = refl; jobs = refl; job_names = refl; stage = refl } in
    next s (record { on = on; place = place; labels = refl; acts = refl })
declarations_end (line ∷ lines) s rest deck place all few next =
    let both = and_parts (is_declaration line) (list_all is_declaration lines) all in
    let o : line_of line ≡ Some (Declare true) = declaration_case (line_of line) both.0 in
    let u : ReadingState = taken s line (Declare true) in
    let room : nat_lt s.declared 1024 ≡ true = lt-ltb s.declared 1024 (omega arith) in
    let step : Step s line (Declare true) = record { says = o; stands = ap (λ p. may_come p (Declare true)) place; new = refl; range = refl; room = room; found = refl } in (
      Declare true,
      (
        step,
        declarations_end lines u rest deck place both.1 (omega arith) (λ t d.
            let k = d.on in
            let on : IsOn s t (line ∷ lines) = record { place = k.place; draft = k.draft ∙ append_assoc s.draft (line ∷ []) lines; templates = k.templates; names = k.names; jobs = k.jobs; job_names = k.job_names; stage = k.stage } in
            next t (record { on = on; place = d.place; labels = d.labels; acts = d.acts })),
      ),
    )

-- between templates, where these were read
pub record After (s t : ReadingState) (ts : List (List (List ℕ))) (more : List (List ℕ)) : Type 0 where
  pub place : t.place ≡ Between
  pub templates : t.templates ≡ s.templates ++ ts
  pub names : t.names ≡ s.names ++ more
  pub jobs : t.jobs ≡ s.jobs
  pub job_names : t.job_names ≡ s.job_names
  pub stage : t.stage ≡ s.stage

end_step : (s : ReadingState) → (s.place ≡ Declaring) ⊎ (s.place ≡ Acting) → Step s end_line End
end_step s place = record { says = end_read; stands = inside_stands s End place refl refl; new = refl; range = refl; room = refl; found = refl }

-- the lines of a template, by its parts
abbrev lines_by : List ℕ → List (List ℕ) → List (List ℕ) → List (List ℕ)
lines_by head declarations steps = head ∷ (declarations ++ (steps ++ end_line ∷ []))

inner_end : (t : List (List ℕ)) (i : IsTemplate t) (s : ReadingState) (rest : List (List ℕ)) (deck : Deck) → s.place ≡ Between → has s.names i.name ≡ false → length s.templates < 1024
    → ((u : ReadingState) → After s u (lines_by i.head i.declarations i.steps ∷ []) (i.name ∷ []) → Ends u rest deck) → Ends s (lines_by i.head i.declarations i.steps ++ rest) deck
inner_end t i s rest deck place h n next =
    let step : Step s i.head (program_line i.name) = record {
      says = i.named;
      stands = ap (λ p. may_come p (program_line i.name)) place;
      new = not_from_false (has s.names i.name) h;
      range = refl;
      room = lt-ltb (length s.templates) 1024 n;
      found = refl;
    } in
    let u : ReadingState = taken s i.head (program_line i.name) in
    let few : u.declared + length i.declarations ≤ 1024 = omega (arith, i.few_declarations) in
    let inner : Ends u (i.declarations ++ (i.steps ++ end_line ∷ rest)) deck =
    declarations_end i.declarations u (i.steps ++ end_line ∷ rest) deck refl i.declared few (λ v d.
    let new : are_new v.labels (flat_map labels_in i.steps) ≡ true = ap (λ l. are_new l (flat_map labels_in i.steps)) d.labels ∙ i.apart in
    steps_end i.steps v (end_line ∷ rest) deck (inl d.place) i.stepped new (omega (arith, i.few_instructions, d.acts)) (λ w on.
    let k = d.on in
    let draft : w.draft ++ end_line ∷ [] ≡ lines_by i.head i.declarations i.steps =
    ap (λ l. l ++ end_line ∷ []) (on.draft ∙ ap (λ l. l ++ i.steps) k.draft) ∙ ap (λ l. i.head ∷ l) (append_assoc i.declarations i.steps (end_line ∷ []))
    in
    let after : After s (taken w end_line End) (lines_by i.head i.declarations i.steps ∷ []) (i.name ∷ []) = record {
      place = refl;
      templates = ap (λ l. l ++ (w.draft ++ end_line ∷ []) ∷ []) (on.templates ∙ k.templates) ∙ ap (λ l. s.templates ++ l ∷ []) draft;
      names = on.names ∙ k.names;
      jobs = on.jobs ∙ k.jobs;
      job_names = on.job_names ∙ k.job_names;
      stage = on.stage ∙ k.stage;
    } in
    (End, (end_step w on.place, next (taken w end_line End) after))))
    in
    let E : List (List ℕ) → Type 0 = λ l. Ends u l deck in
    let joined : (i.declarations ++ (i.steps ++ end_line ∷ [])) ++ rest ≡ i.declarations ++ (i.steps ++ end_line ∷ rest) =
    append_assoc i.declarations (i.steps ++ end_line ∷ []) rest ∙ ap (λ l. i.declarations ++ l) (append_assoc i.steps (end_line ∷ []) rest)
    in
    (program_line i.name, (step, subst E (sym joined) inner))

template_end : (t : List (List ℕ)) (s : ReadingState) (rest : List (List ℕ)) (deck : Deck) → s.place ≡ Between → IsTemplate t → has s.names (name_of t) ≡ false → length s.templates < 1024
    → ((u : ReadingState) → After s u (t ∷ []) (name_of t ∷ []) → Ends u rest deck) → Ends s (t ++ rest) deck
template_end t s rest deck place i h n next =
    let made : List (List ℕ) = lines_by i.head i.declarations i.steps in
    let Goal : List (List ℕ) → Type 0 = λ l. has s.names (name_of l) ≡ false → ((u : ReadingState) → After s u (l ∷ []) (name_of l ∷ []) → Ends u rest deck) → Ends s (l ++ rest) deck in
    let called : name_of made ≡ i.name = (head_name i.head i.name (line_told i.head (program_line i.name) i.named)).1 in
    let H : List ℕ → Type 0 = λ m. has s.names m ≡ false in
    let goal : Goal made = λ new k.
    inner_end t i s rest deck place (subst H called new) n (λ u a.
    let A : List ℕ → Type 0 = λ m. After s u (made ∷ []) (m ∷ []) in
    k u (subst A (sym called) a))
    in
    subst Goal (sym i.lines_are) goal h next

pub templates_end : (more : List (List (List ℕ))) (s : ReadingState) (rest : List (List ℕ)) (deck : Deck) → s.place ≡ Between → AllByRecursion IsTemplate more → are_new s.names (template_names more) ≡ true → length s.templates + length more ≤ 1024
    → ((u : ReadingState) → After s u more (template_names more) → Ends u rest deck) → Ends s (flat_map (λ lines. lines) more ++ rest) deck
templates_end [] s rest deck place a f n next =
    next s (record { place = place; templates = sym (append-nil s.templates); names = sym (append-nil s.names); jobs = refl; job_names = refl; stage = refl })
templates_end (t ∷ more) s rest deck place a f n next =
    let p = and_parts (not (has s.names (name_of t))) (are_new (s.names ++ name_of t ∷ []) (template_names more)) f in
    let E : List (List ℕ) → Type 0 = λ l. Ends s l deck in
    subst E (sym (append_assoc t (flat_map (λ lines. lines) more) rest)) (template_end t s (flat_map (λ lines. lines) more ++ rest) deck place a.0 (not-true _ p.0) (omega arith) (λ u b.
    let new : are_new u.names (template_names more) ≡ true = ap (λ l. are_new l (template_names more)) b.names ∙ p.1 in
    let few : length u.templates + length more ≤ 1024 = omega (arith, ap length b.templates, length_push s.templates t) in
    templates_end more u rest deck b.place a.1 new few (λ v c. next v (record {
      place = c.place;
      templates = c.templates ∙ ap (λ l. l ++ more) b.templates ∙ append_assoc s.templates (t ∷ []) more;
      names = c.names ∙ ap (λ l. l ++ template_names more) b.names ∙ append_assoc s.names (name_of t ∷ []) (template_names more);
      jobs = c.jobs ∙ b.jobs;
      job_names = c.job_names ∙ b.job_names;
      stage = c.stage ∙ b.stage;
    }))))
