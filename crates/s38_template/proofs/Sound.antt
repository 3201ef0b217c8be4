-- A deck that is read is spelled.
use Rattle.std.proofs.Common.{◌≡◌, ℕ, ◌+◌, ◌<◌, ◌≤◌, true, false, List, [], ◌∷◌, ◌++◌, length, Ok, sym, ap, subst, ◌∙◌, refl, arith}
use Rattle.std.proofs.lemmas.Bool.{ltb-true}
use Rattle.std.proofs.lemmas.List.{append_assoc, length_push}
use Rattle.std.proofs.lemmas.List.Splits.{join_with_byte-slice_split, length-slice_split}
use Rattle.std.specs.List.{AllByRecursion, filter, flat_map, join_with_byte, slice_split}
use Rattle.s38_code.specs.declared.deck.Deck.{Deck}
use Rattle.s38_code.specs.declared.deck.Job.{Job}
use Rattle.s38_template.specs.declared.place.Place.{Place}
use Rattle.s38_template.specs.declared.place.Place.TheVariants.{Between, Declaring, Acting, Begun, Staged}
use Rattle.s38_template.specs.declared.said.JobSaid.{JobSaid}
use Rattle.s38_template.specs.declared.said.Line.{Line}
use Rattle.s38_template.specs.declared.said.Line.TheVariants.{Program, Declare, Label, Act, End, Stage, Job as JobLine}
use Rattle.s38_template.specs.Grammar.{FitJobs, IsTemplate, SayEach, Spells, are_new, is_act_line, is_kept, stage_lines, template_names, with_feed}
use Rattle.s38_template.specs.Lines.{job, label, program_line}
use Rattle.s38_template.specs.Reading.{ReadingState, is_feed, job_of, may_come, may_end, read_of, start, taken}
use Rattle.s38_template.proofs.Ends.{Ends, Read, Step, reads}
use Rattle.s38_template.proofs.LineForms.{line_told}
use Rattle.s38_template.proofs.LinesTold.{core_of, ToldJobs, ToldAll, ToldJob, ToldSteps, ToldTemplate, Told, Good}
use Rattle.s38_template.proofs.JobsTold.{job_told, one_more_job, stage_told, none_told, alone}
use Rattle.s38_template.proofs.TemplatesTold.{head_told, declared_told, no_declaration, label_told, act_told, end_told}

-- ---- one line more

wrong : (s : ReadingState) (place : Place) (line : Line) → s.place ≡ place → may_come place line ≡ false → may_come s.place line ≡ true → ⊥
wrong s place line e f t = let h : false ≡ true = sym f ∙ ap (λ p. may_come p line) (sym e) ∙ t in cc

-- what is known of the lines that are left
abbrev Next : List (List ℕ) → Deck → Type 0
Next lines deck = (place : Place) (t : ReadingState) → t.place ≡ place → Good place t → Ends t lines deck → Told place t lines deck

stage_good : (place : Place) (s : ReadingState) (text : List ℕ) → s.stage ≤ length s.jobs → Good place s → Good Begun (taken s text Stage)
stage_good place s text few g = record {
  later = omega arith;
  few_stages = omega arith;
  few_templates = omega (arith, g.few_templates);
  few = g.few;
  few_declarations = g.few_declarations;
  few_instructions = g.few_instructions;
}

job_good : (place : Place) (s : ReadingState) (text : List ℕ) (said : JobSaid) → 0 < s.stage → s.stage ≤ length s.jobs + 1 → length s.templates ≤ 1024 → Good place s → Step s text (job said) → Good Staged (taken s text (job said))
job_good place s text said later few fewer g step =
    let room : length s.jobs < 256 = ltb-true (length s.jobs) 256 step.room in
    record {
      later = later;
      few_stages = omega (arith, length_push s.jobs (job_of s.stage said));
      few_templates = omega arith;
      few = omega (arith, length_push s.jobs (job_of s.stage said));
      few_declarations = g.few_declarations;
      few_instructions = g.few_instructions;
    }

between : (s : ReadingState) (text : List ℕ) (lines : List (List ℕ)) (deck : Deck) → s.place ≡ Between → Good Between s → (line : Line) → Step s text line → Ends (taken s text line) lines deck → Next lines deck → ToldAll (core_of s) (text ∷ lines) deck
between s text lines deck e g (Program name) step rest next =
    let room : length s.templates < 1024 = ltb-true (length s.templates) 1024 step.room in
    let good : Good Declaring (taken s text (program_line name)) = record { later = tt; few_stages = g.few_stages; few_templates = omega arith; few = g.few; few_declarations = omega arith; few_instructions = omega arith } in
    head_told s text name lines deck step (next Declaring (taken s text (program_line name)) refl good rest)
between s text lines deck e g Stage step rest next =
    let few : s.stage ≤ length s.jobs = omega (arith, g.few_stages) in
    alone (core_of s) (text ∷ lines) deck
    (stage_told (core_of s) text lines deck (line_told text Stage step.says) (omega (arith, g.few)) (next Begun (taken s text Stage) refl (stage_good Between s text few g) rest))
    (omega (arith, g.few_templates))
between s text lines deck e g (Declare b) step rest next = absurd (wrong s Between (Declare b) e refl step.stands)
between s text lines deck e g (Label name) step rest next = absurd (wrong s Between (label name) e refl step.stands)
between s text lines deck e g Act step rest next = absurd (wrong s Between Act e refl step.stands)
between s text lines deck e g End step rest next = absurd (wrong s Between End e refl step.stands)
between s text lines deck e g (JobLine said) step rest next = absurd (wrong s Between (job said) e refl step.stands)

-- a label, an instruction or the end, wherever it may come
inside : (place : Place) (s : ReadingState) (text : List ℕ) (lines : List (List ℕ)) (deck : Deck) → length s.templates + 1 ≤ 1024 → s.stage ≤ length s.jobs → Good place s → (line : Line) → (may_come Acting line ≡ true) → Step s text line → Ends (taken s text line) lines deck → Next lines deck → ToldSteps s (text ∷ lines) deck
inside place s text lines deck fewer few g (Label name) may step rest next =
    let good : Good Acting (taken s text (label name)) = record { later = tt; few_stages = omega arith; few_templates = fewer; few = g.few; few_declarations = g.few_declarations; few_instructions = g.few_instructions } in
    label_told s text name lines deck step (next Acting (taken s text (label name)) refl good rest)
inside place s text lines deck fewer few g Act may step rest next =
    let room : s.acts < 16384 = ltb-true s.acts 16384 step.room in
    let good : Good Acting (taken s text Act) = record { later = tt; few_stages = omega arith; few_templates = fewer; few = g.few; few_declarations = g.few_declarations; few_instructions = omega arith } in
    act_told s text lines deck step (next Acting (taken s text Act) refl good rest)
inside place s text lines deck fewer few g End may step rest next =
    let good : Good Between (taken s text End) = record {
      later = tt;
      few_stages = omega arith;
      few_templates = omega (arith, length_push s.templates (s.draft ++ text ∷ []));
      few = g.few;
      few_declarations = g.few_declarations;
      few_instructions = g.few_instructions;
    } in
    end_told s text lines deck (line_told text End step.says) g.few_instructions (next Between (taken s text End) refl good rest)
inside place s text lines deck fewer few g (Program name) may step rest next = absurd cc
inside place s text lines deck fewer few g (Declare b) may step rest next = absurd cc
inside place s text lines deck fewer few g Stage may step rest next = absurd cc
inside place s text lines deck fewer few g (JobLine said) may step rest next = absurd cc

acting : (s : ReadingState) (text : List ℕ) (lines : List (List ℕ)) (deck : Deck) → s.place ≡ Acting → Good Acting s → (line : Line) → Step s text line → Ends (taken s text line) lines deck → Next lines deck → ToldSteps s (text ∷ lines) deck
acting s text lines deck e g line step rest next =
    inside Acting s text lines deck g.few_templates (omega (arith, g.few_stages)) g line (ap (λ p. may_come p line) (sym e) ∙ step.stands) step rest next

declaring : (s : ReadingState) (text : List ℕ) (lines : List (List ℕ)) (deck : Deck) → s.place ≡ Declaring → Good Declaring s → (line : Line) → Step s text line → Ends (taken s text line) lines deck → Next lines deck → ToldTemplate s (text ∷ lines) deck
declaring s text lines deck e g (Declare b) step rest next =
    let room : s.declared < 1024 = ltb-true s.declared 1024 step.room in
    let good : Good Declaring (taken s text (Declare b)) = record { later = tt; few_stages = g.few_stages; few_templates = g.few_templates; few = g.few; few_declarations = omega arith; few_instructions = g.few_instructions } in
    declared_told s text b lines deck step (next Declaring (taken s text (Declare b)) e good rest)
declaring s text lines deck e g (Label name) step rest next =
    no_declaration s (text ∷ lines) deck g.few_declarations (inside Declaring s text lines deck g.few_templates (omega (arith, g.few_stages)) g (label name) refl step rest next)
declaring s text lines deck e g Act step rest next =
    no_declaration s (text ∷ lines) deck g.few_declarations (inside Declaring s text lines deck g.few_templates (omega (arith, g.few_stages)) g Act refl step rest next)
declaring s text lines deck e g End step rest next =
    no_declaration s (text ∷ lines) deck g.few_declarations (inside Declaring s text lines deck g.few_templates (omega (arith, g.few_stages)) g End refl step rest next)
declaring s text lines deck e g (Program name) step rest next = absurd (wrong s Declaring (program_line name) e refl step.stands)
declaring s text lines deck e g Stage step rest next = absurd (wrong s Declaring Stage e refl step.stands)
declaring s text lines deck e g (JobLine said) step rest next = absurd (wrong s Declaring (job said) e refl step.stands)

begun : (s : ReadingState) (text : List ℕ) (lines : List (List ℕ)) (deck : Deck) → s.place ≡ Begun → Good Begun s → (line : Line) → Step s text line → Ends (taken s text line) lines deck → Next lines deck → ToldJob (core_of s) (text ∷ lines) deck
begun s text lines deck e g (JobLine said) step rest next =
    job_told s text said lines deck g.later step (next Staged (taken s text (job said)) refl (job_good Begun s text said g.later g.few_stages (omega (arith, g.few_templates)) g step) rest)
begun s text lines deck e g (Program name) step rest next = absurd (wrong s Begun (program_line name) e refl step.stands)
begun s text lines deck e g (Declare b) step rest next = absurd (wrong s Begun (Declare b) e refl step.stands)
begun s text lines deck e g (Label name) step rest next = absurd (wrong s Begun (label name) e refl step.stands)
begun s text lines deck e g Act step rest next = absurd (wrong s Begun Act e refl step.stands)
begun s text lines deck e g End step rest next = absurd (wrong s Begun End e refl step.stands)
begun s text lines deck e g Stage step rest next = absurd (wrong s Begun Stage e refl step.stands)

staged : (s : ReadingState) (text : List ℕ) (lines : List (List ℕ)) (deck : Deck) → s.place ≡ Staged → Good Staged s → (line : Line) → Step s text line → Ends (taken s text line) lines deck → Next lines deck → ToldJobs (core_of s) (text ∷ lines) deck
staged s text lines deck e g (JobLine said) step rest next =
    one_more_job (core_of s) (text ∷ lines) deck
    (job_told s text said lines deck g.later step (next Staged (taken s text (job said)) refl (job_good Staged s text said g.later (omega (arith, g.few_stages)) (omega (arith, g.few_templates)) g step) rest))
staged s text lines deck e g Stage step rest next =
    let few : s.stage ≤ length s.jobs = omega (arith, g.few_stages) in
    stage_told (core_of s) text lines deck (line_told text Stage step.says) (omega (arith, g.few)) (next Begun (taken s text Stage) refl (stage_good Staged s text few g) rest)
staged s text lines deck e g (Program name) step rest next = absurd (wrong s Staged (program_line name) e refl step.stands)
staged s text lines deck e g (Declare b) step rest next = absurd (wrong s Staged (Declare b) e refl step.stands)
staged s text lines deck e g (Label name) step rest next = absurd (wrong s Staged (label name) e refl step.stands)
staged s text lines deck e g Act step rest next = absurd (wrong s Staged Act e refl step.stands)
staged s text lines deck e g End step rest next = absurd (wrong s Staged End e refl step.stands)

-- ---- all lines

not_ended : (s : ReadingState) (place : Place) → s.place ≡ place → may_end place ≡ false → may_end s.place ≡ true → ⊥
not_ended s place e f t = let h : false ≡ true = sym f ∙ ap may_end (sym e) ∙ t in cc

told : (lines : List (List ℕ)) (place : Place) (s : ReadingState) (deck : Deck) → s.place ≡ place → Good place s → Ends s lines deck → Told place s lines deck
told [] Between s deck e g h = alone (core_of s) [] deck (none_told (core_of s) deck h.1 g.few) (omega (arith, g.few_templates))
told [] Declaring s deck e g h = absurd (not_ended s Declaring e refl h.0)
told [] Acting s deck e g h = absurd (not_ended s Acting e refl h.0)
told [] Begun s deck e g h = absurd (not_ended s Begun e refl h.0)
told [] Staged s deck e g h = none_told (core_of s) deck h.1 g.few
told (text ∷ lines) Between s deck e g h = between s text lines deck e g h.0 h.1.0 h.1.1 (λ p t f k r. told lines p t deck f k r)
told (text ∷ lines) Declaring s deck e g h = declaring s text lines deck e g h.0 h.1.0 h.1.1 (λ p t f k r. told lines p t deck f k r)
told (text ∷ lines) Acting s deck e g h = acting s text lines deck e g h.0 h.1.0 h.1.1 (λ p t f k r. told lines p t deck f k r)
told (text ∷ lines) Begun s deck e g h = begun s text lines deck e g h.0 h.1.0 h.1.1 (λ p t f k r. told lines p t deck f k r)
told (text ∷ lines) Staged s deck e g h = staged s text lines deck e g h.0 h.1.0 h.1.1 (λ p t f k r. told lines p t deck f k r)

-- ---- the text

first_state : ReadingState
first_state = record { place = Between; templates = []; draft = []; labels = []; declared = 0; acts = 0; names = []; jobs = []; job_names = []; stage = 0 }

feeds_join : (lines : List (List ℕ)) → join_with_byte 10 (lines ++ [] ∷ []) ≡ flat_map with_feed lines
feeds_join [] = refl
feeds_join (line ∷ []) = sym (append_assoc line (10 ∷ []) [])
feeds_join (line ∷ next ∷ lines) = ap (λ t. line ++ 10 ∷ t) (feeds_join (next ∷ lines)) ∙ sym (append_assoc line (10 ∷ []) (flat_map with_feed (next ∷ lines)))

text_ended : (text : List ℕ) (lines : List (List ℕ)) → slice_split is_feed text ≡ lines ++ [] ∷ [] → text ≡ flat_map with_feed lines
text_ended text lines e = sym (join_with_byte-slice_split 10 text) ∙ ap (join_with_byte 10) e ∙ feeds_join lines

spelled : (text : List ℕ) (deck : Deck) → Read first_state 0 (slice_split is_feed text) deck → Spells text deck
unfolding first_state
spelled text deck r =
    let good : Good Between first_state = record { later = tt; few_stages = omega arith; few_templates = omega arith; few = omega arith; few_declarations = omega arith; few_instructions = omega arith } in
    let all = told (filter is_kept r.lines) Between first_state deck refl good r.ends in
    let ended : text ≡ flat_map with_feed r.lines = text_ended text r.lines r.parts_are in
    let these : deck.templates ≡ all.ts = all.templates_are in
    let those : deck.jobs ≡ all.told = all.jobs_are in
    let T : List (List (List ℕ)) → Type 0 = λ l. AllByRecursion IsTemplate l in
    let A : List (List (List ℕ)) → Type 0 = λ l. are_new [] (template_names l) ≡ true in
    let F : List (List (List ℕ)) → Type 0 = λ l. FitJobs (template_names l) [] 0 all.told in
    let G : List Job → Type 0 = λ l. FitJobs (template_names deck.templates) [] 0 l in
    let S : List Job → Type 0 = λ l. SayEach all.texts l in
    record {
      lines = r.lines;
      job_lines = all.texts;
      ended = ended;
      small = omega (arith, r.small, ap length ended);
      plain = r.plain;
      said = all.said ∙ ap (λ l. flat_map (λ m. m) l ++ stage_lines 0 all.texts all.told) (sym these) ∙ ap (λ l. flat_map (λ m. m) deck.templates ++ stage_lines 0 all.texts l) (sym those);
      says = subst S (sym those) all.says;
      templates = subst T (sym these) all.each;
      few_templates = all.few_templates;
      apart = subst A (sym these) all.apart;
      jobs = subst G (sym those) (subst F (sym these) all.fit);
      few_jobs = all.few;
    }

pub sound : (text : List ℕ) (deck : Deck) → read_of text ≡ Ok deck → Spells text deck
unfolding read_of start first_state
sound text deck e =
    spelled text deck (reads (slice_split is_feed text) first_state 0 1 deck (omega arith) (omega (arith, length-slice_split is_feed text)) e)
