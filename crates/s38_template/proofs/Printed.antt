-- A deck that some text spells is spelled by its printed text.
use Rattle.std.proofs.Common.{◌≡◌, ℕ, ◌+◌, ◌≤◌, Bool, true, false, ◌&&◌, cond, ◌==◌, nat_le, List, [], ◌∷◌, ◌++◌, map, length, codes, sym, ap, subst, ◌∙◌, refl, arith, inl, inr}
use Rattle.std.proofs.lemmas.Bool.{cases_Bool, and_parts, and_from, eqb-true, eq-eqb, le-leb, leb-true}
use Rattle.std.proofs.lemmas.List.{append_assoc, length-append}
use Rattle.std.proofs.lemmas.List.Folds.{list_all-append}
use Rattle.std.specs.List.{filter, flat_map, list_all}
use Rattle.s38_code.specs.declared.deck.Deck.{Deck}
use Rattle.s38_code.specs.declared.deck.Job.{Job}
use Rattle.s38_template.specs.Grammar.{SayEach, Says, Spells, budget_part, contexts_part, deck_lines, is_kept, is_plain_byte, job_text, line_is_plain, stage_lines, with_feed}
use Rattle.s38_template.specs.Lines.{job_word, stage_line}
use Rattle.s38_template.specs.Printing.{job_line, printed, printed_budget, printed_lines, printed_who}
use Rattle.s38_template.proofs.Options.{all_weaker}

-- ---- lists

both_all : {X : Type 0} (p : X → Bool) (xs ys : List X) → list_all p (xs ++ ys) ≡ true → (list_all p xs ≡ true) × (list_all p ys ≡ true)
both_all p xs ys h = and_parts (list_all p xs) (list_all p ys) (sym (list_all-append p xs ys) ∙ h)

all_both : {X : Type 0} (p : X → Bool) (xs ys : List X) → list_all p xs ≡ true → list_all p ys ≡ true → list_all p (xs ++ ys) ≡ true
all_both p xs ys a b = list_all-append p xs ys ∙ and_from (list_all p xs) (list_all p ys) a b

filter_all : {X : Type 0} (p : X → Bool) (xs : List X) → list_all p xs ≡ true → filter p xs ≡ xs
filter_all p [] h = refl
filter_all p (x ∷ xs) h =
    let both = and_parts (p x) (list_all p xs) h in
    rw both.0 (ap (λ l. x ∷ l) (filter_all p xs both.1))

lines_more : (one other : List (List ℕ)) → length (printed_lines (one ++ other)) ≡ length (printed_lines one) + length (printed_lines other)
lines_more [] other = omega arith
lines_more (line ∷ one) other =
    omega (arith, lines_more one other, length-append (with_feed line) (printed_lines (one ++ other)), length-append (with_feed line) (printed_lines one))

kept_shorter : (lines : List (List ℕ)) → length (printed_lines (filter is_kept lines)) ≤ length (printed_lines lines)
kept_shorter [] = omega arith
kept_shorter (line ∷ lines) =
    let rest : length (printed_lines (filter is_kept lines)) ≤ length (printed_lines lines) = kept_shorter lines in
    elim (cases_Bool (is_kept line)) [
      | inl k ↦ rw k (omega (arith, length-append (with_feed line) (printed_lines (filter is_kept lines)), length-append (with_feed line) (printed_lines lines)))
      | inr k ↦ rw k (omega (arith, length-append (with_feed line) (printed_lines lines)))
    ]

-- a line that is plain and says something
abbrev is_good : List ℕ → Bool
is_good line = line_is_plain line && is_kept line

kept_good : (lines : List (List ℕ)) → list_all line_is_plain lines ≡ true → list_all is_good (filter is_kept lines) ≡ true
kept_good [] h = refl
kept_good (line ∷ lines) h =
    let both = and_parts (line_is_plain line) (list_all line_is_plain lines) h in
    elim (cases_Bool (is_kept line)) [
      | inl k ↦ rw k (and_from (is_good line) (list_all is_good (filter is_kept lines)) (and_from (line_is_plain line) (is_kept line) both.0 k) (kept_good lines both.1))
      | inr k ↦ rw k (kept_good lines both.1)
    ]

-- ---- the line of a job

text_parts : (part : List ℕ) (job : Job) → job_text part job ≡ printed_who job ++ (part ++ contexts_part job.contexts)
text_parts part job =
    let rest : List ℕ = part ++ contexts_part job.contexts in
    let run : codes " RUN " ++ (job.template ++ rest) ≡ (codes " RUN " ++ job.template) ++ rest = sym (append_assoc (codes " RUN ") job.template rest) in
    let user : job.user ++ ((codes " RUN " ++ job.template) ++ rest) ≡ (job.user ++ (codes " RUN " ++ job.template)) ++ rest = sym (append_assoc job.user (codes " RUN " ++ job.template) rest) in
    let name : job.name ++ ((codes " USER " ++ (job.user ++ (codes " RUN " ++ job.template))) ++ rest) ≡ (job.name ++ (codes " USER " ++ (job.user ++ (codes " RUN " ++ job.template)))) ++ rest =
    sym (append_assoc job.name (codes " USER " ++ (job.user ++ (codes " RUN " ++ job.template))) rest)
    in
    ap (λ t. job_word ++ (job.name ++ (codes " USER " ++ (job.user ++ t)))) run
    ∙ ap (λ t. job_word ++ (job.name ++ (codes " USER " ++ t))) user
    ∙ ap (λ t. job_word ++ t) name

part_shorter : (part other : List ℕ) (job : Job) → length part ≤ length other → length (job_text part job) ≤ length (job_text other job)
part_shorter part other job h =
    let back : List ℕ = contexts_part job.contexts in
    omega (arith, ap length (text_parts part job), ap length (text_parts other job), length-append (printed_who job) (part ++ back), length-append (printed_who job) (other ++ back), length-append part back, length-append other back)

part_plain : (part : List ℕ) (job : Job) → list_all is_plain_byte (job_text part job) ≡ true → list_all is_plain_byte (job_text [] job) ≡ true
part_plain part job h =
    let back : List ℕ = contexts_part job.contexts in
    let a = both_all is_plain_byte (printed_who job) (part ++ back) (ap (list_all is_plain_byte) (sym (text_parts part job)) ∙ h) in
    let b = both_all is_plain_byte part back a.1 in
    ap (list_all is_plain_byte) (text_parts [] job) ∙ all_both is_plain_byte (printed_who job) back a.0 b.1

default_part : (budget : ℕ) → (budget == 1000000) ≡ true → printed_budget budget ≡ []
default_part budget e = rw e refl

other_part : (budget : ℕ) → (budget == 1000000) ≡ false → printed_budget budget ≡ budget_part budget
other_part budget e = rw e refl

-- the printed line beside a line that says the job
record IsShort (line : List ℕ) (job : Job) : Type 0 where
  pub shorter : length (job_line job) ≤ length line
  pub good : is_good line ≡ true → is_good (job_line job) ≡ true

without : (line part : List ℕ) (job : Job) → line ≡ job_text part job → printed_budget job.budget ≡ [] → IsShort line job
without line part job e b =
    let made : job_line job ≡ job_text [] job = ap (λ p. job_text p job) b in
    let shorter : length (job_line job) ≤ length line = omega (arith, ap length made, ap length e, part_shorter [] part job (omega arith)) in
    record {
      shorter = shorter;
      good = λ g.
          let both = and_parts (line_is_plain line) (is_kept line) g in
          let plain = and_parts (nat_le (length line) 255) (list_all is_plain_byte line) both.0 in
          let few : nat_le (length (job_line job)) 255 ≡ true = le-leb (length (job_line job)) 255 (omega (arith, leb-true (length line) 255 plain.0)) in
          let bytes : list_all is_plain_byte (job_line job) ≡ true = ap (list_all is_plain_byte) made ∙ part_plain part job (ap (list_all is_plain_byte) (sym e) ∙ plain.1) in
          and_from (line_is_plain (job_line job)) (is_kept (job_line job)) (and_from (nat_le (length (job_line job)) 255) (list_all is_plain_byte (job_line job)) few bytes) refl;
    }

the_same : (line : List ℕ) (job : Job) → line ≡ job_line job → IsShort line job
the_same line job e =
    let P : List ℕ → Type 0 = λ l. is_good l ≡ true in
    record { shorter = omega (arith, ap length e); good = λ g. subst P e g }

short : (line : List ℕ) (job : Job) → Says line job → IsShort line job
short line job says =
    elim (cases_Bool (job.budget == 1000000)) [
      | inl d ↦ elim says [
        | inl e ↦ without line (budget_part job.budget) job e (default_part job.budget d)
        | inr e ↦ without line [] job e.1 (default_part job.budget d)
      ]
      | inr d ↦ elim says [
        | inl e ↦ the_same line job (e ∙ ap (λ p. job_text p job) (sym (other_part job.budget d)))
        | inr e ↦ absurd (let y = eq-eqb job.budget 1000000 e.0 in let x : true ≡ false = sym y ∙ d in cc)
      ]
    ]

line_says : (job : Job) → Says (job_line job) job
line_says job =
    elim (cases_Bool (job.budget == 1000000)) [
      | inl d ↦ inr (eqb-true job.budget 1000000 d, ap (λ p. job_text p job) (default_part job.budget d))
      | inr d ↦ inl (ap (λ p. job_text p job) (other_part job.budget d))
    ]

pub each_says : (jobs : List Job) → SayEach (map job_line jobs) jobs
each_says [] = tt
each_says (job ∷ jobs) = (line_says job, each_says jobs)

-- ---- the lines of jobs

abbrev stage_before : Bool → List (List ℕ)
stage_before same = cond same [] (stage_line ∷ [])

jobs_shorter : (jobs : List Job) (texts : List (List ℕ)) (before : ℕ) → SayEach texts jobs → length (printed_lines (stage_lines before (map job_line jobs) jobs)) ≤ length (printed_lines (stage_lines before texts jobs))
jobs_shorter [] [] before says = omega arith
jobs_shorter [] (text ∷ texts) before says = absurd says
jobs_shorter (job ∷ jobs) [] before says = absurd says
jobs_shorter (job ∷ jobs) (text ∷ texts) before says =
    let front : List (List ℕ) = stage_before (job.stage == before) in
    let one : List (List ℕ) = stage_lines job.stage (map job_line jobs) jobs in
    let other : List (List ℕ) = stage_lines job.stage texts jobs in
    let s : length (job_line job) ≤ length text = (short text job says.0).shorter in
    let rest : length (printed_lines one) ≤ length (printed_lines other) = jobs_shorter jobs texts job.stage says.1 in
    let a : length (printed_lines (front ++ job_line job ∷ one)) ≡ length (printed_lines front) + (length (job_line job) + 1 + length (printed_lines one)) =
    omega (arith, lines_more front (job_line job ∷ one), length-append (with_feed (job_line job)) (printed_lines one), length-append (job_line job) (10 ∷ []))
    in
    let b : length (printed_lines (front ++ text ∷ other)) ≡ length (printed_lines front) + (length text + 1 + length (printed_lines other)) =
    omega (arith, lines_more front (text ∷ other), length-append (with_feed text) (printed_lines other), length-append text (10 ∷ []))
    in
    omega (arith, a, b)

jobs_good : (jobs : List Job) (texts : List (List ℕ)) (before : ℕ) → SayEach texts jobs → list_all is_good (stage_lines before texts jobs) ≡ true → list_all is_good (stage_lines before (map job_line jobs) jobs) ≡ true
jobs_good [] [] before says h = refl
jobs_good [] (text ∷ texts) before says h = absurd says
jobs_good (job ∷ jobs) [] before says h = absurd says
jobs_good (job ∷ jobs) (text ∷ texts) before says h =
    let front : List (List ℕ) = stage_before (job.stage == before) in
    let one : List (List ℕ) = stage_lines job.stage (map job_line jobs) jobs in
    let other : List (List ℕ) = stage_lines job.stage texts jobs in
    let a = both_all is_good front (text ∷ other) h in
    let b = and_parts (is_good text) (list_all is_good other) a.1 in
    all_both is_good front (job_line job ∷ one) a.0 (and_from (is_good (job_line job)) (list_all is_good one) ((short text job says.0).good b.0) (jobs_good jobs texts job.stage says.1 b.1))

-- ---- the text

pub printed_spells : (text : List ℕ) (deck : Deck) → Spells text deck → Spells (printed deck) deck
printed_spells text deck s =
    let lines : List (List ℕ) = deck_lines deck (map job_line deck.jobs) in
    let flat : List (List ℕ) = flat_map (λ l. l) deck.templates in
    let one : List (List ℕ) = stage_lines 0 (map job_line deck.jobs) deck.jobs in
    let other : List (List ℕ) = stage_lines 0 s.job_lines deck.jobs in
    let good : list_all is_good (flat ++ other) ≡ true = ap (list_all is_good) (sym s.said) ∙ kept_good s.lines s.plain in
    let parts = both_all is_good flat other good in
    let all : list_all is_good lines ≡ true = all_both is_good flat one parts.0 (jobs_good deck.jobs s.job_lines 0 s.says parts.1) in
    let plain : list_all line_is_plain lines ≡ true = all_weaker is_good line_is_plain (λ l h. (and_parts (line_is_plain l) (is_kept l) h).0) lines all in
    let kept : list_all is_kept lines ≡ true = all_weaker is_good is_kept (λ l h. (and_parts (line_is_plain l) (is_kept l) h).1) lines all in
    let shorter : length (printed_lines one) ≤ length (printed_lines other) = jobs_shorter deck.jobs s.job_lines 0 s.says in
    let small : length (printed deck) ≤ 4194304 =
    omega (arith, s.small, ap length s.ended, kept_shorter s.lines, ap (λ l. length (printed_lines l)) s.said, lines_more flat one, lines_more flat other)
    in
    record {
      lines = lines;
      job_lines = map job_line deck.jobs;
      ended = refl;
      small = small;
      plain = plain;
      said = filter_all is_kept lines kept;
      says = each_says deck.jobs;
      templates = s.templates;
      few_templates = s.few_templates;
      apart = s.apart;
      jobs = s.jobs;
      few_jobs = s.few_jobs;
    }

-- ---- what is printed of templates

lines_join : (one other : List (List ℕ)) → printed_lines (one ++ other) ≡ printed_lines one ++ printed_lines other
lines_join [] other = refl
lines_join (line ∷ one) other = ap (λ t. with_feed line ++ t) (lines_join one other) ∙ sym (append_assoc (with_feed line) (printed_lines one) (printed_lines other))

templates_join : (ts : List (List (List ℕ))) → printed_lines (flat_map (λ l. l) ts) ≡ flat_map printed_lines ts
templates_join [] = refl
templates_join (t ∷ ts) = lines_join t (flat_map (λ l. l) ts) ∙ ap (λ l. printed_lines t ++ l) (templates_join ts)

pub printed_parts : (ts : List (List (List ℕ))) (rest : List (List ℕ)) → flat_map printed_lines ts ++ printed_lines rest ≡ printed_lines (flat_map (λ l. l) ts ++ rest)
printed_parts ts rest = sym (lines_join (flat_map (λ l. l) ts) rest ∙ ap (λ l. l ++ printed_lines rest) (templates_join ts))
