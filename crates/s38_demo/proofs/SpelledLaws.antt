-- The text of the generated deck spells it.
use Rattle.std.proofs.Common.{◌≡◌, ℕ, ◌+◌, ◌*◌, ◌<◌, ◌≤◌, ◌&&◌, Bool, true, false, cond, List, [], ◌∷◌, ◌++◌, map, take, drop, length, codes, refl, sym, ap, ◌∙◌, subst, arith, zero, suc, inl, inr}
use Rattle.std.proofs.lemmas.Bool.{and_from, and_parts, cases_Bool}
use Rattle.std.proofs.lemmas.List.{append-nil, append_assoc, length-append, length-map}
use Rattle.std.proofs.lemmas.List.Folds.{list_all-append}
use Rattle.std.proofs.lemmas.List.FromFn.{length-map-range_with_len}
use Rattle.std.specs.Prelude.{Option, Some, None}
use Rattle.std.specs.List.{AllByRecursion, filter, flat_map, list_all, range_with_len}
use Rattle.s38_code.specs.declared.deck.Deck.{Deck}
use Rattle.s38_code.specs.declared.deck.Job.{Job}
use Rattle.s38_words.specs.Name.{is_declared_name}
use Rattle.s38_base.specs.NameText.{is_name}
use Rattle.s38_template.specs.Grammar.{FitJobs, IsTemplate, SayEach, Says, Spells, are_new, are_numbered, goes_on, is_act_line, is_action, is_budget, is_declaration, is_job, is_kept, is_step, labels_in, labels_said, line_is_plain, stage_lines}
use Rattle.s38_template.specs.Grammar as grammar
use Rattle.s38_template.specs.Lines.{end_line, job_word, line_of}
use Rattle.s38_template.specs.declared.said.Line.{Line}
use Rattle.s38_template.specs.declared.said.Line.TheVariants.{Program, Declare, Label, Act, End, Stage, Job as JobLine}
use Rattle.s38_template.proofs.Options.{all_weaker}
use Rattle.s38_demo.specs.GeneratedDeck.{after_posts, before_posts, deck_of, generated, generated_job, generated_job_line, generated_lines, job_of_post, line_with_feed, post, post_back, post_front, post_head, post_job, post_jobs, post_name, post_sum, posts, setup, stage, text_of_lines, total, up_to}
use Rattle.s38_demo.proofs.CheckedLaws.{PostFacts, after_good, back_acts, back_good, before_good, begins, front_acts, front_declares, front_good, is_good, post_facts, setup_acts, setup_begins, setup_declares, setup_good, setup_short, total_acts, total_begins, total_declares, total_good, total_short}
use Rattle.s38_demo.proofs.GeneratedLaws.{text_both}
use Rattle.s38_demo.proofs.NameLaws.{job_names, jobs_found, jobs_from, names, names_are, names_new, setup_name, total_name}

-- ---- lists

all_both : {X : Type 0} (p : X → Bool) (xs ys : List X) → list_all p xs ≡ true → list_all p ys ≡ true → list_all p (xs ++ ys) ≡ true
all_both p xs ys a b = list_all-append p xs ys ∙ and_from (list_all p xs) (list_all p ys) a b

filter_all : {X : Type 0} (p : X → Bool) (xs : List X) → list_all p xs ≡ true → filter p xs ≡ xs
filter_all p [] h = refl
filter_all p (x ∷ xs) h =
    let both = and_parts (p x) (list_all p xs) h in
    rw both.0 (ap (λ l. x ∷ l) (filter_all p xs both.1))

filter_shorter : {X : Type 0} (p : X → Bool) (xs : List X) → length (filter p xs) ≤ length xs
filter_shorter p [] = omega arith
filter_shorter p (x ∷ xs) =
    elim (cases_Bool (p x)) [
      | inl e ↦ rw e (omega (arith, filter_shorter p xs))
      | inr e ↦ rw e (omega (arith, filter_shorter p xs))
    ]

-- ---- templates

begins_said : (o : Option Line) → begins o ≡ true → (name : List ℕ) × (o ≡ Some (Program name))
begins_said None h = cc
begins_said (Some (Program name)) h = (name, refl)
begins_said (Some (Declare in_range)) h = cc
begins_said (Some (Label name)) h = cc
begins_said (Some Act) h = cc
begins_said (Some End) h = cc
begins_said (Some Stage) h = cc
begins_said (Some (JobLine said)) h = cc

acts_said : (o : Option Line) → is_act_line o ≡ true → o ≡ Some Act
acts_said None h = cc
acts_said (Some (Program name)) h = cc
acts_said (Some (Declare in_range)) h = cc
acts_said (Some (Label name)) h = cc
acts_said (Some Act) h = refl
acts_said (Some End) h = cc
acts_said (Some Stage) h = cc
acts_said (Some (JobLine said)) h = cc

action_steps : (line : List ℕ) → is_action line ≡ true → is_step line ≡ true
action_steps line h = ap goes_on (acts_said (line_of line) h)

no_labels : (steps : List (List ℕ)) → list_all is_action steps ≡ true → flat_map labels_in steps ≡ []
no_labels [] h = refl
no_labels (step ∷ steps) h =
    let both = and_parts (is_action step) (list_all is_action steps) h in
    ap (λ l. labels_said l ++ flat_map labels_in steps) (acts_said (line_of step) both.0) ∙ no_labels steps both.1

template_of : (lines : List (List ℕ)) (head : List ℕ) (declarations steps : List (List ℕ)) → lines ≡ head ∷ (declarations ++ (steps ++ end_line ∷ [])) → begins (line_of head) ≡ true
    → list_all is_declaration declarations ≡ true → length declarations ≤ 1024 → list_all is_action steps ≡ true → length steps ≤ 16384 → IsTemplate lines
template_of lines head declarations steps are begun declared few acted short =
    let named = begins_said (line_of head) begun in
    record {
      head = head;
      declarations = declarations;
      steps = steps;
      name = named.0;
      lines_are = are;
      named = named.1;
      declared = declared;
      few_declarations = few;
      stepped = all_weaker is_action is_step action_steps steps acted;
      few_instructions = omega (arith, filter_shorter is_action steps, short);
      apart = ap (are_new []) (no_labels steps acted);
    }

setup_template : IsTemplate setup
unfolding setup
setup_template = template_of setup (codes "PROGRAM SETUP") (take 6 (drop 1 setup)) (take 10 (drop 7 setup)) refl setup_begins setup_declares (omega arith) setup_acts (omega arith)

total_template : IsTemplate total
unfolding total
total_template = template_of total (codes "PROGRAM TOTAL") (take 4 (drop 1 total)) (take 6 (drop 5 total)) refl total_begins total_declares (omega arith) total_acts (omega arith)

abbrev post_steps : ℕ → List (List ℕ)
post_steps j = drop 6 post_front ++ (post_sum j ∷ take 4 post_back)

post_template : (j : ℕ) → PostFacts j → IsTemplate (post j)
unfolding post_front post_back
post_template j facts =
    template_of (post j) (post_head j) (take 6 post_front) (post_steps j) refl facts.begins front_declares (omega arith)
    (all_both is_action (drop 6 post_front) (post_sum j ∷ take 4 post_back) front_acts (and_from (is_action (post_sum j)) (list_all is_action (take 4 post_back)) facts.action back_acts)) (omega arith)

templates_from : (a k : ℕ) → 1 ≤ a → a + k ≤ 201 → AllByRecursion IsTemplate (map post (range_with_len a k) ++ total ∷ [])
templates_from a zero low high = (total_template, tt)
templates_from a (suc k) low high = (post_template a (post_facts a low (omega (arith, high))), templates_from (a + 1) k (omega (arith, low)) (omega (arith, high)))

-- ---- lines

post_good : (j : ℕ) → PostFacts j → list_all is_good (post j) ≡ true
post_good j facts =
    and_from (is_good (post_head j)) (list_all is_good (post_front ++ (post_sum j ∷ post_back))) facts.head
    (all_both is_good post_front (post_sum j ∷ post_back) front_good (and_from (is_good (post_sum j)) (list_all is_good post_back) facts.sum back_good))

posts_good : (a k : ℕ) → 1 ≤ a → a + k ≤ 201 → list_all is_good (flat_map post (range_with_len a k)) ≡ true
posts_good a zero low high = refl
posts_good a (suc k) low high =
    all_both is_good (post a) (flat_map post (range_with_len (a + 1) k)) (post_good a (post_facts a low (omega (arith, high)))) (posts_good (a + 1) k (omega (arith, low)) (omega (arith, high)))

jobs_good : (a k : ℕ) → 1 ≤ a → a + k ≤ 201 → list_all is_good (map post_job (range_with_len a k)) ≡ true
jobs_good a zero low high = refl
jobs_good a (suc k) low high =
    and_from (is_good (post_job a)) (list_all is_good (map post_job (range_with_len (a + 1) k))) (post_facts a low (omega (arith, high))).job (jobs_good (a + 1) k (omega (arith, low)) (omega (arith, high)))

lines_good : (n : ℕ) → n ≤ 200 → list_all is_good (generated_lines n) ≡ true
lines_good n last =
    all_both is_good setup (posts n ++ (total ++ (before_posts ++ (post_jobs n ++ after_posts)))) setup_good
    (all_both is_good (posts n) (total ++ (before_posts ++ (post_jobs n ++ after_posts))) (posts_good 1 n (omega arith) (omega (arith, last)))
    (all_both is_good total (before_posts ++ (post_jobs n ++ after_posts)) total_good
    (all_both is_good before_posts (post_jobs n ++ after_posts) before_good
    (all_both is_good (post_jobs n) after_posts (jobs_good 1 n (omega arith) (omega (arith, last))) after_good))))

good_plain : (line : List ℕ) → is_good line ≡ true → line_is_plain line ≡ true
good_plain line h = (and_parts (line_is_plain line) (is_kept line) h).0

good_kept : (line : List ℕ) → is_good line ≡ true → is_kept line ≡ true
good_kept line h = (and_parts (line_is_plain line) (is_kept line) h).1

-- ---- the length of the text

posts_short : (a k : ℕ) → 1 ≤ a → a + k ≤ 201 → length (text_of_lines (flat_map post (range_with_len a k))) ≤ 1000 * k
posts_short a zero low high = omega arith
posts_short a (suc k) low high =
    let rest : List (List ℕ) = flat_map post (range_with_len (a + 1) k) in
    omega (arith, ap length (text_both (post a) rest), length-append (text_of_lines (post a)) (text_of_lines rest), (post_facts a low (omega (arith, high))).text_short, posts_short (a + 1) k (omega (arith, low)) (omega (arith, high)))

jobs_short : (a k : ℕ) → 1 ≤ a → a + k ≤ 201 → length (text_of_lines (map post_job (range_with_len a k))) ≤ 100 * k
jobs_short a zero low high = omega arith
jobs_short a (suc k) low high =
    let rest : List (List ℕ) = map post_job (range_with_len (a + 1) k) in
    omega (arith, length-append (line_with_feed (post_job a)) (text_of_lines rest), (post_facts a low (omega (arith, high))).job_short, jobs_short (a + 1) k (omega (arith, low)) (omega (arith, high)))

both_long : (xs ys : List (List ℕ)) → length (text_of_lines (xs ++ ys)) ≡ length (text_of_lines xs) + length (text_of_lines ys)
both_long xs ys = ap length (text_both xs ys) ∙ length-append (text_of_lines xs) (text_of_lines ys)

deck_short : (n : ℕ) → n ≤ 200 → length (text_of_lines (generated_lines n)) ≤ 4194304
deck_short n last =
    let before_short : length (text_of_lines before_posts) ≤ 100 = omega arith in
    let behind_short : length (text_of_lines after_posts) ≤ 100 = omega arith in
    omega (
      arith,
      last,
      both_long setup (posts n ++ (total ++ (before_posts ++ (post_jobs n ++ after_posts)))),
      both_long (posts n) (total ++ (before_posts ++ (post_jobs n ++ after_posts))),
      both_long total (before_posts ++ (post_jobs n ++ after_posts)),
      both_long before_posts (post_jobs n ++ after_posts),
      both_long (post_jobs n) after_posts,
      setup_short,
      total_short,
      before_short,
      behind_short,
      posts_short 1 n (omega arith) (omega (arith, last)),
      jobs_short 1 n (omega arith) (omega (arith, last)),
    )

-- ---- jobs

says_job : (number : ℕ) (name : List ℕ) → Says (generated_job_line name) (generated_job number name)
says_job number name = inr (refl, ap (λ t. job_word ++ (name ++ (codes " USER QSECOFR RUN " ++ t))) (sym (append-nil name)))

says_from : (a k : ℕ) → SayEach (map post_job (range_with_len a k) ++ generated_job_line total_name ∷ []) (jobs_from a k)
says_from a zero = (says_job 3 total_name, tt)
says_from a (suc k) = (says_job 2 (post_name a), says_from (a + 1) k)

own_name : (name : List ℕ) → is_declared_name name ≡ true → is_job (generated_job 2 name) ≡ true
own_name name h =
    and_from (is_declared_name name) _ h (and_from (is_name (codes "QSECOFR")) _ refl (and_from (is_declared_name name) _ h refl))

each_from : (a k : ℕ) → 1 ≤ a → a + k ≤ 201 → list_all is_job (jobs_from a k) ≡ true
each_from a zero low high = refl
each_from a (suc k) low high =
    and_from (is_job (job_of_post a)) (list_all is_job (jobs_from (a + 1) k)) (own_name (post_name a) (post_facts a low (omega (arith, high))).name) (each_from (a + 1) k (omega (arith, low)) (omega (arith, high)))

numbered_from : (a k : ℕ) → are_numbered 2 (jobs_from a k) ≡ true
numbered_from a zero = refl
numbered_from a (suc k) = numbered_from (a + 1) k

numbered : (n : ℕ) → 1 ≤ n → are_numbered 0 (generated n).jobs ≡ true
numbered zero first = absurd (omega (arith, first))
numbered (suc n) first = numbered_from 2 n

jobs_fit : (n : ℕ) → 1 ≤ n → n ≤ 200 → FitJobs (names n) [] 0 (generated n).jobs
jobs_fit n first last = record {
  each = each_from 1 n (omega arith) (omega (arith, last));
  numbered = numbered n first;
  apart = ap (are_new []) (job_names n) ∙ names_new n last;
  found = jobs_found n;
}

abbrev job_lines : ℕ → List (List ℕ)
job_lines n = generated_job_line setup_name ∷ (map post_job (up_to n) ++ generated_job_line total_name ∷ [])

staged_from : (a k : ℕ) → stage_lines 2 (map post_job (range_with_len a k) ++ generated_job_line total_name ∷ []) (jobs_from a k) ≡ map post_job (range_with_len a k) ++ after_posts
staged_from a zero = refl
staged_from a (suc k) = ap (λ l. post_job a ∷ l) (staged_from (a + 1) k)

staged : (n : ℕ) → 1 ≤ n → stage_lines 0 (job_lines n) (generated n).jobs ≡ before_posts ++ (post_jobs n ++ after_posts)
staged zero first = absurd (omega (arith, first))
staged (suc n) first = ap (λ l. stage ∷ generated_job_line setup_name ∷ stage ∷ post_job 1 ∷ l) (staged_from 2 n)

-- ---- the deck

templates_lines : (a k : ℕ) → flat_map (λ (lines : List (List ℕ)). lines) (map post (range_with_len a k) ++ total ∷ []) ≡ flat_map post (range_with_len a k) ++ total
templates_lines a zero = append-nil total
templates_lines a (suc k) =
    ap (λ l. post a ++ l) (templates_lines (a + 1) k) ∙ sym (append_assoc (post a) (flat_map post (range_with_len (a + 1) k)) total)

lines_are : (n : ℕ) → 1 ≤ n → generated_lines n ≡ grammar.deck_lines (generated n) (job_lines n)
lines_are n first =
    let jobs : List (List ℕ) = before_posts ++ (post_jobs n ++ after_posts) in
    ap (λ l. setup ++ l) (sym (append_assoc (posts n) total jobs))
    ∙ sym (append_assoc setup (posts n ++ total) jobs)
    ∙ ap (λ l. (setup ++ l) ++ jobs) (sym (templates_lines 1 n))
    ∙ ap (λ l. (setup ++ flat_map (λ (lines : List (List ℕ)). lines) (map post (up_to n) ++ total ∷ [])) ++ l) (sym (staged n first))

few_of : {X : Type 0} (f : ℕ → X) (x y : X) (n : ℕ) → length (x ∷ (map f (up_to n) ++ y ∷ [])) ≡ n + 2
few_of f x y n = omega (arith, length-append (map f (up_to n)) (y ∷ []), length-map-range_with_len f 1 n)

pub generated_is_spelled : (n : ℕ) → 1 ≤ n → n ≤ 200 → Spells (deck_of n) (generated n)
unfolding deck_of
generated_is_spelled n first last = record {
  lines = generated_lines n;
  job_lines = job_lines n;
  ended = refl;
  small = deck_short n last;
  plain = all_weaker is_good line_is_plain good_plain (generated_lines n) (lines_good n last);
  said = filter_all is_kept (generated_lines n) (all_weaker is_good is_kept good_kept (generated_lines n) (lines_good n last)) ∙ lines_are n first;
  says = (says_job 1 setup_name, says_from 1 n);
  templates = (setup_template, templates_from 1 n (omega arith) (omega (arith, last)));
  few_templates = omega (arith, last, few_of post setup total n);
  apart = ap (are_new []) (names_are n last) ∙ names_new n last;
  jobs = subst (λ (ns : List (List ℕ)). FitJobs ns [] 0 (generated n).jobs) (sym (names_are n last)) (jobs_fit n first last);
  few_jobs = omega (arith, last, few_of job_of_post (generated_job 1 setup_name) (generated_job 3 total_name) n);
}
