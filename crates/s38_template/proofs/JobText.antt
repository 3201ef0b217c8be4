-- The line of a job says what is read of it, and is read as the job that it says.
use Rattle.std.proofs.Common.{◌≡◌, ◌⊎◌, ℕ, ◌<◌, ◌≤◌, true, not, ◌&&◌, ◌==◌, nat_lt, nat_le, nat_eq, List, [], ◌∷◌, ◌++◌, length, drop, Option, Some, None, codes, sym, ap, subst, ◌∙◌, refl, arith, inl, inr}
use Rattle.std.specs.Prelude.{decimal}
use Rattle.std.proofs.lemmas.Bool.{cases_Bool, and_parts, and_from, or_cases, ne_eqb, eqb-true, leb-true, not_from_false}
use Rattle.std.proofs.lemmas.Bool.Decides.{Decides-eqb}
use Rattle.std.proofs.lemmas.List.{append-nil}
use Rattle.std.proofs.lemmas.List.Splits.{length-slice_split}
use Rattle.std.proofs.lemmas.Option.{same_Some, cond_some}
use Rattle.std.proofs.lemmas.Slice.Eq.{starts_is}
use Rattle.std.specs.List.{list_all, slice_split, onto_first, flat_map, starts_with}
use Rattle.s38_base.specs.NameText.{are_name_bytes, is_name, is_name_byte}
use Rattle.s38_words.specs.DeclarationLine.{count_spelled}
use Rattle.s38_code.specs.declared.deck.Job.{Job}
use Rattle.s38_template.specs.declared.said.JobSaid.{JobSaid}
use Rattle.s38_template.specs.Cut.{cut}
use Rattle.s38_template.specs.Grammar.{Says, budget_part, contexts_part, is_budget, is_job, job_text, with_blank}
use Rattle.s38_template.specs.Lines.{budget_from, budget_in, contexts_spelled, head_in, is_blank, job_in, job_word, names_in, run_from, run_in, terms_from, terms_in, worded}
use Rattle.s38_template.specs.Reading.{job_of}
use Rattle.s38_template.proofs.Numbers.{count_said, count_read, free_decimal}
use Rattle.s38_template.proofs.Options.{map_some, then_some, all_weaker}
use Rattle.s38_template.proofs.Texts.{cut_at, cut_joins, cut_none, is_free, split_at, split_none}
use Rattle.s38_words.specs.Text.{rest_after}
use Rattle.s38_words.specs.Name.{begins_with_letter, declared_name, is_declared_name, object_name}

-- ---- words

pub after_joins : (word text rest : List ℕ) → rest_after word text ≡ Some rest → text ≡ word ++ rest
after_joins word text rest e =
    let h = cond_some (starts_with nat_eq text word) (drop (length word) text) rest e in
    (starts_is Decides-eqb text word (starts_with nat_eq text word) refl).0 h.0 ∙ ap (λ r. word ++ r) h.1

free_name_byte : (c : ℕ) → is_name_byte c ≡ true → not (c == 32) ≡ true
free_name_byte c h =
    not_from_false (c == 32) (ne_eqb c 32 (λ e. elim (or_cases (nat_le 65 c && nat_le c 90) (nat_le 48 c && nat_le c 57) h) [
      | inl a ↦ omega (arith, leb-true 65 c (and_parts (nat_le 65 c) (nat_le c 90) a).0)
      | inr a ↦ omega (arith, leb-true 48 c (and_parts (nat_le 48 c) (nat_le c 57) a).0)
    ]))

pub free_name : (name : List ℕ) → is_name name ≡ true → is_free 32 name ≡ true
free_name name h =
    let p = and_parts (nat_lt 0 (length name)) (nat_le (length name) 30 && are_name_bytes name) h in
    let q = and_parts (nat_le (length name) 30) (are_name_bytes name) p.1 in
    all_weaker is_name_byte (λ c. not (c == 32)) free_name_byte name q.1

own_is_name : (name : List ℕ) → is_declared_name name ≡ true → is_name name ≡ true
own_is_name name h = (and_parts (begins_with_letter name) (is_name name) h).1

-- ---- contexts

-- names parted by blanks
abbrev names_text : List (List ℕ) → List ℕ
names_text [] = []
names_text (name ∷ names) = name ++ flat_map with_blank names

names_split : (name : List ℕ) (names : List (List ℕ)) → list_all is_name (name ∷ names) ≡ true → slice_split is_blank (names_text (name ∷ names)) ≡ name ∷ names
names_split name [] h =
    let p = and_parts (is_name name) true h in
    ap (slice_split is_blank) (append-nil name) ∙ split_none 32 name (cut_none 32 name (free_name name p.0))
names_split name (next ∷ names) h =
    let p = and_parts (is_name name) (list_all is_name (next ∷ names)) h in
    let rest : List ℕ = names_text (next ∷ names) in
    split_at 32 (name ++ 32 ∷ rest) (name, rest) (cut_at 32 name rest (free_name name p.0)) ∙ ap (λ l. name ∷ l) (names_split next names p.1)

names_read : (name : List ℕ) (names : List (List ℕ)) → list_all is_name (name ∷ names) ≡ true → names_in (names_text (name ∷ names)) ≡ Some (name ∷ names)
names_read name names h = rw (names_split name names h) (rw h refl)

blank_joins : (cs : List ℕ) (parts : List (List ℕ)) → 0 < length parts → cs ≡ names_text parts → 32 ∷ cs ≡ names_text ([] ∷ parts)
blank_joins cs [] n h = absurd (omega arith)
blank_joins cs (name ∷ names) n h = ap (λ l. 32 ∷ l) h

byte_joins : (c : ℕ) (cs : List ℕ) (parts : List (List ℕ)) → cs ≡ names_text parts → c ∷ cs ≡ names_text (onto_first c parts)
byte_joins c cs [] h = ap (λ l. c ∷ l) h
byte_joins c cs (name ∷ names) h = ap (λ l. c ∷ l) h

split_joins : (text : List ℕ) → text ≡ names_text (slice_split is_blank text)
split_joins [] = refl
split_joins (c ∷ cs) =
    elim (cases_Bool (c == 32)) [
      | inl t ↦ rw t (ap (λ b. b ∷ cs) (eqb-true c 32 t) ∙ blank_joins cs (slice_split is_blank cs) (omega (arith, length-slice_split is_blank cs)) (split_joins cs))
      | inr f ↦ rw f (byte_joins c cs (slice_split is_blank cs) (split_joins cs))
    ]

-- the parts of a text, as contexts after their word
parts_print : (rest : List ℕ) (parts : List (List ℕ)) → 0 < length parts → rest ≡ names_text parts → codes " CONTEXTS " ++ rest ≡ contexts_part parts
parts_print rest [] n h = absurd (omega arith)
parts_print rest (name ∷ names) n h = ap (λ l. codes " CONTEXTS " ++ l) h

record AreContexts (text : List ℕ) (contexts : List (List ℕ)) : Type 0 where
  pub said : 32 ∷ text ≡ contexts_part contexts
  pub names : list_all is_name contexts ≡ true

contexts_said : (text : List ℕ) (contexts : List (List ℕ)) → contexts_spelled text ≡ Some contexts → AreContexts text contexts
unfolding contexts_spelled
contexts_said text contexts e =
    then_some names_in (rest_after (codes "CONTEXTS ") text) contexts e (λ rest a en.
    let g = cond_some (list_all is_name (slice_split is_blank rest)) (slice_split is_blank rest) contexts en in
    let R : List (List ℕ) → Type 0 = λ l. list_all is_name l ≡ true in
    record {
      said = ap (λ l. 32 ∷ l) (after_joins (codes "CONTEXTS ") text rest a) ∙ parts_print rest (slice_split is_blank rest) (omega (arith, length-slice_split is_blank rest)) (split_joins rest) ∙ ap contexts_part g.1;
      names = subst R g.1 g.0;
    })

contexts_read : (first : List ℕ) (contexts : List (List ℕ)) → list_all is_name (first ∷ contexts) ≡ true → contexts_spelled (codes "CONTEXTS " ++ names_text (first ∷ contexts)) ≡ Some (first ∷ contexts)
unfolding contexts_spelled
contexts_read first contexts h = names_read first contexts h

-- ---- the budget and the contexts

-- how the budget of a job may be written
pub record IsPart (part : List ℕ) (budget : ℕ) : Type 0 where
  pub is : (part ≡ budget_part budget) ⊎ ((budget ≡ 1000000) × (part ≡ []))

pub record AreTerms (text : List ℕ) (budget : ℕ) (contexts : List (List ℕ)) : Type 0 where
  pub part : List ℕ
  pub is_part : budget ≤ 10000000 → IsPart part budget
  pub said : budget ≤ 10000000 → text ≡ part ++ contexts_part contexts
  pub names : list_all is_name contexts ≡ true

budget_said_from : (text : List ℕ) (o : Option (List ℕ × List ℕ)) (budget : ℕ) (contexts : List (List ℕ)) → cut 32 text ≡ o → budget_from text o ≡ Some (budget, contexts) → AreTerms (codes " BUDGET " ++ text) budget contexts
budget_said_from text None budget contexts c e =
    map_some (λ (n : ℕ). (n, [])) (count_spelled text) (budget, contexts) e (λ n eq back.
    let P : ℕ × List (List ℕ) → Type 0 = λ t. AreTerms (codes " BUDGET " ++ text) t.0 t.1 in
    let made : AreTerms (codes " BUDGET " ++ text) n [] = record {
      part = budget_part n;
      is_part = λ _. record { is = inl refl };
      said = λ h. ap (λ t. codes " BUDGET " ++ t) (count_said text n eq h ∙ sym (append-nil (decimal n)));
      names = refl;
    } in
    subst P back made)
budget_said_from text (Some p) budget contexts c e =
    then_some _ (count_spelled p.0) (budget, contexts) e (λ n eq e1. then_some _ (contexts_spelled p.1) (budget, contexts) e1 (λ list ec back.
    let P : ℕ × List (List ℕ) → Type 0 = λ t. AreTerms (codes " BUDGET " ++ text) t.0 t.1 in
    let k = contexts_said p.1 list ec in
    let made : AreTerms (codes " BUDGET " ++ text) n list = record {
      part = budget_part n;
      is_part = λ _. record { is = inl refl };
      said = λ h. ap (λ t. codes " BUDGET " ++ t) (cut_joins 32 text p c ∙ ap (λ t. p.0 ++ t) k.said ∙ ap (λ t. t ++ contexts_part list) (count_said p.0 n eq h));
      names = k.names;
    } in
    subst P (same_Some _ (budget, contexts) back) made))

budget_said : (text : List ℕ) (budget : ℕ) (contexts : List (List ℕ)) → budget_in text ≡ Some (budget, contexts) → AreTerms (codes " BUDGET " ++ text) budget contexts
unfolding budget_in
budget_said text budget contexts e = budget_said_from text (cut 32 text) budget contexts refl e

terms_said_from : (text : List ℕ) (o : Option (List ℕ)) (budget : ℕ) (contexts : List (List ℕ)) → rest_after (codes "BUDGET ") text ≡ o → terms_from text o ≡ Some (budget, contexts) → AreTerms (32 ∷ text) budget contexts
terms_said_from text None budget contexts a e =
    map_some (λ (list : List (List ℕ)). (1000000, list)) (contexts_spelled text) (budget, contexts) e (λ list eq back.
    let P : ℕ × List (List ℕ) → Type 0 = λ t. AreTerms (32 ∷ text) t.0 t.1 in
    let k = contexts_said text list eq in
    let made : AreTerms (32 ∷ text) 1000000 list = record { part = []; is_part = λ _. record { is = inr (refl, refl) }; said = λ h. k.said; names = k.names } in
    subst P back made)
terms_said_from text (Some rest) budget contexts a e =
    let P : List ℕ → Type 0 = λ t. AreTerms (32 ∷ t) budget contexts in
    subst P (sym (after_joins (codes "BUDGET ") text rest a)) (budget_said rest budget contexts e)

terms_said : (text : List ℕ) (budget : ℕ) (contexts : List (List ℕ)) → terms_in text ≡ Some (budget, contexts) → AreTerms (32 ∷ text) budget contexts
unfolding terms_in
terms_said text budget contexts e = terms_said_from text (rest_after (codes "BUDGET ") text) budget contexts refl e

-- ---- the template, the budget and the contexts

pub record IsRun (text : List ℕ) (run : List ℕ × ℕ × List (List ℕ)) : Type 0 where
  pub rest : List ℕ
  pub said : text ≡ run.0 ++ rest
  pub own : is_declared_name run.0 ≡ true
  pub terms : AreTerms rest run.1 run.2

run_from_says : (text : List ℕ) (o : Option (List ℕ × List ℕ)) (run : List ℕ × ℕ × List (List ℕ)) → cut 32 text ≡ o → run_from text o ≡ Some run → IsRun text run
run_from_says text None run c e =
    map_some (λ (name : List ℕ). (name, 1000000, [])) (declared_name text) run e (λ name eq back.
    let h = cond_some (is_declared_name text) text name eq in
    let P : List ℕ × ℕ × List (List ℕ) → Type 0 = IsRun text in
    let Q : List ℕ → Type 0 = λ n. is_declared_name n ≡ true in
    let terms : AreTerms [] 1000000 [] = record { part = []; is_part = λ _. record { is = inr (refl, refl) }; said = λ _. refl; names = refl } in
    let r : IsRun text (name, 1000000, []) = record { rest = []; said = h.1 ∙ sym (append-nil name); own = subst Q h.1 h.0; terms = terms } in
    subst P back r)
run_from_says text (Some p) run c e =
    then_some _ (declared_name p.0) run e (λ name eq e1. then_some _ (terms_in p.1) run e1 (λ terms et back.
    let h = cond_some (is_declared_name p.0) p.0 name eq in
    let P : List ℕ × ℕ × List (List ℕ) → Type 0 = IsRun text in
    let Q : List ℕ → Type 0 = λ n. is_declared_name n ≡ true in
    let r : IsRun text (name, terms.0, terms.1) = record {
      rest = 32 ∷ p.1;
      said = cut_joins 32 text p c ∙ ap (λ n. n ++ 32 ∷ p.1) h.1;
      own = subst Q h.1 h.0;
      terms = terms_said p.1 terms.0 terms.1 et;
    } in
    subst P (same_Some _ run back) r))

run_says : (text : List ℕ) (run : List ℕ × ℕ × List (List ℕ)) → run_in text ≡ Some run → IsRun text run
unfolding run_in
run_says text run e = run_from_says text (cut 32 text) run refl e

-- ---- the line

worded_joins : (word text : List ℕ) (p : List ℕ × List ℕ) → worded word text ≡ Some p → text ≡ word ++ (p.0 ++ 32 ∷ p.1)
unfolding worded
worded_joins word text p e =
    then_some (cut 32) (rest_after word text) p e (λ behind a c. after_joins word text behind a ∙ ap (λ r. word ++ r) (cut_joins 32 behind p c))

abbrev head_line : List ℕ × List ℕ × List ℕ → List ℕ
head_line head = job_word ++ (head.0 ++ (codes " USER " ++ (head.1 ++ (codes " RUN " ++ head.2))))

head_says : (line : List ℕ) (head : List ℕ × List ℕ × List ℕ) → head_in line ≡ Some head → line ≡ head_line head
unfolding head_in
head_says line head e =
    then_some _ (worded job_word line) head e (λ job j e1. then_some _ (worded (codes "USER ") job.1) head e1 (λ user u e2. then_some _ (rest_after (codes "RUN ") user.1) head e2 (λ run r back.
    let P : List ℕ × List ℕ × List ℕ → Type 0 = λ h. line ≡ head_line h in
    subst P (same_Some _ head back) (
    worded_joins job_word line job j
    ∙ ap (λ x. job_word ++ (job.0 ++ 32 ∷ x)) (worded_joins (codes "USER ") job.1 user u ∙ ap (λ y. codes "USER " ++ (user.0 ++ 32 ∷ y)) (after_joins (codes "RUN ") user.1 run r))
    ))))

head_read : (job user run : List ℕ) → is_name job ≡ true → is_name user ≡ true → head_in (head_line (job, user, run)) ≡ Some (job, user, run)
unfolding head_in worded
head_read job user run j u =
    rw (cut_at 32 job (codes "USER " ++ (user ++ (codes " RUN " ++ run))) (free_name job j)) (rw (cut_at 32 user (codes "RUN " ++ run) (free_name user u)) refl)

-- what a line of a job with a budget in its range says
pub record SaysJob (stage : ℕ) (line : List ℕ) (job : Job) : Type 0 where
  pub says : Says line job
  pub fits : is_job job ≡ true
  pub staged : job.stage ≡ stage

part_says : (line part : List ℕ) (job : Job) → line ≡ job_text part job → IsPart part job.budget → Says line job
part_says line part job e p = elim p.is [
  | inl b ↦ inl (e ∙ ap (λ t. job_text t job) b)
  | inr b ↦ inr (b.0, e ∙ ap (λ t. job_text t job) b.1)
]

pub job_says : (stage : ℕ) (line : List ℕ) (said : JobSaid) → job_in line ≡ Some said → is_budget said.budget ≡ true → SaysJob stage line (job_of stage said)
unfolding job_in
job_says stage line said e b =
    then_some _ (head_in line) said e (λ head h e1. then_some _ (declared_name head.0) said e1 (λ name n e2. then_some _ (object_name head.1) said e2 (λ user u e3. then_some _ (run_in head.2) said e3 (λ run r back.
    let hn = cond_some (is_declared_name head.0) head.0 name n in
    let hu = cond_some (is_name head.1) head.1 user u in
    let hr = run_says head.2 run r in
    let made : JobSaid = record { name = name; user = user; template = run.0; budget = run.1; contexts = run.2 } in
    let same : made ≡ said = same_Some made said back in
    let N : List ℕ → Type 0 = λ t. is_declared_name t ≡ true in
    let U : List ℕ → Type 0 = λ t. is_name t ≡ true in
    let B : JobSaid → Type 0 = λ s. is_budget s.budget ≡ true in
    let in_range : is_budget run.1 ≡ true = subst B (sym same) b in
    let few : run.1 ≤ 10000000 = leb-true run.1 10000000 (and_parts (nat_le 1 run.1) (nat_le run.1 10000000) in_range).1 in
    let line_is : line ≡ job_text hr.terms.part (job_of stage made) =
    head_says line head h ∙ ap (λ t. head_line (t, head.1, head.2)) hn.1 ∙ ap (λ t. head_line (name, t, head.2)) hu.1 ∙ ap (λ t. head_line (name, user, t)) (hr.said ∙ ap (λ t. run.0 ++ t) (hr.terms.said few))
    in
    let says : SaysJob stage line (job_of stage made) = record {
      says = part_says line hr.terms.part (job_of stage made) line_is (hr.terms.is_part few);
      fits = and_from _ _ (subst N hn.1 hn.0) (and_from _ _ (subst U hu.1 hu.0) (and_from _ _ hr.own (and_from _ _ hr.terms.names in_range)));
      staged = refl;
    } in
    let P : JobSaid → Type 0 = λ s. SaysJob stage line (job_of stage s) in
    subst P same says))))

-- ---- the line of a job is read

abbrev pub said_of : Job → JobSaid
said_of job = record { name = job.name; user = job.user; template = job.template; budget = job.budget; contexts = job.contexts }

run_alone : (name : List ℕ) → is_declared_name name ≡ true → run_in name ≡ Some (name, 1000000, [])
unfolding run_in
run_alone name n = rw (cut_none 32 name (free_name name (own_is_name name n))) (rw n refl)

run_on : (name rest : List ℕ) (budget : ℕ) (contexts : List (List ℕ)) → is_declared_name name ≡ true → terms_in rest ≡ Some (budget, contexts) → run_in (name ++ 32 ∷ rest) ≡ Some (name, budget, contexts)
unfolding run_in
run_on name rest budget contexts n t = rw (cut_at 32 name rest (free_name name (own_is_name name n))) (rw n (rw t refl))

terms_default : (first : List ℕ) (contexts : List (List ℕ)) → list_all is_name (first ∷ contexts) ≡ true → terms_in (codes "CONTEXTS " ++ names_text (first ∷ contexts)) ≡ Some (1000000, first ∷ contexts)
unfolding terms_in
terms_default first contexts h = rw (contexts_read first contexts h) refl

terms_alone : (n : ℕ) → 0 < n → n ≤ 10000000 → terms_in (codes "BUDGET " ++ decimal n) ≡ Some (n, [])
unfolding terms_in budget_in
terms_alone n some h = rw (cut_none 32 (decimal n) (free_decimal n h)) (rw (count_read n some h) refl)

terms_all : (n : ℕ) (first : List ℕ) (contexts : List (List ℕ)) → 0 < n → n ≤ 10000000 → list_all is_name (first ∷ contexts) ≡ true → terms_in (codes "BUDGET " ++ (decimal n ++ contexts_part (first ∷ contexts))) ≡ Some (n, first ∷ contexts)
unfolding terms_in budget_in
terms_all n first contexts some h names =
    rw (cut_at 32 (decimal n) (codes "CONTEXTS " ++ names_text (first ∷ contexts)) (free_decimal n h)) (rw (count_read n some h) (rw (contexts_read first contexts names) refl))

run_default : (name : List ℕ) (contexts : List (List ℕ)) → is_declared_name name ≡ true → list_all is_name contexts ≡ true → run_in (name ++ contexts_part contexts) ≡ Some (name, 1000000, contexts)
run_default name [] n h = ap run_in (append-nil name) ∙ run_alone name n
run_default name (first ∷ contexts) n h = run_on name (codes "CONTEXTS " ++ names_text (first ∷ contexts)) 1000000 (first ∷ contexts) n (terms_default first contexts h)

run_all : (name : List ℕ) (n : ℕ) (contexts : List (List ℕ)) → is_declared_name name ≡ true → 0 < n → n ≤ 10000000 → list_all is_name contexts ≡ true → run_in (name ++ (budget_part n ++ contexts_part contexts)) ≡ Some (name, n, contexts)
run_all name n [] o some few h = ap (λ t. run_in (name ++ t)) (append-nil (budget_part n)) ∙ run_on name (codes "BUDGET " ++ decimal n) n [] o (terms_alone n some few)
run_all name n (first ∷ contexts) o some few h = run_on name (codes "BUDGET " ++ (decimal n ++ contexts_part (first ∷ contexts))) n (first ∷ contexts) o (terms_all n first contexts some few h)

job_read_from : (line rest : List ℕ) (job : Job) → line ≡ head_line (job.name, job.user, rest) → is_declared_name job.name ≡ true → is_name job.user ≡ true → run_in rest ≡ Some (job.template, job.budget, job.contexts) → job_in line ≡ Some (said_of job)
unfolding job_in
job_read_from line rest job e n u r = rw e (rw (head_read job.name job.user rest (own_is_name job.name n) u) (rw n (rw u (rw r refl))))

pub job_read : (line : List ℕ) (job : Job) → is_job job ≡ true → Says line job → job_in line ≡ Some (said_of job)
job_read line job h says =
    let p = and_parts (is_declared_name job.name) _ h in
    let q = and_parts (is_name job.user) _ p.1 in
    let r = and_parts (is_declared_name job.template) _ q.1 in
    let t = and_parts (list_all is_name job.contexts) (is_budget job.budget) r.1 in
    let m = and_parts (nat_le 1 job.budget) (nat_le job.budget 10000000) t.1 in
    elim says [
      | inl e ↦ job_read_from line (job.template ++ (budget_part job.budget ++ contexts_part job.contexts)) job e p.0 q.0 (run_all job.template job.budget job.contexts r.0 (leb-true 1 job.budget m.0) (leb-true job.budget 10000000 m.1) t.0)
      | inr e ↦ job_read_from line (job.template ++ contexts_part job.contexts) job e.1 p.0 q.0 (run_default job.template job.contexts r.0 t.0 ∙ ap (λ n. Some (job.template, n, job.contexts)) (sym e.0))
    ]
