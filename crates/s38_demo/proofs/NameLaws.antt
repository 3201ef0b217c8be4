-- The names of the generated deck's templates and jobs differ, and each job's template is there.
use Rattle.std.proofs.Common.{◌≡◌, ℕ, ◌+◌, ◌^◌, ◌<◌, ◌≤◌, Bool, true, false, ◌&&◌, ◌||◌, not, nat_le, List, [], ◌∷◌, ◌++◌, map, drop, codes, refl, sym, ap, ◌∙◌, subst, arith, zero, suc, inl, inr}
use Rattle.std.proofs.lemmas.Bool.{and_from, cases_Bool, leb-true, not_from_false, or_left, or_right}
use Rattle.std.proofs.lemmas.Bool.Decides.{nat_tests}
use Rattle.std.proofs.lemmas.Fmt.{decimal_injective}
use Rattle.std.proofs.lemmas.Slice.Eq.{bytes_eq-Decides}
use Rattle.std.specs.List.{list_all, range_with_len}
use Rattle.std.specs.Prelude.{decimal}
use Rattle.std.specs.Str.{bytes_eq}
use Rattle.s38_code.specs.declared.deck.Job.{Job}
use Rattle.s38_template.specs.Grammar.{are_new, has, name_of, name_of_job, template_names}
use Rattle.s38_demo.specs.GeneratedDeck.{generated, generated_job, job_of_post, post, post_head, post_name, setup, total, up_to}
use Rattle.s38_demo.proofs.CheckedLaws.{PostFacts, post_facts}

abbrev pub setup_name : List ℕ
setup_name = codes "SETUP"

abbrev pub total_name : List ℕ
total_name = codes "TOTAL"

-- the names of postings from a on, and that of the total
abbrev pub names_from : ℕ → ℕ → List (List ℕ)
names_from a k = map post_name (range_with_len a k) ++ total_name ∷ []

abbrev pub names : ℕ → List (List ℕ)
names n = setup_name ∷ names_from 1 n

not_same : (i j : ℕ) → i < j → j ≤ 200 → bytes_eq (post_name i) (post_name j) ≡ false
not_same i j less last =
    elim (cases_Bool (bytes_eq (post_name i) (post_name j))) [
      | inl e ↦ absurd (
          let same : decimal i ≡ decimal j = ap (drop 4) ((bytes_eq-Decides (post_name i) (post_name j)).0 e) in
          omega (arith, less, decimal_injective i j (omega (arith, less, last)) (omega (arith, last)) same))
      | inr e ↦ e
    ]

has_not : (seen : List (List ℕ)) (x name : List ℕ) → has seen name ≡ false → bytes_eq x name ≡ false → has (seen ++ x ∷ []) name ≡ false
has_not [] x name h e = rw e refl
has_not (y ∷ ys) x name h e =
    elim (cases_Bool (bytes_eq y name)) [
      | inl t ↦ absurd (let wrong : true ≡ false = rw t at h in cc)
      | inr f ↦ rw f (has_not ys x name (rw f at h) e)
    ]

new_posts : (seen : List (List ℕ)) (a k : ℕ) → a + k ≤ 201 → ((j : ℕ) → a ≤ j → j ≤ 200 → has seen (post_name j) ≡ false) → has seen total_name ≡ false → are_new seen (names_from a k) ≡ true
new_posts seen a zero few others last = and_from (not (has seen total_name)) true (not_from_false (has seen total_name) last) refl
new_posts seen a (suc k) few others last =
    and_from (not (has seen (post_name a))) (are_new (seen ++ post_name a ∷ []) (names_from (a + 1) k))
    (not_from_false (has seen (post_name a)) (others a (omega arith) (omega (arith, few))))
    (new_posts (seen ++ post_name a ∷ []) (a + 1) k (omega (arith, few))
    (λ j low high. has_not seen (post_name a) (post_name j) (others j (omega (arith, low)) high) (not_same a j (omega (arith, low)) high))
    (has_not seen (post_name a) total_name last refl))

pub names_new : (n : ℕ) → n ≤ 200 → are_new [] (names n) ≡ true
names_new n last = new_posts (setup_name ∷ []) 1 n (omega (arith, last)) (λ j low high. refl) refl

same_text : (xs : List ℕ) → bytes_eq xs xs ≡ true
same_text xs = (bytes_eq-Decides xs xs).1 refl

has_last : (xs : List (List ℕ)) (name : List ℕ) → has (xs ++ name ∷ []) name ≡ true
has_last [] name = or_left (bytes_eq name name) false (same_text name)
has_last (x ∷ xs) name = or_right (bytes_eq x name) (has (xs ++ name ∷ []) name) (has_last xs name)

has_post : (a k j : ℕ) → a ≤ j → j < a + k → has (names_from a k) (post_name j) ≡ true
has_post a zero j low high = absurd (omega (arith, low, high))
has_post a (suc k) j low high =
    elim (cases_Bool (nat_le j a)) [
      | inl e ↦ let same : a ≡ j = omega (arith, low, leb-true j a e) in
          or_left (bytes_eq (post_name a) (post_name j)) (has (names_from (a + 1) k) (post_name j)) (subst (λ x. bytes_eq (post_name a) (post_name x) ≡ true) same (same_text (post_name a)))
      | inr e ↦ let more : a + 1 ≤ j = grind (arith, nat_tests, e) in
          or_right (bytes_eq (post_name a) (post_name j)) (has (names_from (a + 1) k) (post_name j)) (has_post (a + 1) k j more (omega (arith, high)))
    ]

-- jobs of postings from a on, and that of the total
abbrev pub jobs_from : ℕ → ℕ → List Job
jobs_from a k = map job_of_post (range_with_len a k) ++ generated_job 3 total_name ∷ []

found_from : (n a k : ℕ) → 1 ≤ a → a + k ≤ n + 1 → list_all (λ (job : Job). has (names n) job.template) (jobs_from a k) ≡ true
found_from n a zero low high = and_from (has (names n) total_name) true (has_last (setup_name ∷ map post_name (range_with_len 1 n)) total_name) refl
found_from n a (suc k) low high =
    and_from (has (names n) (post_name a)) (list_all (λ (job : Job). has (names n) job.template) (jobs_from (a + 1) k))
    (has_post 1 n a low (omega (arith, high)))
    (found_from n (a + 1) k (omega (arith, low)) (omega (arith, high)))

pub jobs_found : (n : ℕ) → list_all (λ (job : Job). has (names n) job.template) (generated n).jobs ≡ true
jobs_found n = found_from n 1 n (omega arith) (omega arith)

job_names_from : (a k : ℕ) → map name_of_job (jobs_from a k) ≡ names_from a k
job_names_from a zero = refl
job_names_from a (suc k) = ap (λ l. post_name a ∷ l) (job_names_from (a + 1) k)

pub job_names : (n : ℕ) → map name_of_job (generated n).jobs ≡ names n
job_names n = ap (λ l. setup_name ∷ l) (job_names_from 1 n)

total_named : name_of total ≡ total_name
unfolding total
total_named = refl

setup_named : name_of setup ≡ setup_name
unfolding setup
setup_named = refl

template_names_from : (a k : ℕ) → 1 ≤ a → a + k ≤ 201 → template_names (map post (range_with_len a k) ++ total ∷ []) ≡ names_from a k
template_names_from a zero low high = ap (λ name. name ∷ []) total_named
template_names_from a (suc k) low high =
    ap (λ name. name ∷ template_names (map post (range_with_len (a + 1) k) ++ total ∷ [])) (post_facts a low (omega (arith, high))).called
    ∙ ap (λ l. post_name a ∷ l) (template_names_from (a + 1) k (omega (arith, low)) (omega (arith, high)))

pub names_are : (n : ℕ) → n ≤ 200 → template_names (generated n).templates ≡ names n
names_are n last =
    ap (λ name. name ∷ template_names (map post (up_to n) ++ total ∷ [])) setup_named
    ∙ ap (λ l. setup_name ∷ l) (template_names_from 1 n (omega arith) (omega (arith, last)))
