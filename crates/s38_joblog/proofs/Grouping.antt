-- One more entry, and one more job.
use Rattle.std.proofs.Common.{◌≡◌, ℕ, ◌+◌, ◌<◌, suc, true, false, cond, eqb, List, [], ◌∷◌, ◌++◌, map, length, get_or, take, append-nil, append_assoc, refl, sym, ◌∙◌, ap, arith}
use Rattle.std.specs.List.{enumerate_from, filter, flat_map}
use Rattle.std.proofs.lemmas.List.{map-append, take_more, length-take-le}
use Rattle.std.proofs.lemmas.List.Elements.{filter-append}
use Rattle.std.proofs.lemmas.List.Concat.{flat_map-append}
use Rattle.s38_code.specs.declared.deck.Job.{Job}
use Rattle.s38_code.specs.declared.entry.Entry.{Entry}
use Rattle.s38_joblog.specs.Log.{entry_line, is_of_job, job_head_line, job_log_text, lines_of, log_text, placed_line}
use Rattle.s38_joblog.specs.Grouped.{AreGrouped, Gains, head, heads, own_line}

enumerate_from-push : {X : Type 0} (n : ℕ) (xs : List X) (x : X) → enumerate_from n (xs ++ x ∷ []) ≡ enumerate_from n xs ++ (n + length xs, x) ∷ []
enumerate_from-push n [] x = ap (λ k. (k, x) ∷ []) (omega arith)
enumerate_from-push n (y ∷ ys) x =
    ap (λ rest. (n, y) ∷ rest) (enumerate_from-push (n + 1) ys x ∙ ap (λ k. enumerate_from (n + 1) ys ++ (k, x) ∷ []) (omega arith))

one_line : (number position : ℕ) (e : Entry) → flat_map placed_line (filter (is_of_job number) ((position, e) ∷ [])) ≡ own_line number position e
one_line number position e =
    elim (eqb e.process number) as (λ b. flat_map placed_line (cond b ((position, e) ∷ []) []) ≡ cond b (entry_line position e) [])
    [ true ↦ append-nil (entry_line position e) | false ↦ refl ]

lines_of-push : (number : ℕ) (history : List Entry) (e : Entry) → lines_of number (history ++ e ∷ []) ≡ lines_of number history ++ own_line number (1 + length history) e
unfolding lines_of
lines_of-push number history e =
    ap (λ placed. flat_map placed_line (filter (is_of_job number) placed)) (enumerate_from-push 1 history e)
    ∙ (ap (λ placed. flat_map placed_line placed) (filter-append (is_of_job number) (enumerate_from 1 history) ((1 + length history, e) ∷ []))
    ∙ (flat_map-append placed_line (filter (is_of_job number) (enumerate_from 1 history)) (filter (is_of_job number) ((1 + length history, e) ∷ []))
    ∙ ap (λ line. flat_map placed_line (filter (is_of_job number) (enumerate_from 1 history)) ++ line) (one_line number (1 + length history) e)))

-- the front of a list with its next element
front_more : {X : Type 0} (xs : List X) (i : ℕ) (x : X) → i < length xs → x ≡ get_or xs i x → take (i + 1) xs ≡ take i xs ++ x ∷ []
front_more xs i x h at = take_more xs i x h ∙ ap (λ y. take i xs ++ y ∷ []) (sym at)

front_length : {X : Type 0} (xs : List X) (i : ℕ) → i < length xs → length (take i xs) ≡ i
front_length xs i h = length-take-le i xs (omega arith)

-- no entry, and the first lines
pub AreGrouped-none : (first texts : List (List ℕ)) → texts ≡ first → AreGrouped first [] texts
unfolding lines_of
AreGrouped-none first texts e = record { lines = λ j h. ap (λ xs. get_or xs j []) e ∙ sym (append-nil (get_or first j [])) }

pub AreGrouped-more : (first : List (List ℕ)) (history : List Entry) (i : ℕ) (e : Entry) (old new : List (List ℕ)) → i < length history → e ≡ get_or history i e →
    AreGrouped first (take i history) old → Gains (i + 1) e old new → AreGrouped first (take (i + 1) history) new
AreGrouped-more first history i e old new h at grouped gains = record {
  lines = λ j within.
      let front : lines_of (j + 1) (take (i + 1) history) ≡ lines_of (j + 1) (take i history ++ e ∷ []) = ap (λ xs. lines_of (j + 1) xs) (front_more history i e h at) in
      let position : 1 + length (take i history) ≡ i + 1 = let n = front_length history i h in omega arith in
      let inside : j < length old = let n = gains.count in omega arith in
      gains.lines j inside
      ∙ (ap (λ text. text ++ own_line (j + 1) (i + 1) e) (grouped.lines j inside)
      ∙ (append_assoc (get_or first j []) (lines_of (j + 1) (take i history)) (own_line (j + 1) (i + 1) e)
      ∙ ap (λ lines. get_or first j [] ++ lines) (sym (front ∙ (lines_of-push (j + 1) (take i history) e ∙ ap (λ p. lines_of (j + 1) (take i history) ++ own_line (j + 1) p e) position)))));
}

-- the first lines of the first jobs with that of the next
pub heads-more : (jobs : List Job) (k : ℕ) (job : Job) → k < length jobs → job ≡ get_or jobs k job →
    heads (take (k + 1) jobs) ≡ heads (take k jobs) ++ job_head_line (k + 1) job ∷ []
heads-more jobs k job h at =
    let position : 1 + length (take k jobs) ≡ k + 1 = let n = front_length jobs k h in omega arith in
    ap heads (front_more jobs k job h at)
    ∙ (ap (λ placed. map head placed) (enumerate_from-push 1 (take k jobs) job)
    ∙ (map-append head (enumerate_from 1 (take k jobs)) ((1 + length (take k jobs), job) ∷ [])
    ∙ ap (λ p. heads (take k jobs) ++ job_head_line p job ∷ []) position))

-- each job has one
heads_from : (n : ℕ) (jobs : List Job) → length (map head (enumerate_from n jobs)) ≡ length jobs
heads_from n [] = refl
heads_from n (job ∷ jobs) = ap (λ k. suc k) (heads_from (n + 1) jobs)

pub heads-count : (jobs : List Job) → length (heads jobs) ≡ length jobs
heads-count jobs = heads_from 1 jobs

texts_from : (n : ℕ) (history : List Entry) (jobs : List Job) (texts : List (List ℕ)) → length texts ≡ length jobs
    → ((j : ℕ) → j < length texts → get_or texts j [] ≡ get_or (map head (enumerate_from n jobs)) j [] ++ lines_of (n + j) history)
    → flat_map (λ (t : List ℕ). t) texts ≡ flat_map (job_log_text history) (enumerate_from n jobs)
texts_from n history [] [] count each = refl
texts_from n history [] (text ∷ texts) count each = cc
texts_from n history (job ∷ jobs) [] count each = cc
texts_from n history (job ∷ jobs) (text ∷ texts) count each =
    let here : text ≡ job_head_line n job ++ lines_of n history = each 0 (omega arith) ∙ ap (λ m. job_head_line n job ++ lines_of m history) (omega arith) in
    let rest = texts_from (n + 1) history jobs texts (omega (arith, count))
    (λ j h. each (suc j) (omega (arith, h)) ∙ ap (λ m. get_or (map head (enumerate_from (n + 1) jobs)) j [] ++ lines_of m history) (omega arith)) in
    ap (λ t. t ++ flat_map (λ (t : List ℕ). t) texts) here ∙ ap (λ t. (job_head_line n job ++ lines_of n history) ++ t) rest

-- the texts one after another are the log
pub whole_log : (history : List Entry) (jobs : List Job) (texts : List (List ℕ)) → length texts ≡ length jobs → AreGrouped (heads jobs) history texts
    → flat_map (λ (t : List ℕ). t) texts ≡ log_text history jobs
unfolding log_text
whole_log history jobs texts count grouped =
    texts_from 1 history jobs texts count (λ j h. grouped.lines j h ∙ ap (λ m. get_or (heads jobs) j [] ++ lines_of m history) (omega arith))
