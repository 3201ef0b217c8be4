-- Steps of the loops over the parts of a stream.
use Rattle.std.proofs.Common.{◌≡◌, ◌≢◌, ℕ, zero, suc, ◌+◌, ◌-◌, ◌<◌, ◌≤◌, Bool, true, false, List, [], ◌∷◌, ◌++◌, length, get_or, take, drop, refl, sym, ap, subst, ◌∙◌, arith, append_assoc}
use Rattle.std.specs.Prelude.{◌&&◌}
use Rattle.std.proofs.lemmas.List.{append-nil, at_drop_all, drop_more, take_more}
use Rattle.s38_base.specs.declared.page.Change.{Change}
use Rattle.s38_codec.proofs.CodecLaws.{both_true}
use Rattle.std.specs.Prelude.{is_some}
use Rattle.s38_image.specs.Fitting.{AreWhole}
use Rattle.s38_image.specs.Pages.{are_pages, bytes_of_page, is_page, stream}

pub pages_step : (number first count i : ℕ) (ps : List Change) (d : Change) → length ps ≡ count → i < count → are_pages number (first + i) (count - i) (drop i ps) ≡ (is_page number (first + i) (get_or ps i d) && are_pages number (first + (i + 1)) (count - (i + 1)) (drop (i + 1) ps))
unfolding are_pages
pages_step number first count i ps d long lt =
    let k : count - i ≡ suc (count - (i + 1)) = omega arith in
    let next : first + i + 1 ≡ first + (i + 1) = omega arith in
    ap (λ (n : ℕ). are_pages number (first + i) n (drop i ps)) k
    ∙ ap (λ (q : List Change). are_pages number (first + i) (suc (count - (i + 1))) q) (drop_more ps i d (omega arith))
    ∙ ap (λ (n : ℕ). is_page number (first + i) (get_or ps i d) && are_pages number n (count - (i + 1)) (drop (i + 1) ps)) next

-- no page is left
pub pages_end : (number first count i : ℕ) (ps : List Change) → length ps ≡ count → count ≤ i → are_pages number (first + i) (count - i) (drop i ps) ≡ true
unfolding are_pages
pages_end number first count i ps long le =
    let k : count - i ≡ 0 = omega arith in
    ap (λ (n : ℕ). are_pages number (first + i) n (drop i ps)) k ∙ at_drop_all (λ (q : List Change). are_pages number (first + i) 0 q) ps i (omega arith)

pub pages_long : (number first count : ℕ) (ps : List Change) → are_pages number first count ps ≡ true → length ps ≡ count
unfolding are_pages
pages_long number first zero [] h = refl
pages_long number first zero (c ∷ ps) h = absurd cc
pages_long number first (suc n) [] h = absurd cc
pages_long number first (suc n) (c ∷ ps) h = ap suc (pages_long number (first + 1) n ps (both_true (is_page number first c) (are_pages number (first + 1) n ps) h).1)

not_true : (b : Bool) → (b ≡ true → ⊥) → false ≡ b
not_true true f = absurd (f refl)
not_true false f = refl

pub pages_apart : (number first count : ℕ) (ps : List Change) → length ps ≢ count → false ≡ are_pages number first count ps
pages_apart number first count ps apart = not_true (are_pages number first count ps) (λ h. apart (pages_long number first count ps h))

pub not_both : (a b c : Bool) → a ≡ false → c ≡ (a && b) → false ≡ c
not_both false b c h e = sym e
not_both true b c h e = absurd cc

-- a part that is no page of its number
pub page_fails : (number first count part i : ℕ) (ps : List Change) (d : Change) (b total : Bool) → length ps ≡ count → i < count → part ≡ first + i → b ≡ is_page number part (get_or ps i d) → b ≡ false
    → are_pages number (first + i) (count - i) (drop i ps) ≡ total → false ≡ total
page_fails number first count part i ps d b total long lt at is fails so_far =
    let one : is_page number (first + i) (get_or ps i d) ≡ false = ap (λ (n : ℕ). is_page number n (get_or ps i d)) (sym at) ∙ sym is ∙ fails in
    not_both (is_page number (first + i) (get_or ps i d)) (are_pages number (first + (i + 1)) (count - (i + 1)) (drop (i + 1) ps)) total one (sym so_far ∙ pages_step number first count i ps d long lt)

both_of : (a b c : Bool) → a ≡ true → c ≡ (a && b) → b ≡ c
both_of true b c h e = sym e
both_of false b c h e = absurd cc

-- a part that is the page of its number
pub page_holds : (number first count part i : ℕ) (ps : List Change) (d : Change) (b total : Bool) → length ps ≡ count → i < count → part ≡ first + i → b ≡ is_page number part (get_or ps i d) → b ≡ true
    → are_pages number (first + i) (count - i) (drop i ps) ≡ total → are_pages number (first + (i + 1)) (count - (i + 1)) (drop (i + 1) ps) ≡ total
page_holds number first count part i ps d b total long lt at is holds so_far =
    let one : is_page number (first + i) (get_or ps i d) ≡ true = ap (λ (n : ℕ). is_page number n (get_or ps i d)) (sym at) ∙ sym is ∙ holds in
    both_of (is_page number (first + i) (get_or ps i d)) (are_pages number (first + (i + 1)) (count - (i + 1)) (drop (i + 1) ps)) total one (sym so_far ∙ pages_step number first count i ps d long lt)

pub stream_append : (ps qs : List Change) → stream (ps ++ qs) ≡ stream ps ++ stream qs
stream_append [] qs = refl
stream_append (p ∷ ps) qs = ap (λ (t : List ℕ). bytes_of_page p.page ++ t) (stream_append ps qs) ∙ sym (append_assoc (bytes_of_page p.page) (stream ps) (stream qs))

-- the bytes of one more page
pub stream_more : (ps : List Change) (i : ℕ) (d : Change) → i < length ps → stream (take (i + 1) ps) ≡ stream (take i ps) ++ bytes_of_page (get_or ps i d).page
stream_more ps i d lt =
    ap stream (take_more ps i d lt) ∙ stream_append (take i ps) (get_or ps i d ∷ []) ∙ ap (λ (t : List ℕ). stream (take i ps) ++ t) (append-nil (bytes_of_page (get_or ps i d).page))

pub whole_none : (ps : List Change) → AreWhole (take 0 ps)
unfolding AreWhole
whole_none ps = tt

whole_added : (xs : List Change) (p : Change) → AreWhole xs → (is_some p.page ≡ true → length (bytes_of_page p.page) ≡ 512) → AreWhole (xs ++ p ∷ [])
unfolding AreWhole
whole_added [] p ok one = (one, tt)
whole_added (x ∷ xs) p ok one = (ok.0, whole_added xs p ok.1 one)

-- one more whole page
pub whole_more : (ps : List Change) (i : ℕ) (d : Change) → i < length ps → AreWhole (take i ps) → (is_some (get_or ps i d).page ≡ true → length (bytes_of_page (get_or ps i d).page) ≡ 512) → AreWhole (take (i + 1) ps)
whole_more ps i d lt ok one = subst AreWhole (sym (take_more ps i d lt)) (whole_added (take i ps) (get_or ps i d) ok one)

-- the bytes of one more page after those before
pub joined_more : (ps : List Change) (i : ℕ) (d : Change) (old new : List ℕ) → i < length ps → new ≡ old ++ bytes_of_page (get_or ps i d).page → old ≡ stream (take i ps) → new ≡ stream (take (i + 1) ps)
joined_more ps i d old new lt more so_far = more ∙ ap (λ (t : List ℕ). t ++ bytes_of_page (get_or ps i d).page) so_far ∙ sym (stream_more ps i d lt)
