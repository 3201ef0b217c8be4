-- The parts of a stream: which are there, and how many are new.
use Rattle.std.proofs.Common.{◌≡◌, ◌+◌, ◌-◌, ◌*◌, ◌<◌, ◌==◌, ◌≤◌, ◌∙◌, ◌∷◌, [], Bool, List, Some, ap, arith, cond, drop, false, length, refl, suc, true, zero, ℕ}
use Rattle.std.proofs.lemmas.Bool.Decides.{nat_tests}
use Rattle.std.proofs.lemmas.List.Sums.{sum_by-cons}
use Rattle.std.specs.FinMap.{contains_key}
use Rattle.std.specs.Ordering.{eq_by_cmp}
use Rattle.std.specs.Prelude.{is_some, not}
use Rattle.s38_base.specs.declared.page.Change.{Change}
use Rattle.s38_base.specs.declared.page.Key.{Key}
use Rattle.s38_page_diff.proofs.WalkLaws.{key_at, key_itself, not_above, part_below}
use Rattle.s38_page_diff.specs.Differences.{wanted_at}
use Rattle.s38_image.specs.Pages.{needed, numbered_pieces, page_pieces, page_put_at, stream_parts, zero_filled}
use Rattle.s38_vault.specs.Directory.{Keys, is_new, new_keys}
use Rattle.s38_vault.specs.Keys.{key_cmp}

-- ---- which are there

-- a list of changes has so many parts, from one on
abbrev pub AreThere : ℕ → ℕ → ℕ → List Change → Type 0
AreThere number first count cs = (p : ℕ) → first ≤ p → p < first + count → is_some (wanted_at cs (key_at number p)) ≡ true

first_or_later : (number first p : ℕ) (bytes : List ℕ) (tags : ℕ) (cs : List Change) (count : ℕ) → AreThere number (first + 1) count cs → first ≤ p → p < first + suc count → is_some (wanted_at (page_put_at number first bytes tags ∷ cs) (key_at number p)) ≡ true
first_or_later number first p bytes tags cs count rest low high = by (p == first) refl
  where
    here : Key
    here = key_at number first

    by : (b : Bool) → (p == first) ≡ b → is_some (wanted_at (page_put_at number first bytes tags ∷ cs) (key_at number p)) ≡ true
    by true is =
        let same : p ≡ first = grind (arith, nat_tests) in
        let equal : eq_by_cmp key_cmp (key_at number p) here ≡ true = ap (λ (k : ℕ). eq_by_cmp key_cmp (key_at number k) here) same ∙ key_itself here in
        ap (λ b. is_some (cond b (Some (record { bytes = bytes; tags = tags })) (wanted_at cs (key_at number p)))) equal
    by false is =
        let above : first < p = grind (arith, nat_tests) in
        let other : eq_by_cmp key_cmp (key_at number p) here ≡ false = not_above here (key_at number p) (part_below here (key_at number p) refl above) in
        ap (λ b. is_some (cond b (Some (record { bytes = bytes; tags = tags })) (wanted_at cs (key_at number p)))) other ∙ rest p (omega (arith, above)) (omega (arith, high))

numbered_there : (number first : ℕ) (pages : List (List ℕ)) (tags : List ℕ) → AreThere number first (length pages) (numbered_pieces number first pages tags)
unfolding numbered_pieces
numbered_there number first [] tags p low high = absurd (omega (arith, low, high))
numbered_there number first (bytes ∷ pages) [] p low high = first_or_later number first p bytes 0 (numbered_pieces number (first + 1) pages []) (length pages) (numbered_there number (first + 1) pages []) low high
numbered_there number first (bytes ∷ pages) (t ∷ tags) p low high = first_or_later number first p bytes t (numbered_pieces number (first + 1) pages tags) (length pages) (numbered_there number (first + 1) pages tags) low high

cut_long : (n : ℕ) (xs : List ℕ) → length (page_pieces n xs) ≡ n
unfolding page_pieces
cut_long zero xs = refl
cut_long (suc n) xs = ap suc (cut_long n (drop 512 xs))

pub stream_there : (number first : ℕ) (bytes tags : List ℕ) (p : ℕ) → first ≤ p → p < first + needed (length bytes) → is_some (wanted_at (stream_parts number first bytes tags) (key_at number p)) ≡ true
stream_there number first bytes tags p low high =
    let long = cut_long (needed (length bytes)) (zero_filled (512 * needed (length bytes)) bytes) in
    numbered_there number first (page_pieces (needed (length bytes)) (zero_filled (512 * needed (length bytes)) bytes)) tags p low (omega (arith, high, long))

-- ---- how many are new

-- so many keys are there from one on
abbrev pub HaveParts : Keys → ℕ → ℕ → ℕ → Type 0
HaveParts keys number first count = (p : ℕ) → first ≤ p → p < first + count → contains_key keys (key_at number p) ≡ true

one_new : (keys : Keys) (number first : ℕ) (bytes : List ℕ) (tags : ℕ) (cs : List Change) (total count : ℕ) → HaveParts keys number first count
    → (HaveParts keys number (first + 1) (count - 1) → new_keys keys cs ≤ total - (count - 1)) → new_keys keys (page_put_at number first bytes tags ∷ cs) ≤ suc total - count
one_new keys number first bytes tags cs total zero have rest =
    let few = rest (λ p low high. absurd (omega (arith, low, high))) in
    let most = one_most (is_new keys (page_put_at number first bytes tags)) in
    let sum = sum_by-cons (λ c. cond (is_new keys c) 1 0) (page_put_at number first bytes tags) cs in
    omega (arith, few, most, sum)
  where
    one_most : (b : Bool) → cond b 1 0 ≤ 1
    one_most true = omega arith
    one_most false = omega arith
one_new keys number first bytes tags cs total (suc count) have rest =
    let few = rest (λ p low high. have p (omega (arith, low)) (omega (arith, high))) in
    let old : contains_key keys (key_at number first) ≡ true = have first (omega arith) (omega arith) in
    let none : ◌≡◌ {A = ℕ} (cond (is_new keys (page_put_at number first bytes tags)) 1 0) 0 = ap (λ b. cond (not b) 1 0) old in
    let sum = sum_by-cons (λ c. cond (is_new keys c) 1 0) (page_put_at number first bytes tags) cs in
    omega (arith, few, none, sum)

numbered_new : (keys : Keys) (number first : ℕ) (pages : List (List ℕ)) (tags : List ℕ) (count : ℕ) → HaveParts keys number first count → new_keys keys (numbered_pieces number first pages tags) ≤ length pages - count
unfolding numbered_pieces
numbered_new keys number first [] tags count have = omega arith
numbered_new keys number first (bytes ∷ pages) [] count have =
    one_new keys number first bytes 0 (numbered_pieces number (first + 1) pages []) (length pages) count have (numbered_new keys number (first + 1) pages [] (count - 1))
numbered_new keys number first (bytes ∷ pages) (t ∷ tags) count have =
    one_new keys number first bytes t (numbered_pieces number (first + 1) pages tags) (length pages) count have (numbered_new keys number (first + 1) pages tags (count - 1))

-- a stream brings no more new parts than it is longer
pub stream_new : (keys : Keys) (number first : ℕ) (bytes tags : List ℕ) (count : ℕ) → HaveParts keys number first count → new_keys keys (stream_parts number first bytes tags) ≤ needed (length bytes) - count
stream_new keys number first bytes tags count have =
    let pages = page_pieces (needed (length bytes)) (zero_filled (512 * needed (length bytes)) bytes) in
    let long = cut_long (needed (length bytes)) (zero_filled (512 * needed (length bytes)) bytes) in
    let few = numbered_new keys number first pages tags count have in
    omega (arith, few, long)
