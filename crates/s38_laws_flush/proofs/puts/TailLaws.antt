-- The pages of a stream and of one that begins with it: those that lie within the shorter one are the same.
use Rattle.std.proofs.Common.{◌≡◌, ◌∙◌, ℕ, zero, suc, ◌+◌, ◌-◌, ◌*◌, ◌/◌, ◌<◌, ◌≤◌, ◌==◌, Bool, true, false, cond, List, [], ◌∷◌, ◌++◌, length, take, drop, refl, sym, ap, arith, length-append}
use Rattle.std.proofs.lemmas.Bool.Decides.{nat_tests}
use Rattle.std.proofs.lemmas.List.{append_assoc, drop-append-le, length-drop, take-append-le}
use Rattle.std.specs.Ordering.{eq_by_cmp}
use Rattle.std.specs.Prelude.{Some}
use Rattle.s38_base.specs.declared.page.Change.{Change}
use Rattle.s38_codec.specs.Codec.{copies}
use Rattle.s38_page_diff.proofs.WalkLaws.{key_at, key_itself, not_above, part_below}
use Rattle.s38_page_diff.specs.Differences.{wanted_at}
use Rattle.s38_image.specs.Pages.{needed, numbered_pieces, page_pieces, page_put_at, stream_parts}
use Rattle.s38_vault.specs.Keys.{key_cmp}

-- the page of the first part, and those of later ones
at_first : (n first p : ℕ) (bytes : List ℕ) (cs : List Change) → first ≡ p → wanted_at (page_put_at n first bytes 0 ∷ cs) (key_at n p) ≡ Some (record { bytes = bytes; tags = 0 })
at_first n first p bytes cs same =
    ap (λ (k : ℕ). cond (eq_by_cmp key_cmp (key_at n k) (key_at n first)) (Some (record { bytes = bytes; tags = 0 })) (wanted_at cs (key_at n k))) (sym same)
    ∙ ap (λ b. cond b (Some (record { bytes = bytes; tags = 0 })) (wanted_at cs (key_at n first))) (key_itself (key_at n first))

at_later : (n first p : ℕ) (bytes : List ℕ) (cs : List Change) → first < p → wanted_at (page_put_at n first bytes 0 ∷ cs) (key_at n p) ≡ wanted_at cs (key_at n p)
at_later n first p bytes cs above =
    ap (λ b. cond b (Some (record { bytes = bytes; tags = 0 })) (wanted_at cs (key_at n p))) (not_above (key_at n first) (key_at n p) (part_below (key_at n first) (key_at n p) refl above))

-- of two streams that begin alike
same_pages : (n q first k l p : ℕ) (xs ys zs : List ℕ) → 512 * q ≤ length xs → q ≤ k → q ≤ l → first ≤ p → p < first + q
    → wanted_at (numbered_pieces n first (page_pieces k (xs ++ ys)) []) (key_at n p) ≡ wanted_at (numbered_pieces n first (page_pieces l (xs ++ zs)) []) (key_at n p)
unfolding page_pieces numbered_pieces
same_pages n zero first k l p xs ys zs long some more low high = absurd (omega (arith, low, high))
same_pages n (suc q) first zero l p xs ys zs long some more low high = absurd (omega (arith, some))
same_pages n (suc q) first (suc k) zero p xs ys zs long some more low high = absurd (omega (arith, more))
same_pages n (suc q) first (suc k) (suc l) p xs ys zs long some more low high =
    by (same_pages n q (first + 1) k l p (drop 512 xs) ys zs (omega (arith, long, length-drop 512 xs)) (omega (arith, some)) (omega (arith, more))) (first == p) refl
  where
    enough : 512 ≤ length xs
    enough = omega (arith, long)

    head : (ws : List ℕ) → take 512 (xs ++ ws) ≡ take 512 xs
    head ws = take-append-le 512 xs ws enough

    tail : (ws : List ℕ) → drop 512 (xs ++ ws) ≡ drop 512 xs ++ ws
    tail ws = drop-append-le 512 xs ws enough

    by : (first + 1 ≤ p → p < first + 1 + q → wanted_at (numbered_pieces n (first + 1) (page_pieces k (drop 512 xs ++ ys)) []) (key_at n p) ≡ wanted_at (numbered_pieces n (first + 1) (page_pieces l (drop 512 xs ++ zs)) []) (key_at n p))
        → (b : Bool) → (first == p) ≡ b
        → wanted_at (page_put_at n first (take 512 (xs ++ ys)) 0 ∷ numbered_pieces n (first + 1) (page_pieces k (drop 512 (xs ++ ys))) []) (key_at n p)
        ≡ wanted_at (page_put_at n first (take 512 (xs ++ zs)) 0 ∷ numbered_pieces n (first + 1) (page_pieces l (drop 512 (xs ++ zs))) []) (key_at n p)
    by rest true is =
        let same : first ≡ p = grind (arith, nat_tests) in
        at_first n first p _ _ same ∙ ap (λ (bs : List ℕ). Some (record { bytes = bs; tags = 0 })) (head ys ∙ sym (head zs)) ∙ sym (at_first n first p _ _ same)
    by rest false off =
        let above : first < p = grind (arith, nat_tests) in
        at_later n first p _ _ above ∙ ap (λ (bs : List ℕ). wanted_at (numbered_pieces n (first + 1) (page_pieces k bs) []) (key_at n p)) (tail ys) ∙ rest (omega (arith, above)) (omega (arith, high))
        ∙ sym (ap (λ (bs : List ℕ). wanted_at (numbered_pieces n (first + 1) (page_pieces l bs) []) (key_at n p)) (tail zs)) ∙ sym (at_later n first p _ _ above)

-- a page that lies within a stream stays where more follows
pub stream_longer : (n first p : ℕ) (xs more : List ℕ) → first ≤ p → p < first + length xs / 512
    → wanted_at (stream_parts n first xs []) (key_at n p) ≡ wanted_at (stream_parts n first (xs ++ more) []) (key_at n p)
stream_longer n first p xs more low high =
    let k = needed (length xs) in
    let l = needed (length (xs ++ more)) in
    let long = length-append xs more in
    same_pages n (length xs / 512) first k l p xs (copies (512 * k - length xs) 0) (more ++ copies (512 * l - length (xs ++ more)) 0) (omega arith) (omega arith) (omega (arith, long)) low high
    ∙ ap (λ (bs : List ℕ). wanted_at (numbered_pieces n first (page_pieces l bs) []) (key_at n p)) (sym (append_assoc xs more (copies (512 * l - length (xs ++ more)) 0)))
