-- The pages of a stream that grew at its end: those that its old bytes filled stay.
use Rattle.std.proofs.Common.{◌≡◌, ◌+◌, ◌-◌, ◌*◌, ◌<◌, ◌≤◌, ◌∙◌, ◌∷◌, ◌++◌, [], List, None, Option, Some, ap, append-nil, arith, cond, drop, false, length, refl, subst, suc, sym, take, zero, ℕ}
use Rattle.std.proofs.lemmas.List.{drop-append-le, drop-drop, length-append, length-drop, take-append-le}
use Rattle.std.specs.Ordering.{eq_by_cmp}
use Rattle.s38_base.specs.declared.page.Change.{Change}
use Rattle.s38_base.specs.declared.page.Page.{Page}
use Rattle.s38_codec.specs.Codec.{copies}
use Rattle.s38_page_diff.proofs.WalkLaws.{key_at, key_itself, not_above, part_below}
use Rattle.s38_page_diff.specs.Differences.{wanted_at}
use Rattle.s38_image.specs.Pages.{needed, numbered_pieces, page_pieces, page_put_at, stream_parts, zero_filled}
use Rattle.s38_vault.specs.Keys.{key_cmp}
use Rattle.s38_flush.proofs.FrontLaws.{stream_from, wanted_after}

-- ---- one page

-- a stream of a page and more is its first page, and the stream of the rest
pub stream_step : (number first : ℕ) (bytes : List ℕ) → 512 ≤ length bytes → stream_parts number first bytes [] ≡ page_put_at number first (take 512 bytes) 0 ∷ stream_parts number (first + 1) (drop 512 bytes) []
unfolding page_pieces numbered_pieces
stream_step number first bytes long =
    let rest = drop 512 bytes in
    let all = zero_filled (512 * needed (length bytes)) bytes in
    let zeros = copies {A = ℕ} (512 * needed (length bytes) - length bytes) 0 in
    let short : length rest ≡ length bytes - 512 = length-drop 512 bytes in
    let count : needed (length bytes) ≡ suc (needed (length rest)) = omega (arith, short, long) in
    let size : 512 * needed (length bytes) - length bytes ≡ 512 * needed (length rest) - length rest = omega (arith, short, long, count) in
    let front : take 512 all ≡ take 512 bytes = take-append-le 512 bytes zeros long in
    let back : drop 512 all ≡ zero_filled (512 * needed (length rest)) rest =
    drop-append-le 512 bytes zeros long ∙ ap (λ (k : ℕ). rest ++ copies {A = ℕ} k 0) size in
    ap (λ (k : ℕ). numbered_pieces number first (page_pieces k all) []) count
    ∙ ap (λ (q : List ℕ). page_put_at number first q 0 ∷ numbered_pieces number (first + 1) (page_pieces (needed (length rest)) (drop 512 all)) []) front
    ∙ ap (λ (q : List ℕ). page_put_at number first (take 512 bytes) 0 ∷ numbered_pieces number (first + 1) (page_pieces (needed (length rest)) q) []) back

-- ---- after some pages

-- the parts after so many pages are those of the stream after them
pub stream_after : (number first k : ℕ) (bytes : List ℕ) (p : ℕ) → 512 * k ≤ length bytes → first + k ≤ p
    → wanted_at (stream_parts number first bytes []) (key_at number p) ≡ wanted_at (stream_parts number (first + k) (drop (512 * k) bytes) []) (key_at number p)
stream_after number first zero bytes p long far =
    let here : first ≡ first + 0 = omega arith in
    ap (λ (q : ℕ). wanted_at (stream_parts number q bytes []) (key_at number p)) here
stream_after number first (suc k) bytes p long far =
    let rest = drop 512 bytes in
    let page : Option Page = Some (record { bytes = take 512 bytes; tags = 0 }) in
    let other : eq_by_cmp key_cmp (key_at number p) (key_at number first) ≡ false = not_above (key_at number first) (key_at number p) (part_below (key_at number first) (key_at number p) refl (omega (arith, far))) in
    let next : first + 1 + k ≡ first + suc k = omega arith in
    let far_off : 512 + 512 * k ≡ 512 * suc k = omega arith in
    let dropped : drop (512 * k) rest ≡ drop (512 * suc k) bytes = drop-drop (512 * k) 512 bytes ∙ ap (λ (n : ℕ). drop n bytes) far_off in
    ap (λ (cs : List Change). wanted_at cs (key_at number p)) (stream_step number first bytes (omega (arith, long)))
    ∙ ap (λ b. cond b page (wanted_at (stream_parts number (first + 1) rest []) (key_at number p))) other
    ∙ stream_after number (first + 1) k rest p (omega (arith, long, length-drop 512 bytes)) (omega (arith, far))
    ∙ (λ i. wanted_at (stream_parts number (next i) (dropped i) []) (key_at number p))

-- a page that the bytes fill
pub page_filled : (number first k : ℕ) (bytes : List ℕ) → 512 * suc k ≤ length bytes
    → wanted_at (stream_parts number first bytes []) (key_at number (first + k)) ≡ Some (record { bytes = take 512 (drop (512 * k) bytes); tags = 0 })
page_filled number first k bytes long =
    let rest = drop (512 * k) bytes in
    let at = key_at number (first + k) in
    let page : Option Page = Some (record { bytes = take 512 rest; tags = 0 }) in
    stream_after number first k bytes (first + k) (omega (arith, long)) (omega arith)
    ∙ ap (λ (cs : List Change). wanted_at cs at) (stream_step number (first + k) rest (omega (arith, long, length-drop (512 * k) bytes)))
    ∙ ap (λ b. cond b page (wanted_at (stream_parts number (first + k + 1) (drop 512 rest) []) at)) (key_itself at)

-- no part lies after the last page
pub none_after : (number first : ℕ) (bytes : List ℕ) (p : ℕ) → first + needed (length bytes) ≤ p → wanted_at (stream_parts number first bytes []) (key_at number p) ≡ None
none_after number first bytes p far =
    ap (λ (cs : List Change). wanted_at cs (key_at number p)) (sym (append-nil (stream_parts number first bytes [])))
    ∙ wanted_after number first (first + needed (length bytes)) p (stream_parts number first bytes []) [] (stream_from number first bytes []) far

-- ---- more bytes after

-- a page that is filled stays
pub page_stays : (number first k : ℕ) (old more : List ℕ) → 512 * suc k ≤ length old
    → wanted_at (stream_parts number first (old ++ more) []) (key_at number (first + k)) ≡ wanted_at (stream_parts number first old []) (key_at number (first + k))
page_stays number first k old more long =
    let rest = drop (512 * k) old in
    let left = length-drop (512 * k) old in
    let bytes : take 512 (drop (512 * k) (old ++ more)) ≡ take 512 rest =
    ap (λ (q : List ℕ). take 512 q) (drop-append-le (512 * k) old more (omega (arith, long))) ∙ take-append-le 512 rest more (omega (arith, long, left)) in
    page_filled number first k (old ++ more) (omega (arith, long, length-append old more))
    ∙ ap (λ (q : List ℕ). Some (record { bytes = q; tags = 0 })) bytes
    ∙ sym (page_filled number first k old long)
