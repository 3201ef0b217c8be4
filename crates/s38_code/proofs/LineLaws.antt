-- Lines that lie in one text: one more, and the parts of all.
use Rattle.std.proofs.Common.{◌≡◌, ◌≤◌, ◌+◌, ℕ, List, [], ◌∷◌, ◌++◌, take, drop, length, sum, suc, zero, Bor, Option, Some, None, refl, sym, ◌∙◌, ap, arith}
use Rattle.std.proofs.lemmas.List.{drop-append-le, drop-drop, drop-take, length-drop, length-take-le, nil_from_length, take-append-le, take-take, take_all}
use Rattle.std.proofs.lemmas.List.Sums.{sum_by-cons, sum_by-take-drop, sum_by-take-le}
use Rattle.std.specs.List.{slice_get}
use Rattle.std.specs.Option.{MatchOption, option_map}
use Rattle.s38_code.specs.TextLines.{lines_of}

sum-cons : (n : ℕ) (ns : List ℕ) → sum (n ∷ ns) ≡ n + sum ns
sum-cons n ns = sum_by-cons (λ x. x) n ns

pub lines_count : (text sizes : List ℕ) → length (lines_of text sizes) ≡ length sizes
lines_count text [] = refl
lines_count text (size ∷ sizes) = ap suc (lines_count (drop size text) sizes)

-- what is left after the first line
rest_size : (n : ℕ) (ns text : List ℕ) → sum (n ∷ ns) ≡ length text → sum ns ≡ length (drop n text)
rest_size n ns text all = omega (arith, sum-cons n ns, length-drop n text)

pub more_lines : (text sizes line : List ℕ) → sum sizes ≡ length text →
    lines_of (text ++ line) (sizes ++ length line ∷ []) ≡ lines_of text sizes ++ line ∷ []
more_lines text [] line all =
    ap (λ t. take (length line) (t ++ line) ∷ []) (nil_from_length text (sym all))
    ∙ ap (λ l. l ∷ []) (take_all (length line) line (omega arith))
more_lines text (n ∷ ns) line all =
    let within : n ≤ length text = omega (arith, sum-cons n ns) in
    let sizes = ns ++ length line ∷ [] in
    ap (λ l. l ∷ lines_of (drop n (text ++ line)) sizes) (take-append-le n text line within)
    ∙ ap (λ t. take n text ∷ lines_of t sizes) (drop-append-le n text line within)
    ∙ ap (λ ls. take n text ∷ ls) (more_lines (drop n text) ns line (rest_size n ns text all))

pub front_lines : (k : ℕ) (text sizes : List ℕ) → lines_of (take (sum (take k sizes)) text) (take k sizes) ≡ take k (lines_of text sizes)
front_lines zero text sizes = refl
front_lines (suc k) text [] = refl
front_lines (suc k) text (n ∷ ns) =
    let s = sum (take k ns) in
    let all : sum (n ∷ take k ns) ≡ n + s = sum-cons n (take k ns) in
    ap (λ m. take n (take m text) ∷ lines_of (drop n (take m text)) (take k ns)) all
    ∙ ap (λ l. l ∷ lines_of (drop n (take (n + s) text)) (take k ns)) (take-take n (n + s) text (omega arith))
    ∙ ap (λ t. take n text ∷ lines_of t (take k ns)) (drop-take n s text)
    ∙ ap (λ ls. take n text ∷ ls) (front_lines k (drop n text) ns)

pub back_lines : (k : ℕ) (text sizes : List ℕ) → lines_of (drop (sum (take k sizes)) text) (drop k sizes) ≡ drop k (lines_of text sizes)
back_lines zero text sizes = refl
back_lines (suc k) text [] = refl
back_lines (suc k) text (n ∷ ns) =
    let s = sum (take k ns) in
    ap (λ m. lines_of (drop m text) (drop k ns)) (sum-cons n (take k ns))
    ∙ ap (λ t. lines_of t (drop k ns)) (sym (drop-drop s n text))
    ∙ back_lines k (drop n text) ns

pub front_size : (k : ℕ) (text sizes : List ℕ) → sum sizes ≡ length text → sum (take k sizes) ≡ length (take (sum (take k sizes)) text)
front_size k text sizes all =
    let within : sum (take k sizes) ≤ length text = omega (arith, sum_by-take-le (λ x. x) sizes k) in
    sym (length-take-le (sum (take k sizes)) text within)

pub back_size : (k : ℕ) (text sizes : List ℕ) → sum sizes ≡ length text → sum (drop k sizes) ≡ length (drop (sum (take k sizes)) text)
back_size k text sizes all = omega (arith, sum_by-take-drop (λ x. x) sizes k, length-drop (sum (take k sizes)) text)

-- ---- the line of a number

get_behind : (at : ℕ) (lines : List (List ℕ)) → slice_get (drop at lines) 0 ≡ slice_get lines at
get_behind zero lines = refl
get_behind (suc at) [] = refl
get_behind (suc at) (line ∷ lines) = get_behind at lines

-- the first of the lines after so many
pub first_after : (lines : List (List ℕ)) (at : ℕ) (behind more : List (List ℕ)) (got : Option (Bor (List ℕ))) → behind ≡ drop at lines →
    MatchOption got ((behind ≡ []) × (more ≡ [])) (λ line. behind ≡ line.now ∷ more) → option_map (λ line. line.now) got ≡ slice_get lines at
first_after lines at behind more None back none =
    sym (ap (λ l. slice_get l 0) none.0) ∙ ap (λ l. slice_get l 0) back ∙ get_behind at lines
first_after lines at behind more (Some line) back one =
    sym (ap (λ l. slice_get l 0) one) ∙ ap (λ l. slice_get l 0) back ∙ get_behind at lines
