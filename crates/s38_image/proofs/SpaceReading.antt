-- The cells of a space are read one after another.
use Rattle.std.proofs.Common.{◌≡◌, ℕ, zero, suc, ◌+◌, ◌-◌, ◌*◌, ◌/◌, ◌%◌, ◌<◌, ◌≤◌, ◌^◌, Bool, true, false, cond, eqb, List, [], ◌∷◌, ◌++◌, length, map, take, drop, Option, Some, None, refl, sym, ap, ◌∙◌, append_assoc, arith}
use Rattle.std.specs.Prelude.{slice_get}
use Rattle.std.proofs.Common.{◌⊎◌, inl, inr, zero-add, suc-add}
use Rattle.std.specs.Option.{option_map}
use Rattle.std.proofs.Math.Nat.{div-one}
use Rattle.std.proofs.lemmas.Bool.{cases_lt, eq-eqb, eqb-true}
use Rattle.std.proofs.Common.{get_or}
use Rattle.std.specs.Prelude.{◌&&◌, min}
use Rattle.std.proofs.lemmas.Option.{slice_get-get_or, slice_get_past}
use Rattle.std.proofs.lemmas.List.{append-nil, length-take, drop-map, drop_all, drop_more, take-map, take_all}
use Rattle.std.proofs.lemmas.Nat.{shr-shr}
use Rattle.s38_codec.specs.Codec.{read_each, whole, ◌>>=◌}
use Rattle.s38_codec.specs.Reading.{Fails}
use Rattle.s38_codec.specs.declared.fault.ReadFault.{ReadFault}
use Rattle.s38_codec.specs.declared.fault.ReadFault.TheVariants as faults
use Rattle.s38_codec.proofs.Loop.{with_front}
use Rattle.s38_image.specs.Pages.{same_list}
use Rattle.s38_image.specs.Spaces.{bits, cell, cells_by, flags_in, is_tagged, tag_number, tag_numbers}
use Rattle.s38_image.specs.PartPlaces.{page_cells}
use Rattle.s38_memory.specs.declared.cell.Cell.{Cell}

-- the value at a place, and those after it
next_place : (n : ℕ) → suc (n + 1) ≡ suc n + 1
next_place n = omega arith

pub found_first : {A : Type 0} (xs : List A) (at : ℕ) (x : A) → slice_get xs at ≡ Some x → drop at xs ≡ x ∷ drop (at + 1) xs
found_first [] at x e = absurd cc
found_first (y ∷ xs) zero x e = cc
found_first (y ∷ xs) (suc n) x e = found_first xs n x e ∙ ap (λ (k : ℕ). x ∷ drop k (y ∷ xs)) (next_place n)

found_none : {A : Type 0} (xs : List A) (at : ℕ) → slice_get xs at ≡ None → length xs ≤ at
found_none [] at e = omega arith
found_none (y ∷ xs) zero e = absurd cc
found_none (y ∷ xs) (suc n) e = let h = found_none xs n e in omega arith

regroup : (front : List Cell) (x : Cell) (o : Option (List Cell × List ℕ)) → with_front front (o >>= λ y. Some (x ∷ y.0, y.1)) ≡ with_front (front ++ x ∷ []) o
regroup front x None = refl
regroup front x (Some y) = ap (λ (xs : List Cell). Some (xs, y.1)) (simp append_assoc)

get_within : {A : Type 0} (xs : List A) (n i : ℕ) → i < n → slice_get (take n xs) i ≡ slice_get xs i
get_within [] zero i lt = refl
get_within [] (suc n) i lt = refl
get_within (x ∷ xs) zero i lt = absurd (omega arith)
get_within (x ∷ xs) (suc n) zero lt = refl
get_within (x ∷ xs) (suc n) (suc i) lt = get_within xs n i (omega arith)

-- the flags from a place on
flag_here : (flags : List Bool) (count at : ℕ) (flag : Bool) → at < count → Some flag ≡ slice_get flags at → drop at (take count flags) ≡ flag ∷ drop (at + 1) (take count flags)
flag_here flags count at flag lt e = found_first (take count flags) at flag (get_within flags count at lt ∙ sym e)

-- one more cell
pub goes_on : (front : List Cell) (flags : List Bool) (count at : ℕ) (rest : List ℕ) (flag : Bool) (x : Cell) (after : List ℕ) (total : Option (List Cell × List ℕ)) → at < count → Some flag ≡ slice_get flags at → (cell flag).read rest ≡ Some (x, after)
    → with_front front ((cells_by (drop at (take count flags))).read rest) ≡ total → with_front (front ++ x ∷ []) ((cells_by (drop (at + 1) (take count flags))).read after) ≡ total
unfolding read_each
goes_on front flags count at rest flag x after total lt f h so_far =
    let more = drop (at + 1) (take count flags) in
    let one : with_front front ((cells_by (flag ∷ more)).read rest) ≡ with_front (front ++ x ∷ []) ((cells_by more).read after) = rw h (regroup front x ((cells_by more).read after)) in
    sym one ∙ ap (λ (fs : List Bool). with_front front ((cells_by fs).read rest)) (sym (flag_here flags count at flag lt f)) ∙ so_far

fails_whole : (fault : ReadFault) (o : Option (List Cell × List ℕ)) → Fails fault o → Fails fault (o >>= λ x. cond (eqb (length x.1) 0) (Some x.0) None)
fails_whole faults.NoMemory o h = tt
fails_whole faults.BadForm o h = rw h refl

-- what is left is no cell
pub fails : (front : List Cell) (flags : List Bool) (count at : ℕ) (rest from : List ℕ) (flag : Bool) (fault : ReadFault) → at < count → Some flag ≡ slice_get flags at → Fails fault ((cell flag).read rest)
    → with_front front ((cells_by (drop at (take count flags))).read rest) ≡ (cells_by (take count flags)).read from → Fails fault (whole (cells_by (take count flags)) from)
unfolding read_each
fails front flags count at rest from flag faults.NoMemory lt f h so_far = tt
fails front flags count at rest from flag faults.BadForm lt f h so_far =
    let more = drop (at + 1) (take count flags) in
    let one : with_front front ((cells_by (flag ∷ more)).read rest) ≡ None = rw h refl in
    let none : (cells_by (take count flags)).read from ≡ None = sym so_far ∙ ap (λ (fs : List Bool). with_front front ((cells_by fs).read rest)) (flag_here flags count at flag lt f) ∙ one in
    rw none refl

-- no flag is left
pub is_done : (front : List Cell) (flags : List Bool) (at : ℕ) (rest from : List ℕ) → length flags ≤ at → with_front front ((cells_by (drop at flags)).read rest) ≡ (cells_by flags).read from
    → whole (cells_by flags) from ≡ cond (eqb (length rest) 0) (Some front) None
unfolding read_each
is_done front flags at rest from le so_far =
    let one : with_front front ((cells_by []).read rest) ≡ Some (front, rest) = ap (λ (xs : List Cell). Some (xs, rest)) (append-nil front) in
    let total : (cells_by flags).read from ≡ Some (front, rest) = sym so_far ∙ ap (λ (fs : List Bool). with_front front ((cells_by fs).read rest)) (drop_all at flags le) ∙ one in
    rw total refl

-- ---- the flags of pages

halved : (t i : ℕ) → t / 2 / 2 ^ i ≡ t / 2 ^ suc i
halved t i = shr-shr t 1 i ∙ ap (λ (k : ℕ). t / 2 ^ k) (one_more i)
  where
    one_more : (n : ℕ) → 1 + n ≡ suc n
    one_more n = omega arith

pub bit_at : (n t i : ℕ) → i < n → slice_get (bits n t) i ≡ Some (eqb (t / 2 ^ i % 2) 1)
unfolding bits
bit_at zero t i lt = absurd (omega arith)
bit_at (suc n) t zero lt = ap (λ (m : ℕ). Some (eqb (m % 2) 1)) (sym (div-one t))
bit_at (suc n) t (suc i) lt = bit_at n (t / 2) i (omega arith) ∙ ap (λ (m : ℕ). Some (eqb (m % 2) 1)) (halved t i)

pub length_bits : (n t : ℕ) → length (bits n t) ≡ n
unfolding bits
length_bits zero t = refl
length_bits (suc n) t = ap suc (length_bits n (t / 2))

get_front : {A : Type 0} (xs ys : List A) (i : ℕ) → i < length xs → slice_get (xs ++ ys) i ≡ slice_get xs i
get_front [] ys i lt = absurd (omega arith)
get_front (x ∷ xs) ys zero lt = refl
get_front (x ∷ xs) ys (suc i) lt = get_front xs ys i (omega arith)

get_back : {A : Type 0} (xs ys : List A) (i : ℕ) → slice_get (xs ++ ys) (length xs + i) ≡ slice_get ys i
get_back [] ys i = ap (slice_get ys) (zero-add i)
get_back (x ∷ xs) ys i = ap (slice_get (x ∷ (xs ++ ys))) (suc-add (length xs) i) ∙ get_back xs ys i

abbrev pub flag_of : ℕ → ℕ → Bool
flag_of i t = eqb (t / 2 ^ (i % 32) % 2) 1

flag_by : (t : ℕ) (ts : List ℕ) (i : ℕ) → (i < 32) ⊎ (32 ≤ i) → ((j : ℕ) → slice_get (flags_in ts) j ≡ option_map (flag_of j) (slice_get ts (j / 32))) → slice_get (flags_in (t ∷ ts)) i ≡ option_map (flag_of i) (slice_get (t ∷ ts) (i / 32))
flag_by t ts i (inl lt) rest =
    let place : i / 32 ≡ 0 = omega arith in
    let within : i % 32 ≡ i = omega arith in
    get_front (bits page_cells t) (flags_in ts) i (omega (arith, length_bits 32 t)) ∙ bit_at 32 t i lt
    ∙ ap (λ (k : ℕ). Some (eqb (t / 2 ^ k % 2) 1)) (sym within) ∙ ap (λ (k : ℕ). option_map (flag_of i) (slice_get (t ∷ ts) k)) (sym place)
flag_by t ts i (inr le) rest =
    let j = i - 32 in
    let back : i ≡ length (bits 32 t) + j = omega (arith, length_bits 32 t) in
    let place : i / 32 ≡ suc (j / 32) = omega arith in
    let within : j % 32 ≡ i % 32 = omega arith in
    ap (slice_get (flags_in (t ∷ ts))) back ∙ get_back (bits page_cells t) (flags_in ts) j ∙ rest j
    ∙ ap (λ (k : ℕ). option_map (λ (u : ℕ). eqb (u / 2 ^ k % 2) 1) (slice_get ts (j / 32))) within
    ∙ ap (λ (k : ℕ). option_map (flag_of i) (slice_get (t ∷ ts) k)) (sym place)

-- the flag of a cell is a bit of the tags of its page
pub flag_found : (ts : List ℕ) (i : ℕ) → slice_get (flags_in ts) i ≡ option_map (flag_of i) (slice_get ts (i / 32))
flag_found [] i = refl
flag_found (t ∷ ts) i = flag_by t ts i (cases_lt i 32) (λ j. flag_found ts j)

pub flag_there : (ts : List ℕ) (i page : ℕ) → i / 32 < length ts → page ≡ get_or ts (i / 32) page → Some (flag_of i page) ≡ slice_get (flags_in ts) i
flag_there ts i page lt is =
    ap (λ (t : ℕ). Some (flag_of i t)) is ∙ ap (option_map (flag_of i)) (sym (slice_get-get_or ts (i / 32) page lt)) ∙ sym (flag_found ts i)

pub flag_past : (ts : List ℕ) (i : ℕ) → length ts ≤ i / 32 → None ≡ slice_get (flags_in ts) i
flag_past ts i le = ap (option_map (flag_of i)) (sym (slice_get_past ts (i / 32) le)) ∙ sym (flag_found ts i)

pub no_more : (flags : List Bool) (count at : ℕ) → None ≡ slice_get flags at → length (take count flags) ≤ at
no_more flags count at e = omega (arith, found_none flags at (sym e), length-take count flags)

pub all_taken : (flags : List Bool) (count at : ℕ) → count ≤ at → length (take count flags) ≤ at
all_taken flags count at le = omega (arith, length-take count flags)

-- ---- the tags of pages

front_by : {A : Type 0} (xs : List A) (n : ℕ) → (n < length xs) ⊎ (length xs ≤ n) → take (min (length xs) n) xs ≡ take n xs
front_by xs n (inl lt) =
    let e : min (length xs) n ≡ n = omega arith in
    ap (λ (k : ℕ). take k xs) e
front_by xs n (inr le) =
    let e : min (length xs) n ≡ length xs = omega arith in
    ap (λ (k : ℕ). take k xs) e ∙ take_all (length xs) xs (omega arith) ∙ sym (take_all n xs le)

short_front : {A : Type 0} (xs : List A) (n : ℕ) → take (min (length xs) n) xs ≡ take n xs
short_front xs n = front_by xs n (cases_lt n (length xs))

back_by : {A : Type 0} (xs : List A) (n : ℕ) → (n < length xs) ⊎ (length xs ≤ n) → drop (min (length xs) n) xs ≡ drop n xs
back_by xs n (inl lt) =
    let e : min (length xs) n ≡ n = omega arith in
    ap (λ (k : ℕ). drop k xs) e
back_by xs n (inr le) =
    let e : min (length xs) n ≡ length xs = omega arith in
    ap (λ (k : ℕ). drop k xs) e ∙ drop_all (length xs) xs (omega arith) ∙ sym (drop_all n xs le)

short_back : {A : Type 0} (xs : List A) (n : ℕ) → drop (min (length xs) n) xs ≡ drop n xs
short_back xs n = back_by xs n (cases_lt n (length xs))

fewer : (n i : ℕ) → i < n → n - i ≡ suc (n - (i + 1))
fewer n i lt = omega arith

-- the tags of one page, and those after them
page_step : (rest front after : List Cell) (tags : List ℕ) (n i d : ℕ) → length tags ≡ n → i < n → front ≡ take (min (length rest) 32) rest → after ≡ drop (min (length rest) 32) rest
    → same_list (tag_numbers (n - i) (map is_tagged rest)) (drop i tags) ≡ (eqb (tag_number (map is_tagged front)) (get_or tags i d) && same_list (tag_numbers (n - (i + 1)) (map is_tagged after)) (drop (i + 1) tags))
unfolding same_list tag_numbers
page_step rest front after tags n i d long lt here more =
    let one : map is_tagged front ≡ take 32 (map is_tagged rest) = ap (λ (cs : List Cell). map is_tagged cs) (here ∙ short_front rest 32) ∙ sym (take-map is_tagged 32 rest) in
    let two : map is_tagged after ≡ drop 32 (map is_tagged rest) = ap (λ (cs : List Cell). map is_tagged cs) (more ∙ short_back rest 32) ∙ sym (drop-map is_tagged 32 rest) in
    ap (λ (k : ℕ). same_list (tag_numbers k (map is_tagged rest)) (drop i tags)) (fewer n i lt)
    ∙ ap (λ (ts : List ℕ). same_list (tag_numbers (suc (n - (i + 1))) (map is_tagged rest)) ts) (drop_more tags i d (omega arith))
    ∙ ap (λ (fs : List Bool). eqb (tag_number fs) (get_or tags i d) && same_list (tag_numbers (n - (i + 1)) (drop 32 (map is_tagged rest))) (drop (i + 1) tags)) (sym one)
    ∙ ap (λ (fs : List Bool). eqb (tag_number (map is_tagged front)) (get_or tags i d) && same_list (tag_numbers (n - (i + 1)) fs) (drop (i + 1) tags)) (sym two)

and_first : (a b c : Bool) → a ≡ true → c ≡ (a && b) → b ≡ c
and_first true b c h e = sym e
and_first false b c h e = absurd cc

and_not : (a b c : Bool) → a ≡ false → c ≡ (a && b) → false ≡ c
and_not true b c h e = absurd cc
and_not false b c h e = sym e

not_equal : (a b : ℕ) → (a ≡ b → ⊥) → eqb a b ≡ false
not_equal a b h = cases (eqb a b) refl
  where
    cases : (t : Bool) → eqb a b ≡ t → t ≡ false
    cases true e = absurd (h (eqb-true a b e))
    cases false e = refl

pub page_fits : (rest front after : List Cell) (tags : List ℕ) (n i d t : ℕ) (total : Bool) → length tags ≡ n → i < n → front ≡ take (min (length rest) 32) rest → after ≡ drop (min (length rest) 32) rest → t ≡ tag_number (map is_tagged front) → t ≡ get_or tags i d
    → same_list (tag_numbers (n - i) (map is_tagged rest)) (drop i tags) ≡ total → same_list (tag_numbers (n - (i + 1)) (map is_tagged after)) (drop (i + 1) tags) ≡ total
page_fits rest front after tags n i d t total long lt here more is same so_far =
    and_first (eqb (tag_number (map is_tagged front)) (get_or tags i d)) _ total (eq-eqb _ _ (sym is ∙ same)) (sym so_far ∙ page_step rest front after tags n i d long lt here more)

pub page_differs : (rest front after : List Cell) (tags : List ℕ) (n i d t : ℕ) (total : Bool) → length tags ≡ n → i < n → front ≡ take (min (length rest) 32) rest → after ≡ drop (min (length rest) 32) rest → t ≡ tag_number (map is_tagged front) → (t ≡ get_or tags i d → ⊥)
    → same_list (tag_numbers (n - i) (map is_tagged rest)) (drop i tags) ≡ total → false ≡ total
page_differs rest front after tags n i d t total long lt here more is differ so_far =
    and_not (eqb (tag_number (map is_tagged front)) (get_or tags i d)) _ total (not_equal _ _ (λ e. differ (is ∙ e))) (sym so_far ∙ page_step rest front after tags n i d long lt here more)

pub pages_end : (rest : List Cell) (tags : List ℕ) (n i : ℕ) (total : Bool) → length tags ≡ n → n ≤ i → same_list (tag_numbers (n - i) (map is_tagged rest)) (drop i tags) ≡ total → true ≡ total
unfolding same_list tag_numbers
pages_end rest tags n i total long le so_far =
    let none : n - i ≡ 0 = omega arith in
    let all : drop i tags ≡ [] = drop_all i tags (omega arith) in
    let end : same_list (tag_numbers (n - i) (map is_tagged rest)) (drop i tags) ≡ true = rw (none, all) refl in
    sym end ∙ so_far
