-- The parts of an object, in three, and those that are missing.
use Rattle.std.proofs.Common.{◌≡◌, ℕ, zero, suc, ◌+◌, ◌-◌, ◌<◌, ◌≤◌, Bool, true, false, cond, ltb, List, [], ◌∷◌, ◌++◌, length, get_or, take, drop, refl, sym, ap, ◌∙◌, append_assoc, arith}
use Rattle.std.specs.Prelude.{Result, Ok, Err}
use Rattle.std.specs.List.{range_with_len}
use Rattle.std.proofs.lemmas.Bool.{lt-ltb, le-ltb}
use Rattle.std.proofs.lemmas.List.{append-nil, drop_all, drop_more, take_all, take_more}
use Rattle.s38_base.specs.declared.page.Change.{Change}
use Rattle.s38_image.specs.Images.{after_leading, first_missing, has_part, leading, ◌>>>◌}

-- ---- the parts below a number, and the others

leads : (limit : ℕ) (p : Change) (ps : List Change) → p.key.part < limit → (leading limit (p ∷ ps) ≡ p ∷ leading limit ps) × (after_leading limit (p ∷ ps) ≡ after_leading limit ps)
leads limit p ps lt =
    let b : ltb p.key.part limit ≡ true = lt-ltb p.key.part limit lt in
    (rw b refl, rw b refl)

stops : (limit : ℕ) (p : Change) (ps : List Change) → limit ≤ p.key.part → (leading limit (p ∷ ps) ≡ []) × (after_leading limit (p ∷ ps) ≡ p ∷ ps)
stops limit p ps le =
    let b : ltb p.key.part limit ≡ false = le-ltb p.key.part limit le in
    (rw b refl, rw b refl)

pub after_more : (limit : ℕ) (ps : List Change) (i : ℕ) (d : Change) → i < length ps → (get_or ps i d).key.part < limit → after_leading limit ps ≡ after_leading limit (drop i ps) → after_leading limit ps ≡ after_leading limit (drop (i + 1) ps)
after_more limit ps i d lt below so_far =
    so_far ∙ ap (after_leading limit) (drop_more ps i d lt) ∙ (leads limit (get_or ps i d) (drop (i + 1) ps) below).1

pub leading_all : (limit : ℕ) (ps : List Change) (i : ℕ) → length ps ≤ i → leading limit ps ≡ take i ps ++ leading limit (drop i ps) → ps ≡ leading limit ps
leading_all limit ps i le so_far =
    sym (so_far ∙ ap (λ (q : List Change). take i ps ++ leading limit q) (drop_all i ps le) ∙ append-nil (take i ps) ∙ take_all i ps le)

pub after_none : (limit : ℕ) (ps : List Change) (i : ℕ) → length ps ≤ i → after_leading limit ps ≡ after_leading limit (drop i ps) → [] ≡ after_leading limit ps
after_none limit ps i le so_far = sym (so_far ∙ ap (after_leading limit) (drop_all i ps le))

-- ---- parts that are missing

one_less : (part end : ℕ) → part < end → end - part ≡ suc (end - (part + 1))
one_less part end lt = omega arith

pub missing_more : (number part end : ℕ) (ps : List Change) (total : Result (List ℕ) ℕ) → part < end → has_part number ps part ≡ true → first_missing number ps (range_with_len part (end - part)) ≡ total → first_missing number ps (range_with_len (part + 1) (end - (part + 1))) ≡ total
missing_more number part end ps total lt is so_far =
    let one : first_missing number ps (range_with_len part (suc (end - (part + 1)))) ≡ first_missing number ps (range_with_len (part + 1) (end - (part + 1))) = rw is refl in
    sym one ∙ ap (λ (n : ℕ). first_missing number ps (range_with_len part n)) (sym (one_less part end lt)) ∙ so_far

missing_by : (number : ℕ) (ps : List Change) (x : ℕ) (xs ys : List ℕ) (b : Bool) → first_missing number ps (xs ++ ys) ≡ (first_missing number ps xs >>> λ _. first_missing number ps ys)
    → cond b (first_missing number ps (xs ++ ys)) (Err x) ≡ (cond b (first_missing number ps xs) (Err x) >>> λ _. first_missing number ps ys)
missing_by number ps x xs ys true rest = rest
missing_by number ps x xs ys false rest = refl

pub missing_both : (number : ℕ) (ps : List Change) (xs ys : List ℕ) → first_missing number ps (xs ++ ys) ≡ (first_missing number ps xs >>> λ _. first_missing number ps ys)
missing_both number ps [] ys = refl
missing_both number ps (x ∷ xs) ys = missing_by number ps x xs ys (has_part number ps x) (missing_both number ps xs ys)

-- the parts of the rows are looked for first
pub missing_first : (number : ℕ) (ps : List Change) (xs ys : List ℕ) (r : Result (List ℕ) ℕ) → first_missing number ps xs ≡ r → first_missing number ps (xs ++ ys) ≡ (r >>> λ _. first_missing number ps ys)
missing_first number ps xs ys r e = missing_both number ps xs ys ∙ ap (λ (q : Result (List ℕ) ℕ). q >>> λ _. first_missing number ps ys) e
