-- How many entries each process has, after one more.
use Rattle.std.proofs.Common.{◌≡◌, ℕ, ◌+◌, ◌≤◌, ◌==◌, true, false, cond, List, [], ◌∷◌, ◌++◌, length, refl, ◌∙◌, ap, arith, length-append}
use Rattle.std.proofs.lemmas.List.Elements.{filter-append}
use Rattle.s38_code.specs.declared.entry.Entry.{Entry}
use Rattle.s38_code.specs.History.{entries_of, entry_count, is_of_process}

of_one : (p : ℕ) (e : Entry) → length (entries_of p (e ∷ [])) ≡ cond (e.process == p) 1 0
of_one p e = elim (e.process == p) as (λ b. length (cond b (e ∷ []) []) ≡ cond b 1 0) [ true ↦ refl | false ↦ refl ]

pub count_of-more : (p : ℕ) (h : List Entry) (e : Entry) → entry_count p (h ++ e ∷ []) ≡ entry_count p h + cond (e.process == p) 1 0
count_of-more p h e =
    ap length (filter-append (is_of_process p) h (e ∷ [])) ∙ length-append (entries_of p h) (entries_of p (e ∷ []))
    ∙ ap (λ n. entry_count p h + n) (of_one p e)

-- no process has more entries than there are
pub count_of-le : (p : ℕ) (h : List Entry) → entry_count p h ≤ length h
count_of-le p [] = omega arith
count_of-le p (e ∷ h) =
    let rest = count_of-le p h in
    elim (e.process == p) as (λ b. length (cond b (e ∷ entries_of p h) (entries_of p h)) ≤ length (e ∷ h)) [ true ↦ omega arith | false ↦ omega arith ]
