-- The entries of a journal space are read one after another.
use Rattle.std.proofs.Common.{◌≡◌, ℕ, zero, suc, ◌+◌, ◌-◌, ◌*◌, ◌<◌, ◌≤◌, Bool, true, false, cond, eqb, List, [], ◌∷◌, ◌++◌, length, Option, Some, None, refl, sym, ap, ◌∙◌, append_assoc, arith}
use Rattle.std.specs.Prelude.{max, nat_le}
use Rattle.std.proofs.lemmas.Bool.Decides.{nat_tests}
use Rattle.std.proofs.lemmas.Bool.{eqb-true}
use Rattle.std.proofs.lemmas.List.{append-nil, length-append}
use Rattle.s38_codec.specs.Codec.{◌>>=◌}
use Rattle.s38_codec.specs.Formats.{read_from}
use Rattle.s38_codec.specs.Reading.{Fails}
use Rattle.s38_codec.specs.declared.fault.ReadFault.{ReadFault}
use Rattle.s38_codec.specs.declared.fault.ReadFault.TheVariants as faults
use Rattle.s38_image.specs.Journals.{entry}
use Rattle.s38_codec.proofs.CodecLaws.{and_true}
use Rattle.s38_journals.specs.Entries.{JournalRecord, journal_entry_len, may_be_at}
use Rattle.s38_journals.specs.Journals.{JournalList, appended, can_write, journal_with, journal_with_room}

-- what was read before, and what is still read
abbrev pub with_before : List JournalRecord → Option (List JournalRecord) → Option (List JournalRecord)
with_before front read = read >>= λ xs. Some (front ++ xs)

pub begins : (o : Option (List JournalRecord)) → with_before [] o ≡ o
begins None = refl
begins (Some x) = refl

regroup : (front : List JournalRecord) (e : JournalRecord) (o : Option (List JournalRecord)) → with_before front (o >>= λ xs. Some (e ∷ xs)) ≡ with_before (front ++ e ∷ []) o
regroup front e None = refl
regroup front e (Some xs) = ap (λ (es : List JournalRecord). Some es) (simp append_assoc)

not_none : (n : ℕ) → eqb (suc n) 0 ≡ true → ⊥
not_none n h = absurd (omega (arith, eqb-true (suc n) 0 h))

pub one_longer : (xs : List JournalRecord) (e : JournalRecord) (n : ℕ) → length xs ≡ n → length (xs ++ e ∷ []) ≡ n + 1
one_longer xs e n is = omega (arith, length-append xs (e ∷ []))

pub some_left : (n : ℕ) → eqb n 0 ≡ false → 1 ≤ n
some_left zero h = absurd cc
some_left (suc n) h = omega arith

-- nothing is left
pub is_end : (front : List JournalRecord) (most k : ℕ) (rest : List ℕ) (total : Option (List JournalRecord)) → eqb (length rest) 0 ≡ true → with_before front (read_from entry most k rest) ≡ total → total ≡ Some front
unfolding read_from
is_end front most k [] total none h = sym h ∙ ap (λ (es : List JournalRecord). Some es) (append-nil front)
is_end front most k (b ∷ bs) total none h = absurd (not_none (length bs) none)

-- no entry may be read any more
pub is_past : (front : List JournalRecord) (n i k : ℕ) (rest : List ℕ) (total : Option (List JournalRecord)) → n ≤ i → 1 ≤ length rest → with_before front (read_from entry (n - i) k rest) ≡ total → total ≡ None
unfolding read_from
is_past front n i k [] total le some h = absurd (omega arith)
is_past front n i k (b ∷ bs) total le some h =
    let e : n - i ≡ 0 = omega arith in
    sym h ∙ ap (λ (m : ℕ). with_before front (read_from entry m k (b ∷ bs))) e

one_more : (n i : ℕ) → i < n → n - i ≡ suc (n - (i + 1))
one_more n i lt = omega arith

-- one more entry
pub goes_on : (front : List JournalRecord) (n i : ℕ) (rest : List ℕ) (e : JournalRecord) (more : List ℕ) (total : Option (List JournalRecord)) → i < n → 1 ≤ length rest → (entry (i + 1)).read rest ≡ Some (e, more)
    → with_before front (read_from entry (n - i) (i + 1) rest) ≡ total → with_before (front ++ e ∷ []) (read_from entry (n - (i + 1)) (i + 1 + 1) more) ≡ total
unfolding read_from
goes_on front n i [] e more total lt some h so_far = absurd (omega arith)
goes_on front n i (b ∷ bs) e more total lt some h so_far =
    let one : with_before front (read_from entry (suc (n - (i + 1))) (i + 1) (b ∷ bs)) ≡ with_before (front ++ e ∷ []) (read_from entry (n - (i + 1)) (i + 1 + 1) more) = rw h (regroup front e (read_from entry (n - (i + 1)) (i + 1 + 1) more)) in
    sym one ∙ ap (λ (m : ℕ). with_before front (read_from entry m (i + 1) (b ∷ bs))) (sym (one_more n i lt)) ∙ so_far

-- what is left is no entry
pub fails : (front : List JournalRecord) (n i : ℕ) (rest : List ℕ) (fault : ReadFault) (total : Option (List JournalRecord)) → i < n → 1 ≤ length rest → Fails fault ((entry (i + 1)).read rest)
    → with_before front (read_from entry (n - i) (i + 1) rest) ≡ total → Fails fault total
unfolding read_from
fails front n i rest faults.NoMemory total lt some h so_far = tt
fails front n i [] faults.BadForm total lt some h so_far = absurd (omega arith)
fails front n i (b ∷ bs) faults.BadForm total lt some h so_far =
    let one : with_before front (read_from entry (suc (n - (i + 1))) (i + 1) (b ∷ bs)) ≡ None = rw h refl in
    sym so_far ∙ ap (λ (m : ℕ). with_before front (read_from entry m (i + 1) (b ∷ bs))) (one_more n i lt) ∙ one

-- ---- an entry is added

fits_room : (n m : ℕ) → n ≡ m → nat_le n m ≡ true
fits_room n m e = grind (arith, nat_tests)

room_is : (spare len bytes : ℕ) → spare ≡ 0 → bytes ≡ len → max spare (bytes + 41 * 0) ≡ len
room_is spare len bytes none is = omega arith

can : (j : JournalList) (e : JournalRecord) (bytes : ℕ) → j.spare ≡ 0 → may_be_at (length j.entries + 1) e ≡ true → bytes ≡ journal_entry_len e → can_write (journal_with_room j bytes 0) e ≡ true
can j e bytes none stands is = and_true (may_be_at (length j.entries + 1) e) _ stands (fits_room (journal_entry_len e) _ (sym (room_is j.spare (journal_entry_len e) bytes none is)))
