-- An entry of a data space is put, deleted or put back, seen under one ordinal; and how long its image is then.
use Rattle.std.proofs.Common.{◌≡◌, ◌∙◌, ℕ, zero, suc, ◌+◌, ◌-◌, ◌<◌, ◌≤◌, ◌==◌, Bool, true, false, cond, List, [], ◌∷◌, ◌++◌, length, max, set, refl, sym, ap, subst, arith}
use Rattle.std.proofs.lemmas.Bool.Decides.{nat_tests}
use Rattle.std.proofs.lemmas.List.{length-append, length-set}
use Rattle.std.proofs.lemmas.Nat.{mul-le}
use Rattle.std.specs.Option.{option_flatten}
use Rattle.std.specs.Prelude.{◌&&◌, Some, None, nat_le, slice_get}
use Rattle.s38_base.specs.Limits.{body_limit}
use Rattle.s38_base.specs.declared.attr.Attr.{Attr}
use Rattle.s38_dataspaces.specs.Entries as spaces
use Rattle.s38_dataspaces.specs.Entries.{entry_at, put_at}
use Rattle.s38_dataspaces.specs.Table.{DataTable, data_space_image_size, entry_len, inserted_deleted, is_entry_of, may_restore, restored}
use Rattle.s38_journals.specs.Entries.{JournalRecord}
use Rattle.s38_restart.specs.Redo.{with_deleted}
use Rattle.s38_laws_commits.specs.Told.{IsSmall}

set_same : {A : Type 0} (xs : List A) (i : ℕ) (x : A) → i < length xs → slice_get (set xs i x) i ≡ Some x
set_same [] i x lt = absurd (omega (arith, lt))
set_same (y ∷ ys) zero x lt = refl
set_same (y ∷ ys) (suc i) x lt = let less : i < length ys = omega (arith, lt) in set_same ys i x less

set_other : {A : Type 0} (xs : List A) (i j : ℕ) (x : A) → (i == j) ≡ false → slice_get (set xs i x) j ≡ slice_get xs j
set_other [] i j x off = refl
set_other (y ∷ ys) zero zero x off = cc
set_other (y ∷ ys) zero (suc j) x off = refl
set_other (y ∷ ys) (suc i) zero x off = refl
set_other (y ∷ ys) (suc i) (suc j) x off = let next : (i == j) ≡ false = grind (arith, nat_tests, off) in set_other ys i j x next

pub put_same : (xs : List spaces.DataEntry) (at : ℕ) (x : spaces.DataEntry) → 1 ≤ at → at ≤ length xs → entry_at (put_at xs at x) at ≡ x
put_same xs zero x first last = absurd (omega (arith, first))
put_same xs (suc i) x first last =
    let less : i < length xs = omega (arith, last) in
    let same : suc i - 1 ≡ i = omega arith in
    ap (λ (k : ℕ). option_flatten (slice_get (set xs k x) i)) same ∙ ap option_flatten (set_same xs i x less)

pub put_other : (xs : List spaces.DataEntry) (at k : ℕ) (x : spaces.DataEntry) → 1 ≤ at → (at == k) ≡ false → entry_at (put_at xs at x) k ≡ entry_at xs k
put_other xs at zero x first off = refl
put_other xs at (suc k) x first off =
    let apart : ((at - 1) == k) ≡ false = grind (arith, nat_tests, off, first) in
    ap option_flatten (set_other xs (at - 1) k x apart)

deleted_behind : (xs : List spaces.DataEntry) (k : ℕ) → option_flatten (slice_get (xs ++ None ∷ []) k) ≡ option_flatten (slice_get xs k)
deleted_behind [] zero = refl
deleted_behind [] (suc k) = refl
deleted_behind (x ∷ xs) zero = refl
deleted_behind (x ∷ xs) (suc k) = deleted_behind xs k

deleted_at : (t : DataTable) (k : ℕ) → entry_at (inserted_deleted t).entries k ≡ entry_at t.entries k
deleted_at t zero = refl
deleted_at t (suc k) = deleted_behind t.entries k

pub all_deleted_at : (t : DataTable) (n k : ℕ) → entry_at (with_deleted t n).entries k ≡ entry_at t.entries k
unfolding with_deleted
all_deleted_at t zero k = refl
all_deleted_at t (suc n) k = all_deleted_at (inserted_deleted t) n k ∙ deleted_at t k

pub deleted_fields : (t : DataTable) (n : ℕ) → (with_deleted t n).fields ≡ t.fields
unfolding with_deleted
deleted_fields t zero = refl
deleted_fields t (suc n) = deleted_fields (inserted_deleted t) n

pub deleted_length : (t : DataTable) (n : ℕ) → length (with_deleted t n).entries ≡ length t.entries + n
unfolding with_deleted
deleted_length t zero = omega arith
deleted_length t (suc n) = omega (arith, deleted_length (inserted_deleted t) n, length-append t.entries (None ∷ []))

pub restored_same : (t : DataTable) (at : ℕ) (x : spaces.DataEntry) → entry_at (restored t at x).entries at ≡ cond (may_restore t at x) x (entry_at t.entries at)
restored_same t at x = by (may_restore t at x) refl
  where
    parts : (a b c : Bool) → ((a && b) && c) ≡ true → (a ≡ true) × (b ≡ true)
    parts true true c is = (refl, refl)
    parts true false c is = cc
    parts false b c is = cc

    by : (b : Bool) → may_restore t at x ≡ b → entry_at (cond b (record t { entries = put_at t.entries at x }) t).entries at ≡ cond b x (entry_at t.entries at)
    by true may =
        let within = parts (nat_le 1 at) (nat_le at (length t.entries)) (is_entry_of t.fields x) may in
        let first : 1 ≤ at = grind (arith, nat_tests, within.0) in
        let last : at ≤ length t.entries = grind (arith, nat_tests, within.1) in
        put_same t.entries at x first last
    by false may = refl

pub restored_other : (t : DataTable) (at k : ℕ) (x : spaces.DataEntry) → (at == k) ≡ false → entry_at (restored t at x).entries k ≡ entry_at t.entries k
restored_other t at k x off = by (may_restore t at x) refl
  where
    begin : (a b c : Bool) → ((a && b) && c) ≡ true → a ≡ true
    begin true b c is = refl
    begin false b c is = cc

    by : (b : Bool) → may_restore t at x ≡ b → entry_at (cond b (record t { entries = put_at t.entries at x }) t).entries k ≡ entry_at t.entries k
    by true may = let first : 1 ≤ at = grind (arith, nat_tests, begin (nat_le 1 at) _ _ may) in put_other t.entries at k x first off
    by false may = refl

pub restored_fields : (t : DataTable) (at : ℕ) (x : spaces.DataEntry) → (restored t at x).fields ≡ t.fields
restored_fields t at x = by (may_restore t at x)
  where
    by : (b : Bool) → (cond b (record t { entries = put_at t.entries at x }) t).fields ≡ t.fields
    by true = refl
    by false = refl

pub restored_length : (t : DataTable) (at : ℕ) (x : spaces.DataEntry) → length (restored t at x).entries ≡ length t.entries
restored_length t at x = by (may_restore t at x)
  where
    by : (b : Bool) → length (cond b (record t { entries = put_at t.entries at x }) t).entries ≡ length t.entries
    by true = length-set t.entries (at - 1) x
    by false = refl

size_within : (fields : List Attr) (a b : ℕ) → a ≤ b → data_space_image_size fields b ≤ body_limit → data_space_image_size fields a ≤ body_limit
size_within fields a b le small =
    let grows = mul-le a (1 + entry_len fields) b (1 + entry_len fields) le (omega arith) in
    omega (arith, grows, small)

le_same : (a b : ℕ) → (a ≤ body_limit → b ≤ body_limit) → (b ≤ body_limit → a ≤ body_limit) → nat_le a body_limit ≡ nat_le b body_limit
le_same a b to from = by (nat_le a body_limit) (nat_le b body_limit) refl refl
  where
    tells : (n : ℕ) → nat_le n body_limit ≡ true → n ≤ body_limit
    tells n is = grind (arith, nat_tests, is)

    holds : (n : ℕ) → n ≤ body_limit → nat_le n body_limit ≡ true
    holds n is = grind (arith, nat_tests, is)

    by : (x y : Bool) → nat_le a body_limit ≡ x → nat_le b body_limit ≡ y → x ≡ y
    by true true p q = refl
    by false false p q = refl
    by true false p q = sym (holds b (to (tells a p))) ∙ q
    by false true p q = sym p ∙ holds a (from (tells b q))

-- whether an entry may have an ordinal is seen by the ordinal alone
pub size_same : (t : DataTable) (at : ℕ) → IsSmall t → nat_le (data_space_image_size t.fields (max at (length t.entries))) body_limit ≡ nat_le (data_space_image_size t.fields at) body_limit
size_same t at small = by (nat_le at (length t.entries)) refl
  where
    n : ℕ
    n = length t.entries

    by : (b : Bool) → nat_le at n ≡ b → nat_le (data_space_image_size t.fields (max at n)) body_limit ≡ nat_le (data_space_image_size t.fields at) body_limit
    by true le =
        let below : at ≤ n = grind (arith, nat_tests, le) in
        let most : max at n ≡ n = omega (arith, below) in
        le_same (data_space_image_size t.fields (max at n)) (data_space_image_size t.fields at) (λ h. size_within t.fields at n below small) (λ h. subst (λ (m : ℕ). data_space_image_size t.fields m ≤ body_limit) (sym most) small)
    by false le =
        let above : n ≤ at = grind (arith, nat_tests, le) in
        let most : max at n ≡ at = omega (arith, above) in
        ap (λ (m : ℕ). nat_le (data_space_image_size t.fields m) body_limit) most
