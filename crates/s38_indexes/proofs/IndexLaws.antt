-- How many entries an index has, and how large its image is, after a change.
use Rattle.std.proofs.Common.{◌≡◌, ℕ, ◌+◌, ◌-◌, ◌≤◌, true, false, cond, List, [], ◌∷◌, length, suc, refl, sym, ap, arith, subst}
use Rattle.std.proofs.lemmas.Bool.Decides.{nat_tests}
use Rattle.std.proofs.lemmas.List.Sums.{sum_by-cons}
use Rattle.std.specs.Prelude.{Some, None, if◌then◌else◌, is_some, nat_lt}
use Rattle.std.specs.Cmp.Lexicographic.{slice_cmp}
use Rattle.std.specs.Ordering.{nat_cmp, ordering_then}
use Rattle.std.specs.declared.cmp.Ordering.{Ordering}
use Rattle.std.specs.declared.cmp.Ordering.TheVariants.{Less, Equal, Greater}
use Rattle.s38_base.specs.Relations.{is_equal}
use Rattle.s38_base.specs.declared.words.Relation.TheVariants.{Eq, Lo}
use Rattle.s38_indexes.specs.Entries.{AreShort, EntryIndex, IndexEntry, IsCounted, entry_size, has_entry, index_image_size, index_with_entry, is_in_relation, largest, least, order, without_entry}
use Rattle.s38_indexes.specs.Refusals.{insert_refusal, remove_refusal}
use Rattle.s38_indexes.specs.declared.fault.IndexFault.{IndexFault}
use Rattle.s38_indexes.specs.declared.fault.IndexFault.TheVariants.{BadLength, Present, Full, Absent}
use Rattle.s38_indexes.proofs.OrderLaws.{length-with, rising_with, rising_without}

size-cons : (x : IndexEntry) (xs : List IndexEntry) → index_image_size (x ∷ xs) ≡ index_image_size xs + entry_size x
size-cons x xs = omega (arith, sum_by-cons entry_size x xs)

pub size-with : (key : IndexEntry) (xs : List IndexEntry) → index_image_size (index_with_entry key xs) ≡ index_image_size xs + entry_size key
size-with key [] = size-cons key []
size-with key (x ∷ xs) =
    let rest = size-with key xs in
    let one = size-cons x xs in
    let more = size-cons x (index_with_entry key xs) in
    let first = size-cons key (x ∷ xs) in
    elim (is_in_relation Lo key x) as (λ b. index_image_size (cond b (x ∷ index_with_entry key xs) (key ∷ x ∷ xs)) ≡ index_image_size (x ∷ xs) + entry_size key) [
      | true ↦ omega arith
      | false ↦ first
    ]

pub length-le-size : (xs : List IndexEntry) → length xs + 5 ≤ index_image_size xs
length-le-size [] = omega arith
length-le-size (x ∷ xs) =
    let rest = length-le-size xs in
    let one = size-cons x xs in
    omega arith

-- ---- an entry that is equal to a key is as long

equal_later : (o p : Ordering) → ordering_then o p ≡ Equal → p ≡ Equal
equal_later Less p e = absurd (cc)
equal_later Equal p e = e
equal_later Greater p e = absurd (cc)

as_long : (x key : IndexEntry) → order x key ≡ Equal → length x ≡ length key
as_long [] [] e = refl
as_long [] (k ∷ ks) e = absurd (cc)
as_long (y ∷ ys) [] e = absurd (cc)
as_long (y ∷ ys) (k ∷ ks) e = ap suc (as_long ys ks (equal_later (nat_cmp y k) (slice_cmp nat_cmp ys ks) e))

is_equal-Equal : (o : Ordering) → is_equal o ≡ true → o ≡ Equal
is_equal-Equal Less e = absurd (cc)
is_equal-Equal Equal e = refl
is_equal-Equal Greater e = absurd (cc)

pub size-without : (key : IndexEntry) (xs : List IndexEntry) → has_entry key xs ≡ true → index_image_size (without_entry key xs) + entry_size key ≡ index_image_size xs
size-without key [] e = absurd (cc)
size-without key (x ∷ xs) e =
    let rest = size-without key xs in
    let one = size-cons x xs in
    let more = size-cons x (without_entry key xs) in
    elim (is_in_relation Eq key x) as (λ b. is_in_relation Eq key x ≡ b → is_some (cond b (Some x) (least Eq key xs)) ≡ true → index_image_size (cond b xs (x ∷ without_entry key xs)) + entry_size key ≡ index_image_size (x ∷ xs)) [
      | true ↦ λ is q. let long = as_long x key (is_equal-Equal (order x key) is) in omega arith
      | false ↦ λ is q. let less = rest q in omega arith
    ] refl e

pub length-without_held : (key : IndexEntry) (xs : List IndexEntry) → has_entry key xs ≡ true → length (without_entry key xs) + 1 ≡ length xs
length-without_held key [] e = absurd (cc)
length-without_held key (x ∷ xs) e =
    let rest = length-without_held key xs in
    elim (is_in_relation Eq key x) as (λ b. is_some (cond b (Some x) (least Eq key xs)) ≡ true → length (cond b xs (x ∷ without_entry key xs)) + 1 ≡ length (x ∷ xs)) [
      | true ↦ λ q. omega arith
      | false ↦ λ q. let less = rest q in omega arith
    ] e

-- ---- what an index keeps

pub counted_with : (key : IndexEntry) (count size : ℕ) (xs ys : List IndexEntry) → IsCounted count size xs → has_entry key xs ≡ false → index_image_size xs + entry_size key ≤ largest → ys ≡ index_with_entry key xs → IsCounted (count + 1) (size + (1 + length key)) ys
counted_with key count size xs ys h new room is =
    let longer = length-with key xs in
    let larger = size-with key xs in
    let counted = h.counted in
    let sized = h.sized in
    subst (λ zs. IsCounted (count + 1) (size + (1 + length key)) zs) (sym is) (record {
      rising = rising_with key xs new h.rising;
      counted = omega arith;
      sized = omega arith;
      within = omega arith;
    })

pub counted_without : (key : IndexEntry) (count size : ℕ) (xs ys : List IndexEntry) → IsCounted count size xs → has_entry key xs ≡ true → ys ≡ without_entry key xs → IsCounted (count - 1) (size - (1 + length key)) ys
counted_without key count size xs ys h held is =
    let shorter = length-without_held key xs held in
    let smaller = size-without key xs held in
    let counted = h.counted in
    let sized = h.sized in
    let within = h.within in
    subst (λ zs. IsCounted (count - 1) (size - (1 + length key)) zs) (sym is) (record {
      rising = rising_without key xs h.rising;
      counted = omega arith;
      sized = omega arith;
      within = omega arith;
    })

pub short_with : (longest : ℕ) (key : IndexEntry) (xs ys : List IndexEntry) → AreShort longest xs → length key ≤ longest → ys ≡ index_with_entry key xs → AreShort longest ys
short_with longest key xs ys all one is = subst (λ zs. AreShort longest zs) (sym is) (by xs all)
  where
    by : (zs : List IndexEntry) → AreShort longest zs → AreShort longest (index_with_entry key zs)
    by [] h = (one, tt)
    by (z ∷ zs) h =
        let rest = by zs h.1 in
        elim (is_in_relation Lo key z) as (λ b. AreShort longest (cond b (z ∷ index_with_entry key zs) (key ∷ z ∷ zs))) [
          | true ↦ (h.0, rest)
          | false ↦ (one, h)
        ]

pub short_without : (longest : ℕ) (key : IndexEntry) (xs ys : List IndexEntry) → AreShort longest xs → ys ≡ without_entry key xs → AreShort longest ys
short_without longest key xs ys all is = subst (λ zs. AreShort longest zs) (sym is) (by xs all)
  where
    by : (zs : List IndexEntry) → AreShort longest zs → AreShort longest (without_entry key zs)
    by [] h = tt
    by (z ∷ zs) h =
        let rest = by zs h.1 in
        elim (is_in_relation Eq key z) as (λ b. AreShort longest (cond b zs (z ∷ without_entry key zs))) [
          | true ↦ h.1
          | false ↦ (h.0, rest)
        ]

-- ---- what is not refused

pub record IsTaken (entry : IndexEntry) (index : EntryIndex) : Type 0 where
  pub short : length entry ≤ index.longest
  pub new : has_entry entry index.entries ≡ false
  pub room : index_image_size index.entries + entry_size entry ≤ largest

refused : (fault : IndexFault) → Some fault ≡ None → ⊥
refused fault e = cc

pub taken : (entry : IndexEntry) (index : EntryIndex) → insert_refusal entry index ≡ None → IsTaken entry index
taken entry index e =
    elim (nat_lt index.longest (length entry)) as (λ b. nat_lt index.longest (length entry) ≡ b → (if b then Some BadLength else (if has_entry entry index.entries then Some Present else (if nat_lt largest (index_image_size index.entries + entry_size entry) then Some Full else None))) ≡ None → IsTaken entry index) [
      | true ↦ λ is q. absurd (refused BadLength q)
      | false ↦ λ short q. elim (has_entry entry index.entries) as (λ b. has_entry entry index.entries ≡ b → (if b then Some Present else (if nat_lt largest (index_image_size index.entries + entry_size entry) then Some Full else None)) ≡ None → IsTaken entry index) [
        | true ↦ λ is r. absurd (refused Present r)
        | false ↦ λ new r. elim (nat_lt largest (index_image_size index.entries + entry_size entry)) as (λ b. nat_lt largest (index_image_size index.entries + entry_size entry) ≡ b → (if b then Some Full else None) ≡ None → IsTaken entry index) [
          | true ↦ λ is s. absurd (refused Full s)
          | false ↦ λ room s. record { short = grind (arith, nat_tests); new = new; room = grind (arith, nat_tests) }
        ] refl r
      ] refl q
    ] refl e

pub there : (entry : IndexEntry) (index : EntryIndex) → remove_refusal entry index ≡ None → has_entry entry index.entries ≡ true
there entry index e =
    elim (has_entry entry index.entries) as (λ b. (if b then None else Some Absent) ≡ None → b ≡ true) [
      | true ↦ λ q. refl
      | false ↦ λ q. absurd (refused Absent q)
    ] e

pub small : (key : IndexEntry) (count size : ℕ) (xs : List IndexEntry) → IsCounted count size xs → has_entry key xs ≡ true → (1 + length key ≤ size) × (size ≤ largest)
small key count size xs h held =
    let smaller = size-without key xs held in
    let sized = h.sized in
    (omega arith, h.within)

pub few : (count size : ℕ) (xs : List IndexEntry) → IsCounted count size xs → count + 5 ≤ largest
few count size xs h =
    let counted = h.counted in
    let sized = h.sized in
    let within = h.within in
    let low = length-le-size xs in
    omega arith
