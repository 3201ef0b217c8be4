-- How the last entry that is present is found, and that what is found is the nearest.
use Rattle.std.proofs.Common.{◌≡◌, ℕ, zero, suc, ◌+◌, ◌-◌, ◌<◌, ◌≤◌, Bool, true, false, List, [], ◌∷◌, length, min, drop, get_or, map, refl, sym, ◌∙◌, ap, subst, arith}
use Rattle.std.proofs.lemmas.Bool.Decides.{nat_tests}
use Rattle.std.proofs.lemmas.Iterator.Adapters.{position_from-zero}
use Rattle.std.proofs.lemmas.List.{get_or-drop}
use Rattle.std.proofs.lemmas.List.Quantifiers.{position-Some}
use Rattle.std.proofs.lemmas.Option.{unwrap_or-slice_get}
use Rattle.std.specs.List.{position_from}
use Rattle.std.specs.Option.{unwrap_or, option_flatten}
use Rattle.std.specs.Prelude.{◌==◌, nat_lt, Option, Some, None, if◌then◌else◌, is_some, option_map, position, slice_get}
use Rattle.s38_base.specs.declared.words.Seek.{Seek}
use Rattle.s38_base.specs.declared.words.Seek.TheVariants.{First, Last, Next, Prev, At}
use Rattle.s38_dataspaces.specs.Entries.{DataEntry}
use Rattle.s38_dataspaces.specs.Seeks.{IsNowhere, IsSought, is_present_at, is_present_under, last_up_to, next_above, sought}

no_less : (k : ℕ) → suc k - 1 ≡ k
no_less k = omega arith

pub last_found : (flags : List Bool) (at : ℕ) → 0 < at → is_present_at flags at ≡ true → last_up_to flags at ≡ Some at
last_found flags zero some e = absurd (omega arith)
last_found flags (suc k) some e = rw e refl

pub last_below : (flags : List Bool) (at : ℕ) → 0 < at → is_present_at flags at ≡ false → last_up_to flags (at - 1) ≡ last_up_to flags at
last_below flags zero some e = absurd (omega arith)
last_below flags (suc k) some e = rw (no_less k, e) refl

-- ---- what is found is the nearest of the entries that are present

stands_is : (flags : List Bool) (k : ℕ) → is_present_at flags (suc k) ≡ get_or flags k false
stands_is flags k = unwrap_or-slice_get flags k false

stands_within : (flags : List Bool) (at : ℕ) → is_present_at flags at ≡ true → at ≤ length flags
stands_within flags zero e = omega arith
stands_within [] (suc k) e = absurd (cc)
stands_within (f ∷ flags) (suc zero) e = omega arith
stands_within (f ∷ flags) (suc (suc k)) e = let rest = stands_within flags (suc k) e in omega arith

record IsLeastAbove (flags : List Bool) (from at : ℕ) : Type 0 where
  stands : is_present_at flags at ≡ true
  above : from < at
  least : (other : ℕ) → is_present_at flags other ≡ true → from < other → at ≤ other

some_place : (from at : ℕ) (p : Option ℕ) → option_map (λ k. from + 1 + k) p ≡ Some at → (k : ℕ) × (p ≡ Some k) × (from + 1 + k ≡ at)
some_place from at None e = absurd (cc)
some_place from at (Some k) e = let same : from + 1 + k ≡ at = cc in (k, refl, same)

no_place : (from : ℕ) (p : Option ℕ) → option_map (λ k. from + 1 + k) p ≡ None → p ≡ None
no_place from None e = refl
no_place from (Some k) e = absurd (cc)

none_stands : (flags : List Bool) (i : ℕ) → position_from (λ stands. stands) i flags ≡ None → (j : ℕ) → get_or flags j false ≡ false
none_stands [] i e j = refl
none_stands (true ∷ flags) i e j = absurd (cc)
none_stands (false ∷ flags) i e zero = refl
none_stands (false ∷ flags) i e (suc j) = none_stands flags (i + 1) e j

-- a place after `from` is one of those that were looked at
looked_at : (flags : List Bool) (from j : ℕ) → from ≤ j → get_or (drop from flags) (j - from) false ≡ is_present_at flags (suc j)
looked_at flags from j low =
    get_or-drop from flags (j - from) false ∙ ap (λ (n : ℕ). get_or flags n false) (omega arith) ∙ sym (stands_is flags j)

least_other : (flags : List Bool) (from at k : ℕ) → suc (from + k) ≡ at → ((j : ℕ) → j < k → get_or (drop from flags) j false ≡ false) → (other : ℕ) → is_present_at flags other ≡ true → from < other → at ≤ other
least_other flags from at k place before zero stands high = absurd (omega arith)
least_other flags from at k place before (suc j) stands high =
    elim (nat_lt j (from + k)) as (λ b. nat_lt j (from + k) ≡ b → at ≤ suc j) [
      | true ↦ λ less.
          let low : j < from + k = grind (arith, nat_tests) in
          let none = sym (looked_at flags from j (omega arith)) ∙ before (j - from) (omega arith) in
          absurd (cc)
      | false ↦ λ more. grind (arith, nat_tests)
    ] refl

next_least : (flags : List Bool) (from at : ℕ) → next_above flags from ≡ Some at → IsLeastAbove flags from at
next_least flags from at e =
    let found = some_place from at (position (λ stands. stands) (drop from flags)) e in
    let k = found.0 in
    let is = position-Some (λ (b : Bool). b) (drop from flags) k false found.1 in
    let place : suc (from + k) ≡ at = let q = found.2 in omega arith in
    record {
      stands = subst (λ (n : ℕ). is_present_at flags n ≡ true) place (stands_is flags (from + k) ∙ sym (get_or-drop from flags k false) ∙ is.1);
      above = omega arith;
      least = least_other flags from at k place is.2;
    }

next_none : (flags : List Bool) (from : ℕ) → next_above flags from ≡ None → (other : ℕ) → is_present_at flags other ≡ true → from < other → ⊥
next_none flags from e zero stands high = omega arith
next_none flags from e (suc j) stands high =
    let all = sym (position_from-zero (λ (b : Bool). b) (drop from flags)) ∙ no_place from (position (λ stands. stands) (drop from flags)) e in
    let none = sym (looked_at flags from j (omega arith)) ∙ none_stands (drop from flags) 0 all (j - from) in
    cc

record IsGreatestUpTo (flags : List Bool) (most at : ℕ) : Type 0 where
  stands : is_present_at flags at ≡ true
  within : at ≤ most
  greatest : (other : ℕ) → is_present_at flags other ≡ true → other ≤ most → other ≤ at

below_or_same : (flags : List Bool) (k other : ℕ) → is_present_at flags (suc k) ≡ false → is_present_at flags other ≡ true → other ≤ suc k → other ≤ k
below_or_same flags k other none stands low =
    elim (other == suc k) as (λ b. (other == suc k) ≡ b → other ≤ k) [
      | true ↦ λ same. let here : other ≡ suc k = grind (arith, nat_tests) in absurd (cc)
      | false ↦ λ differs. grind (arith, nat_tests)
    ] refl

last_greatest : (flags : List Bool) (most at : ℕ) → last_up_to flags most ≡ Some at → IsGreatestUpTo flags most at
last_greatest flags zero at e = absurd (cc)
last_greatest flags (suc k) at e = elim (is_present_at flags (suc k)) as (λ b. is_present_at flags (suc k) ≡ b → (if b then Some (suc k) else last_up_to flags k) ≡ Some at → IsGreatestUpTo flags (suc k) at) [
  | true ↦ λ is q.
      let here : suc k ≡ at = cc in
      subst (λ (n : ℕ). IsGreatestUpTo flags (suc k) n) here (record { stands = is; within = omega arith; greatest = λ other stands low. low })
  | false ↦ λ is q.
      let rest = last_greatest flags k at q in
      record {
        stands = rest.stands;
        within = let low = rest.within in omega arith;
        greatest = λ other stands low. rest.greatest other stands (below_or_same flags k other is stands low);
      }
] refl e

last_none : (flags : List Bool) (most : ℕ) → last_up_to flags most ≡ None → (other : ℕ) → is_present_at flags other ≡ true → other ≤ most → ⊥
last_none flags most e zero stands low = cc
last_none flags zero e (suc j) stands low = omega arith
last_none flags (suc k) e (suc j) stands low = elim (is_present_at flags (suc k)) as (λ b. is_present_at flags (suc k) ≡ b → (if b then Some (suc k) else last_up_to flags k) ≡ None → ⊥) [
  | true ↦ λ is q. cc
  | false ↦ λ is q. last_none flags k q (suc j) stands (below_or_same flags k (suc j) is stands low)
] refl e

-- ---- the same of entries

flag_same : (entries : List DataEntry) (k : ℕ) → unwrap_or (slice_get (map (λ (e : DataEntry). is_some e) entries) k) false ≡ is_some (option_flatten (slice_get entries k))
flag_same [] k = refl
flag_same (Some e ∷ es) zero = refl
flag_same (None ∷ es) zero = refl
flag_same (e ∷ es) (suc k) = flag_same es k

standing_same : (entries : List DataEntry) (at : ℕ) → is_present_at (map (λ (e : DataEntry). is_some e) entries) at ≡ is_present_under entries at
standing_same entries zero = refl
standing_same entries (suc k) = flag_same entries k

is_ordinal : (flags : List Bool) (at : ℕ) → is_present_at flags at ≡ true → 0 < at
is_ordinal flags zero e = absurd (cc)
is_ordinal flags (suc k) e = omega arith

less_holds : (a b : ℕ) → a < b → nat_lt a b ≡ true
less_holds a b e = grind (arith, nat_tests)

less_tells : (a b : ℕ) → nat_lt a b ≡ true → a < b
less_tells a b e = grind (arith, nat_tests)

equal_tells : (a b : ℕ) → (a == b) ≡ true → a ≡ b
equal_tells a b e = grind (arith, nat_tests)

equal_holds : (a : ℕ) → (a == a) ≡ true
equal_holds a = grind (arith, nat_tests)

pub is_sought : (entries : List DataEntry) (how : Seek) (from at : ℕ) → sought (map (λ (e : DataEntry). is_some e) entries) how from ≡ Some at → IsSought entries how from at
is_sought entries First from at e =
    let flags = map (λ (e : DataEntry). is_some e) entries in
    let found = next_least flags 0 at e in
    record {
      stands = sym (standing_same entries at) ∙ found.stands;
      asked = refl;
      nearest = λ other stands asked. let flag = standing_same entries other ∙ stands in found.least other flag (is_ordinal flags other flag);
    }
is_sought entries Last from at e =
    let flags = map (λ (e : DataEntry). is_some e) entries in
    let found = last_greatest flags (length flags) at e in
    record {
      stands = sym (standing_same entries at) ∙ found.stands;
      asked = refl;
      nearest = λ other stands asked. let flag = standing_same entries other ∙ stands in found.greatest other flag (stands_within flags other flag);
    }
is_sought entries Next from at e =
    let flags = map (λ (e : DataEntry). is_some e) entries in
    let found = next_least flags from at e in
    record {
      stands = sym (standing_same entries at) ∙ found.stands;
      asked = less_holds from at found.above;
      nearest = λ other stands asked. found.least other (standing_same entries other ∙ stands) (less_tells from other asked);
    }
is_sought entries Prev from at e =
    let flags = map (λ (e : DataEntry). is_some e) entries in
    let found = last_greatest flags (min (from - 1) (length flags)) at e in
    let some = is_ordinal flags at found.stands in
    let low = found.within in
    record {
      stands = sym (standing_same entries at) ∙ found.stands;
      asked = less_holds at from (omega arith);
      nearest = λ other stands asked.
          let flag = standing_same entries other ∙ stands in
          let within = stands_within flags other flag in
          let below = less_tells other from asked in
          found.greatest other flag (omega arith);
    }
is_sought entries At from at e =
    let flags = map (λ (e : DataEntry). is_some e) entries in
    elim (is_present_at flags from) as (λ b. is_present_at flags from ≡ b → (if b then Some from else None) ≡ Some at → IsSought entries At from at) [
      | true ↦ λ is q.
          let here : from ≡ at = cc in
          subst (λ (n : ℕ). IsSought entries At from n) here (record {
            stands = sym (standing_same entries from) ∙ is;
            asked = equal_holds from;
            nearest = λ other stands asked. let same = equal_tells other from asked in omega arith;
          })
      | false ↦ λ is q. absurd (cc)
    ] refl e

true_is_none : (b : Bool) → (b ≡ true → ⊥) → b ≡ false
true_is_none true none = absurd (none refl)
true_is_none false none = refl

pub is_nowhere : (entries : List DataEntry) (how : Seek) (from : ℕ) → sought (map (λ (e : DataEntry). is_some e) entries) how from ≡ None → IsNowhere entries how from
is_nowhere entries First from e =
    let flags = map (λ (e : DataEntry). is_some e) entries in
    record { none = λ other stands. let flag = standing_same entries other ∙ stands in absurd (next_none flags 0 e other flag (is_ordinal flags other flag)) }
is_nowhere entries Last from e =
    let flags = map (λ (e : DataEntry). is_some e) entries in
    record { none = λ other stands. let flag = standing_same entries other ∙ stands in absurd (last_none flags (length flags) e other flag (stands_within flags other flag)) }
is_nowhere entries Next from e =
    let flags = map (λ (e : DataEntry). is_some e) entries in
    record { none = λ other stands. true_is_none (nat_lt from other) (λ asked. next_none flags from e other (standing_same entries other ∙ stands) (less_tells from other asked)) }
is_nowhere entries Prev from e =
    let flags = map (λ (e : DataEntry). is_some e) entries in
    record {
      none = λ other stands. true_is_none (nat_lt other from) (λ asked.
          let flag = standing_same entries other ∙ stands in
          let within = stands_within flags other flag in
          let below = less_tells other from asked in
          last_none flags (min (from - 1) (length flags)) e other flag (omega arith));
    }
is_nowhere entries At from e =
    let flags = map (λ (e : DataEntry). is_some e) entries in
    elim (is_present_at flags from) as (λ b. is_present_at flags from ≡ b → (if b then Some from else None) ≡ None → IsNowhere entries At from) [
      | true ↦ λ is q. absurd (cc)
      | false ↦ λ is q. record {
        none = λ other stands. true_is_none (other == from) (λ asked.
            let same : other ≡ from = equal_tells other from asked in
            let here = ap (λ (n : ℕ). is_present_at flags n) same in
            let flag = standing_same entries other ∙ stands in
            cc);
      }
    ] refl e
