-- Which keys lie after the numbers up to one.
use Rattle.std.proofs.Common.{◌≡◌, ℕ, ◌+◌, ◌<◌, ◌≤◌, ◌^◌, Bool, true, false, cond, inl, inr, refl, sym, ◌∙◌, ap, subst, arith}
use Rattle.std.proofs.lemmas.Bool.{cases_lt}
use Rattle.std.proofs.lemmas.Bool.Decides.{nat_tests}
use Rattle.std.specs.Prelude.{◌==◌, IfSome, Option, Some, None}
use Rattle.std.specs.FinMap.{contains_key}
use Rattle.std.specs.Ordering.{is_lt}
use Rattle.s38_base.specs.declared.page.Key.{Key}
use Rattle.s38_vault.specs.Directory.{Keys, is_after, next_key}
use Rattle.s38_vault.specs.Keys.{key_cmp}
use Rattle.s38_page_diff.specs.reconcile.Replacing.{last_part}
use Rattle.s38_page_diff.specs.reconcile.Walking.{AreFineTo, IsKeyInRange, IsKnown, last_key}
use Rattle.s38_page_diff.proofs.WalkLaws.{none_before}

pub record IsUpTo (done : ℕ) (key : Key) : Type 0 where
  pub object : key.object ≤ done
  pub part : key.object ≡ done → key.part < 2 ^ 32

after_lower : (done : ℕ) (key : Key) → 1 ≤ done → is_lt (key_cmp (record { object = done; part = last_part }) key) ≡ false → IsUpTo done key
after_lower done key from e = record { object = grind (arith, nat_tests); part = λ same. grind (arith, nat_tests) }

-- a key that is not after
pub up_to : (done : ℕ) (key : Key) → is_after (last_key done) key ≡ false → IsUpTo done key
up_to done key = by (done == 0) refl
  where
    by : (b : Bool) → (done == 0) ≡ b → is_after (cond b None (Some (record { object = done; part = last_part }))) key ≡ false → IsUpTo done key
    by true is e = absurd (cc)
    by false is e = after_lower done key (grind (arith, nat_tests)) e

-- a key of a greater number is after
pub above_after : (done : ℕ) (key : Key) → done < key.object → is_after (last_key done) key ≡ true
above_after done key low = by (done == 0) refl
  where
    by : (b : Bool) → (done == 0) ≡ b → is_after (cond b None (Some (record { object = done; part = last_part }))) key ≡ true
    by true is = refl
    by false is = grind (arith, nat_tests)

-- a key of a vault that is after is of a greater number
pub after_above : (done : ℕ) (key : Key) → 1 ≤ key.object → key.part < 2 ^ 32 → is_after (last_key done) key ≡ true → done < key.object
after_above done key from part = by (done == 0) refl
  where
    by : (b : Bool) → (done == 0) ≡ b → is_after (cond b None (Some (record { object = done; part = last_part }))) key ≡ true → done < key.object
    by true is e = grind (arith, nat_tests)
    by false is e = grind (arith, nat_tests)

-- ---- fine keys

no_yes : {b : Bool} → b ≡ true → b ≡ false → ⊥
no_yes t f = cc

-- where no key lies after a number and before the next one, all keys up to that one are fine
pub fine_on : (keys : Keys) (done next : ℕ) → done < next → ((key : Key) → is_after (last_key done) key ≡ true → key.object < next → contains_key keys key ≡ false) → AreFineTo keys done → AreFineTo keys next
fine_on keys done next low none fine key there not_behind =
    let upto = up_to next key not_behind in
    by upto (is_after (last_key done) key) refl
  where
    here : IsUpTo next key → is_after (last_key done) key ≡ true → next ≤ key.object
    here upto behind = elim (cases_lt key.object next) [
      | inl less ↦ absurd (no_yes there (none key behind less))
      | inr more ↦ more
    ]

    by : IsUpTo next key → (b : Bool) → is_after (last_key done) key ≡ b → IsKeyInRange key
    by upto true behind =
        let most = here upto behind in
        let at : key.object ≡ next = omega (arith, upto.object, most) in
        record { from = omega (arith, most, low); part = upto.part at }
    by upto false before = fine key there before

-- where no key lies after a number up to another, all keys of the numbers up to that one are fine
pub fine_upto : (keys : Keys) (done upto : ℕ) → ((key : Key) → is_after (last_key done) key ≡ true → key.object ≤ upto → contains_key keys key ≡ false) → AreFineTo keys done
    → (key : Key) → contains_key keys key ≡ true → key.object ≤ upto → IsKeyInRange key
fine_upto keys done upto none fine key there low = by (is_after (last_key done) key) refl
  where
    by : (b : Bool) → is_after (last_key done) key ≡ b → IsKeyInRange key
    by true behind = absurd (no_yes there (none key behind low))
    by false before = fine key there before

-- where the keys of all numbers below one are fine, so are all up to its last key
pub fine_next : (keys : Keys) (below n : ℕ) → 1 ≤ n → n ≤ below + 1 → ((key : Key) → contains_key keys key ≡ true → key.object ≤ below → IsKeyInRange key) → AreFineTo keys n
fine_next keys below n from next fine key there not_behind =
    let upto = up_to n key not_behind in
    elim (cases_lt below key.object) [
      | inl high ↦
          let at : key.object ≡ n = omega (arith, upto.object, high, next) in
          record { from = omega (arith, at, from); part = upto.part at }
      | inr low ↦ fine key there low
    ]

-- where no key lies after the last number, all keys are known
pub all_known : (keys : Keys) (last : ℕ) → ((key : Key) → is_after (last_key last) key ≡ true → contains_key keys key ≡ false) → AreFineTo keys last → (key : Key) → contains_key keys key ≡ true → IsKnown last key
all_known keys last none fine key there = by (is_after (last_key last) key) refl
  where
    by : (b : Bool) → is_after (last_key last) key ≡ b → IsKnown last key
    by true behind = absurd (no_yes there (none key behind))
    by false before =
        let is = fine key there before in
        record { from = is.from; upto = (up_to last key before).object; part = is.part }

-- ---- the next number

pub named_by : (r : Option Key) (k : Key) → r ≡ Some k → IfSome r (λ key. 1 ≤ key.object) → 1 ≤ k.object
named_by r k is h = let at : IfSome (Some k) (λ key. 1 ≤ key.object) = subst (λ (o : Option Key). IfSome o (λ key. 1 ≤ key.object)) is h in at

pub passes_by : (after : Option Key) (done : ℕ) (key : Key) → after ≡ last_key done → is_after (last_key done) key ≡ true → is_after after key ≡ true
passes_by after done key same behind = ap (λ (o : Option Key). is_after o key) same ∙ behind

pub passes_on : (after : Option Key) (done : ℕ) (key : Key) → after ≡ last_key done → is_after after key ≡ true → is_after (last_key done) key ≡ true
passes_on after done key same behind = ap (λ (o : Option Key). is_after o key) (sym same) ∙ behind

-- no key comes before the next one's number
pub none_lower : (keys : Keys) (after : Option Key) (k q : Key) → next_key keys after ≡ Some k → is_after after q ≡ true → q.object < k.object → contains_key keys q ≡ false
none_lower keys after k q found passes low = none_before keys after k q found passes (omega arith) (λ same. absurd (omega (arith, same, low)))

-- no key is of a number up to none
pub fine_begun : (keys : Keys) → AreFineTo keys 0
fine_begun keys key there before = absurd (no_yes {b = true} refl before)

-- of a vault that has the same keys
pub fine_moved : (keys more : Keys) (done : ℕ) → more ≡ keys → AreFineTo keys done → AreFineTo more done
fine_moved keys more done same fine = subst (λ (ks : Keys). AreFineTo ks done) (sym same) fine

-- there is no number after one and not above it
pub no_next : (next : Option ℕ) (n : ℕ) → IfSome next (λ k. n < k) → IfSome next (λ k. k ≤ n) → next ≡ None
no_next None n low high = refl
no_next (Some k) n low high = absurd (beyond k n low high)
  where
    beyond : (k n : ℕ) → n < k → k ≤ n → ⊥
    beyond k n low high = omega arith
