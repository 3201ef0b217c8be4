-- Objects that are found by number.
use Rattle.std.proofs.Common.{◌≡◌, ℕ, ◌<◌, ◌≤◌, ◌==◌, Bool, true, false, cond, List, [], ◌∷◌, ◌++◌, refl, sym, ◌∙◌, ap, arith}
use Rattle.std.proofs.lemmas.Bool.Decides.{nat_tests}
use Rattle.std.specs.Prelude.{◌&&◌, Some, None, nat_lt}
use Rattle.s38_checkpoint.specs.Ensuring.{journal_above, journal_ahead}
use Rattle.s38_rules.specs.state.Held.{Held, disk_in, has_number, is_on_disk, object, object_in}
use Rattle.s38_rules.specs.state.Journaling.{journal_for}
use Rattle.s38_rules.specs.declared.object.Object.{Object}

-- an object is among others
pub record IsAmong (os : List Object) (o : Object) : Type 0 where
  pub before : List Object
  pub behind : List Object
  pub all : os ≡ before ++ o ∷ behind

some_one : {a b : Object} → Some a ≡ Some b → a ≡ b
some_one e = cc

pub found_among : (n : ℕ) (os : List Object) (o : Object) → object_in os n ≡ Some o → IsAmong os o
found_among n [] o is = absurd (cc)
found_among n (x ∷ os) o is = by (has_number n x) is (found_among n os o)
  where
    by : (b : Bool) → cond b (Some x) (object_in os n) ≡ Some o → (object_in os n ≡ Some o → IsAmong os o) → IsAmong (x ∷ os) o
    by true is rest = record { before = []; behind = os; all = ap (λ (y : Object). y ∷ os) (some_one is) }
    by false is rest =
        let there = rest is in
        record { before = x ∷ there.before; behind = there.behind; all = ap (λ (xs : List Object). x ∷ xs) there.all }

same_number : (n k : ℕ) → (k == n) ≡ true → k ≡ n
same_number n k is = grind (arith, nat_tests)

pub found_number : (n : ℕ) (os : List Object) (o : Object) → object_in os n ≡ Some o → o.number.0 ≡ n
found_number n [] o is = absurd (cc)
found_number n (x ∷ os) o is = by (has_number n x) refl is (found_number n os o)
  where
    by : (b : Bool) → has_number n x ≡ b → cond b (Some x) (object_in os n) ≡ Some o → (object_in os n ≡ Some o → o.number.0 ≡ n) → o.number.0 ≡ n
    by true this is rest = ap (λ (y : Object). y.number.0) (sym (some_one is)) ∙ same_number n x.number.0 this
    by false this is rest = rest is

-- ---- the journal space that is kept with a data space

both : (a b : Bool) → a ≡ true → b ≡ true → a && b ≡ true
both true true p q = refl
both true false p q = q
both false b p q = p

not_first : (a b : Bool) → a ≡ false → a && b ≡ false
not_first a b p = ap (λ c. c && b) p

not_second : (a b : Bool) → b ≡ false → a && b ≡ false
not_second false b p = refl
not_second true b p = p

below : (a b : ℕ) → a < b → nat_lt a b ≡ true
below a b less = grind (arith, nat_tests)

not_below : (a b : ℕ) → b ≤ a → nat_lt a b ≡ false
not_below a b more = grind (arith, nat_tests)

module _ (h : Held) (n j : ℕ) (o : Object) (for : journal_for h n ≡ Some j) (is : object h j ≡ Some o) where
  same : o.number.0 ≡ j
  same = found_number j h.objects o is

  pub ahead_there : object h o.number.0 ≡ Some o
  ahead_there = ap (object h) same ∙ is

  pub ahead_some : n < o.number.0 → o.on_disk ≡ true → Some o.number.0 ≡ journal_ahead h n
  ahead_some less disk =
      sym (ap (journal_above h n) for
      ∙ ap (λ b. cond b (Some j) None) (both (nat_lt n j) (is_on_disk h j) (below n j (omega (arith, less, same))) (ap disk_in is ∙ disk)) ∙ ap Some (sym same))

  pub ahead_below : o.number.0 ≤ n → None ≡ journal_ahead h n
  ahead_below low = sym (ap (journal_above h n) for ∙ ap (λ b. cond b (Some j) None) (not_first (nat_lt n j) (is_on_disk h j) (not_below n j (omega (arith, low, same)))))

  pub ahead_off : o.on_disk ≡ false → None ≡ journal_ahead h n
  ahead_off off = sym (ap (journal_above h n) for ∙ ap (λ b. cond b (Some j) None) (not_second (nat_lt n j) (is_on_disk h j) (ap disk_in is ∙ off)))
