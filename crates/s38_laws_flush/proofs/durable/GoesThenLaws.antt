-- Numbers, kinds, the ceiling and what is on disk go on: what that is, and where one change follows another.
use Rattle.std.proofs.Common.{◌≡◌, ◌∙◌, ◌⊎◌, ℕ, ◌+◌, ◌<◌, ◌≤◌, ◌==◌, Bool, true, false, cond, not, inl, inr, List, [], ◌∷◌, ◌++◌, map, refl, sym, ap, subst, arith}
use Rattle.std.proofs.lemmas.List.Elements.{All-head, All-tail}
use Rattle.std.specs.List.{list_any}
use Rattle.std.specs.Prelude.{◌||◌, All, None, Option, Some}
use Rattle.s38_base.specs.declared.id.Kind.{Kind}
use Rattle.s38_commits.proofs.MapLaws.{nat_same}
use Rattle.s38_durable_state.specs.Following.{object_number}
use Rattle.s38_laws_objects.specs.Outline.{is_forced, speaks_of}
use Rattle.s38_rules.specs.store.Forcing.{Forced, is_whole}
use Rattle.s38_rules.specs.state.Held.{Held, is_on_disk, object, object_in}
use Rattle.s38_rules.specs.declared.object.Object.{Object}
use Rattle.s38_flush.specs.Stepping.{is_forced_ceiling}
use Rattle.s38_laws_flush.specs.durable.Kept.{AreNumbered}
use Rattle.s38_laws_flush.proofs.durable.SameLaws.{Same, kind_at, same_numbered}

-- an object of a kind is there no more, or is still of it
abbrev pub Left : Option Kind → Option Kind → Type 0
Left old new = (new ≡ None) ⊎ (new ≡ old)

-- no number is given twice, so what was there keeps its kind; what is not kept whole was on disk before; the ceiling stays
-- unless it is forced; and what is forced was given
pub record Goes (all : List Forced) (h k : Held) : Type 0 where
  pub numbered : AreNumbered k
  pub next : h.next ≤ k.next
  pub kinds : (n : ℕ) → n < h.next → Left (kind_at h n) (kind_at k n)
  pub disk : (n : ℕ) → list_any (is_whole n) all ≡ false → is_on_disk k n ≡ true → is_on_disk h n ≡ true
  pub ceiling : list_any is_forced_ceiling all ≡ false → k.ceiling ≡ h.ceiling
  pub forced : (n : ℕ) → is_forced n all ≡ true → n < k.next

-- what stays goes on, whatever is forced of what was given
pub same_goes : (all : List Forced) (h k : Held) → AreNumbered h → Same h k → ((n : ℕ) → is_forced n all ≡ true → n < h.next) → Goes all h k
same_goes all h k are same forced = record {
  numbered = same_numbered h k same are;
  next = let next = same.next in omega (arith, next);
  kinds = λ n less. inr (same.kinds n);
  disk = λ n not on. sym (same.disk n) ∙ on;
  ceiling = λ not. same.ceiling;
  forced = λ n is. let less = forced n is in let next = same.next in omega (arith, less, next);
}

nothing_forced : (h : Held) (n : ℕ) → false ≡ true → n < h.next
nothing_forced h n is = cc

pub quiet_goes : (h k : Held) → AreNumbered h → Same h k → Goes [] h k
quiet_goes h k are same = same_goes [] h k are same (nothing_forced h)

pub both_false : (a b : Bool) → (a || b) ≡ false → (a ≡ false) × (b ≡ false)
both_false false b h = (refl, h)
both_false true b h = cc

pub either_true : (a b : Bool) → (a || b) ≡ true → (a ≡ true) ⊎ (b ≡ true)
either_true true b h = inl refl
either_true false b h = inr h

pub any_none : {A : Type 0} (test : A → Bool) (xs ys : List A) → list_any test (xs ++ ys) ≡ false → (list_any test xs ≡ false) × (list_any test ys ≡ false)
any_none test [] ys h = (refl, h)
any_none test (x ∷ xs) ys h =
    let first = both_false (test x) (list_any test (xs ++ ys)) h in
    let rest = any_none test xs ys first.1 in
    (rw (first.0, rest.0) refl, rest.1)

pub any_either : {A : Type 0} (test : A → Bool) (xs ys : List A) → list_any test (xs ++ ys) ≡ true → (list_any test xs ≡ true) ⊎ (list_any test ys ≡ true)
any_either test [] ys h = inr h
any_either test (x ∷ xs) ys h = by (any_either test xs ys) (either_true (test x) (list_any test (xs ++ ys)) h)
  where
    first : test x ≡ true → (test x || list_any test xs) ≡ true
    first e = ap (λ b. b || list_any test xs) e

    later : (b : Bool) → list_any test xs ≡ true → (b || list_any test xs) ≡ true
    later true e = refl
    later false e = e

    rest : (list_any test xs ≡ true) ⊎ (list_any test ys ≡ true) → ((test x || list_any test xs) ≡ true) ⊎ (list_any test ys ≡ true)
    rest (inl e) = inl (later (test x) e)
    rest (inr e) = inr e

    by : (list_any test (xs ++ ys) ≡ true → (list_any test xs ≡ true) ⊎ (list_any test ys ≡ true)) → (test x ≡ true) ⊎ (list_any test (xs ++ ys) ≡ true)
        → ((test x || list_any test xs) ≡ true) ⊎ (list_any test ys ≡ true)
    by more (inl e) = inl (first e)
    by more (inr e) = rest (more e)

left_then : (a b c : Option Kind) → Left a b → Left b c → Left a c
left_then a b c x (inl e) = inl e
left_then a b c (inl d) (inr e) = inl (e ∙ d)
left_then a b c (inr d) (inr e) = inr (e ∙ d)

pub goes_then : (xs ys : List Forced) (h j k : Held) → Goes xs h j → Goes ys j k → Goes (xs ++ ys) h k
goes_then xs ys h j k a b = record {
  numbered = b.numbered;
  next = let one = a.next in let two = b.next in omega (arith, one, two);
  kinds = λ n less. let one = a.next in left_then (kind_at h n) (kind_at j n) (kind_at k n) (a.kinds n less) (b.kinds n (omega (arith, one, less)));
  disk = λ n not on. let both = any_none (is_whole n) xs ys not in a.disk n both.0 (b.disk n both.1 on);
  ceiling = λ not. let both = any_none is_forced_ceiling xs ys not in b.ceiling both.1 ∙ a.ceiling both.0;
  forced = λ n is. by n (any_either (speaks_of n) xs ys is);
}
  where
    by : (n : ℕ) → (is_forced n xs ≡ true) ⊎ (is_forced n ys ≡ true) → n < k.next
    by n (inl is) = let less = a.forced n is in let next = b.next in omega (arith, less, next)
    by n (inr is) = b.forced n is

pub there_given : (os : List Object) (next n : ℕ) (o : Object) → All (λ m. m < next) (map object_number os) → object_in os n ≡ Some o → n < next
there_given [] next n o given found = cc
there_given (x ∷ os) next n o given found = by (there_given os next n o (All-tail (λ m. m < next) x.number.0 (map object_number os) given)) (x.number.0 == n) refl found
  where
    by : (object_in os n ≡ Some o → n < next) → (b : Bool) → (x.number.0 == n) ≡ b → cond b (Some x) (object_in os n) ≡ Some o → n < next
    by rest true is found = subst (λ (m : ℕ). m < next) (nat_same x.number.0 n is) (All-head (λ m. m < next) x.number.0 (map object_number os) given)
    by rest false is found = rest found

pub object_given : (h : Held) (n : ℕ) (o : Object) → AreNumbered h → object h n ≡ Some o → n < h.next
object_given h n o are found = there_given h.objects h.next n o are.given found

-- so the next number is that of no object
pub none_next : (h : Held) → AreNumbered h → object h h.next ≡ None
none_next h are = by (object h h.next) refl
  where
    by : (x : Option Object) → object h h.next ≡ x → x ≡ None
    by None is = refl
    by (Some o) is = absurd (let less = object_given h h.next o are is in omega (arith, less))
