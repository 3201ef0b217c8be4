-- The lists of a seat as its processes leave it, and come back.
use Rattle.std.proofs.Common.{◌≡◌, ◌≢◌, ℕ, zero, suc, ◌+◌, ◌==◌, Bool, true, false, cond, not, List, [], ◌∷◌, ◌++◌, refl, sym, ap, ◌∙◌, arith, if◌then◌else◌, true≢false}
use Rattle.std.proofs.lemmas.Bool.Decides.{nat_tests}
use Rattle.s38_turn.specs.declared.item.Item.{Item}
use Rattle.s38_turn.specs.declared.view.ProcessList.{ProcessList}
use Rattle.s38_turn.specs.Lists.{empty_lists, has, list_of, without}
use Rattle.s38_turn.proofs.ListLaws.{empty_all, empty_has, has_left, has_still, no_list}
use Rattle.s38_workers.specs.Runs.{AreLeft}

-- ---- together

front_if : (xs ys zs : List Item) (more b : Bool) → (more ≡ true → ys ≡ zs) → (if b then true else more) ≡ true → (if b then xs else ys) ≡ (if b then xs else zs)
front_if xs ys zs more true k h = refl
front_if xs ys zs more false k h = k h

pub list_front : (p : ℕ) (ks ls : List ProcessList) → has p ks ≡ true → list_of p (ks ++ ls) ≡ list_of p ks
list_front p [] ls h = absurd (true≢false (sym h))
list_front p (k ∷ ks) ls h = front_if k.items (list_of p (ks ++ ls)) (list_of p ks) (has p ks) (k.process == p) (list_front p ks ls) h

back_if : (xs ys zs : List Item) (more b : Bool) → (more ≡ false → ys ≡ zs) → (if b then true else more) ≡ false → (if b then xs else ys) ≡ zs
back_if xs ys zs more true k h = absurd (true≢false h)
back_if xs ys zs more false k h = k h

pub list_back : (p : ℕ) (ks ls : List ProcessList) → has p ks ≡ false → list_of p (ks ++ ls) ≡ list_of p ls
list_back p [] ls h = refl
list_back p (k ∷ ks) ls h = back_if k.items (list_of p (ks ++ ls)) (list_of p ls) (has p ks) (k.process == p) (list_back p ks ls) h

-- ---- apart

one_left : (p q : ℕ) (l : ProcessList) (ls : List ProcessList) → p ≢ q → list_of p (without q ls) ≡ list_of p ls → (b : Bool) → (l.process == q) ≡ b → (c : Bool) → (l.process == p) ≡ c
    → list_of p (cond (not b) (l ∷ without q ls) (without q ls)) ≡ (if c then l.items else list_of p ls)
one_left p q l ls ne k true is true same = absurd (ne (grind (arith, nat_tests)))
one_left p q l ls ne k true is false same = k
one_left p q l ls ne k false is true same = ap (λ b. if b then l.items else list_of p (without q ls)) same
one_left p q l ls ne k false is false same = ap (λ b. if b then l.items else list_of p (without q ls)) same ∙ k

list_left : (p q : ℕ) (ls : List ProcessList) → p ≢ q → list_of p (without q ls) ≡ list_of p ls
list_left p q [] ne = refl
list_left p q (l ∷ ls) ne = one_left p q l ls ne (list_left p q ls ne) (l.process == q) refl (l.process == p) refl

empty_if : (p q : ℕ) (ls : List ProcessList) → list_of p ls ≡ [] → (b : Bool) → has p (without q ls) ≡ b → list_of p (without q ls) ≡ []
empty_if p q ls e true h = list_left p q ls (has_left p q ls h).0 ∙ e
empty_if p q ls e false h = no_list p (without q ls) h

pub left_next : (people at : ℕ) (ls : List ProcessList) → AreLeft people at ls → AreLeft people (at + 1) (without (at + 1) ls)
left_next people at ls l = record {
  those = λ p lt le. has_still p (at + 1) ls (λ e. omega (arith, lt, e)) (l.those p (omega (arith, lt)) le);
  none = λ p h. let t = has_left p (at + 1) ls h in let u = l.none p t.1 in let ne = t.0 in let lt = u.0 in (omega (arith, ne, lt), u.1);
  empty = λ p. empty_if p (at + 1) ls (l.empty p) (has p (without (at + 1) ls)) refl;
}

none_here : (xs : List Item) (b : Bool) → xs ≡ [] → (if b then [] else xs) ≡ []
none_here xs true e = refl
none_here xs false e = e

empty_list : (n p : ℕ) → list_of p (empty_lists n) ≡ []
empty_list zero p = refl
empty_list (suc n) p = none_here (list_of p (empty_lists n)) (suc n == p) (empty_list n p)

pub first_left : (people : ℕ) → AreLeft people 0 (empty_lists people)
first_left people = record { those = λ p lt le. empty_all people p lt le; none = λ p h. empty_has people p h; empty = λ p. empty_list people p }
