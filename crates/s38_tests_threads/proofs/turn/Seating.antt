-- Which processes a seat has, where it parts and is gathered again.
use Rattle.std.proofs.Common.{◌≡◌, ◌≢◌, ◌⊎◌, ℕ, ◌+◌, ◌-◌, ◌<◌, ◌≤◌, true, List, ◌++◌, sym, ap, ◌∙◌, subst, arith}
use native.Mathlib.Decide.{ℕ_discrete, dec_le}
use mathlib.Core.Logic.{dite}
use Rattle.s38_turn.specs.declared.view.ProcessList.{ProcessList}
use Rattle.s38_turn.specs.Lists.{HasAll, has, only, without}
use Rattle.s38_turn.proofs.ListLaws.{has_first, has_second, has_still, only_one}
use Rattle.s38_tests_threads.specs.turn.Seating.{HasStill, HasThese}

-- a seat that parted with a process and got it back has what it had
pub has_again : (first : ℕ) (ls own : List ProcessList) → ((p : ℕ) → has p own ≡ has p (only first ls)) → HasStill ls (without first ls ++ own)
has_again first ls own mine p h = dite (ℕ_discrete p first)
    (λ (e : p ≡ first). has_second p (without first ls) own (ap (λ q. has q own) e ∙ (mine first ∙ only_one first ls)))
    (λ (ne : p ≢ first). has_first p (without first ls) own (has_still p first ls ne h))

pub has_else : (p : ℕ) (ls : List ProcessList) (q : ℕ) → q ≢ p → has q ls ≡ true → has q (without p ls) ≡ true
has_else p ls q ne h = has_still q p ls ne h

pub has_before : (last : ℕ) (ls : List ProcessList) → HasThese 1 last ls → HasThese 1 (last - 1) (without last ls)
has_before last ls h p pos le = has_still p last ls (λ e. omega (arith, pos, le, e)) (h p pos (omega (arith, le)))

pub has_last : (last : ℕ) (ls : List ProcessList) → HasThese last last (only last ls)
has_last last ls p le ge = let e : p ≡ last = omega (arith, le, ge) in ap (λ q. has q (only last ls)) e ∙ only_one last ls

pub has_moved : (p : ℕ) (ls other : List ProcessList) → has p (other ++ only p ls) ≡ true
has_moved p ls other = has_second p other (only p ls) (only_one p ls)

pub has_more : (ks ls : List ProcessList) → HasStill ks (ks ++ ls)
has_more ks ls p h = has_first p ks ls h

-- two seats have what both had
pub has_both : (middle last : ℕ) (ks ls ks' ls' : List ProcessList) → HasThese 1 middle ks → HasThese (middle + 1) last ls → HasStill ks ks' → HasStill ls ls' → HasAll last (ks' ++ ls')
has_both middle last ks ls ks' ls' first second one two p pos le = dite (dec_le p middle)
    (λ (h : p ≤ middle). has_first p ks' ls' (one p (first p (omega (arith, pos)) h)))
    (λ (h : p ≤ middle → ⊥). has_second p ks' ls' (two p (second p (omega (arith, h)) le)))
