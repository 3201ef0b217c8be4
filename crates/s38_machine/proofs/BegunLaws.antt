-- Where no process has started, nobody lives; and the objects of a core and their owners have numbers that were given.
use Rattle.std.proofs.Common.{◌≡◌, ◌<◌, ◌≤◌, ◌-◌, ◌==◌, ℕ, zero, suc, Bool, true, false, cond, List, [], ◌∷◌, refl, ap, ◌∙◌, arith}
use Rattle.std.proofs.lemmas.Bool.Decides.{nat_tests}
use Rattle.std.proofs.lemmas.List.Elements.{All-head, All-tail}
use Rattle.std.specs.Prelude.{All, Some, is_some, nat_lt, slice_get}
use Rattle.s38_code.specs.declared.deck.Job.{Job}
use Rattle.s38_objects.specs.Lawful.{IsObjectMap, number_of}
use Rattle.s38_rules.proofs.ChargeLaws.{own_pages, pages_within, some_page}
use Rattle.s38_rules.specs.state.Held.{Held, charge_in, has_number, object_in}
use Rattle.s38_rules.specs.state.Opening.{process_entries}
use Rattle.s38_rules.specs.state.State.{State}
use Rattle.s38_rules.specs.declared.object.Object.{Object}
use Rattle.s38_rules.specs.declared.process.ProcessEntry.{ProcessEntry}
use Rattle.s38_rights_cache.specs.Places.{AreOwned, NobodyLives, is_live_in}

none_live : (jobs : List Job) (k : ℕ) → is_live_in (slice_get (process_entries jobs) k) ≡ false
none_live [] k = refl
none_live (job ∷ jobs) zero = refl
none_live (job ∷ jobs) (suc k) = none_live jobs k

pub nobody_in : (xs : List ProcessEntry) (jobs : List Job) → xs ≡ process_entries jobs → (p : ℕ) → is_live_in (slice_get xs (p - 1)) ≡ false
nobody_in xs jobs is p = ap (λ (ys : List ProcessEntry). is_live_in (slice_get ys (p - 1))) is ∙ none_live jobs (p - 1)

pub nobody_of : (s : State) (jobs : List Job) → s.processes ≡ process_entries jobs → NobodyLives s
nobody_of s jobs is = nobody_in s.processes jobs is

-- a number that is found was given
below_in : (next n : ℕ) (os : List Object) → All (λ o. number_of o < next) os → is_some (object_in os n) ≡ true → n < next
below_in next n [] all e = cc
below_in next n (x ∷ os) all e = by (has_number n x) refl (λ g. below_in next n os (All-tail (λ o. number_of o < next) x os all) g) e
  where
    first : (number : ℕ) → number < next → (number == n) ≡ true → n < next
    first number low same = grind (arith, nat_tests, low, same)

    by : (b : Bool) → has_number n x ≡ b → (is_some (object_in os n) ≡ true → n < next) → is_some (cond b (Some x) (object_in os n)) ≡ true → n < next
    by true same rest g = first x.number.0 (All-head (λ o. number_of o < next) x os all) same
    by false other rest g = rest g

below_by : (next owner charge : ℕ) → (next ≤ owner → charge ≡ 0) → 1 ≤ charge → owner < next
below_by next owner charge unowned pays = by (nat_lt owner next) refl
  where
    by : (b : Bool) → nat_lt owner next ≡ b → owner < next
    by true e = grind (arith, nat_tests, e)
    by false e =
        let high : next ≤ owner = grind (arith, nat_tests, e) in
        absurd (omega (arith, unowned high, pays))

-- owners pay, and a number that was not given pays for nothing
pub owned_by : (h : Held) → IsObjectMap h → ((user : ℕ) → h.next ≤ user → charge_in h.objects user ≡ 0) → AreOwned h
owned_by h lawful unowned = record {
  numbers = λ n there. below_in h.next n h.objects lawful.given there;
  owners = λ n o e. below_by h.next o.owner.0 (charge_in h.objects o.owner.0) (unowned o.owner.0) (omega (arith, pages_within n o.owner.0 o h.objects e, own_pages o, some_page o.body));
}
