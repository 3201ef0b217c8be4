-- What each user pays for can be counted, where what all pay for can be.
use Rattle.std.proofs.Common.{◌≡◌, ℕ, ◌≤◌, ◌<◌, ◌==◌, ◌^◌, false, cond, true, List, [], ◌∷◌, arith}
use Rattle.std.proofs.lemmas.Bool.Decides.{nat_tests}
use Rattle.std.proofs.lemmas.List.Elements.{recursion_from_All}
use Rattle.std.proofs.lemmas.List.Sums.{sum_by-cons}
use Rattle.std.specs.List.{AllByRecursion}
use Rattle.std.specs.Prelude.{sum_by}
use Rattle.s38_laws_images.specs.openings.Charges.{pages_in, total_charge}
use Rattle.s38_laws_images.specs.openings.Opening.{IsOpening}
use Rattle.s38_rules.proofs.ChargeLaws.{charge_first, charge_none, other_pages}
use Rattle.s38_rules.specs.state.Held.{Held, charge_in, pages_for, pages_of}
use Rattle.s38_rules.specs.state.Kept.{CanBeKept}
use Rattle.s38_rules.specs.declared.object.Object.{Object}

one_pays : (user : ℕ) (o : Object) → pages_for user o ≤ pages_of o.body
one_pays user o = elim (o.owner.0 == user) as (λ b. cond b (pages_of o.body) 0 ≤ pages_of o.body) [ true ↦ omega arith | false ↦ omega arith ]

-- each user pays for a part of all
part_paid : (user : ℕ) (os : List Object) → charge_in os user ≤ sum_by pages_in os
part_paid user [] = omega (arith, charge_none user)
part_paid user (o ∷ os) = omega (arith, charge_first user o os, sum_by-cons pages_in o os, one_pays user o, part_paid user os)

-- a number that was not given owns nothing
nothing_paid : (next user : ℕ) (os : List Object) → next ≤ user → AllByRecursion (λ o. o.owner.0 < next) os → charge_in os user ≡ 0
nothing_paid next user [] high all = charge_none user
nothing_paid next user (o ∷ os) high all =
    let low : o.owner.0 < next = all.0 in
    let other : (o.owner.0 == user) ≡ false = grind (arith, nat_tests) in
    omega (arith, charge_first user o os, other_pages user o other, nothing_paid next user os high all.1)

pub can_be_kept : (h : Held) → IsOpening h → total_charge h < 2 ^ 64 → CanBeKept h
can_be_kept h is few = record {
  unowned = λ user high. nothing_paid h.next user h.objects high (recursion_from_All (λ o. o.owner.0 < h.next) h.objects is.owned);
  counted = λ user. let part = part_paid user h.objects in omega (arith, part, few);
}
