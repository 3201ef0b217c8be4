-- What a run begins with can be kept of its users: all objects are the security officer's, and take a page each.
use Rattle.std.proofs.Common.{◌≡◌, ℕ, ◌≤◌, ◌==◌, true, false, cond, [], ◌∷◌, refl, arith}
use Rattle.std.proofs.lemmas.Bool.Decides.{nat_tests}
use Rattle.s38_rules.specs.declared.object.Object.{Object}
use Rattle.s38_rules.specs.state.Held.{charge_in, pages_for, pages_of}
use Rattle.s38_rules.specs.state.Kept.{CanBeKept}
use Rattle.s38_rules.specs.state.Opening.{general_context, held_first, held_installed, installed, locked_queue, machine_context_object, officer_object, opening, plain_user}
use Rattle.s38_rules.proofs.ChargeLaws.{charge_first, charge_none}

one_page : (user : ℕ) (o : Object) → pages_of o.body ≡ 1 → pages_for user o ≤ 1
one_page user o h = elim (o.owner.0 == user) as (λ b. cond b (pages_of o.body) 0 ≤ 1) [ true ↦ omega (arith, h) | false ↦ omega arith ]

no_page : (user : ℕ) (o : Object) → o.owner.0 ≡ 2 → 3 ≤ user → pages_for user o ≡ 0
no_page user o own high = let other : (o.owner.0 == user) ≡ false = grind (arith, nat_tests) in rw other refl

charge_few : (user : ℕ) → charge_in opening user ≤ 5
unfolding opening
charge_few user =
    omega (
      arith,
      charge_first user machine_context_object (officer_object ∷ general_context ∷ plain_user ∷ locked_queue ∷ []),
      one_page user machine_context_object refl,
      charge_first user officer_object (general_context ∷ plain_user ∷ locked_queue ∷ []),
      one_page user officer_object refl,
      charge_first user general_context (plain_user ∷ locked_queue ∷ []),
      one_page user general_context refl,
      charge_first user plain_user (locked_queue ∷ []),
      one_page user plain_user refl,
      charge_first user locked_queue [],
      one_page user locked_queue refl,
      charge_none user,
    )

charge_nothing : (user : ℕ) → 6 ≤ user → charge_in opening user ≡ 0
unfolding opening
charge_nothing user least =
    let high : 3 ≤ user = omega (arith, least) in
    omega (
      arith,
      charge_first user machine_context_object (officer_object ∷ general_context ∷ plain_user ∷ locked_queue ∷ []),
      no_page user machine_context_object refl high,
      charge_first user officer_object (general_context ∷ plain_user ∷ locked_queue ∷ []),
      no_page user officer_object refl high,
      charge_first user general_context (plain_user ∷ locked_queue ∷ []),
      no_page user general_context refl high,
      charge_first user plain_user (locked_queue ∷ []),
      no_page user plain_user refl high,
      charge_first user locked_queue [],
      no_page user locked_queue refl high,
      charge_none user,
    )

pub opening_kept : CanBeKept held_first
opening_kept = record {
  unowned = charge_nothing;
  counted = λ user. let few = charge_few user in omega (arith, few);
}

installed_few : (user : ℕ) → charge_in installed user ≤ 2
unfolding installed
installed_few user =
    omega (
      arith,
      charge_first user machine_context_object (officer_object ∷ []),
      one_page user machine_context_object refl,
      charge_first user officer_object [],
      one_page user officer_object refl,
      charge_none user,
    )

installed_nothing : (user : ℕ) → 3 ≤ user → charge_in installed user ≡ 0
unfolding installed
installed_nothing user high =
    omega (
      arith,
      charge_first user machine_context_object (officer_object ∷ []),
      no_page user machine_context_object refl high,
      charge_first user officer_object [],
      no_page user officer_object refl high,
      charge_none user,
    )

pub installed_kept : CanBeKept held_installed
installed_kept = record {
  unowned = installed_nothing;
  counted = λ user. let few = installed_few user in omega (arith, few);
}
