use Rattle.std.proofs.Common.{◌∙◌, List, add-one, arith, length-drop, ap, drop, suc, sym, take}
use Rattle.std.proofs.lemmas.List.{take_all}
use Rattle.std.proofs.lemmas.List.Sorted.{IsNonDecreasingBy-drop, IsNonDecreasingBy-take}
use Rattle.std.specs.Prelude.{find}
use Rattle.std.specs.Option.{option_copied}
use Rattle.s38_locks.specs.Locks.{Lock, hinders, lock_place}
use Rattle.s38_locks.proofs.OrderLaws.{found_first, found_later}
use Rattle.s38_locks.proofs.refusals.hindrance_beside.Goals as goal

pub returns-in-Some : goal.returns-in-Some
returns-in-Some c =
    let xs = c.args.locks.now in
    found_first (hinders c.args.process c.args.state) (take c.args.at xs) (drop (suc c.args.at) xs) c.in-Some.lock.now (ap option_copied (sym c.in-Some.is) ∙ c.hindrance.ensures)

pub returns-in-None : goal.returns-in-None
returns-in-None c =
    let xs = c.args.locks.now in
    found_later (hinders c.args.process c.args.state) (take c.args.at xs) (drop (suc c.args.at) xs) _ (ap option_copied (sym c.in-None.is) ∙ c.hindrance.ensures) (c.hindrance-in-None.ensures ∙ ap (λ (ys : List Lock). find (hinders c.args.process c.args.state) ys) (rw add-one (take_all _ _ (omega (arith, length-drop {A = Lock})))))

pub hindrance-requires : goal.hindrance-requires
hindrance-requires c = IsNonDecreasingBy-take lock_place c.args.at c.args.locks.now c.requires.order

pub hindrance-requires-in-None : goal.hindrance-requires-in-None
hindrance-requires-in-None c = IsNonDecreasingBy-take lock_place _ _ (IsNonDecreasingBy-drop lock_place _ c.args.locks.now c.requires.order)
