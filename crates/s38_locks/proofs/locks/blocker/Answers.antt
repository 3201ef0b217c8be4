use Rattle.std.proofs.Common.{refl, sym, ◌∙◌}
use Rattle.std.proofs.lemmas.List.Sorted.{IsNonDecreasingBy-drop}
use Rattle.s38_locks.specs.Locks.{is_blocker, lock_place}
use Rattle.s38_locks.proofs.SearchLaws.{none_left, run_falls, run_found, run_passed}
use Rattle.s38_locks.proofs.locks.blocker.Goals as goal

pub loop-lock-init : goal.loop-lock-init
loop-lock-init c = (c.requires, refl)

pub returns-then-is_blocker : goal.returns-then-is_blocker
returns-then-is_blocker c =
    run_found (is_blocker c.args.process c.args.category) c.in-Some.lock.now c.loop-lock.rest.now c.in-Some.ensures.value (sym c.is_blocker.ensures ∙ c.if-is_blocker.true) ∙ c.loop-lock.invariant.1

pub later_than-rest-requires : goal.later_than-rest-requires
later_than-rest-requires c = c.loop-lock.invariant.0

pub loop-lock-smaller : goal.loop-lock-smaller
loop-lock-smaller c = rw c.later_than-rest.ensures (run_falls c.in-Some.lock.now c.loop-lock.rest.now c.in-Some.ensures.value)

pub loop-lock-preserved : goal.loop-lock-preserved
loop-lock-preserved c =
    let fails = sym c.is_blocker.ensures ∙ c.if-is_blocker.false in
    let passed = run_passed (is_blocker c.args.process c.args.category) c.in-Some.lock.now c.loop-lock.rest.now c.in-Some.ensures.value c.loop-lock.invariant.0 fails in
    rw c.later_than-rest.ensures (IsNonDecreasingBy-drop lock_place _ c.loop-lock.rest.now c.loop-lock.invariant.0, passed ∙ c.loop-lock.invariant.1)

pub returns : goal.returns
returns c = none_left (is_blocker c.args.process c.args.category) c.loop-lock.rest.now c.in_default.ensures.value ∙ c.loop-lock.invariant.1
