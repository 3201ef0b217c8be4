use Rattle.std.proofs.Common.{◌≡◌, ◌+◌, ◌-◌, ◌≤◌, ℕ, Option, ap, arith, drop, subst, take, ◌∙◌}
use Rattle.std.specs.List.{slice_range}
use Rattle.std.specs.Option.{unwrap_or}
use Rattle.std.proofs.lemmas.List.{length-take}
use Rattle.s38_base.specs.Faults.{Rose}
use Rattle.s38_restart.proofs.RemoveLaws.{changed_range, during_on, not_refused, range_removes, range_rises}
use Rattle.s38_vault.specs.Content.{Content, changed}
use Rattle.s38_vault.specs.declared.fault.VaultFault.{VaultFault}
use Rattle.s38_vault.specs.declared.fault.VaultFault.TheVariants.{Failed}
use Rattle.s38_restart.proofs.removing.remove_all.Goals as goal

pub put-requires-clause-rising : goal.put-requires-clause-rising
put-requires-clause-rising g c = range_rises c.loop-done.done (c.loop-done.done + c.min.result) c.args.changes.now c.requires.rising

pub loop-done-preserved : goal.loop-done-preserved
loop-done-preserved g c =
    let was = c.loop-done.invariant in
    let xs = c.args.changes.now in
    let done = c.loop-done.done in
    let end = done + c.min.result in
    let le : done ≤ end = omega arith in
    record {
      inside = omega (arith, was.inside, c.min.ensures);
      room = omega (arith, was.room, c.put.ensures.spare, length-take (end - done) (drop done xs));
      view = λ e. absurd (omega (arith, c.min.ensures, c.most-most.ensures.most, c.most-most.ensures.limits.0, c.loop-done-test.true));
      shape = c.put.ensures.shape ∙ was.shape;
      faults = c.in-Ok.ensures.count ∙ was.faults;
      later = omega (arith, was.later, c.put.ensures.later);
      holds = λ m h. subst (λ (n : Content). g.V.Vault.holds c.put.new.self n) (changed_range m done end xs le) (c.in-Ok.ensures.holds (changed m (take done xs)) (was.holds m h));
      past = λ t m low.
          let early : t ≤ (g.V.Vault.view c.loop-done.vault).moment = omega (arith, low, was.later) in
          ((λ h. (c.put.ensures.past t m early).0 ((was.past t m low).0 h)), (λ h. (was.past t m low).1 ((c.put.ensures.past t m early).1 h)));
      during = λ m h.
          during_on (g.V.Vault.leaves c.loop-done.vault) (g.V.Vault.leaves c.put.new.self) (g.V.Vault.view c.args.vault.now).moment (g.V.Vault.view c.loop-done.vault).moment (g.V.Vault.view c.put.new.self).moment m xs done end le
          c.put.ensures.past (was.during m h) (c.put.ensures.during (changed m (take done xs)) (was.holds m h));
    }

pub returns-in-Err-clause-during : goal.returns-in-Err-clause-during
returns-in-Err-clause-during g c =
    let was = c.loop-done.invariant in
    let xs = c.args.changes.now in
    let done = c.loop-done.done in
    let end = done + c.min.result in
    let le : done ≤ end = omega arith in
    λ m h.
    during_on (g.V.Vault.leaves c.loop-done.vault) (g.V.Vault.leaves c.put.new.self) (g.V.Vault.view c.args.vault.now).moment (g.V.Vault.view c.loop-done.vault).moment (g.V.Vault.view c.put.new.self).moment m xs done end le
    c.put.ensures.past (was.during m h) (c.put.ensures.during (changed m (take done xs)) (was.holds m h))

pub returns-in-Err-clause-cause : goal.returns-in-Err-clause-cause
returns-in-Err-clause-cause g c =
    let was = c.loop-done.invariant in
    let now = slice_range c.args.changes.now c.loop-done.done (c.loop-done.done + c.min.result) in
    let none = not_refused (g.V.Vault.view c.loop-done.vault) now (range_removes c.loop-done.done (c.loop-done.done + c.min.result) c.args.changes.now c.requires.removals) in
    let failed : c.in-Err.field-0 ≡ Failed = c.in-Err.ensures.fault ∙ ap (λ (o : Option VaultFault). unwrap_or o Failed) none in
    let rose : Rose (g.V.Vault.view c.loop-done.vault).faults (g.V.Vault.view c.put.new.self).faults = c.in-Err.ensures.cause.failed failed in
    record {
      later = omega (arith, was.faults, c.in-Err.ensures.cause.later);
      failed = λ e. subst (λ (n : ℕ). Rose n (g.V.Vault.view c.put.new.self).faults) was.faults rose;
    }
