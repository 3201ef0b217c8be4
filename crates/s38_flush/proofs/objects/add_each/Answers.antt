use Rattle.std.proofs.Common.{◌<◌, ◌≤◌, arith, get_or, length}
use Rattle.s38_page_diff.proofs.FaultLaws.{bad_on, handed}
use Rattle.s38_page_diff.proofs.reconcile.SoFarLaws.{stays_begun}
use Rattle.s38_flush.proofs.EachLaws.{at_place, each_begun, each_done, each_headed, each_on, to_place}
use Rattle.s38_rules.specs.state.State.{State}
use Rattle.s38_durable_state.specs.Durable.{Durable}
use Rattle.s38_vault.specs.Content.{Content}
use Rattle.s38_page_diff.specs.FlushFaults.{IsUnread}
use Rattle.s38_flush.specs.Stepping.{Precedes}
use Rattle.s38_page_diff.specs.declared.fault.FlushFault.{FlushFault}
use Rattle.s38_space_map.specs.Forcings.{all_forced}
use Rattle.s38_flush.proofs.objects.add_each.Goals as goal

pub loop-number-init : goal.loop-number-init
loop-number-init g c =
    each_begun (all_forced c.args.all.now) c.args.objects.now c.args.units.now c.args.vault.now c.args.forced.now c.args.into.now.items c.requires.numbers c.requires.forced c.requires.none (stays_begun c.args.vault.now)

pub loop-number-preserved : goal.loop-number-preserved
loop-number-preserved g c =
    let ns = c.args.forced.now in
    let at = c.loop-number.number-index in
    let within : at < length ns = omega (arith, c.loop-number-test.true) in
    let x = get_or ns at 0 in
    each_on (all_forced c.args.all.now) c.args.objects.now c.args.units.now c.args.vault.now c.loop-number.vault c.add_object.new.vault ns at x c.loop-number.into.items c.add_object.new.into.items
    c.loop-number.invariant within (at_place at 0 ns within) (to_place at 0 ns within)
    c.in_ok-add_object.ensures.told c.in_ok-add_object.ensures.header c.in_ok-add_object.ensures.adds c.add_object.ensures.stays c.in_ok-add_object.ensures.count

pub returns-clause-told : goal.returns-clause-told
returns-clause-told g c = λ m d s held p.
    let ns = c.args.forced.now in
    let end : length ns ≤ c.loop-number.number-index = omega (arith, c.loop-number-test.false) in
    each_done (all_forced c.args.all.now) c.args.objects.now c.args.units.now c.args.vault.now c.loop-number.vault ns c.loop-number.number-index c.loop-number.into.items c.loop-number.invariant end c.requires.forced m d s held p

pub returns-clause-headers : goal.returns-clause-headers
returns-clause-headers g c = λ m d s held p.
    let ns = c.args.forced.now in
    let end : length ns ≤ c.loop-number.number-index = omega (arith, c.loop-number-test.false) in
    each_headed (all_forced c.args.all.now) c.args.objects.now c.args.units.now c.args.vault.now c.loop-number.vault ns c.loop-number.number-index c.loop-number.into.items c.loop-number.invariant end c.requires.forced m d s held p

pub returns-in_err-add_object-clause-bad : goal.returns-in_err-add_object-clause-bad
returns-in_err-add_object-clause-bad g c =
    let V = g.V.Vault in
    let fault = c.in_err-add_object.field-0.0 in
    handed (λ (e : FlushFault). IsUnread ((m : Content) (d : Durable) (s : State) → V.holds c.args.vault.now m → Precedes c.args.objects.now c.args.units.now m d s → ⊥) e) c.from_residual.result fault c.from_residual.ensures.1
    (bad_on _ _ (λ bad m d s held p. bad m d s ((c.loop-number.invariant.stays.held m).0 held) p) fault c.in_err-add_object.ensures.bad)
