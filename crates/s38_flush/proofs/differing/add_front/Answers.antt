use Rattle.std.proofs.Common.{subst}
use Rattle.s38_page_diff.specs.declared.range.PartRange.{PartRange}
use Rattle.s38_flush.proofs.KeptLaws.{adds_read}
use Rattle.s38_flush.specs.Fronts.{AddsAt}
use Rattle.s38_flush.proofs.differing.add_front.Goals as goal

pub returns-clause-adds : goal.returns-clause-adds
returns-clause-adds g c =
    let V = g.V.Vault in
    let old = c.args.vault.now in
    subst (λ (r : PartRange). AddsAt r.object c.args.into.now.items c.add_differences.new.into.items) c.front_range.ensures
    (adds_read (V.view old).keys c.front_range.result _ c.args.into.now.items c.add_differences.new.into.items c.in_ok-add_differences.ensures.read)
