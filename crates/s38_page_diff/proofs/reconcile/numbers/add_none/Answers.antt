use Rattle.std.proofs.Common.{◌≡◌, ◌++◌, [], subst}
use Rattle.s38_page_diff.specs.Differences.{differences}
use Rattle.s38_page_diff.specs.declared.range.PartRange.{PartRange}
use Rattle.s38_page_diff.proofs.reconcile.SoFarLaws.{with_last}
use Rattle.s38_page_diff.proofs.reconcile.numbers.add_none.Goals as goal

pub returns : goal.returns
returns g c = λ pages have.
    let old = c.args.into.now.items in
    with_last pages c.args.number [] old c.add_removals.new.into.items c.add_last.new.into.items tt
    (subst (λ (r : PartRange). c.add_removals.new.into.items ≡ old ++ differences pages r []) c.short_range.ensures (c.in_ok-add_removals.ensures.ok pages have))
    (c.in_ok-add_last.ensures pages have)
