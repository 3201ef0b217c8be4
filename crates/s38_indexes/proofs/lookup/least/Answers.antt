use Rattle.std.proofs.Common.{◌∙◌, ap, sym}
use Rattle.std.specs.Option.{option_copied}
use Rattle.s38_indexes.specs.Entries.{is_in_relation}
use Rattle.s38_indexes.proofs.LookupLaws.{found_in, missed_in}
use Rattle.s38_indexes.proofs.lookup.least.Goals as goal

pub returns-in-Some : goal.returns-in-Some
returns-in-Some c =
    found_in (is_in_relation c.args.relation c.args.key.now) c.args.leaves.now c.loop-leaf.leaf-index c.leaf-item.result c.in-Some.entry.now c.loop-leaf-test.true c.leaf-item.is (ap option_copied (sym c.in-Some.is) ∙ c.least.ensures) ∙ sym c.loop-leaf.invariant

pub loop-leaf-preserved : goal.loop-leaf-preserved
loop-leaf-preserved c =
    c.loop-leaf.invariant ∙ missed_in (is_in_relation c.args.relation c.args.key.now) c.args.leaves.now c.loop-leaf.leaf-index c.leaf-item.result c.loop-leaf-test.true c.leaf-item.is (ap option_copied (sym c.in_default.is) ∙ c.least.ensures)
