use Rattle.std.proofs.Common.{◌≡◌, ◌∷◌, length, sym, ◌∙◌, arith}
use Rattle.std.proofs.lemmas.Map.Iter.{rest_more}
use Rattle.std.specs.Prelude.{filter}
use Rattle.std.specs.Map.{keys_of}
use Rattle.std.specs.Map.Iter.{deref}
use Rattle.s38_units.specs.Blocks.{leads_to}
use Rattle.s38_units.proofs.CountLaws.{counted_no, counted_yes, port_leads}
use Rattle.s38_units.proofs.UnitLaws.{few_blocks}
use Rattle.s38_units.proofs.journaling.count_blocks.Goals as goal

pub overflow_add-count : goal.overflow_add-count
overflow_add-count c =
    let few = few_blocks c.args.objects.now c.args.journal.0 (keys_of c.args.units.now) in
    omega (arith, c.loop-block.invariant.counted, few, c.blocks-block-items.ensures.few)

pub loop-block-preserved-then-leads : goal.loop-block-preserved-then-leads
loop-block-preserved-then-leads c =
    let h = c.args.objects.now in
    let journal = c.args.journal.0 in
    let block = c.in-Some.block.now in
    let left = c.next.new.self in
    let first : c.loop-block.block-iterator ≡ block ∷ left = rest_more deref c.loop-block.block-iterator left c.next.result c.in-Some.block c.in-Some.is c.next.ensures.steps in
    let known = port_leads h journal block c.block_port-next.result.0 c.is_known_to_lead-leads.result c.block_port-next.ensures c.is_known_to_lead-leads.ensures in
    record {
      leads = c.is_known_to_lead-leads.ensures;
      counted = counted_yes h journal block c.loop-block.count (length (filter (leads_to h journal) (keys_of c.args.units.now)))
          c.loop-block.block-iterator left first c.loop-block.invariant.counted (sym known ∙ c.if-leads.true);
    }

pub loop-block-preserved : goal.loop-block-preserved
loop-block-preserved c =
    let h = c.args.objects.now in
    let journal = c.args.journal.0 in
    let block = c.in-Some.block.now in
    let left = c.next.new.self in
    let first : c.loop-block.block-iterator ≡ block ∷ left = rest_more deref c.loop-block.block-iterator left c.next.result c.in-Some.block c.in-Some.is c.next.ensures.steps in
    let known = port_leads h journal block c.block_port-next.result.0 c.is_known_to_lead-leads.result c.block_port-next.ensures c.is_known_to_lead-leads.ensures in
    record {
      leads = c.is_known_to_lead-leads.ensures;
      counted = counted_no h journal block c.loop-block.count (length (filter (leads_to h journal) (keys_of c.args.units.now)))
          c.loop-block.block-iterator left first c.loop-block.invariant.counted (sym known ∙ c.if-leads.false);
    }
