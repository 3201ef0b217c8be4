use Rattle.s38_objects.proofs.IndexLaws.{indexed_none}
use Rattle.s38_objects.proofs.objects.Objects.new.Goals as goal

pub invariant_of-result : goal.invariant_of-result
invariant_of-result c =
    indexed_none c.new.result c.new-2.result 1 c.new.ensures.empty c.new-2.ensures.empty c.new.ensures.ordered
