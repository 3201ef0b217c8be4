use Rattle.std.proofs.Common.{vec_len}
use Rattle.s38_objects.proofs.RestoreLaws.{AreLast}
use Rattle.s38_objects.proofs.objects.Objects.restored.Given as goal

abbrev pub invariant-loop-object : goal.invariant-loop-object
invariant-loop-object l = AreLast l.fn.next l.by_number l.by_name l.objects.items l.fn.objects.items

abbrev pub decreases-loop-object : goal.decreases-loop-object
decreases-loop-object l = vec_len l.objects
