use Rattle.std.specs.Map.Iter.{deref}
use Rattle.std.specs.List.{AllByRecursion}
use Rattle.std.specs.Prelude.{map}
use Rattle.s38_durable_state.specs.Durable.{whole_stored}
use Rattle.s38_flush.specs.Stepping.{HasHeader}
use Rattle.s38_laws_checkpoint.proofs.puts.headers.headers_can_be_read.Given as goal

-- the headers of the objects gone through can be read again
abbrev pub invariant-loop-object : goal.invariant-loop-object
invariant-loop-object l = AllByRecursion (λ o. HasHeader (whole_stored l.fn.units l.fn.objects o)) (map deref l.yielded)
