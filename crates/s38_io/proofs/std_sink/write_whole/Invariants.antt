use Rattle.s38_io.specs.Sink.{Written}
use Rattle.s38_io.proofs.std_sink.write_whole.Given as goal

abbrev pub invariant-loop : goal.invariant-loop
invariant-loop g l = Written (g.W.Write.contents l.initial.writer) (g.W.Write.contents l.writer) l.piece l.rest
