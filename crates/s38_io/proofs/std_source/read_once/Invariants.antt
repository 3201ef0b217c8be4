use Rattle.std.specs.Io.KnownBytes.{Keeps}
use Rattle.s38_io.proofs.std_source.read_once.Given as goal

-- no read but the last took anything
abbrev pub invariant-loop : goal.invariant-loop
invariant-loop g l = Keeps (g.R.Read.remaining l.initial.reader) (g.R.Read.remaining l.reader)
