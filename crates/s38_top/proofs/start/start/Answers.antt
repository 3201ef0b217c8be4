use Rattle.std.proofs.Common.{ap}
use Rattle.s38_rules.specs.step.Legal.{Run}
use Rattle.s38_top.proofs.WholeRunLaws.{started_of}
use Rattle.s38_top.proofs.start.start.Goals as goal

pub returns-clause-held : goal.returns-clause-held
returns-clause-held c = ap (λ (r : Run). r.state.held) c.in_ok-machine.ensures

pub returns-clause-started : goal.returns-clause-started
returns-clause-started c = record {
  begins = started_of c.args.objects c.args.deck c.args.templates c.in_ok-machine.machine (rw c.as_slice-2.ensures.items at c.in_ok-machine.ensures) c.requires.checked;
  few = c.requires.few;
  count = c.in_ok-made.ensures.len;
  each = c.in_ok-made.ensures.each;
}
