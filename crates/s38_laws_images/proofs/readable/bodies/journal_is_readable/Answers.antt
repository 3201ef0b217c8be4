use Rattle.std.proofs.Common.{arith}
use Rattle.s38_laws_images.proofs.readable.JournalLaws.{entries_fit}
use Rattle.s38_laws_images.proofs.readable.bodies.journal_is_readable.Goals as goal

pub returns : goal.returns
returns c = entries_fit 1 c.args.held.now.entries (omega (arith, c.last-last.ensures.last, c.last-last.ensures.bound)) c.last-last.ensures.stand
