use Rattle.std.proofs.Common.{subst, sym}
use Rattle.s38_image_writer.proofs.CutLaws.{cells_long}
use Rattle.s38_image_writer.proofs.LengthLaws.{IsLong, data_long, index_long, journal_long, queue_long, text_long}
use Rattle.s38_image_writer.proofs.body.image_len.Goals as goal

pub returns-in-Program-clause-bytes : goal.returns-in-Program-clause-bytes
returns-in-Program-clause-bytes c = subst IsLong (sym c.in-Program.is) (λ units number last s. text_long c.in-Program.code.template)

pub returns-in-Space-clause-bytes : goal.returns-in-Space-clause-bytes
returns-in-Space-clause-bytes c = subst IsLong (sym c.in-Space.is) (λ units number last s. cells_long c.in-Space.cells c.cells_len.ensures.storage.whole)

pub returns-in-Queue-clause-bytes : goal.returns-in-Queue-clause-bytes
returns-in-Queue-clause-bytes c = subst IsLong (sym c.in-Queue.is) (λ units number last s. queue_long c.in-Queue.queue)

pub returns-in-Index-clause-bytes : goal.returns-in-Index-clause-bytes
returns-in-Index-clause-bytes c = subst IsLong (sym c.in-Index.is) (λ units number last s. index_long c.in-Index.index)

pub returns-in-DataSpace-clause-bytes : goal.returns-in-DataSpace-clause-bytes
returns-in-DataSpace-clause-bytes c =
    subst IsLong (sym c.in-DataSpace.is) (λ units number last s. data_long units number last c.in-DataSpace.held s c.data_len.ensures.entries)

pub returns-in-Journal-clause-bytes : goal.returns-in-Journal-clause-bytes
returns-in-Journal-clause-bytes c = subst IsLong (sym c.in-Journal.is) (λ units number last s. journal_long c.in-Journal.journal.entries)
