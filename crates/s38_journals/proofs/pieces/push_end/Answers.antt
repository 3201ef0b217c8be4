use Rattle.std.proofs.Common.{length, arith}
use Rattle.s38_journals.proofs.CutLaws.{cut_pushed, whole_pushed}
use Rattle.s38_journals.proofs.pieces.push_end.Goals as goal

pub returns-clause-pieces : goal.returns-clause-pieces
returns-clause-pieces c =
    rw (c.push.ensures.items, c.unwrap.ensures) (cut_pushed c.args.ends.now.items c.args.bytes.now c.args.from (omega arith) c.requires.whole)

pub returns-clause-whole : goal.returns-clause-whole
returns-clause-whole c =
    rw (c.push.ensures.items, c.unwrap.ensures) (whole_pushed c.args.ends.now.items c.args.from (length c.args.bytes.now) c.requires.within c.requires.whole)
