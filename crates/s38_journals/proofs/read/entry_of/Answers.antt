use Rattle.std.proofs.Common.{refl}
use Rattle.s38_journals.specs.Stored.{entry_of}
use Rattle.s38_journals.proofs.EntryLaws.{all_after}
use Rattle.s38_journals.proofs.read.entry_of.Goals as goal

pub returns : goal.returns
unfolding entry_of
returns c =
    let bytes = c.args.bytes.now in
    rw (c.read_u64.ensures, c.read_u32.ensures, c.kind_of.ensures, c.read_u64-2.ensures, c.read_u32-2.ensures)
    (rw (c.split_at.ensures.front, c.split_at.ensures.back, c.from.ensures, c.read_u16.ensures)
    (rw (all_after 12 bytes, all_after 20 bytes, all_after 25 bytes, all_after 33 bytes, all_after 37 bytes, all_after 41 bytes) refl))
