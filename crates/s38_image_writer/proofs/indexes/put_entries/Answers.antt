use Rattle.std.proofs.Common.{◌∙◌, List, arith, subst}
use Rattle.s38_indexes.specs.Entries.{AreShort, IndexEntry}
use Rattle.s38_image_writer.proofs.TextLaws.{entry_put, sizes_left}
use Rattle.s38_image_writer.proofs.indexes.put_entries.Goals as goal

pub put_entry-requires : goal.put_entry-requires
put_entry-requires c =
    let short = subst (λ (es : List IndexEntry). AreShort 255 es) c.in-Some.ensures.steps c.loop-entry.invariant.short in
    record {
      room = omega (arith, sizes_left _ _ _ c.in-Some.ensures.steps, c.loop-entry.invariant.room, c.requires.room);
      short = let here = short.0 in omega (arith, here);
    }

pub loop-entry-preserved : goal.loop-entry-preserved
loop-entry-preserved c =
    let short = subst (λ (es : List IndexEntry). AreShort 255 es) c.in-Some.ensures.steps c.loop-entry.invariant.short in
    record {
      bytes = entry_put c.loop-entry.into.bytes c.put_entry.new.into.bytes _ _ _ c.in-Some.ensures.steps c.put_entry.ensures.bytes ∙ c.loop-entry.invariant.bytes;
      room = omega (arith, sizes_left _ _ _ c.in-Some.ensures.steps, c.loop-entry.invariant.room, c.put_entry.ensures.room);
      short = short.1;
      place = c.put_entry.ensures.place ∙ c.loop-entry.invariant.place;
    }
