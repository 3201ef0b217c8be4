use Rattle.std.proofs.Common.{◌+◌, ◌∙◌, ℕ, ap, arith}
use Rattle.std.specs.Option.{option_copied}
use Rattle.s38_dataspaces.specs.Entries.{DataEntry}
use Rattle.s38_dataspaces.specs.Table.{entry_len}
use Rattle.s38_image_writer.proofs.DataLaws.{entry_put, room_left}
use Rattle.s38_image_writer.proofs.WriterLaws.{adds_same}
use Rattle.s38_image_writer.specs.Printing.{slot_bytes}
use Rattle.s38_image_writer.proofs.data_spaces.put_entries.Goals as goal

pub loop-k-preserved : goal.loop-k-preserved
loop-k-preserved c =
    let es = c.args.held.now.entries in
    let width = c.entry_len-width.ensures.len in
    let one = adds_same _ _ _ _ _ _ c.put_slot.ensures (ap (λ (n : ℕ). 1 + n) width)
    (ap (λ (n : ℕ). slot_bytes n (option_copied c.settled_entry.result)) width ∙ ap (λ (e : DataEntry). slot_bytes (entry_len c.args.held.now.fields) e) c.settled_entry.ensures.entry) in
    record {
      bytes = entry_put c.args.units.now c.args.space.0 c.loop-k.k es _ c.loop-k.into.bytes c.put_slot.new.into.bytes (omega (arith, c.loop-k-test.true, c.ordinals-k-end.ensures)) one.bytes ∙ c.loop-k.invariant.bytes;
      room = room_left _ _ _ _ _ one.room c.loop-k.invariant.room;
      place = one.place ∙ c.loop-k.invariant.place;
    }
