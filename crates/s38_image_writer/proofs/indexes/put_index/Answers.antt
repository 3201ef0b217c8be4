use Rattle.std.proofs.Common.{◌≤◌, ◌∷◌, [], ℕ, List, length, ap, sym, refl, subst, arith}
use Rattle.std.specs.Prelude.{sum_by}
use Rattle.s38_codec.specs.Formats.{u32}
use Rattle.s38_indexes.specs.Entries.{AreShort, IndexEntry, entry_size, index_image_size}
use Rattle.s38_image_writer.proofs.TextLaws.{index_bytes, short_up_to}
use Rattle.s38_image_writer.proofs.WriterLaws.{adds_same, adds_then}
use Rattle.s38_image_writer.specs.Printing.{index_entry_bytes}
use Rattle.std.specs.List.{flat_map}
use Rattle.s38_image_writer.proofs.indexes.put_index.Goals as goal

pub returns : goal.returns
returns c =
    let i = c.args.held.now in
    let longest = adds_same _ _ 1 1 _ (i.longest ∷ []) c.put_byte.ensures refl (ap (λ (n : ℕ). n ∷ []) c.longest.ensures) in
    let count = adds_same _ _ 4 4 _ (u32.print (length i.entries)) c.put_count.ensures refl (ap u32.print c.len.ensures) in
    let entries = adds_same _ _ _ (sum_by entry_size i.entries) _ (flat_map index_entry_bytes i.entries) c.put_entries.ensures (ap (λ (es : List IndexEntry). sum_by entry_size es) c.entries.ensures.entries) (ap (λ (es : List IndexEntry). flat_map index_entry_bytes es) c.entries.ensures.entries) in
    adds_same _ _ _ (index_image_size i.entries) _ _ (adds_then _ _ _ 1 _ _ _ longest (adds_then _ _ _ 4 _ _ _ count entries)) (omega arith) (sym (index_bytes i))

pub put_entries-requires : goal.put_entries-requires
put_entries-requires c =
    let i = c.args.held.now in
    let size = ap (λ (es : List IndexEntry). sum_by entry_size es) c.entries.ensures.entries in
    let few : i.longest ≤ 255 = omega (arith, c.longest.type_inv, c.longest.ensures) in
    record {
      room = omega (arith, size, c.requires.room, c.put_byte.ensures.room, c.put_count.ensures.room);
      short = subst (λ (es : List IndexEntry). AreShort 255 es) (sym c.entries.ensures.entries) (short_up_to i.longest 255 i.entries few c.entries.ensures.short);
    }
