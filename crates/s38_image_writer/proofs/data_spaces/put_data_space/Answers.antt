use Rattle.std.proofs.Common.{◌≡◌, ◌*◌, ◌∙◌, List, length, ap, sym, refl}
use Rattle.std.specs.List.{flat_map}
use Rattle.s38_base.specs.declared.attr.Attr.{Attr}
use Rattle.s38_codec.specs.Formats.{u16, u32, u64}
use Rattle.s38_image_writer.proofs.DataLaws.{data_adds, settled_length}
use Rattle.s38_image_writer.proofs.WriterLaws.{adds_same}
use Rattle.s38_image.specs.Scalars.{attr}
use Rattle.s38_image.specs.Settled.{settled_entries}
use Rattle.std.specs.Prelude.{◌==◌, if◌then◌else◌}
use Rattle.s38_image_writer.proofs.data_spaces.put_data_space.Goals as goal

pub returns : goal.returns
returns c =
    let d = c.args.held.now in
    let t = d.space in
    let sequence = adds_same _ _ 8 8 _ _ c.put_u64-2.ensures refl (ap u64.print c.sequence_of.ensures) in
    let few = adds_same _ _ 2 2 _ (u16.print (length t.fields)) c.put_short_count.ensures refl (ap u16.print (c.len.ensures ∙ ap length c.fields.ensures.fields)) in
    let are : c.as_slice.result.now ≡ t.fields = c.as_slice.ensures.items ∙ c.fields-2.ensures.fields in
    let fields = adds_same _ _ _ (3 * length t.fields) _ (flat_map attr.print t.fields) c.put_fields.ensures (ap (λ (fs : List Attr). 3 * length fs) are) (ap (λ (fs : List Attr). flat_map attr.print fs) are) in
    let count = adds_same _ _ 4 4 _ (u32.print (length t.entries)) c.put_u32.ensures refl (ap u32.print c.ordinals.ensures.count) in
    let es = settled_entries c.args.units.now c.args.number.0 1 t.entries in
    data_adds _ _ _ _ _ _ _ d.port.0 (if d.port.0 == 0 then 0 else c.args.last) (length t.entries) t.fields es (sym (settled_length c.args.units.now c.args.number.0 1 t.entries))
    c.put_u64.ensures sequence few fields count c.put_entries.ensures
