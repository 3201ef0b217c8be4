use Rattle.std.proofs.Common.{◌+◌, ◌∙◌, ◌∷◌, ℕ, List, length, ap, sym, arith}
use Rattle.std.specs.Option.{option_copied}
use Rattle.s38_codec.proofs.FormatLaws.{length_copies}
use Rattle.s38_image_writer.proofs.WriterLaws.{adds_same, adds_then}
use Rattle.s38_image_writer.specs.Printing.{slot_bytes}
use Rattle.s38_image_writer.proofs.data_spaces.put_slot.Goals as goal

pub put-requires-in-None : goal.put-requires-in-None
put-requires-in-None c =
    let long = ap length c.zeros.ensures ∙ length_copies {A = ℕ} c.args.width 0 in
    omega (arith, long, c.put_byte-in-None.ensures.room, c.requires.room)

pub returns-in-None : goal.returns-in-None
unfolding slot_bytes
returns-in-None c =
    let long = ap length c.zeros.ensures ∙ length_copies {A = ℕ} c.args.width 0 in
    adds_same _ _ _ (1 + c.args.width) _ _ (adds_then _ _ _ 1 _ _ _ c.put_byte-in-None.ensures c.put-in-None.ensures)
    (ap (λ (n : ℕ). 1 + n) long) (ap (λ (t : List ℕ). 0 ∷ t) c.zeros.ensures ∙ ap (λ e. slot_bytes c.args.width (option_copied e)) (sym c.in-None.is))
