use Rattle.std.proofs.Common.{◌≡◌, ◌∙◌, ℕ, ◌+◌, ◌*◌, ◌<◌, ◌++◌, List, length, take, drop, refl, sym, ap, arith}
use Rattle.s38_dataspaces.proofs.StoredLaws.{stored_written, written_back}
use Rattle.s38_dataspaces.proofs.slots.put_slot.Goals as goal

pub returns-clause-entries : goal.returns-clause-entries
returns-clause-entries c =
    let flags = c.args.presence.now.items in
    let bytes = c.args.bytes.now.items in
    let entry = c.args.entry.now in
    let at = c.args.at in
    let w = length entry in
    let whole : length bytes ≡ length flags * length entry =
    sym c.args.bytes.now.ok.0 ∙ c.requires.whole ∙ ap (λ (n : ℕ). n * length entry) c.args.presence.now.ok.0 in
    let within : at < length flags = let len = c.args.presence.now.ok.0 in omega arith in
    let lent = c.deref_mut.ensures.value in
    let written : c.write_slot.new.bytes ≡ take (at * w) bytes ++ (entry ++ drop (at * w + w) bytes) =
    c.write_slot.ensures.bytes ∙ ap (λ (bs : List ℕ). take (at * w) bs ++ (entry ++ drop (at * w + w) bs)) lent in
    let len : length c.write_slot.new.bytes ≡ c.args.bytes.now.len =
    c.write_slot.ensures.len ∙ ap (λ (bs : List ℕ). length bs) lent ∙ sym c.args.bytes.now.ok.0 in
    rw (written_back c.args.bytes.now.len c.write_slot.new.bytes bytes len, written) (stored_written flags bytes entry w at refl whole within)
