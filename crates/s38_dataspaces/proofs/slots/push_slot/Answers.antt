use Rattle.std.proofs.Common.{◌≡◌, ◌∙◌, ap, sym, length, ◌*◌, ℕ}
use Rattle.s38_dataspaces.proofs.StoredLaws.{stored_pushed}
use Rattle.s38_dataspaces.proofs.slots.push_slot.Goals as goal

pub returns-clause-entries : goal.returns-clause-entries
returns-clause-entries c =
    let flags = c.args.presence.now.items in
    let bytes = c.args.bytes.now.items in
    let whole : length bytes ≡ length flags * length c.args.entry.now =
    sym c.args.bytes.now.ok.0 ∙ c.requires.whole ∙ ap (λ (n : ℕ). n * length c.args.entry.now) c.args.presence.now.ok.0 in
    rw (c.push.ensures.items, c.unwrap.ensures, c.extend_from_slice.ensures.items, c.unwrap-2.ensures) (stored_pushed flags bytes c.args.entry.now whole)
