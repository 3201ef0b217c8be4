use Rattle.std.proofs.Common.{◌≡◌, ◌∙◌, arith, ap, false, length, nat_lt, refl, sym, []}
use Rattle.std.proofs.lemmas.Bool.Decides.{nat_tests}
use Rattle.std.proofs.lemmas.Option.{get_or_from_slice_get, slice_get_read}
use Rattle.s38_indexes.specs.Entries.{has_entry}
use Rattle.s38_indexes.proofs.LookupLaws.{held_inside, held_past}
use Rattle.s38_indexes.proofs.lookup.holds_at.Goals as goal

pub returns-then-at-leaves : goal.returns-then-at-leaves
returns-then-at-leaves c =
    let key = c.args.key.now in
    let leaves = c.args.leaves.now in
    let leaf = c.index-leaves-at.result in
    let is = get_or_from_slice_get leaves c.args.at leaf [] (slice_get_read leaves (length leaves) c.args.at leaf refl c.if-at-leaves.true c.index-leaves-at.is) in
    c.holds.ensures ∙ ap (has_entry key) (sym is) ∙ sym (held_inside key leaves c.args.at c.requires.rising c.requires.first)

pub returns-else-at-leaves : goal.returns-else-at-leaves
returns-else-at-leaves c =
    let leaves = c.args.leaves.now in
    let high = c.if-at-leaves.false in
    let past : nat_lt c.args.at (length leaves) ≡ false = grind (arith, nat_tests) in
    past ∙ sym (held_past c.args.key.now leaves c.args.at c.requires.rising c.requires.first high)
