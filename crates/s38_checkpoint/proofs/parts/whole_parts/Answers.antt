use Rattle.std.proofs.Common.{◌≤◌, ◌∙◌, ℕ, List, ap, arith, subst, sym}
use Rattle.s38_base.specs.declared.page.Change.{Change}
use Rattle.s38_page_diff.specs.Differences.{IsWanted}
use Rattle.s38_image.specs.Images.{image_parts}
use Rattle.s38_image.specs.Settled.{committed_image}
use Rattle.s38_page_diff.specs.reconcile.Replacing.{short_range}
use Rattle.s38_rules.specs.store.Room.{image_len}
use Rattle.s38_checkpoint.proofs.PartLaws.{object_wanted}
use Rattle.s38_checkpoint.proofs.parts.whole_parts.Goals as goal

pub returns-clause-parts : goal.returns-clause-parts
returns-clause-parts c =
    c.in_ok-parts.ensures ∙ ap (λ (last : ℕ). image_parts (committed_image c.args.units.now last c.args.object.now)) c.last_of-last.ensures

pub returns-clause-wanted : goal.returns-clause-wanted
returns-clause-wanted c =
    let o = c.args.object.now in
    let units = c.args.units.now in
    let last = c.last_of-last.result in
    let short : image_len o.body ≤ 16777216 = omega (arith, c.image_len-len.ensures.len, c.image_len-len.ensures.bound) in
    subst (λ (ws : List Change). IsWanted (short_range o.number.0) ws) (sym c.in_ok-parts.ensures)
    (object_wanted units last o (image_len o.body) c.as_bytes-name.ensures.name c.requires.object.rows (c.part_count-count.ensures.body units last c.requires.units) short)
