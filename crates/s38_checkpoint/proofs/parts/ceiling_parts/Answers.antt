use Rattle.std.proofs.Common.{◌≡◌, ◌++◌, ◌∙◌, List, [], ap, subst, sym}
use Rattle.s38_base.specs.declared.page.Change.{Change}
use Rattle.s38_durable_state.specs.Represents.{ceiling_parts}
use Rattle.s38_page_diff.specs.Differences.{IsWanted}
use Rattle.s38_image.specs.Faults.{ceiling_page}
use Rattle.s38_image.specs.PartPlaces.{ceiling_key}
use Rattle.s38_image.specs.Pages.{stream_parts}
use Rattle.s38_image_writer.proofs.PartLaws.{streamed}
use Rattle.s38_page_diff.specs.reconcile.Replacing.{short_range}
use Rattle.s38_checkpoint.proofs.PartLaws.{ceiling_pieces, ceiling_wanted}
use Rattle.s38_checkpoint.proofs.parts.ceiling_parts.Goals as goal

made : (c : goal.After-finish) → c.finish.result.items ≡ ceiling_parts c.args.ceiling
made c =
    let bytes = ceiling_page.print c.args.ceiling in
    streamed c.new-writer.result c.put_ceiling.new.into c.in_ok-parts.parts.items ceiling_key 0 _ _ _ bytes c.finish.result.items c.new-writer.ensures c.put_ceiling.ensures c.finish.ensures.parts
    ∙ ap (λ (cs : List Change). cs ++ stream_parts ceiling_key 0 bytes []) c.in_ok-parts.ensures.items ∙ ceiling_pieces c.args.ceiling

pub returns-clause-parts : goal.returns-clause-parts
returns-clause-parts c = made c

pub returns-clause-wanted : goal.returns-clause-wanted
returns-clause-wanted c = subst (λ (ws : List Change). IsWanted (short_range ceiling_key) ws) (sym (made c)) (ceiling_wanted c.args.ceiling)
