use Rattle.std.proofs.Common.{◌≡◌, ◌∙◌, ◌*◌, ◌+◌, ◌++◌, List, [], ap, arith, drop, length, subst, sym, ℕ}
use Rattle.s38_base.specs.declared.page.Change.{Change}
use Rattle.s38_page_diff.specs.Differences.{IsWanted}
use Rattle.s38_image.specs.Pages.{stream_parts}
use Rattle.s38_image_writer.proofs.PartLaws.{streamed}
use Rattle.s38_journals.specs.Journals.{entries_len}
use Rattle.s38_image_writer.specs.Writing.{Written}
use Rattle.s38_flush.proofs.GrownLaws.{image_long, tail_wanted}
use Rattle.s38_flush.specs.Growing.{tail_parts, tail_range}
use Rattle.s38_flush.proofs.grown.tail_parts.Goals as goal

pub split_at-requires : goal.split_at-requires
split_at-requires c =
    let es = c.args.journal.now.entries in
    let long : length c.image.result.now ≡ entries_len es = ap length c.image.ensures ∙ image_long es in
    omega (arith, long, c.requires.within)

pub put-requires : goal.put-requires
put-requires c =
    let es = c.args.journal.now.entries in
    let long : length c.image.result.now ≡ entries_len es = ap length c.image.ensures ∙ image_long es in
    let room = ap (λ (w : Written). w.room) c.new-writer.ensures in
    omega (arith, long, room, c.split_at.ensures.back_len, c.len-whole.ensures.len)

pub returns-clause-wanted : goal.returns-clause-wanted
returns-clause-wanted c =
    let n = c.args.number.0 in
    let k = c.args.first in
    let es = c.args.journal.now.entries in
    let tail = c.split_at.result.1.now in
    let all = streamed c.new-writer.result c.put.new.self c.in_ok-parts.parts.items n _ _ _ _ tail c.finish.result.items c.new-writer.ensures c.put.ensures c.finish.ensures.parts in
    let bytes : tail ≡ drop (512 * k) c.image.result.now = c.split_at.ensures.back in
    let made : c.finish.result.items ≡ tail_parts n k es =
    all
    ∙ ap (λ (cs : List Change). cs ++ stream_parts n (128 + k) tail []) c.in_ok-parts.ensures.items
    ∙ ap (λ (bs : List ℕ). stream_parts n (128 + k) bs []) (bytes ∙ ap (λ (bs : List ℕ). drop (512 * k) bs) c.image.ensures) in
    subst (λ (ws : List Change). IsWanted (tail_range n k (entries_len es)) ws) (sym made) (tail_wanted n k es c.requires.within)
