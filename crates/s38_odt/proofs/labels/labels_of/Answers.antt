use Rattle.std.proofs.Common.{◌≡◌, ap, ◌∙◌, arith}
use Rattle.std.specs.BTreeMap.{get}
use Rattle.std.specs.Cmp.Lexicographic.{slice_cmp}
use Rattle.std.specs.Ordering.{nat_cmp}
use Rattle.std.specs.Option.{option_or}
use Rattle.s38_odt.proofs.LabelLemmas.{get-empty}
use Rattle.s38_odt.specs.Labels.{instruction_count, label_from, label_in}
use Rattle.s38_odt.proofs.labels.labels_of.Goals as goal

pub loop-line-init : goal.loop-line-init
unfolding label_in
loop-line-init c =
    let same : c.into_iter-line-iterator.result ≡ c.args.code.now = c.into_iter-line-iterator.ensures.into_iter_gives ∙ c.iter-line-items.ensures.lines in
    record {
      count = omega (arith, ap instruction_count same);
      ahead = λ name.
          ap (λ lines. option_or (get (slice_cmp nat_cmp) c.new-labels.result name) (label_from 0 lines name)) same
          ∙ ap (λ o. option_or o (label_from 0 c.args.code.now name)) (get-empty c.new-labels.result name c.new-labels.ensures.empty);
    }
