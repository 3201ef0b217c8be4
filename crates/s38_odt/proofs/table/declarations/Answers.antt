use Rattle.std.proofs.Common.{◌≡◌, List, [], ap, ◌∙◌, subst, length, sym}
use Rattle.s38_code.specs.declared.program.Row.{Row}
use Rattle.s38_odt.specs.Table.{rows_from}
use Rattle.s38_odt.specs.Places.{IsTied}
use Rattle.s38_odt.proofs.PlaceLemmas.{IsTied-none}
use Rattle.s38_odt.proofs.table.declarations.Goals as goal

pub loop-line-init : goal.loop-line-init
loop-line-init c =
    let none : c.new.result.items ≡ [] = c.new.ensures.items in
    let P : List Row → Type 0 = λ rows. IsTied c.new-2.result rows in
    let same : c.into_iter-line-iterator.result ≡ c.args.lines.now = c.into_iter-line-iterator.ensures.into_iter_gives ∙ c.iter-line-items.ensures.lines in
    record {
      count = ap length none;
      tied = subst P (sym none) (IsTied-none c.new-2.result c.new-2.ensures.empty);
      rest = ap (λ rows. rows_from c.args.code.now rows c.args.lines.now) (sym none) ∙ ap (λ lines. rows_from c.args.code.now c.new.result.items lines) (sym same);
    }
