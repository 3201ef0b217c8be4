use Rattle.std.proofs.Common.{◌≡◌, ◌-◌, ◌<◌, arith, length, suc, sym, ◌∙◌, []}
use Rattle.std.proofs.lemmas.Option.{slice_get-get_or}
use Rattle.s38_indexes.specs.Entries.{is_in_relation}
use Rattle.s38_indexes.proofs.CutLaws.{greatest_none, greatest_some}
use Rattle.s38_indexes.proofs.OrderLaws.{rising_cut}
use Rattle.s38_indexes.proofs.entries.greatest.Goals as goal

pub returns-then-front-eq0 : goal.returns-then-front-eq0
returns-then-front-eq0 c =
    let relation = c.args.relation in
    let key = c.args.key.now in
    let xs = c.args.entries.now in
    sym (greatest_none (is_in_relation relation key) xs (rising_cut relation key xs c.requires.downward c.requires.rising) (sym c.front-front.ensures.value ∙ c.if-front-eq0.true))

pub returns : goal.returns
returns c =
    let relation = c.args.relation in
    let key = c.args.key.now in
    let xs = c.args.entries.now in
    let n = c.front-front.result in
    let some = c.if-front-eq0.false in
    let bound = c.front-front.ensures.bound in
    let next : n ≡ suc (n - 1) = omega arith in
    let low : n - 1 < length xs = omega arith in
    c.entry_at.ensures ∙ slice_get-get_or xs (n - 1) [] low ∙ sym (greatest_some (is_in_relation relation key) xs (n - 1) [] (rising_cut relation key xs c.requires.downward c.requires.rising) (sym c.front-front.ensures.value ∙ next))
