use Rattle.std.proofs.Common.{◌++◌, ◌∙◌, List, [], ap, append-nil, append_assoc, arith, refl, sym}
use Rattle.s38_base.specs.declared.page.Change.{Change}
use Rattle.s38_page_diff.proofs.WantedLaws.{read_begun}
use Rattle.s38_page_diff.specs.Differences.{differences}
use Rattle.s38_page_diff.specs.reconcile.Replacing.{range_of}
use Rattle.s38_page_diff.proofs.reconcile.KeyLaws.{above_after, fine_on, fine_upto}
use Rattle.s38_page_diff.proofs.reconcile.SoFarLaws.{so_far_skip, so_far_stranger}
use Rattle.s38_page_diff.proofs.reconcile.numbers.add_strangers.Goals as goal

pub loop-number-init : goal.loop-number-init
loop-number-init g c = record {
  low = omega arith;
  high = omega (arith, c.requires);
  so_far = λ wants none was. was;
  kept = ([], sym (append-nil c.args.into.now.items));
  fine = λ was. was;
}

pub loop-number-preserved : goal.loop-number-preserved
loop-number-preserved g c =
    let V = g.V.Vault in
    let keys = (V.view c.args.vault.now).keys in
    let was = c.loop-number.invariant in
    let last = c.loop-number.last in
    let number = c.in-Some.number in
    let low = c.in-Some.ensures.behind in
    let high = c.in-Some.ensures.within in
    let some = read_begun keys (range_of number) [] [] in
    let more = differences some.pages (range_of number) [] in
    record {
      low = omega (arith, was.low, low);
      high = omega (arith, high);
      so_far = λ wants none before.
          so_far_stranger keys (V.holds c.args.vault.now) wants last number c.loop-number.into.items c.add_none.new.into.items low
          (λ k above below. none k (omega (arith, was.low, above)) (omega (arith, below, high)))
          (λ key above below. c.in-Some.ensures.before key (above_after last key above) below) c.in_ok-add_none.ensures (was.so_far wants none before);
      kept =
          (was.kept.0 ++ more, c.in_ok-add_none.ensures some.pages some.have ∙ ap (λ (cs : List Change). cs ++ more) was.kept.1 ∙ append_assoc c.args.into.now.items was.kept.0 more);
      fine = λ before. fine_on keys last number low c.in-Some.ensures.before (was.fine before);
    }

pub returns : goal.returns
returns g c =
    let V = g.V.Vault in
    let keys = (V.view c.args.vault.now).keys in
    let was = c.loop-number.invariant in
    let last = c.loop-number.last in
    record {
      so_far = λ wants none before.
          so_far_skip keys (V.holds c.args.vault.now) wants last c.args.upto c.loop-number.into.items was.high
          (λ k above below. none k (omega (arith, was.low, above)) below)
          (λ key above below. c.in_default.ensures.none refl key (above_after last key above) below) (was.so_far wants none before);
      kept = was.kept;
      fine = λ before. fine_upto keys last c.args.upto (c.in_default.ensures.none refl) (was.fine before);
    }
