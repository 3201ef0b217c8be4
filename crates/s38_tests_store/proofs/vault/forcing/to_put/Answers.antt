use Rattle.std.proofs.Common.{List, subst, sym, ap, ◌∙◌, ◌++◌}
use Rattle.s38_base.specs.declared.page.Change.{Change}
use Rattle.s38_page_diff.specs.Differences.{differences}
use Rattle.s38_vault.specs.Content.{AreRising, HaveObjects}
use Rattle.s38_tests_store.proofs.vault.forcing.to_put.Goals as goal

pub returns-clause-rising : goal.returns-clause-rising
returns-clause-rising g c =
    let read = c.in_ok-add_differences.ensures.read in
    let found = differences read.0 c.args.range c.args.wanted.now in
    subst AreRising (sym (◌∙◌ {A = List Change} read.1.1 (ap (λ (cs : List Change). cs ++ found) c.new-changes.ensures.items)))
    (c.differences_can_be_put.ensures.rising read.0 c.args.range c.args.wanted.now)

pub returns-clause-objects : goal.returns-clause-objects
returns-clause-objects g c =
    let read = c.in_ok-add_differences.ensures.read in
    let found = differences read.0 c.args.range c.args.wanted.now in
    subst HaveObjects (sym (◌∙◌ {A = List Change} read.1.1 (ap (λ (cs : List Change). cs ++ found) c.new-changes.ensures.items)))
    (c.differences_can_be_put.ensures.objects read.0 c.args.range c.args.wanted.now c.requires.object)
