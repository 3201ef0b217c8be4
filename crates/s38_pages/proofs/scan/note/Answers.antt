use Rattle.std.proofs.Common.{◌≡◌, ◌+◌, None, Some, ap, sym, arith, ◌∙◌}
use Rattle.std.specs.FinMap.{get}
use Rattle.s38_pages.specs.Scan.{homes_of}
use Rattle.s38_pages.proofs.Keeping.{keeps_moved, keeps_new}
use Rattle.s38_pages.proofs.Planning.{used_block}
use Rattle.s38_pages.proofs.Scanning.{noted_new, noted_there, twin_there}
use Rattle.s38_pages.proofs.Trees.{in_more, in_tree}
use Rattle.s38_pages.proofs.scan.note.Goals as goal

pub returns-in-Some-clause-twin : goal.returns-in-Some-clause-twin
returns-in-Some-clause-twin c =
    let key = c.key_of-key.result in
    let homes = c.args.homes.now in
    let is = sym c.key_of-key.ensures in
    let used = used_block c.args.block.now key is (λ e. omega (arith, e, c.if-key-eq0.false)) in
    twin_there (get (homes_of homes)) c.args.block.now key (Some c.in-Some.twin) is used (in_tree homes key ∙ sym c.get.ensures.value ∙ sym c.copied.ensures ∙ c.in-Some.is)

pub returns-in-Some-clause-index : goal.returns-in-Some-clause-index
returns-in-Some-clause-index c =
    let key = c.key_of-key.result in
    let homes = c.args.homes.now in
    let is = sym c.key_of-key.ensures in
    let used = used_block c.args.block.now key is (λ e. omega (arith, e, c.if-key-eq0.false)) in
    noted_there (get (homes_of homes)) c.args.at c.args.block.now key c.in-Some.twin is used (in_tree homes key ∙ sym c.get.ensures.value ∙ sym c.copied.ensures ∙ c.in-Some.is)

pub returns-in_ok-insert-in-None-clause-twin : goal.returns-in_ok-insert-in-None-clause-twin
returns-in_ok-insert-in-None-clause-twin c =
    let key = c.key_of-key.result in
    let homes = c.args.homes.now in
    let is = sym c.key_of-key.ensures in
    let used = used_block c.args.block.now key is (λ e. omega (arith, e, c.if-key-eq0.false)) in
    twin_there (get (homes_of homes)) c.args.block.now key None is used (in_tree homes key ∙ sym c.get.ensures.value ∙ sym c.copied.ensures ∙ c.in-None.is)

pub returns-in_ok-insert-in-None-clause-index : goal.returns-in_ok-insert-in-None-clause-index
returns-in_ok-insert-in-None-clause-index c =
    let key = c.key_of-key.result in
    let homes = c.args.homes.now in
    let is = sym c.key_of-key.ensures in
    let used = used_block c.args.block.now key is (λ e. omega (arith, e, c.if-key-eq0.false)) in
    let none : get (homes_of homes) key ≡ None = in_tree homes key ∙ sym c.get.ensures.value ∙ sym c.copied.ensures ∙ c.in-None.is in
    ap get (in_more homes c.insert.new.self key c.args.at c.in_ok-insert-in-None.ensures.updates) ∙ noted_new (homes_of homes) c.args.at c.args.block.now key is used none

pub returns-in_ok-insert-in-None-clause-keeps : goal.returns-in_ok-insert-in-None-clause-keeps
returns-in_ok-insert-in-None-clause-keeps c lay k home =
    let key = c.key_of-key.result in
    let homes = c.args.homes.now in
    let none : get (homes_of homes) key ≡ None = in_tree homes key ∙ sym c.get.ensures.value ∙ sym c.copied.ensures ∙ c.in-None.is in
    keeps_moved lay _ _ _ _ (c.args.at + 1) (in_more homes c.insert.new.self key c.args.at c.in_ok-insert-in-None.ensures.updates) c.mark.ensures
    (keeps_new lay (homes_of homes) c.args.marks.now c.args.at key k home c.requires none (omega (arith, c.if-key-eq0.false)))
