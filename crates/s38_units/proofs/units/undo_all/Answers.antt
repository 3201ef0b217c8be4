use Rattle.std.proofs.Common.{◌≡◌, ℕ, ◌+◌, ◌-◌, ◌<◌, suc, length, take, ap, ◌∙◌, arith}
use Rattle.std.proofs.lemmas.Bool.Decides.{nat_tests}
use Rattle.s38_rules.specs.state.Held.{Held}
use Rattle.s38_rules.specs.families.Units.{all_undone}
use Rattle.s38_units.proofs.UnitLaws.{undone_newest}
use Rattle.s38_units.proofs.units.undo_all.Goals as goal

pub loop-taken-preserved : goal.loop-taken-preserved
loop-taken-preserved c =
    let changes = c.args.changes.now in
    let taken = c.loop-taken.taken in
    let some : taken < length changes = grind (arith, nat_tests) in
    let less : length changes - (taken + 1) ≡ length changes - 1 - taken = omega arith in
    let more : suc (length changes - 1 - taken) ≡ length changes - taken = omega (arith, some) in
    let within : length changes - 1 - taken < length changes = omega (arith, some) in
    ap (λ (k : ℕ). all_undone c.undo.new.objects (take k changes)) less
    ∙ ap (λ (h : Held). all_undone h (take (length changes - 1 - taken) changes)) c.undo.ensures
    ∙ undone_newest c.loop-taken.objects changes (length changes - 1 - taken) c.index-changes-newest.result within c.index-changes-newest.is
    ∙ ap (λ (k : ℕ). all_undone c.loop-taken.objects (take k changes)) more
    ∙ c.loop-taken.invariant

pub returns : goal.returns
unfolding all_undone
returns c =
    let none : length c.args.changes.now - c.loop-taken.taken ≡ 0 = grind (arith, nat_tests) in
    rw none at c.loop-taken.invariant
