use Rattle.std.proofs.Common.{◌∙◌, ◌≤◌, ap, get_or, length, List, sym, true, [], ◌≡◌, false}
use Rattle.s38_indexes.specs.Entries.{IndexEntry}
use Rattle.s38_indexes.specs.Leaves.{joined}
use Rattle.s38_indexes.proofs.LeafLaws.{all_again, emptied, some_long}
use Rattle.s38_indexes.proofs.leaves.drop_empty.Goals as goal

untrue : true ≡ false → ⊥
untrue e = cc

pub returns-then-is_empty_at-clause-same : goal.returns-then-is_empty_at-clause-same
returns-then-is_empty_at-clause-same c = ap joined c.remove.ensures.items ∙ emptied c.args.leaves.now.items c.args.at c.requires.inside (ap (λ ls. get_or ls c.args.at []) (sym c.deref.ensures.value) ∙ c.is_empty_at.ensures.0 c.if-is_empty_at.true)

pub returns-else-is_empty_at-clause-none_empty : goal.returns-else-is_empty_at-clause-none_empty
returns-else-is_empty_at-clause-none_empty c =
    let leaf = get_or c.args.leaves.now.items c.args.at [] in
    let some = some_long leaf (λ e. untrue (sym (c.is_empty_at.ensures.1 (ap (λ ls. get_or ls c.args.at []) c.deref.ensures.value ∙ e)) ∙ c.if-is_empty_at.false)) in
    all_again (λ (l : List IndexEntry). 1 ≤ length l) c.args.leaves.now.items c.args.at [] c.requires.inside c.requires.others some
