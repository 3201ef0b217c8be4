use Rattle.std.proofs.Common.{◌≡◌, ◌∙◌, ◌++◌, List, ap, append_assoc, subst, sym, ℕ}
use Rattle.std.specs.FinMap.{get}
use Rattle.s38_base.specs.declared.page.Change.{Change}
use Rattle.s38_page_diff.specs.Differences.{differences}
use Rattle.s38_page_diff.specs.declared.range.PartRange.{PartRange}
use Rattle.s38_journals.specs.Journals.{entries_len}
use Rattle.s38_flush.proofs.GrownLaws.{Reads, both_added}
use Rattle.s38_flush.specs.Fronts.{front_parts, front_range}
use Rattle.s38_flush.specs.Growing.{tail_parts, tail_range}
use Rattle.s38_flush.proofs.grown.add_grown.Goals as goal

pub returns-clause-told : goal.returns-clause-told
returns-clause-told g c = λ m held.
    let n = c.args.object.now.number.0 in
    let o = c.args.object.now in
    let k = c.args.first in
    let es = c.args.journal.now.entries in
    let before = c.args.into.now.items in
    let long = c.len-len.ensures.len in
    let front : c.deref.result.now ≡ front_parts o (entries_len es) = c.deref.ensures.value ∙ c.in_ok-front.ensures.parts ∙ ap (λ (l : ℕ). front_parts o l) long in
    let tail : c.deref-2.result.now ≡ tail_parts n k es = c.deref-2.ensures.value ∙ c.in_ok-tail.ensures.parts in
    let range : c.tail_range.result ≡ tail_range n k (entries_len es) = c.tail_range.ensures ∙ ap (λ (l : ℕ). tail_range n k l) long in
    let one = c.in_ok-add_differences.ensures.told m held in
    let two = c.in_ok-add_differences-2.ensures.told m ((c.in_ok-add_differences.ensures.holds m).0 held) in
    two
    ∙ (λ i. one i ++ differences (get m) (range i) (tail i))
    ∙ append_assoc before (differences (get m) c.front_range.result c.deref.result.now) (differences (get m) (tail_range n k (entries_len es)) (tail_parts n k es))
    ∙ (λ i. before ++ (differences (get m) (c.front_range.ensures i) (front i) ++ differences (get m) (tail_range n k (entries_len es)) (tail_parts n k es)))

pub returns-clause-adds : goal.returns-clause-adds
returns-clause-adds g c =
    let V = g.V.Vault in
    let n = c.args.object.now.number.0 in
    let old = c.args.into.now.items in
    let middle = c.add_differences.new.into.items in
    let new = c.add_differences-2.new.into.items in
    let first = subst (λ (r : PartRange). Reads (V.view c.args.vault.now).keys r c.deref.result.now old middle) c.front_range.ensures c.in_ok-add_differences.ensures.read in
    let then = subst (λ (r : PartRange). Reads (V.view c.add_differences.new.vault).keys r c.deref-2.result.now middle new) c.tail_range.ensures c.in_ok-add_differences-2.ensures.read in
    both_added (V.view c.args.vault.now).keys (V.view c.add_differences.new.vault).keys n c.args.first c.len-len.result c.deref.result.now c.deref-2.result.now old middle new first then
