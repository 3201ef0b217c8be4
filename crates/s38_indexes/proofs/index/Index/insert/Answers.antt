use Rattle.std.proofs.Common.{◌≡◌, ◌+◌, ◌≤◌, ◌∙◌, ap, arith, false, subst}
use Rattle.s38_indexes.specs.Entries.{entry_size, has_entry, index_image_size, index_with_entry, largest}
use Rattle.s38_indexes.specs.Leaves.{joined}
use Rattle.s38_indexes.proofs.IndexLaws.{counted_with, few, short_with, taken}
use Rattle.s38_indexes.proofs.index.Index.insert.Goals as goal

pub overflow_add-self : goal.overflow_add-self
overflow_add-self c = omega (arith, few c.self.inside.count c.self.inside.size (joined c.self.inside.leaves.items) c.self.invariant.counted)

pub invariant_of-self-2 : goal.invariant_of-self-2
invariant_of-self-2 c =
    let key = c.args.entry.now in
    let xs = joined c.self.inside.leaves.items in
    let t = taken key (record { longest = c.self.inside.longest; entries = joined c.as_slice.result.now }) c.in_ok-first.ensures.ok in
    let is = ap joined c.as_slice.ensures.value in
    let new = subst (λ ys. has_entry key ys ≡ false) is t.new in
    let room = subst (λ ys. index_image_size ys + entry_size key ≤ largest) is t.room in
    record {
      counted = counted_with key c.self.inside.count c.self.inside.size xs (joined c.add.new.leaves.items) c.self.invariant.counted new room (c.in-Ok-add.ensures.ok ∙ ap (λ k. index_with_entry k xs) c.in-Ok.ensures);
      short = short_with c.self.inside.longest key xs (joined c.add.new.leaves.items) c.self.invariant.short t.short (c.in-Ok-add.ensures.ok ∙ ap (λ k. index_with_entry k xs) c.in-Ok.ensures);
      none_empty = c.add.ensures.none_empty;
    }
