use Rattle.std.proofs.Common.{◌∙◌, ap, arith, subst, sym}
use Rattle.s38_indexes.specs.Entries.{AreShort, EntryIndex, IsCounted}
use Rattle.s38_indexes.specs.Leaves.{joined}
use Rattle.s38_indexes.proofs.IndexLaws.{counted_without, short_without, small}
use Rattle.s38_indexes.proofs.OrderLaws.{without_none}
use Rattle.s38_indexes.proofs.index.Index.remove.Goals as goal

pub invariant_of-self : goal.invariant_of-self
invariant_of-self c =
    let xs = joined c.self.inside.leaves.items in
    let same = without_none c.args.entry.now xs (sym c.remove.ensures.held ∙ c.if-not-remove.true) ∙ sym c.remove.ensures.rest in
    record {
      counted = subst (λ ys. IsCounted c.self.inside.count c.self.inside.size ys) same c.self.invariant.counted;
      short = subst (λ ys. AreShort c.self.inside.longest ys) same c.self.invariant.short;
      none_empty = c.remove.ensures.none_empty;
    }

pub returns-then-not-remove-clause-err : goal.returns-then-not-remove-clause-err
returns-then-not-remove-clause-err c =
    let xs = joined c.self.inside.leaves.items in
    let same = without_none c.args.entry.now xs (sym c.remove.ensures.held ∙ c.if-not-remove.true) ∙ sym c.remove.ensures.rest in
    ap (λ ys. let v : EntryIndex = record { longest = c.self.inside.longest; entries = ys } in v) (sym same) ∙ c.self.view_is

pub overflow_cast-self : goal.overflow_cast-self
overflow_cast-self c =
    let held = sym c.remove.ensures.held ∙ c.if-not-remove.false in
    omega (arith, small c.args.entry.now c.self.inside.count c.self.inside.size (joined c.self.inside.leaves.items) c.self.invariant.counted held)

pub overflow_add-self : goal.overflow_add-self
overflow_add-self c =
    let held = sym c.remove.ensures.held ∙ c.if-not-remove.false in
    omega (arith, small c.args.entry.now c.self.inside.count c.self.inside.size (joined c.self.inside.leaves.items) c.self.invariant.counted held)

pub overflow_sub-self-2 : goal.overflow_sub-self-2
overflow_sub-self-2 c =
    let held = sym c.remove.ensures.held ∙ c.if-not-remove.false in
    (small c.args.entry.now c.self.inside.count c.self.inside.size (joined c.self.inside.leaves.items) c.self.invariant.counted held).0

pub invariant_of-self-2 : goal.invariant_of-self-2
invariant_of-self-2 c =
    let held = sym c.remove.ensures.held ∙ c.if-not-remove.false in
    record {
      counted = counted_without c.args.entry.now c.self.inside.count c.self.inside.size (joined c.self.inside.leaves.items) (joined c.remove.new.leaves.items) c.self.invariant.counted held c.remove.ensures.rest;
      short = short_without c.self.inside.longest c.args.entry.now (joined c.self.inside.leaves.items) (joined c.remove.new.leaves.items) c.self.invariant.short c.remove.ensures.rest;
      none_empty = c.remove.ensures.none_empty;
    }
