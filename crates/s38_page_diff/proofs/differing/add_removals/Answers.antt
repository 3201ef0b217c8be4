use Rattle.std.proofs.Common.{◌+◌, [], None, arith, refl}
use Rattle.s38_page_diff.specs.Differences.{differences}
use Rattle.s38_page_diff.proofs.DifferenceLaws.{all_added, none_left, one_added, one_removed, room_left}
use Rattle.s38_page_diff.proofs.differing.add_removals.Goals as goal

pub overflow_add-left : goal.overflow_add-left
overflow_add-left g c = omega (arith, c.in-Some.ensures.in_range)

pub loop-part-preserved : goal.loop-part-preserved
loop-part-preserved g c =
    let ks = (g.V.Vault.view c.args.vault.now).keys in
    record {
      object = c.loop-part.invariant.object;
      end = c.loop-part.invariant.end;
      capacity = omega (arith, c.push.ensures.capacity, c.loop-part.invariant.capacity);
      items = λ pages have.
          one_added c.loop-part.into.items _ _ _ _ _ c.in_ok-push.ensures.items
          (one_removed ks pages c.loop-part.left c.in-Some.part have c.in-Some.ensures.in_range.0 c.in-Some.ensures.in_range.1 c.in-Some.ensures.there c.in-Some.ensures.none)
          (c.loop-part.invariant.items pages have);
    }

pub returns : goal.returns
returns g c = record {
  ok = λ pages have.
      all_added c.loop-part.into.items _ _ (none_left (g.V.Vault.view c.args.vault.now).keys pages c.loop-part.left have c.in_default.ensures.none)
      (c.loop-part.invariant.items pages have);
  reserved = λ pages have fits. refl;
  capacity = c.loop-part.invariant.capacity;
}

pub returns-in_err-push-clause-reserved : goal.returns-in_err-push-clause-reserved
returns-in_err-push-clause-reserved g c = λ pages have fits.
    let ks = (g.V.Vault.view c.args.vault.now).keys in
    let left = c.loop-part.left in
    let part = c.in-Some.part in
    let room =
    room_left c.loop-part.into.items (differences pages left []) (differences pages (record left { first = part + 1 }) []) c.args.into.now.items
    (differences pages c.args.range []) (record { key = record { object = left.object; part = part }; page = None })
    (one_removed ks pages left part have c.in-Some.ensures.in_range.0 c.in-Some.ensures.in_range.1 c.in-Some.ensures.there c.in-Some.ensures.none)
    (c.loop-part.invariant.items pages have) in
    absurd (omega (arith, room, fits, c.in_err-push.ensures.full, c.loop-part.invariant.capacity, c.loop-part.into.ok, c.args.into.now.ok))
