use Rattle.std.proofs.Common.{◌≡◌, ◌<◌, ◌^◌, map, sum_by}
use Rattle.std.specs.Map.Iter.{deref}
use Rattle.s38_laws_images.specs.openings.Charges.{pages_in}
use Rattle.s38_store_file.proofs.charges.total_charge.Given as goal

-- what the objects so far take
abbrev pub invariant-loop-object : goal.invariant-loop-object
invariant-loop-object l = record {
  sum : l.total ≡ sum_by pages_in (map deref l.yielded);
  small : l.total < 2 ^ 64;
}
