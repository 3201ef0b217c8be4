use Rattle.std.proofs.Common.{◌≡◌, ℕ, ◌+◌, List}
use Rattle.std.specs.Ordering.{nat_cmp}
use Rattle.std.specs.Cmp.Lexicographic.{slice_cmp}
use Rattle.std.specs.BTreeMap.{get}
use Rattle.std.specs.Option.{option_or}
use Rattle.s38_odt.specs.Labels.{instruction_count, label_from, label_in}
use Rattle.s38_odt.proofs.labels.labels_of.Given as goal

abbrev pub invariant-loop-line : goal.invariant-loop-line
invariant-loop-line l = record {
  count : l.at + instruction_count l.line-iterator ≡ instruction_count l.code;
  ahead : (name : List ℕ) → option_or (get (slice_cmp nat_cmp) l.labels name) (label_from l.at l.line-iterator name) ≡ label_in l.code name;
}
