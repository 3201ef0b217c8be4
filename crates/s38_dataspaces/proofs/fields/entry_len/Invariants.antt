use Rattle.std.proofs.Common.{◌≡◌, ◌≤◌, ◌*◌, take}
use Rattle.std.specs.Prelude.{sum_by}
use Rattle.s38_base.specs.Attributes.{length_of}
use Rattle.s38_dataspaces.proofs.fields.entry_len.Given as goal

abbrev pub invariant-loop-field : goal.invariant-loop-field
invariant-loop-field l = (l.len ≡ sum_by length_of (take l.field-index l.fields)) × (l.len ≤ 65536 * l.field-index)
