use Rattle.std.proofs.Common.{◌≡◌, ◌-◌}
use Rattle.s38_codec.specs.Codec.{times}
use Rattle.s38_codec.proofs.Loop.{with_front}
use Rattle.s38_image.specs.Headers.{row_form}
use Rattle.s38_image.proofs.rows.rows_in.Given as goal

abbrev pub invariant-loop : goal.invariant-loop
invariant-loop l = with_front l.rows.items ((times (l.fn.count - l.counter) row_form).read l.rest) ≡ (times l.fn.count row_form).read l.fn.from
