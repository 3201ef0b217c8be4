use Rattle.std.proofs.Common.{◌≡◌, ◌-◌}
use Rattle.s38_codec.specs.Codec.{times}
use Rattle.s38_codec.proofs.Loop.{with_front}
use Rattle.s38_image.specs.Scalars.{attr}
use Rattle.s38_image.proofs.data_spaces.attrs_at.Given as goal

abbrev pub invariant-loop : goal.invariant-loop
invariant-loop l = with_front l.attrs.items ((times (l.fn.count - l.counter) attr).read l.rest) ≡ (times l.fn.count attr).read l.fn.from
