use Rattle.std.proofs.Common.{◌≡◌, ◌-◌}
use Rattle.s38_codec.specs.Codec.{times}
use Rattle.s38_codec.proofs.Loop.{with_front}
use Rattle.s38_image.specs.DataSpaces.{slot}
use Rattle.s38_image.proofs.data_spaces.slots_in.Given as goal

abbrev pub invariant-loop : goal.invariant-loop
invariant-loop l =
    record {
      read : with_front l.space.entries ((times (l.fn.count - l.counter) (slot l.fn.fields)).read l.rest) ≡ (times l.fn.count (slot l.fn.fields)).read l.fn.from;
      fields : l.space.fields ≡ l.fn.fields;
      spare : l.space.spare ≡ 0;
    }
