use Rattle.std.proofs.Common.{◌≡◌, ◌-◌, true}
use Rattle.std.specs.Option.{option_copied}
use Rattle.s38_codec.specs.Codec.{times}
use Rattle.s38_codec.specs.Formats.{short_text}
use Rattle.s38_codec.proofs.Loop.{with_front}
use Rattle.s38_image.specs.Indexes.{entries_rise}
use Rattle.s38_image.specs.Steps.{last_of}
use Rattle.s38_image.proofs.indexes.entries_in.Given as goal

abbrev pub invariant-loop : goal.invariant-loop
invariant-loop l =
    record {
      read : with_front l.index.entries ((times (l.fn.count - l.counter) (short_text l.fn.longest)).read l.rest) ≡ (times l.fn.count (short_text l.fn.longest)).read l.fn.from;
      longest : l.index.longest ≡ l.fn.longest;
      rising : entries_rise l.index.entries ≡ true;
      last : last_of l.index.entries ≡ option_copied l.previous;
    }
