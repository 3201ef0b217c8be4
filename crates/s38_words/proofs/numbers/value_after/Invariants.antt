use Rattle.std.proofs.Common.{◌≡◌, ◌^◌, ◌-◌, take}
use Rattle.s38_words.specs.Number.{capped, value_after}
use Rattle.s38_words.proofs.numbers.value_after.Given as goal

abbrev pub invariant-loop-digit : goal.invariant-loop-digit
invariant-loop-digit l = l.value ≡ capped (2 ^ 128 - 1) (value_after l.start (take l.digit-index l.digits))
