use Rattle.std.proofs.Common.{◌≡◌, map, take}
use Rattle.s38_words.specs.Literal.{ebcdic}
use Rattle.s38_words.proofs.literals.translated.Given as goal

abbrev pub invariant-loop-byte : goal.invariant-loop-byte
invariant-loop-byte l = l.bytes ≡ map ebcdic (take l.byte-index l.text)
