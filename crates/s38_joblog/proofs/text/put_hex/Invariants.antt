use Rattle.std.proofs.Common.{◌≡◌, ◌≤◌, ◌+◌, ◌-◌, ◌*◌, ◌++◌, length, take}
use Rattle.std.specs.Prelude.{vec_capacity, vec_len}
use Rattle.s38_joblog.specs.Words.{hex_text}
use Rattle.s38_joblog.proofs.text.put_hex.Given as goal

abbrev pub invariant-loop-byte : goal.invariant-loop-byte
invariant-loop-byte l = record {
  items : l.text.items ≡ l.initial.text.items ++ hex_text (take l.byte-index l.bytes);
  room : vec_len l.text + 2 * (length l.bytes - l.byte-index) ≤ vec_capacity l.text;
}
