use Rattle.std.proofs.Common.{◌≤◌, arith}
use Rattle.std.proofs.lemmas.Bool.Decides.{nat_tests}
use Rattle.s38_memory.specs.Tagged.{bytes_in}
use Rattle.s38_operands.proofs.HexLaws.{hex_fails, hex_further}
use Rattle.s38_operands.proofs.hex.+is_hex_piece.Goals as goal

pub returns-then-is_hex_chunk : goal.returns-then-is_hex_chunk
returns-then-is_hex_chunk t c =
    let long : 64 ≤ c.args.len = grind (arith, nat_tests, c.if-len-le-CHUNK.false) in
    hex_further (bytes_in c.args.space.now) c.args.at 64 c.args.len c.is_hex_chunk-2.result c.is_hex_piece.result long
    c.if-is_hex_chunk.true c.is_hex_chunk-2.ensures c.is_hex_piece.ensures

pub returns-else-is_hex_chunk : goal.returns-else-is_hex_chunk
returns-else-is_hex_chunk t c =
    let long : 64 ≤ c.args.len = grind (arith, nat_tests, c.if-len-le-CHUNK.false) in
    hex_fails (bytes_in c.args.space.now) c.args.at 64 c.args.len c.is_hex_chunk-2.result long
    c.if-is_hex_chunk.false c.is_hex_chunk-2.ensures
