use Rattle.s38_operands.proofs.hex.+is_hex_piece.Given as goal

abbrev pub decreases-is_hex_piece : goal.decreases-is_hex_piece
decreases-is_hex_piece l = l.len
