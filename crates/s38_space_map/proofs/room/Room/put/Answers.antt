use Rattle.std.proofs.Common.{arith}
use Rattle.s38_space_map.proofs.SumLaws.{put_moves}
use Rattle.s38_space_map.proofs.room.Room.put.Goals as goal

pub left_beside-self-inside-requires-clause-before : goal.left_beside-self-inside-requires-clause-before
left_beside-self-inside-requires-clause-before c some =
    let moved = put_moves c.self.inside.left c.self.inside.parts c.args.extent c.self.inside.extents.items c.self.invariant.rising c.self.invariant.left some in
    rw (c.as_slice-2.ensures.value, c.put.ensures.extents, c.parts_at-was.ensures.parts, c.as_slice.ensures.value, c.number.ensures, c.parts.ensures) moved
