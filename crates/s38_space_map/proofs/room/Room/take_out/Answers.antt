use Rattle.s38_space_map.proofs.SumLaws.{take_moves}
use Rattle.s38_space_map.proofs.room.Room.take_out.Goals as goal

pub left_beside-self-inside-requires-clause-before : goal.left_beside-self-inside-requires-clause-before
left_beside-self-inside-requires-clause-before c some =
    let moved = take_moves c.self.inside.left c.self.inside.parts c.args.number.0 c.self.inside.extents.items c.self.invariant.rising c.self.invariant.left some in
    rw (c.as_slice-2.ensures.value, c.take_out.ensures.extents, c.parts_at-was.ensures.parts, c.as_slice.ensures.value) moved
