use Rattle.std.proofs.Common.{rules, ◌∙◌, ap, sym}
use Rattle.std.specs.Prelude.{is_none}
use Rattle.s38_programs.proofs.RoomLaws.{no_room}
use Rattle.s38_programs.proofs.templates.are_longer.Goals as goal

pub returns : goal.returns
returns c =
    let e = ap is_none c.room_after.ensures ∙ no_room c.args.lines c.args.limit in
    rw (sym e) (search rules)
