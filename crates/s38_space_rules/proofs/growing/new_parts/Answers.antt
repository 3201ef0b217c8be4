use Rattle.std.proofs.Common.{◌∙◌, sym}
use Rattle.s38_space_rules.proofs.CreationLaws.{next_free}
use Rattle.s38_space_rules.proofs.EventGrowth.{act_parts, end_parts, start_parts}
use Rattle.s38_space_rules.proofs.NumberLaws.{numbered_by}
use Rattle.s38_space_rules.proofs.growing.new_parts.Goals as goal

pub returns-in-Start-clause-parts : goal.returns-in-Start-clause-parts
returns-in-Start-clause-parts c =
    let w = c.args.world.now in
    rw c.in-Start.is (sym (start_parts c.args.room.now.room w c.args.process (numbered_by w.held c.lawful.ensures) c.requires.fits))

pub returns-in-Act-clause-parts : goal.returns-in-Act-clause-parts
returns-in-Act-clause-parts c =
    let w = c.args.world.now in
    rw c.in-Act.is
    (c.act_growth.ensures.parts
    ∙ sym (act_parts c.args.room.now.room w c.args.process _ _ (numbered_by w.held c.lawful.ensures) (next_free w.held c.lawful.ensures.given) c.requires.fits))

pub returns-in-Finish-clause-parts : goal.returns-in-Finish-clause-parts
returns-in-Finish-clause-parts c =
    let w = c.args.world.now in
    rw c.in-Finish.is (sym (end_parts c.args.room.now.room w c.args.process _ (numbered_by w.held c.lawful.ensures) c.requires.fits))
