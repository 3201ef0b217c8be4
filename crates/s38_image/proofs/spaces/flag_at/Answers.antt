use Rattle.s38_image.proofs.SpaceReading.{flag_past, flag_there}
use Rattle.s38_image.proofs.spaces.flag_at.Goals as goal

pub returns-in-Some : goal.returns-in-Some
returns-in-Some c = flag_there c.args.tags.now c.args.at c.in-Some.page.now c.in-Some.ensures.lookup.3.0 c.in-Some.ensures.lookup.1

pub returns-in-None : goal.returns-in-None
returns-in-None c = flag_past c.args.tags.now c.args.at c.in-None.ensures.lookup.3
