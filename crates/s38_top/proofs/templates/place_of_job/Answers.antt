use Rattle.std.proofs.Common.{sym, ◌∙◌}
use Rattle.s38_top.proofs.templates.place_of_job.Goals as goal

pub returns : goal.returns
returns c = sym (c.requires.places c.args.job.now.template) ∙ sym c.in-Some.ensures.value
