use Rattle.s38_top.proofs.DeckLaws.{made_at}
use Rattle.s38_top.proofs.templates.made_of_job.Goals as goal

pub made_at-requires : goal.made_at-requires
made_at-requires c = made_at c.args.deck.now c.args.job.now c.args.templates.now c.place_of_job-at.result c.requires.has c.requires.checked c.place_of_job-at.ensures
