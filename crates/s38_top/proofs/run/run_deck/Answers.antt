use Rattle.s38_top.specs.Begun.{held_of}
use Rattle.s38_top.specs.Decks.{turns_by}
use Rattle.s38_top.proofs.WholeRunLaws.{whole_at}
use Rattle.s38_top.proofs.run.run_deck.Goals as goal

pub returns : goal.returns
returns g c =
    whole_at (held_of c.in_ok-started.started) c.args.objects (turns_by g.P.Picker.answer g.P.Picker.after c.args.picker.now) c.in_ok-started.started.deck c.args.deck c.run_serial.result
    c.in_ok-started.ensures.held c.in_ok-started.ensures.deck c.run_serial.ensures
