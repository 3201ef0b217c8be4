use Rattle.s38_top.proofs.CauseLaws.{cause_of_text, read_of_text}
use Rattle.s38_top.proofs.prepare.deck_of_source.Goals as goal

pub returns-in-Ok-clause-read : goal.returns-in-Ok-clause-read
returns-in-Ok-clause-read g c =
    read_of_text (g.S.Source.left c.args.source.now) (g.S.Source.left c.read_to_end.new.source) c.as_slice.result.now c.checked_deck.result
    (rw c.as_slice.ensures.value c.in-Ok.ensures.bytes) c.checked_deck.ensures.spelled

pub returns-in-Ok-clause-cause : goal.returns-in-Ok-clause-cause
returns-in-Ok-clause-cause g c =
    cause_of_text (g.S.Source.left c.args.source.now) (g.S.Source.left c.read_to_end.new.source) (g.S.Source.faults c.args.source.now) (g.S.Source.faults c.read_to_end.new.source) c.as_slice.result.now c.checked_deck.result
    (rw c.as_slice.ensures.value c.in-Ok.ensures.bytes) c.checked_deck.ensures.cause
