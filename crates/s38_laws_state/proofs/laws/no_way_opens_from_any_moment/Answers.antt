use Rattle.s38_laws_state.proofs.LaterLaws.{confined_later}
use Rattle.s38_laws_state.proofs.laws.no_way_opens_from_any_moment.Goals as goal

pub returns : goal.returns
returns c = confined_later
