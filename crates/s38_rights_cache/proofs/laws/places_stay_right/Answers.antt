use Rattle.s38_rights_cache.proofs.AskLaws.{begun_steady}
use Rattle.s38_rights_cache.proofs.EventLaws.{event_steady}
use Rattle.s38_rights_cache.proofs.laws.places_stay_right.Goals as goal

pub returns : goal.returns
returns c = record { begins = begun_steady; events = event_steady }
