use Rattle.s38_laws_commits.proofs.BeginLaws.{begins_sound}
use Rattle.s38_laws_commits.proofs.begun.a_restart_begins_sound.Goals as goal

pub returns : goal.returns
returns c = begins_sound
