use Rattle.std.proofs.Common.{ap}
use Rattle.std.specs.FinMap.{empty}
use Rattle.s38_checkpoint.proofs.CloseLaws.{AreClosing, content_closed}
use Rattle.s38_checkpoint.specs.Closing.{closing}
use Rattle.s38_vault.specs.MapVaults.{MapStore}
use Rattle.s38_checkpoint.proofs.first.first_changes.Goals as goal

pub returns-in-Ok-clause-content : goal.returns-in-Ok-clause-content
returns-in-Ok-clause-content c =
    let d = closing c.args.units.now c.args.objects.now in
    let all : AreClosing _ _ d c.add_all.new.into.items = record { so_far = c.in-Ok.ensures.so_far; whole = c.in-Ok.ensures.whole; known = c.in-Ok.ensures.known } in
    content_closed all empty (ap (λ (v : MapStore). v.pages) c.new-nothing.ensures)
