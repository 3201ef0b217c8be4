use Rattle.std.proofs.Common.{◌≡◌, drop}
use Rattle.s38_process.specs.Replies.{place_for}
use Rattle.s38_process.proofs.receiving.place_for.Given as goal

abbrev pub invariant-loop-arg : goal.invariant-loop-arg
invariant-loop-arg l = place_for l.rows l.homes l.more (drop l.arg-index l.args) ≡ place_for l.rows l.homes l.classes l.args
