use Rattle.std.proofs.Common.{◌≡◌, ◌+◌, ◌-◌, ap, arith}
use Rattle.std.specs.Prelude.{vec_len}
use Rattle.s38_machine.specs.Log.{Logged}
use Rattle.s38_machine.proofs.LogLaws.{count_of-le}
use Rattle.s38_machine.proofs.log.Log.push.Goals as goal

pub count-requires-clause-room : goal.count-requires-clause-room
count-requires-clause-room c =
    let processes : vec_len c.self.inside.counts ≡ c.args.self.now.processes = ap (λ (v : Logged). v.processes) c.self.view_is in
    let kept = c.self.invariant (c.args.process - 1) (omega arith) in
    omega (arith, kept, count_of-le (c.args.process - 1 + 1) c.self.inside.entries.items, c.push_reserved.ensures.len, c.len-all.ensures)
