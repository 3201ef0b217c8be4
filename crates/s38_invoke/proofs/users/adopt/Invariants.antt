use Rattle.std.proofs.Common.{◌≡◌, ◌+◌, ◌≤◌, ◌++◌, drop, length}
use Rattle.s38_rules.specs.ask.Users.{adopted, frame_header}
use Rattle.s38_invoke.proofs.users.adopt.Given as goal

abbrev pub invariant-loop-k : goal.invariant-loop-k
invariant-loop-k g l = record {
  few : length l.acting + length (drop l.k l.frames) ≤ 65;
  said : l.said ≡ frame_header (g.T.Table.held l.objects) l.before;
  users : l.acting ++ adopted (g.T.Table.held l.objects) (drop l.k l.frames) ≡ l.initial.acting ++ adopted (g.T.Table.held l.objects) l.frames;
}
