use Rattle.std.proofs.Common.{rules}
use Rattle.std.specs.Prelude.{not, ◌==◌}
use Rattle.std.proofs.lemmas.Fn.{filter_same}
use Rattle.s38_locks.specs.Locks.{Lock}
use Rattle.s38_locks.proofs.locks.release.Goals as goal

pub returns : goal.returns
returns c = filter_same _ (λ (lock : Lock). not (lock.0 == c.args.process)) _ (λ x b f' t. search rules) _ _ c.retain.ensures.filtered
