use Rattle.s38_locks.specs.Locks.{is_locked, without_process}
use Rattle.s38_locks.proofs.TableLaws.{kept_pairs}
use Rattle.std.proofs.Common.{rules}
use Rattle.s38_locks.proofs.map.release.Goals as goal

pub returns : goal.returns
returns c = kept_pairs _ (without_process c.args.process) is_locked _ (λ k v b w f' t. search rules) _ _ c.retain.ensures.filtered
