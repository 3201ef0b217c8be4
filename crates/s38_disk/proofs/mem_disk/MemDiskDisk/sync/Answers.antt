use Rattle.std.proofs.Common.{arith, not, ◌≡◌, ◌∷◌, [], ◌++◌}
use Rattle.std.proofs.lemmas.Grind.{common_steps}
use Rattle.s38_disk.specs.declared.block.Call.TheVariants.{Synced}
use Rattle.s38_disk.proofs.Kept.{kept_sync}
use Rattle.s38_disk.proofs.mem_disk.MemDiskDisk.sync.Goals as goal

pub invariant_of-self-2 : goal.invariant_of-self-2
invariant_of-self-2 c =
    let e : c.push.new.self.items ≡ c.self.inside.calls.items ++ Synced (not c.fails_next-failed.result) ∷ [] = grind (arith, common_steps) in
    kept_sync _ _ _ c.self.inside.calls.items c.push.new.self.items (not c.fails_next-failed.result) c.self.invariant e
