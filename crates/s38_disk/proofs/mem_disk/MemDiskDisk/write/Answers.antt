use Rattle.std.proofs.Common.{arith, ◌≡◌, ◌∷◌, [], ◌++◌, ◌<◌, ap}
use Rattle.std.proofs.lemmas.Grind.{common_steps}
use Rattle.s38_disk.specs.Memory.{MemStore}
use Rattle.s38_disk.specs.declared.block.Call.TheVariants.{Wrote}
use Rattle.s38_disk.proofs.Kept.{kept_write}
use Rattle.s38_disk.proofs.mem_disk.MemDiskDisk.write.Goals as goal

pub index_mut-requires : goal.index_mut-requires
index_mut-requires c = omega (arith, ap (λ (v : MemStore). v.size) c.self.view_is, c.requires, c.self.invariant.now_size)

pub invariant_of-self-2 : goal.invariant_of-self-2
invariant_of-self-2 c =
    let size = ap (λ (v : MemStore). v.size) c.self.view_is in
    let le : c.args.at < c.self.inside.size = omega (arith, size, c.requires) in
    let e : c.push.new.self.items ≡ c.self.inside.calls.items ++ Wrote c.args.at c.args.from.now ∷ [] = grind (arith, common_steps) in
    kept_write _ _ _ c.self.inside.calls.items c.push.new.self.items c.args.at c.args.from.now c.self.invariant le e
