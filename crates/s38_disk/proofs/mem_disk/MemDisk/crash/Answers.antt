use Rattle.std.proofs.Common.{◌≡◌, length, take, drop, ◌∙◌, ap, subst, sym, refl, List}
use Rattle.std.proofs.lemmas.List.{take_at}
use Rattle.s38_disk.specs.Blocks.{after_calls, blocks_of_list, synced_state}
use Rattle.s38_disk.specs.Memory.{AreWithin, MemStore, image_by, state_at}
use Rattle.s38_disk.specs.declared.block.Block.{Block}
use Rattle.s38_disk.specs.declared.block.Call.{Call}
use Rattle.s38_disk.proofs.Kept.{image_of_fill, within_take}
use Rattle.s38_disk.proofs.mem_disk.MemDisk.crash.Goals as goal

pub replay-requires : goal.replay-requires
replay-requires c =
    let size : length c.deref_mut.result.now ≡ c.self.inside.size = ap length c.deref_mut.ensures.value ∙ c.self.invariant.first_size in
    subst (λ n. AreWithin n (take c.args.moment c.deref.result.now)) (sym size) (within_take c.self.inside.size c.deref.result.now c.args.moment (subst (AreWithin c.self.inside.size) (sym c.deref.ensures.value) c.self.invariant.within))

pub returns-clause-blocks : goal.returns-clause-blocks
returns-clause-blocks c = λ i.
    let first : c.deref_mut.result.now ≡ c.args.self.first = c.deref_mut.ensures.value ∙ ap (λ (v : MemStore). v.first) c.self.view_is in
    let calls : c.deref.result.now ≡ c.args.self.calls = c.deref.ensures.value ∙ ap (λ (v : MemStore). v.calls) c.self.view_is in
    let back = take_at c.replay.new.blocks (drop (length c.replay.new.blocks) c.self.inside.first.items) c.self.inside.first.len (c.replay.auto.blocks ∙ c.deref_mut.ensures.len) in
    ap (λ (bs : List Block). blocks_of_list bs i) back ∙ c.replay.ensures.image i
    ∙ ap (λ (bs : List Block). image_by c.args.fill (after_calls (synced_state (blocks_of_list bs)) (take c.args.moment c.deref.result.now)) i) first
    ∙ ap (λ (cs : List Call). image_by c.args.fill (after_calls (synced_state (blocks_of_list c.args.self.first)) (take c.args.moment cs)) i) calls

pub returns-clause-image : goal.returns-clause-image
returns-clause-image c =
    (state_at c.args.self c.args.moment, (refl, record { same = λ i none. returns-clause-blocks c i ∙ (image_of_fill c.args.fill (blocks_of_list c.args.self.first) (take c.args.moment c.args.self.calls)).same i none }))
