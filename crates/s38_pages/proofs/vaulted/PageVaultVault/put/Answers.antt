use Rattle.std.proofs.Common.{◌≡◌, ◌≤◌, ◌-◌, ap, refl, rules, subst, arith}
use Rattle.std.specs.FinMap.{len}
use Rattle.std.specs.Vec.{vec_capacity}
use Rattle.s38_vault.specs.Directory.{keys_of, new_keys}
use Rattle.s38_redo_log.specs.declared.layout.Layout.{Layout}
use Rattle.s38_disk.proofs.CostLaws.{costs_nothing}
use Rattle.s38_pages.specs.Index.{home_count}
use Rattle.s38_pages.specs.Vaults.{IsVault, LeavesAt, PageStore}
use Rattle.s38_pages.proofs.Finishing.{only_read}
use Rattle.s38_pages.proofs.VaultLemmas.{free_after, put_whole, told_moments}
use Rattle.s38_pages.proofs.vaulted.PageVaultVault.put.Goals as goal

pub returns-in-Ok-clause-free : goal.returns-in-Ok-clause-free
returns-in-Ok-clause-free g c =
    let old = c.args.self.now in
    let fits = subst (λ (v : PageStore). len v.homes ≤ home_count v.layout) c.self.view_is (omega (arith, c.self.invariant.vault.parts)) in
    let moved = ap (λ (v : PageStore). new_keys (keys_of v.homes) c.args.changes.now) c.self.view_is in
    let is : c.free-free.result ≡ home_count old.layout - len old.homes = c.free-free.ensures.free in
    let room : new_keys (keys_of old.homes) c.args.changes.now ≤ home_count old.layout - len old.homes = omega (arith, c.count_new-needed.ensures, moved, is, c.if-needed-free.false) in
    free_after old.homes c.put_all.new.self.homes c.args.changes.now (home_count old.layout) (home_count c.put_all.new.self.layout) c.requires.rising fits (ap home_count c.put_all.ensures.layout) room c.put_all.ensures.keys

pub returns-in-Ok-clause-during : goal.returns-in-Ok-clause-during
returns-in-Ok-clause-during g c m holds t n low high left =
    let vault = subst (λ (v : PageStore). IsVault v.layout v.disk v.homes c.self.inside.marks c.self.inside.slots.items (vec_capacity c.self.inside.slots) v.good) c.self.view_is c.self.invariant.vault in
    told_moments vault c.put_all.ensures.moves m holds t n low high (subst (λ (l : Layout). LeavesAt l c.put_all.new.self.disk.past t n) c.put_all.ensures.layout left)

pub returns-in-Ok-clause-after : goal.returns-in-Ok-clause-after
returns-in-Ok-clause-after g c m n holds left = (c.in-Ok.ensures.rises, c.in-Ok.ensures.after m n holds left)

pub returns-in-Err-clause-during : goal.returns-in-Err-clause-during
returns-in-Err-clause-during g c m holds t n low high left =
    let vault = subst (λ (v : PageStore). IsVault v.layout v.disk v.homes c.self.inside.marks c.self.inside.slots.items (vec_capacity c.self.inside.slots) v.good) c.self.view_is c.self.invariant.vault in
    told_moments vault c.put_all.ensures.moves m holds t n low high (subst (λ (l : Layout). LeavesAt l c.put_all.new.self.disk.past t n) c.put_all.ensures.layout left)

pub returns-then-needed-free-clause-moves : goal.returns-then-needed-free-clause-moves
returns-then-needed-free-clause-moves g c = only_read _ _ refl (omega arith) refl

pub returns-then-needed-free-clause-cost : goal.returns-then-needed-free-clause-cost
returns-then-needed-free-clause-cost g c = costs_nothing _ _ refl

pub returns-then-not-self-clause-cost : goal.returns-then-not-self-clause-cost
returns-then-not-self-clause-cost g c = costs_nothing _ _ (ap (λ (v : PageStore). v.disk.past) c.self.view_is)

pub returns-then-not-self-clause-moves : goal.returns-then-not-self-clause-moves
returns-then-not-self-clause-moves g c =
    let later = ap (λ (v : PageStore). v.disk.faults) c.self.view_is in
    only_read _ _ (ap (λ (v : PageStore). v.disk.size) c.self.view_is) (omega (arith, later)) (ap (λ (v : PageStore). v.disk.past) c.self.view_is)

pub returns-in-Ok-clause-whole : goal.returns-in-Ok-clause-whole
returns-in-Ok-clause-whole g c =
    let vault = subst (λ (v : PageStore). IsVault v.layout v.disk v.homes c.self.inside.marks c.self.inside.slots.items (vec_capacity c.self.inside.slots) v.good) c.self.view_is c.self.invariant.vault in
    put_whole vault (search rules) c.put_all.ensures.moves

pub returns-in-Err-clause-whole : goal.returns-in-Err-clause-whole
returns-in-Err-clause-whole g c =
    let vault = subst (λ (v : PageStore). IsVault v.layout v.disk v.homes c.self.inside.marks c.self.inside.slots.items (vec_capacity c.self.inside.slots) v.good) c.self.view_is c.self.invariant.vault in
    put_whole vault (search rules) c.put_all.ensures.moves

pub returns-then-needed-free-clause-whole : goal.returns-then-needed-free-clause-whole
returns-then-needed-free-clause-whole g c = only_read _ _ refl (omega arith) refl

pub returns-then-not-self-clause-whole : goal.returns-then-not-self-clause-whole
returns-then-not-self-clause-whole g c =
    let later = ap (λ (v : PageStore). v.disk.faults) c.self.view_is in
    only_read _ _ (ap (λ (v : PageStore). v.disk.size) c.self.view_is) (omega (arith, later)) (ap (λ (v : PageStore). v.disk.past) c.self.view_is)
