use Rattle.std.proofs.Common.{◌≡◌, ◌+◌, ◌/◌, ◌*◌, ◌≤◌, ℕ, List, true, length, ap, arith, refl, subst, sym, ◌∙◌}
use Rattle.std.specs.FinMap.{get}
use Rattle.s38_disk.specs.Costs.{Costs}
use Rattle.s38_disk.specs.Disk.{DiskView}
use Rattle.s38_disk.specs.Moves.{Moves, MovesBy}
use Rattle.s38_disk.proofs.CostLaws.{costs_within}
use Rattle.s38_vault.specs.Content.{changed}
use Rattle.s38_redo_log.specs.declared.layout.Layout.{Layout}
use Rattle.s38_redo_log.specs.declared.layout.Slot.{Slot}
use Rattle.s38_redo_log.specs.Phases.{IsAllOrNone, IsPut}
use Rattle.s38_pages.specs.Index.{HaveOwnHomes, Planned, marked}
use Rattle.s38_pages.specs.Vaults.{IsOneOf, IsVault, PageStore, page_holds}
use Rattle.s38_pages.proofs.Blaming.{of_put}
use Rattle.s38_pages.proofs.Giving.{Given, homes_apart}
use Rattle.s38_pages.proofs.VaultLemmas.{of_ok, on_ok, placed_still, present_one, put_back, put_holds, put_moves, put_told, put_vault}
use Rattle.s38_pages.proofs.page_vault.PageVault.put_all.Goals as goal

along : {v w : DiskView} (lay : Layout) (xs ys : List Slot) → xs ≡ ys → Moves v w (2 * length xs + length xs / 132 + 7) (IsAllOrNone lay xs) → Moves v w (2 * length ys + length ys / 132 + 7) (IsAllOrNone lay ys)
along {v} {w} lay xs ys e m = subst (λ zs. Moves v w (2 * length zs + length zs / 132 + 7) (IsAllOrNone lay zs)) e m

ends : (v w : DiskView) (lay : Layout) (xs ys : List Slot) → xs ≡ ys → MovesBy v w (IsPut lay xs) → MovesBy v w (IsPut lay ys)
ends v w lay xs ys e f = subst (λ zs. MovesBy v w (IsPut lay zs)) e f

costs : {v w : DiskView} (xs ys : List Slot) (most : ℕ) → xs ≡ ys → length ys ≤ most → Costs v w (2 * length xs + length xs / 132 + 3) 4 → Costs v w (2 * most + most / 132 + 3) 4
costs xs ys most e few x = let same = ap length e in costs_within (2 * most + most / 132 + 3) 4 x (omega (arith, same, few)) (omega arith)

pub give_back-requires-clause-apart : goal.give_back-requires-clause-apart
give_back-requires-clause-apart g c =
    let lay = c.self.inside.layout in
    let p = c.plan.ensures.planned lay c.self.invariant.vault.free c.self.invariant.vault.index in
    subst HaveOwnHomes (sym c.deref-2.ensures.value) (homes_apart lay c.plan.new.slots.items p.homes)

pub invariant_of-self : goal.invariant_of-self
invariant_of-self g c =
    let r = c.self.invariant.vault in
    let lay = c.self.inside.layout in
    let es = c.plan.new.slots.items in
    let homes = c.self.inside.homes.values in
    let now = c.plan.new.homes.values in
    let later = c.plan.new.marks in
    let p : Planned lay (get homes) (get now) (marked later) es c.args.changes.now = c.plan.ensures.planned lay r.free r.index in
    let moves = along lay _ es c.deref.ensures.value c.write_all-written.ensures.moves in
    let good : c.self.inside.good ≡ true = ap (λ (v : PageStore). v.good) c.self.view_is ∙ c.requires.good in
    let given : Given later c.give_back.new.marks es = subst (Given later c.give_back.new.marks) c.deref-2.ensures.value (record { marks = c.give_back.ensures.marks; count = c.give_back.ensures.count; size = c.give_back.ensures.size }) in
    record {
      vault =
          subst (λ n. IsVault lay (g.D.Disk.view c.write_all-written.new.disk) now c.give_back.new.marks c.clear.new.self.items n c.is_ok-self-inside.result) (sym (c.clear.ensures.capacity ∙ c.plan.ensures.capacity))
          (put_vault r p c.plan.ensures.tallied (c.plan.ensures.free lay r.free) given c.requires.rising c.requires.objects moves c.clear.ensures.items
          (λ ok. put_told lay (get homes) (get now) (marked later) es c.args.changes.now p moves (ends (g.D.Disk.view c.self.inside.disk) (g.D.Disk.view c.write_all-written.new.disk) lay _ es c.deref.ensures.value (of_ok c.write_all-written.result c.write_all-written.ensures.done (sym c.is_ok-self-inside.ensures.value ∙ ok))) (r.told good)));
      faults = of_put c.write_all-written.result good c.is_ok-self-inside.ensures.value c.write_all-written.ensures.cause c.self.invariant.faults;
      placed = placed_still c.self.invariant.placed c.write_all-written.ensures.moves.size;
    }

pub returns-clause-moves : goal.returns-clause-moves
returns-clause-moves g c =
    let r = c.self.invariant.vault in
    let lay = c.self.inside.layout in
    let es = c.plan.new.slots.items in
    let homes = c.self.inside.homes.values in
    let cs = c.args.changes.now in
    let p = c.plan.ensures.planned lay r.free r.index in
    let w = g.D.Disk.view c.write_all-written.new.disk in
    let moves = along lay _ es c.deref.ensures.value c.write_all-written.ensures.moves in
    subst (λ (v : PageStore). Moves v.disk w (2 * length cs + length cs / 132 + 7) (IsOneOf v.layout (get v.homes) cs)) c.self.view_is
    (put_moves lay (get homes) (get c.plan.new.homes.values) (marked c.plan.new.marks) es cs p moves)

pub returns-clause-cost : goal.returns-clause-cost
returns-clause-cost g c =
    let r = c.self.invariant.vault in
    let lay = c.self.inside.layout in
    let cs = c.args.changes.now in
    let p = c.plan.ensures.planned lay r.free r.index in
    let w = g.D.Disk.view c.write_all-written.new.disk in
    subst (λ (v : PageStore). Costs v.disk w (2 * length cs + length cs / 132 + 3) 4) c.self.view_is
    (costs _ c.plan.new.slots.items (length cs) c.deref.ensures.value p.few c.write_all-written.ensures.cost)

pub returns-clause-holds : goal.returns-clause-holds
returns-clause-holds g c =
    let r = c.self.invariant.vault in
    let lay = c.self.inside.layout in
    let es = c.plan.new.slots.items in
    let homes = c.self.inside.homes.values in
    let cs = c.args.changes.now in
    let p = c.plan.ensures.planned lay r.free r.index in
    let w = g.D.Disk.view c.write_all-written.new.disk in
    let good : c.self.inside.good ≡ true = ap (λ (v : PageStore). v.good) c.self.view_is ∙ c.requires.good in
    let moves = along lay _ es c.deref.ensures.value c.write_all-written.ensures.moves in
    on_ok c.write_all-written.result c.write_all-written.ensures.done (λ ok done m holds.
    let here = subst (λ (v : PageStore). page_holds v m) (sym c.self.view_is) holds in
    let now = put_holds lay (get homes) (get c.plan.new.homes.values) (marked c.plan.new.marks) es cs p moves (ends (g.D.Disk.view c.self.inside.disk) (g.D.Disk.view c.write_all-written.new.disk) lay _ es c.deref.ensures.value done) (r.told good) m (refl, here.1) in
    (c.is_ok-self-inside.ensures.value ∙ ok, now.1))

pub returns-clause-told : goal.returns-clause-told
returns-clause-told g c =
    let r = c.self.invariant.vault in
    let lay = c.self.inside.layout in
    let es = c.plan.new.slots.items in
    let homes = c.self.inside.homes.values in
    let cs = c.args.changes.now in
    let p = c.plan.ensures.planned lay r.free r.index in
    let w = g.D.Disk.view c.write_all-written.new.disk in
    let good : c.self.inside.good ≡ true = ap (λ (v : PageStore). v.good) c.self.view_is ∙ c.requires.good in
    let moves = along lay _ es c.deref.ensures.value c.write_all-written.ensures.moves in
    on_ok c.write_all-written.result c.write_all-written.ensures.done (λ ok done n holds.
    let back = put_back lay (get homes) (get c.plan.new.homes.values) (marked c.plan.new.marks) es cs p moves (ends (g.D.Disk.view c.self.inside.disk) (g.D.Disk.view c.write_all-written.new.disk) lay _ es c.deref.ensures.value done) (r.told good) n (refl, holds.1) in
    (back.0, (subst (λ (v : PageStore). page_holds v back.0) c.self.view_is (good, back.1.0.1), back.1.1)))

pub returns-clause-after : goal.returns-clause-after
returns-clause-after g c =
    let r = c.self.invariant.vault in
    let lay = c.self.inside.layout in
    let es = c.plan.new.slots.items in
    let homes = c.self.inside.homes.values in
    let now = c.plan.new.homes.values in
    let later = c.plan.new.marks in
    let cs = c.args.changes.now in
    let w = g.D.Disk.view c.write_all-written.new.disk in
    let p : Planned lay (get homes) (get now) (marked later) es cs = c.plan.ensures.planned lay r.free r.index in
    let moves = along lay _ es c.deref.ensures.value c.write_all-written.ensures.moves in
    let good : c.self.inside.good ≡ true = ap (λ (v : PageStore). v.good) c.self.view_is ∙ c.requires.good in
    let given : Given later c.give_back.new.marks es = subst (Given later c.give_back.new.marks) c.deref-2.ensures.value (record { marks = c.give_back.ensures.marks; count = c.give_back.ensures.count; size = c.give_back.ensures.size }) in
    on_ok c.write_all-written.result c.write_all-written.ensures.done (λ ok done m n holds left.
    let ended = ends (g.D.Disk.view c.self.inside.disk) w lay _ es c.deref.ensures.value done in
    let here = subst (λ (v : PageStore). page_holds v m) (sym c.self.view_is) holds in
    let held = put_holds lay (get homes) (get now) (marked later) es cs p moves ended (r.told good) m (refl, here.1) in
    let vault : IsVault lay w now c.give_back.new.marks c.clear.new.self.items _ true =
    put_vault r p c.plan.ensures.tallied (c.plan.ensures.free lay r.free) given c.requires.rising c.requires.objects moves c.clear.ensures.items
    (λ yes. put_told lay (get homes) (get now) (marked later) es cs p moves ended (r.told good)) in
    present_one vault (changed m cs) n held left)
