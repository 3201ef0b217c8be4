use Rattle.std.proofs.Common.{◌≡◌, ◌≤◌, ◌<◌, ◌+◌, ◌^◌, List, true, false, ap, arith, length, subst, sym, ◌∙◌}
use Rattle.std.proofs.lemmas.Bool.{true≢false}
use Rattle.std.specs.FinMap.{get, len, len-empty}
use Rattle.std.specs.Vec.{vec_capacity}
use Rattle.s38_vault.specs.Content.{Content}
use Rattle.s38_vault.specs.Directory.{keys_of}
use Rattle.s38_vault.specs.Keys.{key_cmp}
use Rattle.s38_disk.specs.Disk.{DiskView, IsAt}
use Rattle.s38_disk.specs.Moves.{Moves, MovesBy}
use Rattle.s38_redo_log.specs.declared.layout.Layout.{Layout}
use Rattle.s38_redo_log.specs.declared.layout.Slot.{Slot}
use Rattle.s38_redo_log.specs.Store.{IsLayout}
use Rattle.s38_pages.specs.Formats.{Fills, IsMade, IsMaking, first_content}
use Rattle.s38_pages.specs.Index.{HaveOwnHomes, Homes, Planned, home_count, marked}
use Rattle.s38_pages.specs.Mounts.{layout_of}
use Rattle.s38_pages.specs.Vaults.{HoldsNow, IsVault}
use Rattle.s38_pages.proofs.Finishing.{is_layout, only_read, opened_vault}
use Rattle.s38_pages.proofs.Giving.{Given, homes_apart}
use Rattle.s38_pages.proofs.Making.{first_keys, made_content, made_tells, making_moves, new_few, plan_fills}
use Rattle.s38_pages.proofs.VaultLemmas.{put_vault}
use Rattle.s38_pages.proofs.formatting.create.Goals as goal

-- the run that writes the slots as they were planned
along : {v w : DiskView} (lay : Layout) (m : Content) (xs ys : List Slot) → xs ≡ ys → Fills lay ys m → ((n : Content) → Fills lay xs n → Moves v w (lay.size + length xs + 3) (IsMaking lay n)) → Moves v w (lay.size + length ys + 3) (IsMaking lay m)
along {v} {w} lay m xs ys e fills moves = subst (λ zs. Moves v w (lay.size + length zs + 3) (IsMaking lay m)) e (moves m (subst (λ zs. Fills lay zs m) (sym e) fills))

ends : (v w : DiskView) (lay : Layout) (xs ys : List Slot) → xs ≡ ys → MovesBy v w (λ s t. IsMade lay xs t) → MovesBy v w (λ s t. IsMade lay ys t)
ends v w lay xs ys e f = subst (λ zs. MovesBy v w (λ s t. IsMade lay zs t)) e f

pub returns-in_err-layout-clause-moves : goal.returns-in_err-layout-clause-moves
returns-in_err-layout-clause-moves g c = only_read _ _ c.choose_layout.ensures.size c.choose_layout.ensures.cause.later c.choose_layout.ensures.past

pub returns-in_err-made-clause-moves : goal.returns-in_err-made-clause-moves
returns-in_err-made-clause-moves g c = only_read _ _ c.choose_layout.ensures.size c.choose_layout.ensures.cause.later c.choose_layout.ensures.past

pub plan-requires-clause-free : goal.plan-requires-clause-free
plan-requires-clause-free g c =
    let lay = c.in_ok-layout.layout in
    let homes = c.in_ok-made.made.homes.values in
    let few = new_few (keys_of homes) c.args.first.now in
    let none = ap (λ (h : Homes). len h) c.in_ok-made.ensures.homes ∙ len-empty key_cmp _ in
    let parts : home_count lay ≡ home_count (layout_of (g.D.Disk.view c.args.disk.now).size) = ap home_count c.in_ok-layout.ensures.layout in
    omega (arith, few, none, parts, c.in_ok-made.ensures.keeps.parts, c.in_ok-layout.ensures.large, c.requires.few)

pub give_back-requires-clause-apart : goal.give_back-requires-clause-apart
give_back-requires-clause-apart g c =
    let lay = c.in_ok-layout.layout in
    let keeps = c.in_ok-made.ensures.keeps in
    let p = c.plan.ensures.planned lay keeps.free keeps.index in
    subst HaveOwnHomes (sym c.deref-2.ensures.value) (homes_apart lay c.plan.new.slots.items p.homes)

pub returns-in_err-write_store-clause-moves : goal.returns-in_err-write_store-clause-moves
returns-in_err-write_store-clause-moves g c =
    let size = (g.D.Disk.view c.args.disk.now).size in
    let lay = c.in_ok-layout.layout in
    let same : lay ≡ layout_of size = c.in_ok-layout.ensures.layout in
    let is : IsLayout lay = subst IsLayout (sym same) (is_layout size c.in_ok-layout.ensures.large) in
    let es = c.plan.new.slots.items in
    let old = c.in_ok-made.made.homes.values in
    let now = c.plan.new.homes.values in
    let cs = c.args.first.now in
    let keeps = c.in_ok-made.ensures.keeps in
    let p : Planned lay (get old) (get now) (marked c.plan.new.marks) es cs = c.plan.ensures.planned lay keeps.free keeps.index in
    let fills = plan_fills lay is old c.in_ok-made.ensures.homes (get now) (marked c.plan.new.marks) es cs p in
    making_moves lay (layout_of size) (first_content cs) same p.few c.choose_layout.ensures.size c.choose_layout.ensures.cause.later c.choose_layout.ensures.past
    (along lay (first_content cs) _ es c.deref.ensures.value fills c.write_store.ensures.moves)

pub returns-clause-moves : goal.returns-clause-moves
returns-clause-moves g c =
    let size = (g.D.Disk.view c.args.disk.now).size in
    let lay = c.in_ok-layout.layout in
    let same : lay ≡ layout_of size = c.in_ok-layout.ensures.layout in
    let is : IsLayout lay = subst IsLayout (sym same) (is_layout size c.in_ok-layout.ensures.large) in
    let es = c.plan.new.slots.items in
    let old = c.in_ok-made.made.homes.values in
    let now = c.plan.new.homes.values in
    let cs = c.args.first.now in
    let keeps = c.in_ok-made.ensures.keeps in
    let p : Planned lay (get old) (get now) (marked c.plan.new.marks) es cs = c.plan.ensures.planned lay keeps.free keeps.index in
    let fills = plan_fills lay is old c.in_ok-made.ensures.homes (get now) (marked c.plan.new.marks) es cs p in
    making_moves lay (layout_of size) (first_content cs) same p.few c.choose_layout.ensures.size c.choose_layout.ensures.cause.later c.choose_layout.ensures.past
    (along lay (first_content cs) _ es c.deref.ensures.value fills c.write_store.ensures.moves)

pub returns-clause-content : goal.returns-clause-content
returns-clause-content g c s at =
    let size = (g.D.Disk.view c.args.disk.now).size in
    let v = g.D.Disk.view c.choose_layout.new.disk in
    let w = g.D.Disk.view c.write_store.new.disk in
    let lay = c.in_ok-layout.layout in
    let same : lay ≡ layout_of size = c.in_ok-layout.ensures.layout in
    let is : IsLayout lay = subst IsLayout (sym same) (is_layout size c.in_ok-layout.ensures.large) in
    let es = c.plan.new.slots.items in
    let old = c.in_ok-made.made.homes.values in
    let now = c.plan.new.homes.values in
    let cs = c.args.first.now in
    let keeps = c.in_ok-made.ensures.keeps in
    let p : Planned lay (get old) (get now) (marked c.plan.new.marks) es cs = c.plan.ensures.planned lay keeps.free keeps.index in
    let none = c.in_ok-made.ensures.homes in
    let fills = plan_fills lay is old none (get now) (marked c.plan.new.marks) es cs p in
    let moves = along lay (first_content cs) _ es c.deref.ensures.value fills c.write_store.ensures.moves in
    subst (λ (l : Layout). HoldsNow l w true (first_content cs)) same
    (made_content lay is old none (get now) (marked c.plan.new.marks) es cs p moves (ends v w lay _ es c.deref.ensures.value c.in_ok-write_store.ensures.done) s (subst (λ q. IsAt q s) (sym c.choose_layout.ensures.past) at))

pub returns-clause-keys : goal.returns-clause-keys
returns-clause-keys g c = first_keys c.in_ok-made.made.homes.values c.plan.new.homes.values c.args.first.now c.in_ok-made.ensures.homes c.plan.ensures.tallied.keys

pub returns-clause-vault : goal.returns-clause-vault
returns-clause-vault g c =
    let size = (g.D.Disk.view c.args.disk.now).size in
    let v = g.D.Disk.view c.choose_layout.new.disk in
    let w = g.D.Disk.view c.write_store.new.disk in
    let lay = c.in_ok-layout.layout in
    let same : lay ≡ layout_of size = c.in_ok-layout.ensures.layout in
    let is : IsLayout lay = subst IsLayout (sym same) (is_layout size c.in_ok-layout.ensures.large) in
    let es = c.plan.new.slots.items in
    let old = c.in_ok-made.made.homes.values in
    let now = c.plan.new.homes.values in
    let cs = c.args.first.now in
    let made = c.in_ok-made.ensures in
    let p : Planned lay (get old) (get now) (marked c.plan.new.marks) es cs = c.plan.ensures.planned lay made.keeps.free made.keeps.index in
    let fills = plan_fills lay is old made.homes (get now) (marked c.plan.new.marks) es cs p in
    let moves = along lay (first_content cs) _ es c.deref.ensures.value fills c.write_store.ensures.moves in
    let within : lay.size ≤ v.size = let cut = ap (λ (l : Layout). l.size) same in omega (arith, cut, c.choose_layout.ensures.size) in
    let few : lay.size < 2 ^ 32 = let cut = ap (λ (l : Layout). l.size) same in omega (arith, cut) in
    let start = opened_vault {x = v} {good = false} lay is (ap (λ (l : Layout). l.most) same) within few made.keeps made.slots made.room (λ e. absurd (true≢false (sym e))) in
    let later = c.plan.new.marks in
    let given : Given later c.give_back.new.marks es = subst (Given later c.give_back.new.marks) c.deref-2.ensures.value (record { marks = c.give_back.ensures.marks; count = c.give_back.ensures.count; size = c.give_back.ensures.size }) in
    subst (λ (l : Layout). IsVault l w now c.give_back.new.marks c.clear.new.self.items (vec_capacity c.clear.new.self) true) same
    (subst (λ n. IsVault lay w now c.give_back.new.marks c.clear.new.self.items n true) (sym (c.clear.ensures.capacity ∙ c.plan.ensures.capacity))
    (put_vault start p c.plan.ensures.tallied (c.plan.ensures.free lay made.keeps.free) given c.requires.rising c.requires.objects moves c.clear.ensures.items
    (λ ok. made_tells lay is old made.homes (get now) (marked later) es cs p moves (ends v w lay _ es c.deref.ensures.value c.in_ok-write_store.ensures.done))))
