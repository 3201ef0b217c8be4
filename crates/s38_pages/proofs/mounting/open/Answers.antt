use Rattle.std.proofs.Common.{◌≡◌, ◌≤◌, ◌<◌, ◌^◌, ap, arith, subst, sym, true}
use Rattle.std.specs.Vec.{vec_capacity}
use Rattle.s38_disk.specs.Blocks.{after_calls}
use Rattle.s38_disk.specs.Disk.{IsAt}
use Rattle.s38_disk.proofs.Runs.{now_at}
use Rattle.s38_vault.specs.Content.{Content}
use Rattle.s38_redo_log.specs.declared.layout.Layout.{Layout}
use Rattle.s38_redo_log.specs.Store.{IsLayout, RecoversTo}
use Rattle.s38_pages.specs.Mounts.{IsIndexFault, IsMounted, IsReady, layout_of}
use Rattle.s38_pages.specs.Vaults.{HoldsNow, IsVault}
use Rattle.s38_pages.proofs.Finishing.{at_ok, each_ok, index_refused, is_layout, large_sized, map_err, only_read, opened_content, opened_tells, opened_vault}
use Rattle.s38_pages.proofs.mounting.open.Goals as goal

pub returns-in_err-layout-clause-moves : goal.returns-in_err-layout-clause-moves
returns-in_err-layout-clause-moves g c = only_read 2290 (IsMounted (layout_of (g.D.Disk.view c.args.disk.now).size)) c.locate.ensures.size c.locate.ensures.cause.later c.locate.ensures.past

pub returns-clause-vault : goal.returns-clause-vault
returns-clause-vault g c =
    let size = (g.D.Disk.view c.args.disk.now).size in
    let x = g.D.Disk.view c.index_homes.new.disk in
    let lay = c.in_ok-layout.layout in
    let same : lay ≡ layout_of size = c.in_ok-layout.ensures.layout in
    let is : IsLayout lay = subst IsLayout (sym same) (is_layout size c.in_ok-layout.ensures.large) in
    let r = c.index_homes.result in
    let m = c.make_ready.ensures.moves in
    each_ok _ r (λ opened e.
    let homes = opened.homes.values in
    let tells = opened_tells x lay is m c.index_homes.ensures.past homes (λ s at. c.in_ok-layout.ensures.label s (subst (λ p. IsAt p s) c.locate.ensures.past at)) c.in_ok-make_ready.ensures.done (at_ok _ r opened e c.index_homes.ensures.scanned) in
    let within : lay.size ≤ x.size = let cut = ap (λ (l : Layout). l.size) same in omega (arith, cut, c.index_homes.ensures.size, m.size, c.locate.ensures.size) in
    let few : lay.size < 2 ^ 32 = let cut = ap (λ (l : Layout). l.size) same in omega (arith, cut) in
    subst (λ (l : Layout). IsVault l x homes opened.marks opened.slots.items (vec_capacity opened.slots) true) same
    (opened_vault lay is (ap (λ (l : Layout). l.most) same) within few (at_ok _ r opened e c.index_homes.ensures.keeps) (at_ok _ r opened e c.index_homes.ensures.slots) (at_ok _ r opened e c.index_homes.ensures.room) (λ _. tells)))

pub returns-clause-content : goal.returns-clause-content
returns-clause-content g c =
    let size = (g.D.Disk.view c.args.disk.now).size in
    let x = g.D.Disk.view c.index_homes.new.disk in
    let lay = c.in_ok-layout.layout in
    let same : lay ≡ layout_of size = c.in_ok-layout.ensures.layout in
    let is : IsLayout lay = subst IsLayout (sym same) (is_layout size c.in_ok-layout.ensures.large) in
    let r = c.index_homes.result in
    each_ok _ r (λ opened e s at.
    subst (λ (l : Layout). (m : Content) × (RecoversTo l s.now m × HoldsNow l x true m)) same
    (opened_content x lay is c.make_ready.ensures.moves c.index_homes.ensures.past opened.homes.values (λ t at_t. c.in_ok-layout.ensures.label t (subst (λ p. IsAt p t) c.locate.ensures.past at_t)) c.in_ok-make_ready.ensures.done
    (at_ok _ r opened e c.index_homes.ensures.scanned) s (subst (λ p. IsAt p s) (sym c.locate.ensures.past) at)))

pub returns-clause-refused : goal.returns-clause-refused
returns-clause-refused g c =
    let size = (g.D.Disk.view c.args.disk.now).size in
    let lay = c.in_ok-layout.layout in
    let same : lay ≡ layout_of size = c.in_ok-layout.ensures.layout in
    let m = c.make_ready.ensures.moves in
    map_err c.index_homes.result c.index_homes.ensures.refused (λ fault p s is.
    let here = subst (λ q. IsAt q s) (sym c.locate.ensures.past) is in
    let at = now_at m s here in
    let t = after_calls s m.calls in
    index_refused size s t fault c.in_ok-layout.ensures.large (c.in_ok-layout.ensures.label s is) (subst (λ (l : Layout). IsReady l s t) same (c.in_ok-make_ready.ensures.done s t here at))
    (subst (λ (l : Layout). IsIndexFault l t.now fault) same (p t at)))

pub returns-clause-sized : goal.returns-clause-sized
returns-clause-sized g c = map_err c.index_homes.result c.index_homes.ensures.other (λ fault other. large_sized (g.D.Disk.view c.args.disk.now).size fault c.in_ok-layout.ensures.large other)
