use Rattle.std.proofs.Common.{◌+◌, ◌∙◌, ap, subst, sym}
use Rattle.s38_base.specs.Faults.{Rose}
use Rattle.s38_pages.specs.Vaults.{PageStore, page_view}
use Rattle.s38_store_file.proofs.CrashLaws.{goes_by}
use Rattle.s38_store_file.proofs.OpenLaws.{fault_of, forms_of, opening_of, was_failed}
use Rattle.s38_store_file.proofs.WatchLaws.{caused, given_back, held_now, held_then, now_is, restart_during, seen_from}
use Rattle.s38_space_map.specs.Extents.{AreRising}
use Rattle.s38_pages.specs.Index.{home_count}
use Rattle.s38_space_rules.specs.Following.{Fits}
use Rattle.s38_rules.specs.store.Room.{Room}
use Rattle.s38_store_file.proofs.RoomLaws.{fits_of}
use Rattle.s38_store_file.specs.Crashes.{IsPartlyCleaned}
use Rattle.s38_store_file.proofs.opening.restarted.Goals as goal

pub can_be_kept-requires : goal.can_be_kept-requires
can_be_kept-requires g c = opening_of c.in-Ok.restarted.objects c.in-Ok.restarted.extents.items c.in-Ok.ensures.read

pub returns-in-Err-clause-refused : goal.returns-in-Err-clause-refused
returns-in-Err-clause-refused g c m held =
    fault_of m c.in-Err.fault c.of_restart.result c.of_restart.ensures (c.in-Err.ensures.bad m (held_then c.of-watched.ensures c.in-Err.ensures.shape c.end.ensures.vault c.end.ensures.watched m held))

pub returns-in-Err-clause-crash : goal.returns-in-Err-clause-crash
returns-in-Err-clause-crash g c m held =
    given_back (λ size. IsPartlyCleaned size m) _ _ c.release.ensures.disk
    (restart_during c.of-watched.ensures c.in-Err.ensures.shape c.end.ensures.vault c.end.ensures.watched c.requires.layout c.in-Err.ensures.during m held)

pub returns-then-can_be_kept-clause-opened : goal.returns-then-can_be_kept-clause-opened
returns-then-can_be_kept-clause-opened g c m held =
    let then = held_then c.of-watched.ensures c.in-Ok.ensures.shape c.end-vault.ensures.vault c.end-vault.ensures.watched m held in
    record {
      parts = c.in-Ok.ensures.parts m then;
      objects = record { sound = c.in-Ok.ensures.sound m then; is = c.in-Ok.ensures.told m then };
      extents = ap (λ (r : Room). r.extents) c.new-room.ensures ∙ c.in-Ok.ensures.extents m then;
      holds = held_now c.of-watched.ensures c.in-Ok.ensures.shape c.end-vault.ensures.vault c.end-vault.ensures.watched _ (c.in-Ok.ensures.holds m then);
    }

pub returns-then-can_be_kept-clause-fits : goal.returns-then-can_be_kept-clause-fits
returns-then-can_be_kept-clause-fits g c =
    subst (λ (r : Room). Fits r.extents c.in-Ok.restarted.objects) (sym c.new-room.ensures) (fits_of c.in-Ok.restarted.objects c.in-Ok.restarted.extents.items c.in-Ok.ensures.read)

pub returns-then-can_be_kept-clause-rising : goal.returns-then-can_be_kept-clause-rising
returns-then-can_be_kept-clause-rising g c = subst (λ (r : Room). AreRising r.extents) (sym c.new-room.ensures) c.in-Ok.ensures.rising

pub returns-then-can_be_kept-clause-parts : goal.returns-then-can_be_kept-clause-parts
returns-then-can_be_kept-clause-parts g c =
    let seen = seen_from c.of-watched.ensures c.in-Ok.ensures.shape c.end-vault.ensures.vault c.end-vault.ensures.watched in
    ap (λ (r : Room). r.parts + 1) c.new-room.ensures ∙ c.requires.parts ∙ ap home_count (sym seen.layout)

pub returns-then-can_be_kept-clause-free : goal.returns-then-can_be_kept-clause-free
returns-then-can_be_kept-clause-free g c =
    let seen = seen_from c.of-watched.ensures c.in-Ok.ensures.shape c.end-vault.ensures.vault c.end-vault.ensures.watched in
    c.free-free.ensures.sum ∙ sym (ap (λ (r : Room). r.parts + 1) c.new-room.ensures ∙ c.requires.parts ∙ ap home_count (sym seen.layout))

pub returns-then-can_be_kept-clause-opening : goal.returns-then-can_be_kept-clause-opening
returns-then-can_be_kept-clause-opening g c = opening_of c.in-Ok.restarted.objects c.in-Ok.restarted.extents.items c.in-Ok.ensures.read

pub returns-then-can_be_kept-clause-forms : goal.returns-then-can_be_kept-clause-forms
returns-then-can_be_kept-clause-forms g c = forms_of c.in-Ok.restarted.objects c.in-Ok.restarted.extents.items c.in-Ok.ensures.read

pub returns-then-can_be_kept-clause-during : goal.returns-then-can_be_kept-clause-during
returns-then-can_be_kept-clause-during g c m held =
    restart_during c.of-watched.ensures c.in-Ok.ensures.shape c.end-vault.ensures.vault c.end-vault.ensures.watched c.requires.layout c.in-Ok.ensures.during m held

pub returns-then-can_be_kept-clause-start : goal.returns-then-can_be_kept-clause-start
returns-then-can_be_kept-clause-start g c = (seen_from c.of-watched.ensures c.in-Ok.ensures.shape c.end-vault.ensures.vault c.end-vault.ensures.watched).start

pub returns-then-can_be_kept-clause-faults : goal.returns-then-can_be_kept-clause-faults
returns-then-can_be_kept-clause-faults g c =
    let faults = λ (y : PageStore). (page_view y).faults in
    ap faults c.end-vault.ensures.vault ∙ c.in-Ok.ensures.count ∙ ap faults (now_is c.of-watched.ensures c.in-Ok.ensures.shape c.end-vault.ensures.vault c.end-vault.ensures.watched)

pub returns-in-Err-clause-cause : goal.returns-in-Err-clause-cause
returns-in-Err-clause-cause g c failed =
    let seen = seen_from c.of-watched.ensures c.in-Err.ensures.shape c.end.ensures.vault c.end.ensures.watched in
    let rose = c.in-Err.ensures.cause.failed (was_failed c.in-Err.fault (sym c.of_restart.ensures ∙ failed)) in
    subst (λ n. Rose n (g.D.Disk.view c.release.result).faults) seen.start
    (c.release.ensures.cause (caused c.of-watched.ensures c.in-Err.ensures.shape c.end.ensures.vault c.end.ensures.watched c.requires.faultless rose))

pub returns-else-can_be_kept-clause-crash : goal.returns-else-can_be_kept-clause-crash
returns-else-can_be_kept-clause-crash g c m held =
    given_back (λ size. IsPartlyCleaned size m) _ _ c.release-else-can_be_kept.ensures.disk
    (restart_during c.of-watched.ensures c.in-Ok.ensures.shape c.end-vault.ensures.vault c.end-vault.ensures.watched c.requires.layout c.in-Ok.ensures.during m held)

pub returns-then-can_be_kept-clause-goes : goal.returns-then-can_be_kept-clause-goes
returns-then-can_be_kept-clause-goes g c = goes_by (seen_from c.of-watched.ensures c.in-Ok.ensures.shape c.end-vault.ensures.vault c.end-vault.ensures.watched).moves

pub returns-then-can_be_kept-clause-placed : goal.returns-then-can_be_kept-clause-placed
returns-then-can_be_kept-clause-placed g c = (seen_from c.of-watched.ensures c.in-Ok.ensures.shape c.end-vault.ensures.vault c.end-vault.ensures.watched).layout
