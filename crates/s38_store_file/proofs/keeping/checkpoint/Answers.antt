use Rattle.std.proofs.Common.{◌≡◌, ℕ, ◌∙◌, ap, subst, sym}
use Rattle.s38_base.specs.Faults.{Rose}
use Rattle.s38_checkpoint.specs.Closing.{closing}
use Rattle.s38_pages.specs.Index.{home_count}
use Rattle.s38_pages.specs.Mounts.{layout_of}
use Rattle.s38_pages.specs.Vaults.{PageStore}
use Rattle.s38_disk.specs.Disk.{DiskView}
use Rattle.s38_checkpoint.specs.Ensuring.{EachFits, IsFullAt}
use Rattle.s38_page_diff.specs.declared.fault.FlushFault.TheVariants.{Full, NoMemory}
use Rattle.s38_store_file.proofs.CrashLaws.{goes_by}
use Rattle.s38_store_file.proofs.KeepLaws.{err_on, kept_of, of_fault}
use Rattle.s38_store_file.proofs.WatchLaws.{caused, close_during, given_back, held_now, held_then, now_is, seen_from}
use Rattle.s38_store_file.specs.Crashes.{GoesOn, IsBetween}
use Rattle.s38_store_file.proofs.keeping.checkpoint.Goals as goal

pub returns-clause-kept : goal.returns-clause-kept
returns-clause-kept g c =
    let begun = c.of-watched.ensures in
    let shape = c.close-end.ensures.shape in
    kept_of c.close-end.result c.close-end.ensures.holds (λ holds m held t is.
    c.release-disk.ensures.stands _ (held_now begun shape c.end-vault.ensures.vault c.end-vault.ensures.watched _ (holds m (held_then begun shape c.end-vault.ensures.vault c.end-vault.ensures.watched m held))) t is)

pub returns-clause-fits : goal.returns-clause-fits
returns-clause-fits g c =
    let begun = c.of-watched.ensures in
    let shape = c.close-end.ensures.shape in
    let vault = c.end-vault.ensures.vault in
    let watched = c.end-vault.ensures.watched in
    let placed = sym (seen_from begun shape vault watched).layout ∙ c.release-disk.ensures.layout in
    let parts = ap (λ (v : PageStore). home_count v.layout) (now_is begun shape vault watched) ∙ ap home_count placed in
    kept_of c.close-end.result c.close-end.ensures.fits (λ fits m held.
    subst (λ (k : ℕ). EachFits k m (closing c.args.units.now c.args.objects.now) c.args.objects.now) parts (fits m (held_then begun shape vault watched m held)))

pub returns-clause-full : goal.returns-clause-full
returns-clause-full g c needed free is m held t at =
    let begun = c.of-watched.ensures in
    let shape = c.close-end.ensures.shape in
    let vault = c.end-vault.ensures.vault in
    let watched = c.end-vault.ensures.watched in
    let placed = sym (seen_from begun shape vault watched).layout ∙ c.release-disk.ensures.layout in
    let parts = ap (λ (v : PageStore). home_count v.layout) (now_is begun shape vault watched) ∙ ap home_count placed in
    let stopped = of_fault _ c.close-end.result (Full needed free) is c.close-end.ensures.stopped m (held_then begun shape vault watched m held) in
    let n = stopped.0 in
    record {
      content = n;
      stands = c.release-disk.ensures.stands n (held_now begun shape vault watched n stopped.1.0) t at;
      full = subst (λ (k : ℕ). IsFullAt k m (closing c.args.units.now c.args.objects.now) c.args.objects.now n needed free) parts stopped.1.1;
    }

pub returns-clause-stopped : goal.returns-clause-stopped
returns-clause-stopped g c is m held t at =
    let begun = c.of-watched.ensures in
    let shape = c.close-end.ensures.shape in
    let vault = c.end-vault.ensures.vault in
    let watched = c.end-vault.ensures.watched in
    let stopped = of_fault _ c.close-end.result NoMemory is c.close-end.ensures.stopped m (held_then begun shape vault watched m held) in
    record { content = stopped.0; stands = c.release-disk.ensures.stands stopped.0 (held_now begun shape vault watched stopped.0 stopped.1.0) t at; reached = stopped.1.1 }

pub returns-clause-during : goal.returns-clause-during
returns-clause-during g c m held =
    let placed = c.release-disk.ensures.layout ∙ ap (λ (x : DiskView). layout_of x.size) c.release-disk.ensures.disk in
    given_back (λ size. IsBetween size m (closing c.args.units.now c.args.objects.now) c.args.objects.now) _ _ c.release-disk.ensures.disk
    (close_during c.of-watched.ensures c.close-end.ensures.shape c.end-vault.ensures.vault c.end-vault.ensures.watched placed c.most-most.ensures.limits.0 c.close-end.ensures.during m held)

pub returns-clause-cause : goal.returns-clause-cause
returns-clause-cause g c =
    let begun = c.of-watched.ensures in
    let shape = c.close-end.ensures.shape in
    let seen = seen_from begun shape c.end-vault.ensures.vault c.end-vault.ensures.watched in
    err_on _ _ c.close-end.result c.close-end.ensures.cause.failed (λ fault rose failed.
    subst (λ n. Rose n (g.D.Disk.view c.release-disk.result).faults) seen.start (c.release-disk.ensures.cause (caused begun shape c.end-vault.ensures.vault c.end-vault.ensures.watched c.requires.faultless (rose failed))))

pub returns-clause-goes : goal.returns-clause-goes
returns-clause-goes g c =
    subst (λ (d : DiskView). GoesOn c.args.vault.disk d) (sym c.release-disk.ensures.disk)
    (goes_by (seen_from c.of-watched.ensures c.close-end.ensures.shape c.end-vault.ensures.vault c.end-vault.ensures.watched).moves)

pub returns-clause-placed : goal.returns-clause-placed
returns-clause-placed g c = sym (seen_from c.of-watched.ensures c.close-end.ensures.shape c.end-vault.ensures.vault c.end-vault.ensures.watched).layout ∙ c.release-disk.ensures.layout
