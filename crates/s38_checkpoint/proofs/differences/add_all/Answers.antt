use Rattle.std.proofs.Common.{◌∙◌, ap, sym}
use Rattle.std.specs.FinMap.{contains_key}
use Rattle.s38_vault.specs.Directory.{Keys}
use Rattle.s38_checkpoint.specs.Closing.{closing}
use Rattle.s38_durable_state.specs.Represents.{parts_at}
use Rattle.s38_image.specs.PartPlaces.{ceiling_key}
use Rattle.s38_page_diff.proofs.reconcile.KeyLaws.{fine_moved}
use Rattle.s38_page_diff.proofs.reconcile.SoFarLaws.{so_far_moved, stays_keys, stays_on}
use Rattle.s38_checkpoint.proofs.PassLaws.{pieces_all}
use Rattle.s38_checkpoint.proofs.differences.add_all.Goals as goal

pub returns-clause-so_far : goal.returns-clause-so_far
returns-clause-so_far g c =
    let V = g.V.Vault in
    let old = c.args.vault.now in
    let now = c.add_objects.new.vault in
    let stays = c.add_objects.ensures.stays in
    let wants = parts_at (closing c.args.units.now c.args.objects.now) in
    let same = stays_keys old now stays in
    so_far_moved (V.view now).keys (V.view old).keys (V.holds now) (V.holds old) wants ceiling_key c.add_rest.new.into.items (sym same) (λ m. (stays.held m).0)
    (c.in_ok-add_rest.ensures.so_far c.args.units.now c.in_ok-done.ensures.last
    (so_far_moved (V.view old).keys (V.view now).keys (V.holds old) (V.holds now) wants c.in_ok-done.done c.add_objects.new.into.items same (λ m. (stays.held m).1) c.in_ok-done.ensures.so_far))

pub returns-clause-whole : goal.returns-clause-whole
returns-clause-whole g c = pieces_all c.args.units.now c.args.objects.now c.in_ok-done.done c.in_ok-done.ensures.low c.in_ok-done.ensures.last c.in_ok-done.ensures.whole

pub returns-clause-known : goal.returns-clause-known
returns-clause-known g c =
    let V = g.V.Vault in
    let same = stays_keys c.args.vault.now c.add_objects.new.vault c.add_objects.ensures.stays in
    λ key there. c.in_ok-add_rest.ensures.known (fine_moved (V.view c.args.vault.now).keys (V.view c.add_objects.new.vault).keys c.in_ok-done.done same c.in_ok-done.ensures.fine) key
    (ap (λ (ks : Keys). contains_key ks key) same ∙ there)

pub returns-clause-stays : goal.returns-clause-stays
returns-clause-stays g c = stays_on c.args.vault.now c.add_objects.new.vault c.add_rest.new.vault c.add_objects.ensures.stays c.add_rest.ensures.stays
