use Rattle.s38_flush.proofs.FollowedLaws.{whole_has}
use Rattle.s38_flush.proofs.KeptLaws.{adds_at}
use Rattle.s38_flush.proofs.differing.add_whole.Goals as goal

pub returns-clause-adds : goal.returns-clause-adds
returns-clause-adds g c =
    let V = g.V.Vault in
    let old = c.args.vault.now in
    adds_at (V.view old).keys (V.holds old) c.args.object.now.number.0 _ c.args.into.now.items c.add_wanted.new.into.items c.in_ok-add_wanted.ensures.at

pub returns-clause-header : goal.returns-clause-header
returns-clause-header g c = whole_has c.args.units.now c.args.objects.now c.args.object.now c.requires.object c.whole_header-header.result (c.whole_header-header.ensures.value c.args.units.now _ c.requires.units) c.whole_header-header.ensures.len c.whole_header-header.ensures.fits

pub returns-in_err-parts-clause-header : goal.returns-in_err-parts-clause-header
returns-in_err-parts-clause-header g c = whole_has c.args.units.now c.args.objects.now c.args.object.now c.requires.object c.whole_header-header.result (c.whole_header-header.ensures.value c.args.units.now _ c.requires.units) c.whole_header-header.ensures.len c.whole_header-header.ensures.fits

pub returns-in_err-add_wanted-clause-header : goal.returns-in_err-add_wanted-clause-header
returns-in_err-add_wanted-clause-header g c = whole_has c.args.units.now c.args.objects.now c.args.object.now c.requires.object c.whole_header-header.result (c.whole_header-header.ensures.value c.args.units.now _ c.requires.units) c.whole_header-header.ensures.len c.whole_header-header.ensures.fits
