use Rattle.std.proofs.Common.{All, ap, refl, subst, sym, ◌∙◌}
use Rattle.s38_image_writer.specs.Parts.{CanSettle}
use Rattle.s38_laws_images.specs.openings.Opening.{IsNumbered}
use Rattle.s38_laws_images.specs.readable.Readable.{IsAgain, IsFit}
use Rattle.s38_rules.specs.store.Storable.{IsStorable}
use Rattle.s38_flush.specs.Stepping.{HaveHeaders}
use Rattle.s38_top.specs.Runs.{all_durable_of}
use Rattle.s38_top.specs.declared.outcome.Whole.{Whole}
use Rattle.s38_top.proofs.AgainLaws.{kept_images}
use Rattle.s38_top.proofs.SafeLaws.{kept_at}
use Rattle.s38_top.proofs.StoreLaws.{kept_end, leaves_at}
use Rattle.s38_top.proofs.decide.of_whole.Goals as goal

pub checkpoint-disk-requires-clause-storable : goal.checkpoint-disk-requires-clause-storable
checkpoint-disk-requires-clause-storable g c = subst (λ (w : Whole). All IsStorable w.state.held.objects) (sym c.whole.view_is) c.requires.end.storable

pub checkpoint-disk-requires-clause-settles : goal.checkpoint-disk-requires-clause-settles
checkpoint-disk-requires-clause-settles g c = subst (λ (w : Whole). All (λ o. CanSettle w.state.units o.number.0 o.body) w.state.held.objects) (sym c.whole.view_is) c.requires.end.settles

pub checkpoint-disk-requires-clause-numbers : goal.checkpoint-disk-requires-clause-numbers
checkpoint-disk-requires-clause-numbers g c = subst (λ (w : Whole). All IsNumbered w.state.held.objects) (sym c.whole.view_is) c.requires.end.numbers

pub headers_can_be_read-requires-clause-storable : goal.headers_can_be_read-requires-clause-storable
headers_can_be_read-requires-clause-storable g c = subst (λ (w : Whole). All IsStorable w.state.held.objects) (sym c.whole.view_is) c.requires.end.storable

pub headers_can_be_read-requires-clause-settles : goal.headers_can_be_read-requires-clause-settles
headers_can_be_read-requires-clause-settles g c = subst (λ (w : Whole). All (λ o. CanSettle w.state.units o.number.0 o.body) w.state.held.objects) (sym c.whole.view_is) c.requires.end.settles

pub returns-in-Some-clause-headers : goal.returns-in-Some-clause-headers
returns-in-Some-clause-headers g c = subst (λ (w : Whole). HaveHeaders (all_durable_of w.state)) c.whole.view_is c.headers_can_be_read.ensures

pub returns-in-None-clause-headers : goal.returns-in-None-clause-headers
returns-in-None-clause-headers g c = subst (λ (w : Whole). HaveHeaders (all_durable_of w.state)) c.whole.view_is c.headers_can_be_read.ensures

pub all_are_readable-requires : goal.all_are_readable-requires
all_are_readable-requires g c = subst (λ (w : Whole). All IsFit w.state.held.objects) (sym c.whole.view_is) c.requires.fit

pub returns-in-Some-clause-images : goal.returns-in-Some-clause-images
returns-in-Some-clause-images g c =
    kept_images c.args.whole.state c.what_is_closed_can_be_read.ensures c.requires.fit c.requires.end.settles (subst (λ (w : Whole). All IsAgain w.state.held.objects) c.whole.view_is c.all_are_readable.ensures)

pub returns-in-None-clause-images : goal.returns-in-None-clause-images
returns-in-None-clause-images g c =
    kept_images c.args.whole.state c.what_is_closed_can_be_read.ensures c.requires.fit c.requires.end.settles (subst (λ (w : Whole). All IsAgain w.state.held.objects) c.whole.view_is c.all_are_readable.ensures)

pub returns-in-Some-clause-end : goal.returns-in-Some-clause-end
returns-in-Some-clause-end g c =
    let same = ap (λ (w : Whole). w.state) c.whole.view_is in
    (refl, (refl, (kept_end c.checkpoint-disk.result.end c.in-Some.end (sym c.in-Some.is ∙ c.run_end.ensures), leaves_at same c.args.vault (g.D.Disk.view c.checkpoint-disk.result.disk) c.checkpoint-disk.result.end c.in-Some.end (sym c.in-Some.is ∙ c.run_end.ensures) c.checkpoint-disk.ensures.kept c.checkpoint-disk.ensures.fits c.checkpoint-disk.ensures.full c.checkpoint-disk.ensures.cause)))

pub returns-in-Some-clause-during : goal.returns-in-Some-clause-during
returns-in-Some-clause-during g c = λ m holds.
    kept_at (ap (λ (w : Whole). w.state) c.whole.view_is) c.args.vault.disk (g.D.Disk.view c.checkpoint-disk.result.disk) m (c.checkpoint-disk.ensures.during m holds)

pub returns-in-None-clause-during : goal.returns-in-None-clause-during
returns-in-None-clause-during g c = λ m holds.
    kept_at (ap (λ (w : Whole). w.state) c.whole.view_is) c.args.vault.disk (g.D.Disk.view c.checkpoint-disk.result.disk) m (c.checkpoint-disk.ensures.during m holds)
