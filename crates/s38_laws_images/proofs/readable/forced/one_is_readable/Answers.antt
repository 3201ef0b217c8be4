use Rattle.std.proofs.Common.{subst, true, ◌≡◌}
use Rattle.s38_space_map.specs.Forcings.{forced_as}
use Rattle.s38_space_map.specs.declared.forcing.Forcing.{Forcing}
use Rattle.s38_laws_objects.specs.Outline.{speaks_of}
use Rattle.s38_laws_images.proofs.readable.FoundLaws.{found_same}
use Rattle.s38_laws_images.proofs.readable.forced.one_is_readable.Goals as goal

pub returns-in-Header : goal.returns-in-Header
returns-in-Header c = λ n o speaks found. c.number_is_readable.ensures o
    (found_same c.args.objects.now c.in-Header.number.0 n o (subst (λ (one : Forcing). speaks_of n (forced_as one) ≡ true) c.in-Header.is speaks) found)

pub returns-in-Whole : goal.returns-in-Whole
returns-in-Whole c = λ n o speaks found. c.number_is_readable-in-Whole.ensures o
    (found_same c.args.objects.now c.in-Whole.number.0 n o (subst (λ (one : Forcing). speaks_of n (forced_as one) ≡ true) c.in-Whole.is speaks) found)

pub returns-in-Removed : goal.returns-in-Removed
returns-in-Removed c = λ n o speaks found. c.number_is_readable-in-Removed.ensures o
    (found_same c.args.objects.now c.in-Removed.number.0 n o (subst (λ (one : Forcing). speaks_of n (forced_as one) ≡ true) c.in-Removed.is speaks) found)
