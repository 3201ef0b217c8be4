use Rattle.std.proofs.Common.{inl, inr}
use Rattle.s38_space_map.specs.declared.forcing.Forcing.TheVariants as forcings
use Rattle.s38_laws_images.proofs.readable.FoundLaws.{forced_parts}
use Rattle.s38_laws_images.specs.readable.Readable.{IsAgain}
use Rattle.s38_laws_images.proofs.readable.forced.+forced_are_readable.Goals as goal

pub returns-in-len1-up : goal.returns-in-len1-up
returns-in-len1-up t c = λ n o is found.
    elim (forced_parts n c.args.all.now forcings.Ceiling c.in-len1-up.len_at_least is) as (λ _. IsAgain o) [
      | inl speaks ↦ c.one_is_readable.ensures n o speaks found
      | inr more ↦ c.forced_are_readable.ensures n o more found
    ]
