use Rattle.s38_laws_confinement.proofs.PlainLaws.{effects_plain, ends_plain, starts_plain}
use Rattle.s38_laws_confinement.proofs.laws.effects_are_plain.Goals as goal

-- src/laws.rt:1:1
pub returns : goal.returns
returns c = record { plain = effects_plain; starts = starts_plain; ends = ends_plain }
