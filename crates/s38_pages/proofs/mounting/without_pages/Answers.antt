use Rattle.std.proofs.Common.{ap, ◌∙◌, ℕ}
use Rattle.s38_vault.specs.Keyed.{KeyedMap}
use Rattle.s38_pages.proofs.Beginning.{keeps_first}
use Rattle.s38_pages.proofs.Keeping.{keeps_moved}
use Rattle.s38_pages.proofs.mounting.without_pages.Goals as goal

pub returns-clause-keeps : goal.returns-clause-keeps
returns-clause-keeps c =
    let lay = c.args.layout.now in
    keeps_moved lay _ _ _ _ lay.first (c.reserve.ensures.values ∙ ap (λ (k : KeyedMap ℕ). k.values) c.new-homes.ensures) c.in_ok-marks.ensures (keeps_first lay c.requires)
