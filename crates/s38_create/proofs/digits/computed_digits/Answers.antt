use Rattle.std.proofs.Common.{◌≡◌, ◌||◌, true, ◌∙◌, ap}
use Rattle.s38_base.specs.Attributes.{is_numeric}
use Rattle.s38_create.proofs.NumberLemmas.{first-numbers, second-source}
use Rattle.s38_decimal.specs.Need.{has_one, has_second}
use Rattle.s38_create.proofs.digits.computed_digits.Goals as goal
use Rattle.s38_create.proofs.digits.computed_digits.Goals.{in-Cmpnvb, in_default}

pub need-requires-clause-first : goal.need-requires-clause-first
need-requires-clause-first c =
    let computes : (has_one c.args.op || has_second c.args.op) ≡ true = c.requires.computes in
    ap is_numeric c.number_at-first.ensures ∙ (first-numbers c.args.rows.now c.args.op c.args.args.now computes c.requires.fits).0

pub need-requires-clause-second : goal.need-requires-clause-second
need-requires-clause-second c two =
    let computes : (has_one c.args.op || has_second c.args.op) ≡ true = c.requires.computes in
    ap is_numeric c.number_at-second.ensures ∙ (first-numbers c.args.rows.now c.args.op c.args.args.now computes c.requires.fits).1

pub need-requires-2-clause-first : goal.need-requires-2-clause-first
need-requires-2-clause-first c =
    let computes : (has_one c.args.op || has_second c.args.op) ≡ true = c.requires.computes in
    ap is_numeric c.number_at-second.ensures ∙ (first-numbers c.args.rows.now c.args.op c.args.args.now computes c.requires.fits).1

pub need-requires-2-clause-second : goal.need-requires-2-clause-second
need-requires-2-clause-second c two =
    ap is_numeric c.number_at.ensures ∙ second-source c.args.rows.now c.args.op c.args.args.now two (λ same. elim c.match-matches.branch [ in-Cmpnvb w ↦ (cc) | in_default w ↦ w.in_default.not-Cmpnvb same ]) c.requires.fits

pub need-requires-2-clause-receiver : goal.need-requires-2-clause-receiver
need-requires-2-clause-receiver c received =
    let computes : (has_one c.args.op || has_second c.args.op) ≡ true = c.requires.computes in
    ap is_numeric c.number_at-first.ensures ∙ (first-numbers c.args.rows.now c.args.op c.args.args.now computes c.requires.fits).0
