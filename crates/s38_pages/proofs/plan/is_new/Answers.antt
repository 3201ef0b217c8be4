use Rattle.std.proofs.Common.{sym, ◌∙◌}
use Rattle.s38_pages.proofs.Tallies.{new_by_home}
use Rattle.s38_pages.proofs.plan.is_new.Goals as goal

pub returns-then-is_some : goal.returns-then-is_some
returns-then-is_some c = new_by_home c.args.homes.now.values c.args.change.now c.contains_key.result (sym c.is_some.ensures ∙ c.if-is_some.true) c.contains_key.ensures
