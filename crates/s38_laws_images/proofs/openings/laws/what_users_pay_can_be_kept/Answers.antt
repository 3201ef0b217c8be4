use Rattle.s38_laws_images.proofs.openings.ChargeLaws.{can_be_kept}
use Rattle.s38_laws_images.proofs.openings.laws.what_users_pay_can_be_kept.Goals as goal

pub returns : goal.returns
returns c = can_be_kept
