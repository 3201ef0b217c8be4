use Rattle.std.proofs.Common.{◌∙◌, ap, length, sym}
use Rattle.s38_space_map.proofs.ForcingLaws.{as_many}
use Rattle.s38_space_map.proofs.forcing.Forcings.len.Goals as goal

pub returns-clause-len : goal.returns-clause-len
returns-clause-len c = sym (as_many c.as_slice.result.now) ∙ ap length c.as_slice.ensures.value
