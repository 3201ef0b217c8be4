use denote.Param.Send.{sendable}
use Rattle.s38_durable_machine.proofs.SentLaws.{stored_send}
use Rattle.s38_durable_machine.proofs.machine_may_be_sent.Goals as goal

pub sends-requires-send-T : goal.sends-requires-send-T
sends-requires-send-T g c κs within = let s = stored_send _ g.V.Vault c.type_bounds.send-V in search sendable depth 8
