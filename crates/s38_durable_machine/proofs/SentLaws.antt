-- A machine over a vault may go to another thread if its vault may: its fields may, one by one.
use denote.RattleType.{RattleType}
use denote.Param.Send.{IsSend, view_send, recorded_send, struct_send, sendable}
use denote.Struct.Declared.{shape}
use Rattle.std.proofs.alloc.Global.TheSendSync as heap
use Rattle.s38_machine.proofs.SentLaws.{machine_send, snapshot_send}
use Rattle.s38_durable_machine.specs.contracts.machine.StoredMachine.{the_row}
use Rattle.s38_durable_machine.specs.contracts.machine.StoredMachine.TheInside as inside

fields_send : (V : RattleType) (gv : _) → IsSend V → IsSend (inside.the_row V gv)
fields_send V gv v =
    recorded_send (inside.the_field V gv).row _ _ (inside.the_type V gv).to_one
    (struct_send (shape (inside.the_type V gv)) (heap.the_field_send, (machine_send, (v, (search sendable, (snapshot_send V, tt))))))

pub stored_send : (V : RattleType) (gv : _) → IsSend V → IsSend (the_row V gv)
stored_send V gv v = view_send (inside.the_row V gv) _ _ _ _ (fields_send V gv v)
