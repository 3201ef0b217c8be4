-- A machine over the store of a disk may go to another thread if the disk may.
use denote.RattleType.{RattleType}
use denote.Builtin.{u32}
use denote.Param.Send.{IsSend, plain_send, view_send, recorded_send, struct_send}
use denote.Struct.Declared.{shape}
use Rattle.std.proofs.Crossing.{Vec-send}
use Rattle.s38_redo_log.proofs.layout.Layout.TheSendSync as layout
use Rattle.s38_redo_log.proofs.layout.Slot.TheSendSync as slot
use Rattle.s38_vault.proofs.keyed.Keyed.TheSendSync as keyed
use Rattle.s38_pages.proofs.marks.Marks.TheSendSync as marks
use Rattle.s38_machine.proofs.SentLaws.{snapshot_send}
use Rattle.s38_pages.specs.contracts.page_vault.PageVault as Paged
use Rattle.s38_pages.specs.contracts.page_vault.PageVault.TheInside as paged
use Rattle.s38_pages.specs.contracts.watched.WatchedVault as Watched
use Rattle.s38_pages.specs.contracts.watched.WatchedVault.TheInside as watched
use Rattle.s38_pages.specs.contracts.watched.WatchedVaultVault.TheImpl.{ghosts}
use Rattle.s38_durable_machine.specs.contracts.machine.StoredMachine as Stored
use Rattle.s38_durable_machine.proofs.SentLaws.{stored_send}

paged_send : (D : RattleType) (gd : _) → IsSend D → IsSend (Paged.the_row D gd)
paged_send D gd d = view_send (paged.the_row D gd) _ _ _ _
    (recorded_send (paged.the_field D gd).row _ _ (paged.the_type D gd).to_one
    (struct_send (shape (paged.the_type D gd)) (d, (layout.the_field_send, (keyed.the_send u32 (plain_send _ _ _ _ _), (marks.the_send, (Vec-send _ slot.the_send, (plain_send _ _ _ _ _, (plain_send _ _ _ _ _, (snapshot_send D, tt))))))))))

watched_send : (D : RattleType) (gd : _) → IsSend D → IsSend (Watched.the_row D gd)
watched_send D gd d = view_send (watched.the_row D gd) _ _ _ _
    (recorded_send (watched.the_field D gd).row _ _ (watched.the_type D gd).to_one
    (struct_send (shape (watched.the_type D gd)) (paged_send D gd d, (snapshot_send (Paged.the_row D gd), tt))))

pub over_send : (D : RattleType) (gd : _) (dict : _) → IsSend D → IsSend (Stored.the_row (Watched.the_row D gd) (ghosts D gd dict))
over_send D gd dict d = stored_send (Watched.the_row D gd) (ghosts D gd dict) (watched_send D gd d)
