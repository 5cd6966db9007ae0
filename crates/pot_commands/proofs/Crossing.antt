-- The passes of a job, the vault, a line and its reply may cross to another thread.
use denote.RattleType.{RattleType}
use denote.Param.Send.{IsSend, IsSync, sendable, view_send, view_sync, recorded_send, struct_send, recorded_sync, struct_sync, shr_send}
use denote.Ref.{NamedLft}
use denote.Struct.Declared.{shape}
use denote.Struct.Struct.{Struct}
use Rattle.std.proofs.Crossing.{crosses}
use Rattle.pot_outside.specs.declared.archive.Archive.{Ghosts}
use Rattle.pot_bytes.specs.contracts.rack.Rack as rack
use Rattle.pot_index.specs.contracts.index.Index as index
use Rattle.pot_index.specs.contracts.entry.Logged as of_index
use Rattle.pot_script.specs.contracts.command.Command as command
use Rattle.pot_script.specs.contracts.reply.Reply as reply
use Rattle.pot_shared.specs.contracts.member.Member as member
use Rattle.pot_shared.specs.contracts.member.Logged as logged
use Rattle.pot_shared.specs.contracts.member.GroupOrigin as group_origin
use Rattle.pot_shared.specs.contracts.member.MemberKept.TheImpl as member_kept
use Rattle.pot_shared.specs.contracts.catalog.Catalog as catalog
use Rattle.pot_shared.specs.contracts.catalog.Catalog.TheInside as inside
use Rattle.pot_shared.specs.contracts.catalog.CatalogOrigin as catalog_origin
use Rattle.pot_shared.specs.contracts.catalog.CatalogKept.TheImpl as catalog_kept
use Rattle.pot_shared.specs.contracts.connection.Connection as connection
use Rattle.pot_shared.specs.contracts.vault.Passes as all_passes
use Rattle.pot_shared.specs.contracts.vault.Passes.TheInside as passes_inside
use Rattle.pot_shared.specs.contracts.vault.Vault as vault
use Rattle.pot_shared.specs.contracts.vault.Vault.TheInside as vault_inside
use Rattle.pot_commands.specs.contracts.beginning.Task as task
use Rattle.pot_commands.specs.contracts.line_job.LineJob as line_job
use Rattle.pot_commands.specs.contracts.line_job.LineJob.TheInside as line_inside
use Rattle.pot_shared.proofs.Crossing.{send_member}
use Rattle.pot_rows.proofs.Passes.TheSendSync as send_row
use Rattle.pot_rows.proofs.Turns.TheSendSync as sync_row

send_index : IsSend index.the_row
send_index = search (sendable, crosses) depth 60 fits 200000

sync_rack : IsSync (Struct (shape rack.the_type))
sync_rack = search (sendable, crosses) depth 60 fits 200000

module _ (A : RattleType) (g : Ghosts A.Denot) (s : IsSend A) where
  send_catalog : IsSend (catalog.the_row A g)
  send_catalog =
      view_send (inside.the_row A g) _ _ _ _ (recorded_send (inside.the_field A g).row _ _ (inside.the_type A g).to_one (struct_send (shape (inside.the_type A g)) (
        send_index,
        (send_row.the_send (member.the_row A g) logged.the_row group_origin.the_row (member_kept.ghosts A g member_kept.no_dict) (send_member A g s), tt),
      )))

  send_passes : IsSend (all_passes.the_row A g)
  send_passes =
      view_send (passes_inside.the_row A g) _ _ _ _ (recorded_send (passes_inside.the_field A g).row _ _ (passes_inside.the_type A g).to_one (struct_send (shape (passes_inside.the_type A g)) (
        send_row.the_send (member.the_row A g) logged.the_row group_origin.the_row (member_kept.ghosts A g member_kept.no_dict) (send_member A g s),
        (send_row.the_send (catalog.the_row A g) of_index.the_row catalog_origin.the_row (catalog_kept.ghosts A g catalog_kept.no_dict) send_catalog, tt),
      )))

  sync_vault : IsSync (vault.the_row A g)
  sync_vault =
      view_sync (vault_inside.the_row A g) _ _ _ _ (recorded_sync (vault_inside.the_field A g).row _ _ (vault_inside.the_type A g).to_one (struct_sync (shape (vault_inside.the_type A g)) (
        sync_rack,
        (
          sync_row.the_sync (member.the_row A g) logged.the_row group_origin.the_row (member_kept.ghosts A g member_kept.no_dict) (send_member A g s),
          (sync_row.the_sync (catalog.the_row A g) of_index.the_row catalog_origin.the_row (catalog_kept.ghosts A g catalog_kept.no_dict) send_catalog, tt),
        ),
      )))

sync_command : IsSync command.the_row
sync_command = search (sendable, crosses) depth 60 fits 200000

send_reply : IsSend reply.the_row
send_reply = search (sendable, crosses) depth 60 fits 200000

send_task : IsSend (task.the_field).row
send_task = search (sendable, crosses) depth 60 fits 200000

-- the connection of a job
send_connection : (a : NamedLft) (A X : RattleType) (g : Ghosts A.Denot) → IsSend A → IsSync X → IsSend (connection.the_field a A X g).row
send_connection a A X g s x =
    struct_send (shape (connection.the_type a A X g)) (
      shr_send a.mir a.lft X x,
      (
        search (sendable, crosses) depth 20,
        (
          shr_send a.mir a.lft (vault.the_row A g) (sync_vault A g s),
          (send_passes A g s, (search (sendable, crosses) depth 20, tt)),
        ),
      ),
    )

-- a job of a line, where archives may cross and the handle may be shared
pub send_line : (a : NamedLft) (A X : RattleType) (g : Ghosts A.Denot) → IsSend A → IsSync X → IsSend (line_job.the_row a A X g)
send_line a A X g s x =
    view_send (line_inside.the_row a A X g) _ _ _ _ (recorded_send (line_inside.the_field a A X g).row _ _ (line_inside.the_type a A X g).to_one (struct_send (shape (line_inside.the_type a A X g)) (
      send_connection a A X g s x,
      (
        search (sendable, crosses) depth 20,
        (
          search (sendable, crosses) depth 20,
          (
            shr_send a.mir a.lft command.the_row sync_command,
            (send_task, (search (sendable, crosses, send_reply) depth 20, tt)),
          ),
        ),
      ),
    )))
