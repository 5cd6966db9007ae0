-- A group, and the start of one, may cross to another thread.
use denote.RattleType.{RattleType}
use denote.Param.Send.{IsSend, sendable, view_send, recorded_send, struct_send}
use denote.Struct.Declared.{shape}
use Rattle.std.proofs.Crossing.{crosses, Box-send, Vec-send}
use Rattle.pot_outside.specs.declared.archive.Archive.{Ghosts}
use Rattle.pot_shared.specs.contracts.member.Member as member
use Rattle.pot_shared.specs.contracts.group_start.GroupStart as group_start
use Rattle.std.specs.contracts.snapshot.Snapshot as snapshot
use Rattle.pot_bytes.specs.contracts.block.Block as block
use Rattle.pot_outside.specs.contracts.archive.Shelf as shelf
use Rattle.pot_outside.proofs.archive.Shelf.TheSendSync as send_shelf
use Rattle.pot_outside.specs.contracts.archive.Marks as marks
use Rattle.pot_outside.proofs.archive.Marks.TheSendSync as send_marks
use Rattle.pot_machine.specs.contracts.entry.Entry as entry
use Rattle.pot_machine.proofs.entry.Entry.TheSendSync as send_entry
use Rattle.pot_machine.proofs.table.GroupTable.TheSendSync as send_table
use Rattle.pot_steps.specs.contracts.flight.Flight as flight
use Rattle.pot_steps.proofs.flight.Flight.TheSendSync as send_flight
use Rattle.pot_group.specs.contracts.known.Known as known
use Rattle.pot_group.proofs.known.Known.TheSendSync as send_known
use Rattle.pot_shelves.specs.contracts.archives.Archives as archives
use Rattle.pot_shelves.specs.contracts.archives.Archives.TheInside as archives_inside
use Rattle.pot_group.specs.contracts.tried.Try as attempt
use Rattle.pot_group.specs.contracts.tried.Tried as tried
use Rattle.pot_group.specs.contracts.tried.Tried.TheInside as tried_inside
use Rattle.pot_group.specs.contracts.group.Group as group
use Rattle.pot_group.specs.contracts.group.Group.TheInside as group_inside
use Rattle.pot_execution.specs.contracts.tracked_group.TrackedGroup as tracked_group
use Rattle.pot_execution.specs.contracts.tracked_group.TrackedGroup.TheInside as followed_inside

send_tried : IsSend tried.the_row
send_tried =
    view_send tried_inside.the_row _ _ _ _ (recorded_send tried_inside.the_field.row _ _ tried_inside.the_type.to_one (struct_send (shape tried_inside.the_type) (Vec-send (snapshot.the_row attempt.the_row) (search crosses depth 5), tt)))

module _ (A : RattleType) (g : Ghosts A.Denot) (s : IsSend A) where
  -- by field, since a snapshot has no mark of its own
  send_archives : IsSend (archives.the_row A g)
  send_archives =
      view_send (archives_inside.the_row A g) _ _ _ _ (recorded_send (archives_inside.the_field A g).row _ _ (archives_inside.the_type A g).to_one (struct_send (shape (archives_inside.the_type A g)) (
        Vec-send (shelf.the_row A) (send_shelf.the_send A s),
        (
          Vec-send marks.the_row send_marks.the_send,
          (Vec-send marks.the_row send_marks.the_send, (Vec-send (snapshot.the_row (shelf.the_row A)) (search crosses depth 5), tt)),
        ),
      )))

  send_group : IsSend (group.the_row A g)
  send_group =
      view_send (group_inside.the_row A g) _ _ _ _ (recorded_send (group_inside.the_field A g).row _ _ (group_inside.the_type A g).to_one (struct_send (shape (group_inside.the_type A g)) (
        search (sendable, crosses) depth 20,
        (
          send_table.the_send,
          (
            send_table.the_send,
            (
              Vec-send entry.the_row send_entry.the_send,
              (
                Vec-send flight.the_row send_flight.the_send,
                (
                  Vec-send (snapshot.the_row block.the_row) (search crosses depth 5),
                  (send_tried, (send_archives, (Box-send known.the_row send_known.the_send, tt))),
                ),
              ),
            ),
          ),
        ),
      )))

  send_followed : IsSend (tracked_group.the_row A g)
  send_followed =
      view_send (followed_inside.the_row A g) _ _ _ _ (recorded_send (followed_inside.the_field A g).row _ _ (followed_inside.the_type A g).to_one (struct_send (shape (followed_inside.the_type A g)) (send_group, tt)))

  pub send_member : IsSend (member.the_row A g)
  send_member = search (sendable, crosses, send_followed) depth 60 fits 200000

  pub send_start : IsSend (group_start.the_row A g)
  send_start =
      recorded_send (group_start.the_field A g).row _ _ (group_start.the_type A g).to_one (struct_send (shape (group_start.the_type A g)) (
        search (sendable, crosses) depth 20,
        (
          search (sendable, crosses, send_table.the_send) depth 60 fits 200000,
          (Vec-send (shelf.the_row A) (send_shelf.the_send A s), (Vec-send (member.the_row A g) send_member, tt)),
        ),
      ))
