use Rattle.std.proofs.Common.{true, refl, ◌∙◌}
use Rattle.pot_outside.specs.Accounts.{Content, transition_by}
use Rattle.pot_outside.specs.Desks.{Images}
use Rattle.pot_outside.specs.Rooms.{RoomState}
use Rattle.pot_doubles.specs.declared.desk.MemDesk.{MemDesk}
use Rattle.pot_doubles.specs.declared.room.MemRoom.{MemRoom}
use Rattle.pot_doubles.specs.Desks.{desk_calls, image_of, images_of}
use Rattle.pot_doubles.specs.Rooms.{failures_of, is_out, lent_of, means_in, room_calls}
use Rattle.pot_doubles.specs.Streams.{left_of, written_to}
use Rattle.pot_session.proofs.GenerateLemmas.{image_made, is_generated, meant_empty}
use Rattle.pot_session.proofs.generating.run_in_memory.Goals as goal

-- what a desk and a room in memory mean
abbrev content : MemDesk → Content Images
content d = record { held = images_of d; faults = (desk_calls d).faults }

abbrev lending : MemRoom → RoomState
lending r = record {
  out = is_out r;
  means = means_in r;
  lent = lent_of r;
  faults = (room_calls r).faults;
  failures = failures_of r;
}

pub returns : goal.returns
returns g c =
    is_generated c.args.number c.generator_rack.result c.generator_seed-seed.result (left_of c.new-source.result) (left_of c.hold-status.new.source) (written_to c.new-sink.result)
    (written_to c.hold-status.new.sink) (content c.make_image.new.desk) (content c.hold-status.new.desk) (lending c.new-room.result) (lending c.hold-status.new.room) c.hold-status.result
    c.generator_rack.ensures.value c.generator_seed-seed.ensures (c.new-source.ensures.left ∙ c.in_ok-script.ensures.text) c.new-sink.ensures.written
    (image_made c.generator_rack.result (transition_by true (image_of c.new-desk.result) (image_of c.make_image.new.desk)) c.make_image.result c.if-is_err.ensures.negation (c.make_image.ensures.told refl))
    (λ n. meant_empty _ n c.new-4.ensures.items (c.new-room.ensures.means n)) (c.are_sound.ensures c.if-not-are_sound.false) c.new-room.ensures.failures c.hold-status.ensures.holds
