-- The memory of a batch.
use Rattle.std.specs.Global.{Global}
use Rattle.std.specs.Prelude.{◌≡◌, ◌<◌, ◌≤◌, ℕ, Vec, [], length, vec_capacity}
use Rattle.crossbeam_queue.specs.Passes.{view, IsPassOf, ruled_capacity}
use Rattle.pot_work.specs.declared.rooms.Rooms.{Rooms}
use Rattle.pot_work.specs.declared.rooms.Worker.{Worker}
use Rattle.pot_work.specs.declared.claims.Hand.{Hand}
use Rattle.pot_work.specs.Claims.{hand, all_parts}
use Rattle.pot_work.specs.Works.{AreFresh, Each}

-- an empty vector with room for so many elements
abbrev pub IsRoom : {X : Type 0} → ℕ → Vec X Global → Type 0
IsRoom count room = (room.items ≡ []) × (count ≤ vec_capacity room)

-- room for so many jobs on so many workers, and an empty line
pub record AreRooms {J : Type 0} (count workers : ℕ) (r : Rooms J) : Type 0 where
  pub line : ruled_capacity r.line ≡ count
  pub own : IsPassOf r.line r.claim
  pub first : view r.claim ≡ hand all_parts [] []
  pub finished : Each (IsRoom count) r.finished.items
  pub many : length r.finished.items ≡ workers
  pub workers_none : r.workers.items ≡ []
  pub workers_room : workers ≤ vec_capacity r.workers
  pub last_none : r.last.items ≡ []
  pub last_room : count ≤ vec_capacity r.last
  pub places : length r.places.items ≡ count
  pub back_none : r.back.items ≡ []
  pub back_room : count ≤ vec_capacity r.back

-- a worker with so many parts of a line of these jobs, which has finished none of them
pub record IsHired {J : Type 0} (done : J → Type 0) (v : Hand J) (w : Worker J) : Type 0 where
  pub some : 0 < v.parts
  pub is : view w.claim ≡ v
  pub none : w.finished.items ≡ []
  pub room : length v.jobs ≤ vec_capacity w.finished
  pub fresh : AreFresh done v.jobs
