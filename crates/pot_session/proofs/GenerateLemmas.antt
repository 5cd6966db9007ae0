-- The session of a generated script.
use Rattle.std.proofs.lemmas.Bool.{cases_lt}
use Rattle.std.proofs.Common.{◌≡◌, ◌<◌, ◌+◌, ℕ, inl, inr, arith, true, false, List, [], Option, Some, None, ap, sym, subst, ◌∙◌}
use Rattle.std.specs.Prelude.{Result, Ok, Err}
use Rattle.std.specs.Result.{is_ok}
use Rattle.pot_bytes.specs.declared.rack.Rack.{Rack}
use Rattle.pot_outside.specs.Accounts.{Content, Transition, transition_by}
use Rattle.pot_outside.specs.Archives.{Meaning}
use Rattle.pot_outside.specs.Desks.{Images}
use Rattle.pot_outside.specs.Rooms.{RoomState}
use Rattle.pot_outside.specs.declared.archive.Shelf.{Shelf}
use Rattle.pot_outside.specs.declared.faults.Failed.{Failed}
use Rattle.pot_doubles.specs.declared.archive.LossyArchive.{LossyArchive}
use Rattle.pot_doubles.specs.Rooms.{archive_of, meaning_of}
use Rattle.pot_generator.specs.Generated.{generated}
use Rattle.pot_generator.specs.Runs.{rack_of_runs, seed_of}
use Rattle.pot_image.specs.Spelling.{image_bytes}
use Rattle.pot_script.specs.Scripts.{script_text}
use Rattle.pot_session.specs.declared.ending.status.Status.{Status}
use Rattle.pot_session.specs.declared.ending.status.Status.TheVariants as status
use Rattle.pot_session.specs.Generating.{AreSound, Generates, IsGenerated, Told, Starved, answer_of, is_answered}
use Rattle.pot_session.specs.declared.ending.stop.Stop.{Stop}
use Rattle.pot_session.specs.Making.{MakesDesk, empty_contents}
use Rattle.pot_session.specs.Runs.{Holds, seen_by}

-- a session over these objects is one of the number
pub is_generated : (number : ℕ) (rack : Rack) (seed input rest before bytes : List ℕ) (desk leaves : Content Images) (room lends : RoomState) (ended : Status)
    → rack ≡ rack_of_runs → seed ≡ seed_of number → input ≡ script_text (generated number) → before ≡ [] → desk.held.now ≡ Some (image_bytes (empty_contents rack))
    → ((n : ℕ) → room.means n ≡ meaning_of None) → AreSound lends.means → room.failures ≡ 0
    → Holds seed false (seen_by (transition_by true input rest) (transition_by true before bytes) (transition_by true desk leaves) (transition_by true room lends)) ended → IsGenerated number bytes ended
is_generated number rack seed input rest before bytes desk leaves room lends ended same_rack same_seed same_input none is_held empty are_sound none_failed session = record {
  rest = rest;
  desk = desk;
  leaves = leaves;
  room = room;
  lends = lends;
  begun = is_held ∙ ap (λ (r : Rack). Some (image_bytes (empty_contents r))) same_rack;
  empty = empty;
  unfailed = none_failed;
  sound = are_sound;
  session =
      subst (λ b. Holds (seed_of number) false (seen_by (transition_by true (script_text (generated number)) rest) (transition_by true b bytes) (transition_by true desk leaves) (transition_by true room lends)) ended) none
      (subst (λ i. Holds (seed_of number) false (seen_by (transition_by true i rest) (transition_by true before bytes) (transition_by true desk leaves) (transition_by true room lends)) ended) same_input
      (subst (λ s. Holds s false (seen_by (transition_by true input rest) (transition_by true before bytes) (transition_by true desk leaves) (transition_by true room lends)) ended) same_seed session));
}

-- a new archive was made
pub image_made : (rack : Rack) (desk : Transition (Option (List ℕ))) (r : Result (Unit {0}) Stop) → is_ok r ≡ true → MakesDesk rack desk r → desk.after ≡ Some (image_bytes (empty_contents rack))
image_made rack desk (Ok u) h made = made.1
image_made rack desk (Err e) h made = absurd (cc h)

-- a room without archives means an empty one by each number
pub meant_empty : (shelves : List (Shelf LossyArchive)) (n : ℕ) {m : Meaning} → shelves ≡ [] → m ≡ meaning_of (archive_of shelves n) → m ≡ meaning_of None
meant_empty shelves n none is = is ∙ ap (λ s. meaning_of (archive_of s n)) none

-- one archive more made no failing call
pub sound_more : (means : ℕ → Meaning) (number : ℕ) → ((q : ℕ) → q < number → (means q).faults ≡ 0)
    → (means number).faults ≡ 0 → (q : ℕ) → q < number + 1 → (means q).faults ≡ 0
sound_more means number before now q l = elim (cases_lt q number) [
  | inl less ↦ before q less
  | inr le ↦ subst (λ k. (means k).faults ≡ 0) (let e : number ≡ q = omega (arith, l, le) in e) now
]

-- THE STATUS

-- the statuses of `generate`
abbrev IsGenerateStatus : Status → Type 0
IsGenerateStatus status.Good = Unit {0}
IsGenerateStatus status.Refusals = Unit {0}
IsGenerateStatus status.SinkFault = Unit {0}
IsGenerateStatus status.NoMemory = Unit {0}
IsGenerateStatus _ = ⊥

answered_status : (ended : Status) → is_answered ended ≡ true → IsGenerateStatus ended
answered_status status.Good h = tt
answered_status status.Refusals h = tt
answered_status _ h = absurd (cc h)

wrote_status : (ended : Status) (wrote : Result (Unit {0}) Failed) → is_answered ended ≡ true → IsGenerateStatus (answer_of ended wrote)
wrote_status ended (Ok u) h = answered_status ended h
wrote_status ended (Err e) h = tt

module _ (number : ℕ) (sink : Transition (List ℕ)) (answer : Status) where
  generate_status : Generates number sink answer → IsGenerateStatus answer
  generate_status (Told bytes ended is answered wrote writes gives) = subst IsGenerateStatus (sym gives) (wrote_status ended wrote answered)
  generate_status (Starved is same) = subst IsGenerateStatus (sym is) tt

  -- it fails neither for the source, the room nor the desk
  pub generate_source : Generates number sink answer → answer ≡ status.SourceFault → ⊥
  generate_source h e = subst IsGenerateStatus e (generate_status h)

  pub generate_room : Generates number sink answer → answer ≡ status.RoomFault → ⊥
  generate_room h e = subst IsGenerateStatus e (generate_status h)

  pub generate_desk : Generates number sink answer → answer ≡ status.DeskFault → ⊥
  generate_desk h e = subst IsGenerateStatus e (generate_status h)
