-- A closed example: the first session of a small rack, in which one block was put.
use Rattle.std.specs.Prelude.{◌≡◌, ℕ, true, List, [], ◌∷◌, Some, slice_get}
use Rattle.pot_bytes.specs.Digests.{digest_of}
use Rattle.pot_bytes.specs.Lists.{IsBlock}
use Rattle.pot_bytes.specs.Sums.{xor, zero_block}
use Rattle.pot_machine.specs.declared.entry.Entry.{Entry}
use Rattle.pot_machine.specs.declared.entry.Entry.TheVariants.{Put}
use Rattle.pot_session.specs.Desks.{begun}
use Rattle.pot_session.specs.Making.{empty_contents}
use Rattle.pot_world.specs.Group.{WorldGroup}
use Rattle.pot_theorem.specs.Hard.{HoldsInWorld}
use Rattle.run_examples.specs.Quiet.{small}
use Rattle.pot_theorem.specs.Sessions.{AreInARow, ClosedSession}

-- job 1 put the block at the first place, and its parity block with it
abbrev pub put_of : List ℕ → Entry
put_of block = Put 1 0 0 (digest_of block) (digest_of (xor zero_block block)) true

-- There is a session that began with the image of a new archive, logged this put and meets all that
-- is asked. So the theorem holds of it: the codeword has that very block at its place. And by the
-- frame whatever archive 0 holds there has the block's digest.
abbrev pub PutSession : Type 0
PutSession =
    (block : List ℕ) → IsBlock block
    → (c : ClosedSession) × (c.first ≡ begun (empty_contents small))
    × (c.last.group_logs ≡ (put_of block ∷ []) ∷ []) × AreInARow c []
    × (holds : HoldsInWorld c [])
    × ((h : WorldGroup) → slice_get holds.world.site.groups 0 ≡ Some h → h.written 0 0 ≡ block)
    × ((b : List ℕ) → (c.room.after.means 0).held 0 ≡ Some b → digest_of b ≡ digest_of block)
