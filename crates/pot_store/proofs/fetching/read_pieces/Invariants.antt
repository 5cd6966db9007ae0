use Rattle.std.proofs.Common.{◌≡◌, ◌≤◌, ◌*◌, vec_len, vec_capacity}
use Rattle.pot_object.specs.Pieces.{pieces_of}
use Rattle.pot_shared.specs.Ready.{AreReady}
use Rattle.pot_shared.specs.Blinds.{Blinds}
use Rattle.pot_store.proofs.PieceLemmas.{FileSofar}
use Rattle.pot_store.proofs.fetching.read_pieces.Given as goal

abbrev pub invariant-loop-piece : goal.invariant-loop-piece
invariant-loop-piece g l =
    AreReady l.caller.vault.now.rack l.caller.vault.now.groups l.passes.groups
    × (l.passes.index ≡ l.fn.passes.index)
    × FileSofar l.caller.job l.kept l.piece l.bytes.items l.fn.passes.groups l.passes.groups
    × (pieces_of l.kept.length * 864 ≤ vec_capacity l.bytes) × (vec_len l.bytes ≡ l.piece * 864)
    × Blinds l.caller.job (128 * l.piece) l.fn.pads l.pads l.fn.passes.groups l.passes.groups
