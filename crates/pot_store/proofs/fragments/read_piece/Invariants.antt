use Rattle.std.proofs.Common.{◌≡◌, ◌*◌, vec_len}
use Rattle.pot_shared.specs.Ready.{AreReady}
use Rattle.pot_shared.specs.Blinds.{Blinds}
use Rattle.pot_store.proofs.PieceLemmas.{PieceSofar}
use Rattle.pot_store.proofs.fragments.read_piece.Given as goal

abbrev pub invariant-loop-fragment : goal.invariant-loop-fragment
invariant-loop-fragment g l =
    AreReady l.caller.vault.now.rack l.caller.vault.now.groups l.passes.groups
    × (l.passes.index ≡ l.fn.passes.index)
    × PieceSofar l.caller.job l.kept l.piece l.fragment l.rooms.fragments.items l.fn.passes.groups l.passes.groups
    × (vec_len l.rooms.fragments ≡ l.fragment * 928)
    × Blinds l.caller.job (16 * l.fragment) l.fn.pads l.pads l.fn.passes.groups l.passes.groups
