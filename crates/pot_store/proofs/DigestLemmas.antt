-- The block that was put in a slot has the slot's digest for ever.
use Rattle.std.proofs.Common.{◌≡◌, ◌<◌, ℕ, List, length, get_or, refl, sym, subst, inl, inr}
use Rattle.std.specs.Prelude.{Some}
use Rattle.pot_bytes.specs.declared.digest.Digest.{Digest}
use Rattle.pot_machine.specs.declared.entry.Entry.{Entry}
use Rattle.pot_machine.specs.Slot.{digest_in}
use Rattle.pot_machine.specs.Table.{Table, slot_at}
use Rattle.pot_machine.specs.Machine.{Replays}
use Rattle.pot_machine.specs.Rules.{IsTable}
use Rattle.pot_machine.specs.Logs.{Fills, IsKeptPut}
use Rattle.pot_machine.proofs.Filled.{put_digest}

kept_fills : (job s c : ℕ) (d : Digest) (e : Entry) → IsKeptPut job s c d e → Fills s c d e
kept_fills job s c d e (inl (p, is)) = subst (Fills s c d) (sym is) (refl, refl, refl)
kept_fills job s c d e (inr (p, q, is)) = subst (Fills s c d) (sym is) (refl, refl, refl)

-- after a put its slot has the digest of its block
pub put_stays : (t : Table) (log : List Entry) (u : Table) → IsTable t → Replays t log u → (job s c : ℕ) (d : Digest) (e : Entry) → IsKeptPut job s c d e
    → (k : ℕ) → k < length log → get_or log k e ≡ e → digest_in (slot_at u s c) ≡ Some d
put_stays t log u is replays job s c d e put k lt at = put_digest t log u s c d e is replays (k, lt, at) (kept_fills job s c d e put)
