-- How many slots were seen as what.
use Rattle.std.proofs.Common.{◌≡◌, ◌≤◌, arith, inl, inr, ◌+◌, ℕ, zero, suc, List, refl, ap, sym, ◌∙◌, add-one}
use Rattle.pot_bytes.specs.Digests.{digest_bytes}
use Rattle.pot_bytes.specs.declared.digest.Digest.{Digest}
use Rattle.pot_machine.specs.Table.{Table}
use Rattle.pot_machine.specs.declared.slot.SlotState.TheVariants.{Live}
use Rattle.pot_looks.specs.Looks.{Counts, IsAsked, IsCompared, IsDamaged, IsHeldInFile, IsLooked, IsBlockMissing, IsOther, IsSeen, IsBlockSound, IsWanted, ArchiveSight, with_seen}
use Rattle.pot_looks.specs.declared.looking.Looked.{Looked}
use Rattle.pot_looks.specs.declared.looking.Seen.{Seen}
use Rattle.pot_looks.specs.declared.looking.Seen.TheVariants.{Unasked, Sound, Damaged, Missing}

hit : (P : ℕ → Type 0) (n k : ℕ) → Counts P n k → P n → Counts P (n + 1) (k + 1)
hit P n k h p = rw (add-one, add-one) (inl (p, h))

miss : (P : ℕ → Type 0) (n k : ℕ) → Counts P n k → ¬ P n → Counts P (n + 1) k
miss P n zero h not = rw (add-one) (not, h)
miss P n (suc k) h not = rw (add-one) (inr (not, h))

one_digest : (t : Table) (c a s : ℕ) (d e : Digest) → IsAsked t c a s d → IsAsked t c a s e → d ≡ e
one_digest t c a s d e h g = let same : Live d ≡ Live e = sym h.live ∙ g.live in cc

one_block : (bytes : List ℕ) (s : ℕ) (x y : List ℕ) → IsHeldInFile bytes s x → IsHeldInFile bytes s y → x ≡ y
one_block bytes s x y h g = h.rest ∙ sym g.rest

not_both : (bytes : List ℕ) (s : ℕ) (d e : Digest) (x y : List ℕ) → d ≡ e → IsBlockSound bytes s d x → ¬ IsOther bytes s e y
not_both bytes s d e x y same h g =
    g.digest (ap digest_bytes (one_block bytes s y x g.held h.held) ∙ h.digest ∙ ap (λ (z : Digest). z.bytes) same)

pub nothing_yet : (v : ArchiveSight) → IsLooked v 0 (record { compared = 0; damaged = 0; missing = 0 })
nothing_yet v = record { compared = refl; damaged = refl; missing = refl }

pub one_more : (v : ArchiveSight) (n : ℕ) (r : Looked) (seen : Seen) → IsLooked v n r → IsSeen v n seen → IsLooked v (n + 1) (with_seen r seen)
one_more v n r Unasked l not = record {
  compared = miss (IsWanted v) n r.compared l.compared not;
  damaged = miss (IsDamaged v) n r.damaged l.damaged (λ h. not (h.0, h.2));
  missing = miss (IsBlockMissing v) n r.missing l.missing (λ h. not h.0);
}
one_more v n r Sound l (d, asked, held) = record {
  compared = hit (IsWanted v) n r.compared l.compared (d, asked);
  damaged = miss (IsDamaged v) n r.damaged l.damaged
      (λ h. not_both v.bytes n d h.0 held.0 h.1 (one_digest v.table v.column v.archive n d h.0 asked h.2) held.1 h.3);
  missing = miss (IsBlockMissing v) n r.missing l.missing (λ h. h.1 held.0 held.1.held);
}
one_more v n r Damaged l (d, asked, held) = record {
  compared = hit (IsWanted v) n r.compared l.compared (d, asked);
  damaged = hit (IsDamaged v) n r.damaged l.damaged (d, held.0, asked, held.1);
  missing = miss (IsBlockMissing v) n r.missing l.missing (λ h. h.1 held.0 held.1.held);
}
one_more v n r Missing l (d, asked, none) = record {
  compared = hit (IsWanted v) n r.compared l.compared (d, asked);
  damaged = miss (IsDamaged v) n r.damaged l.damaged (λ h. none h.1 h.3.held);
  missing = hit (IsBlockMissing v) n r.missing l.missing ((d, asked), none);
}

pub seen_of : (v : ArchiveSight) (s : ℕ) (d : Digest) (seen : Seen) → IsAsked v.table v.column v.archive s d → IsCompared v.bytes s d seen → IsSeen v s seen
seen_of v s d Unasked asked it = absurd it
seen_of v s d Sound asked it = (d, asked, it)
seen_of v s d Damaged asked it = (d, asked, it)
seen_of v s d Missing asked it = (d, asked, it)

-- with a slot more no number grows by more than one
pub few : (r : Looked) (seen : Seen) → ((with_seen r seen).compared ≤ r.compared + 1) × ((with_seen r seen).damaged ≤ r.damaged + 1) × ((with_seen r seen).missing ≤ r.missing + 1)
few r Unasked = (omega arith, omega arith, omega arith)
few r Sound = (omega arith, omega arith, omega arith)
few r Damaged = (omega arith, omega arith, omega arith)
few r Missing = (omega arith, omega arith, omega arith)
