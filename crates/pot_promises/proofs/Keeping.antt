-- The record of a name keeps its digest, however the log of the index goes on.
use Rattle.std.proofs.Common.{◌≡◌, ℕ, List, ◌∷◌, ap, sym, ◌∙◌, subst}
use Rattle.std.specs.Prelude.{Contains}
use Rattle.pot_bytes.specs.declared.digest.Digest.{Digest}
use Rattle.pot_bytes.specs.declared.rack.Rack.{Rack}
use Rattle.pot_bytes.proofs.Elements.{contains_back, contains_later, parted_at}
use Rattle.pot_index.specs.declared.entry.IndexEntry.TheVariants.{Publish, Renew}
use Rattle.pot_index.specs.declared.entry.Logged.{Logged}
use Rattle.pot_index.specs.declared.record.Record.{Record}
use Rattle.pot_index.specs.Entries.{bringing}
use Rattle.pot_index.specs.Fits.{FitsRack}
use Rattle.pot_index.specs.Index.{Names, IsRecordOf, AreNames, ReplaysIndex, after}
use Rattle.pot_index.specs.Laws.{KeepsFileAndSplits}
use Rattle.pot_index.proofs.NamesKept.{replay_keeps, went_on, after_keeps}
use Rattle.pot_index.proofs.RecordLaws.{one_record, records_stay, splits_stay}
use Rattle.pot_index.proofs.NameLemmas.{contains_map}
use Rattle.pot_index.proofs.RecordLemmas.{inserted_has, record_names, replaced_has}
use Rattle.pot_promises.proofs.Quiet.{Quiet, all_quiet}

-- a record of this name and this digest is published
pub record Has (n : Names) (name : List ℕ) (d : Digest) : Type 0 where
  pub its : Record
  pub there : Contains n.published its
  pub named : its.name ≡ name
  pub digest : its.digest ≡ d

pub still_has : (rack : Rack) (n m : Names) (log : List Logged) (name : List ℕ) (d : Digest) → AreNames rack n → ReplaysIndex rack n log m → Has n name d → Has m name d
still_has rack n m log name d a rep h =
    let o = splits_stay rack n m log h.its a rep h.there in
    record { its = o.0; there = o.1; named = o.2.name ∙ h.named; digest = o.2.digest ∙ h.digest }

-- a record that an entry published stays, or goes on
pub published_goes : (rack : Rack) (n m : Names) (log : List Logged) (job : ℕ) (name : List ℕ) (mark : Digest) (kept : Record) → AreNames rack n → ReplaysIndex rack n log m
    → Contains log (bringing (Publish job name mark) kept) → (o : Record) × Contains m.published o × KeepsFileAndSplits kept o × (kept.name ≡ name) × FitsRack rack kept
published_goes rack n m log job name mark kept a rep there =
    let x : Logged = bringing (Publish job name mark) kept in
    let cut = parted_at log x there in
    let parts = went_on rack n m cut.0 (x ∷ cut.1) (subst (λ l. ReplaysIndex rack n l m) cut.2 rep) in
    let k : Names = parts.0 in
    let legal = parts.2.0 in
    let at : AreNames rack k = replay_keeps rack n k cut.0 a parts.1 in
    let o = splits_stay rack (after k x) m cut.1 kept (after_keeps rack k x at legal) parts.2.1 (inserted_has kept k.published) in
    (o.0, o.1, o.2, legal.0, legal.3)

-- so does one that an entry brought which renewed it
pub renewed_goes : (rack : Rack) (n m : Names) (log : List Logged) (job : ℕ) (name : List ℕ) (mark : Digest) (now : Record) → AreNames rack n → ReplaysIndex rack n log m
    → Contains log (bringing (Renew job name mark) now) → (o : Record) × Contains m.published o × KeepsFileAndSplits now o × FitsRack rack now
renewed_goes rack n m log job name mark now a rep there =
    let x : Logged = bringing (Renew job name mark) now in
    let cut = parted_at log x there in
    let parts = went_on rack n m cut.0 (x ∷ cut.1) (subst (λ l. ReplaysIndex rack n l m) cut.2 rep) in
    let k : Names = parts.0 in
    let legal = parts.2.0 in
    let old = legal.2 in
    let at : AreNames rack k = replay_keeps rack n k cut.0 a parts.1 in
    let named : now.name ≡ old.0.name = ap (λ (r : Record). r.name) old.2 in
    let has : Contains (after k x).published now =
    replaced_has now k.published (subst (λ l. Contains (record_names k.published) l) (sym named) (contains_map (λ (r : Record). r.name) old.0 k.published old.1.0)) in
    let o = splits_stay rack (after k x) m cut.1 now (after_keeps rack k x at legal) parts.2.1 has in
    (o.0, o.1, o.2, legal.1)

-- and stays as it is where no entry renews its name
pub published_stays : (rack : Rack) (n m : Names) (log : List Logged) (job : ℕ) (name : List ℕ) (mark : Digest) (kept : Record) → AreNames rack n → ReplaysIndex rack n log m
    → Contains log (bringing (Publish job name mark) kept) → Quiet name log → Contains m.published kept
published_stays rack n m log job name mark kept a rep there quiet =
    let x : Logged = bringing (Publish job name mark) kept in
    let cut = parted_at log x there in
    let parts = went_on rack n m cut.0 (x ∷ cut.1) (subst (λ l. ReplaysIndex rack n l m) cut.2 rep) in
    let k : Names = parts.0 in
    let legal = parts.2.0 in
    let at : AreNames rack k = replay_keeps rack n k cut.0 a parts.1 in
    let rest : Quiet kept.name cut.1 =
    subst (λ l. Quiet l cut.1) (sym legal.0)
    (λ y has. quiet y (subst (λ l. Contains l y) (sym cut.2) (contains_back cut.0 (x ∷ cut.1) y (contains_later x y cut.1 has)))) in
    records_stay rack (after k x) m cut.1 kept (after_keeps rack k x at legal) parts.2.1 (inserted_has kept k.published) (all_quiet kept.name cut.1 rest)

pub published_has : (rack : Rack) (n m : Names) (log : List Logged) (job : ℕ) (name : List ℕ) (mark : Digest) (kept : Record) → AreNames rack n → ReplaysIndex rack n log m
    → Contains log (bringing (Publish job name mark) kept) → Has m name kept.digest
published_has rack n m log job name mark kept a rep there =
    let o = published_goes rack n m log job name mark kept a rep there in
    record { its = o.0; there = o.1; named = o.2.name ∙ o.3; digest = o.2.digest }

-- what is found under the name has the digest
pub found_digest : (rack : Rack) (n : Names) (name : List ℕ) (d : Digest) (kept : Record) → AreNames rack n → Has n name d → IsRecordOf n name kept → kept.digest ≡ d
found_digest rack n name d kept a h is =
    ap (λ (r : Record). r.digest) (sym (one_record n.published h.its kept a.ascends h.there is.0 (h.named ∙ sym is.1))) ∙ h.digest
