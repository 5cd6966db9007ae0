-- The columns that the words of an audit name, and what is told of records in a row.
use Rattle.std.proofs.Common.{◌≡◌, ◌<◌, inl, inr, ℕ, ◌+◌, Bool, true, false, List, [], ◌∷◌, ◌++◌, Option, length, map, take, get_or, refl, sym, ap, ◌∙◌, subst, arith, rules}
use Rattle.std.specs.Prelude.{◌&&◌, ◌||◌, nat_lt, All, AllPairs}
use Rattle.std.specs.List.{list_all, list_any}
use Rattle.std.proofs.Math.Seq.{take-length}
use Rattle.std.proofs.lemmas.Bool.{cases_lt}
use Rattle.std.proofs.lemmas.Bool.Decides.{nat_tests}
use Rattle.std.proofs.lemmas.List.{flat_map_more, map-append, take_more}
use Rattle.std.proofs.lemmas.List.Elements.{All-cons, All-push}
use Rattle.std.proofs.lemmas.List.Folds.{list_any-append}
use Rattle.std.proofs.lemmas.List.Kept.{AllPairs-cons}
use Rattle.pot_bytes.specs.declared.rack.Rack.{Rack}
use Rattle.pot_outside.specs.Accounts.{Transition}
use Rattle.pot_index.specs.declared.record.Record.{Record}
use Rattle.pot_audit.specs.declared.spot.Spot.{Spot}
use Rattle.pot_audit.specs.declared.veil.Veil.{Veil}
use Rattle.pot_audit.specs.Exposure.{AreSpots, IsSpotBefore}
use Rattle.pot_audit.specs.Veils.{AreVeils}
use Rattle.pot_words.specs.declared.audit.Audit.{Audit}
use Rattle.pot_words.specs.declared.spot.Spot as word
use Rattle.pot_words.specs.declared.task.Task.TheVariants as task
use Rattle.pot_words.specs.Limits.{IsWithinLimits}
use Rattle.pot_words.specs.Lists.{AscendFrom, IsSpot, spot_rank}
use Rattle.pot_session.specs.declared.ending.status.Status.{Status}
use Rattle.pot_session.specs.declared.ending.status.Status.TheVariants as status
use Rattle.pot_session.specs.declared.ending.stop.Stop.{Stop}
use Rattle.pot_session.specs.declared.ending.stop.Stop.TheVariants as stop
use Rattle.pot_session.specs.Desks.{IsImageStop}
use Rattle.pot_session.specs.Stops.{Refuses, status_of}
use Rattle.pot_session.specs.Telling.{told_status}
use Rattle.pot_session.specs.Audits.{AreAudited, Audited, Audits, IsAudit, Outside, Stopped, Told, are_of, audit_text, has_bare, is_bare, is_of, spot_of, spots_of, veil_lines}

-- THE COLUMNS

before : (a b : word.Spot) → IsSpot a → IsSpot b → spot_rank a < spot_rank b → IsSpotBefore (spot_of a) (spot_of b)
before a b ia ib lt = elim (cases_lt a.group b.group) [
  | inl less ↦ inl less
  | inr not ↦ (let same : a.group ≡ b.group = omega (arith, not, lt, ia.1, ib.1) in inr (same, omega (arith, lt, same)))
]

all_before : (a : word.Spot) (least : ℕ) (seen : List word.Spot) → IsSpot a → spot_rank a < least → AscendFrom IsSpot spot_rank least seen → All (IsSpotBefore (spot_of a)) (map spot_of seen)
all_before a least [] ia lt h = search rules
all_before a least (b ∷ seen) ia lt h =
    All-cons (IsSpotBefore (spot_of a)) (spot_of b) (map spot_of seen) (before a b ia h.0 (omega (arith, lt, h.1))) (all_before a (spot_rank b + 1) seen ia (omega (arith, lt, h.1)) h.2)

ascend : (least : ℕ) (seen : List word.Spot) → AscendFrom IsSpot spot_rank least seen → AllPairs IsSpotBefore (map spot_of seen)
ascend least [] h = λ i j d lt l. absurd (omega (arith, l))
ascend least (a ∷ seen) h =
    AllPairs-cons IsSpotBefore (spot_of a) (map spot_of seen) (all_before a (spot_rank a + 1) seen h.0 (omega arith) h.2) (ascend (spot_rank a + 1) seen h.2)

left_true : (a b : Bool) → (a && b) ≡ true → a ≡ true
left_true true b e = refl
left_true false b e = e

right_true : (a b : Bool) → (a && b) ≡ true → b ≡ true
right_true true b e = e
right_true false b e = absurd (cc)

less_is : (a b : ℕ) → nat_lt a b ≡ true → a < b
less_is a b e = grind (arith, nat_tests)

each_of : (rack : Rack) (seen : List word.Spot) → list_all (is_of rack) seen ≡ true → All (λ (s : Spot). (s.group < rack.groups) × (s.column < rack.columns + rack.parity)) (map spot_of seen)
each_of rack [] e = search rules
each_of rack (s ∷ seen) e =
    let here : is_of rack s ≡ true = left_true (is_of rack s) (list_all (is_of rack) seen) e in
    All-cons (λ (s : Spot). (s.group < rack.groups) × (s.column < rack.columns + rack.parity)) (spot_of s) (map spot_of seen)
    (less_is _ _ (left_true (nat_lt s.group rack.groups) (nat_lt s.column (rack.columns + rack.parity)) here), less_is _ _ (right_true (nat_lt s.group rack.groups) (nat_lt s.column (rack.columns + rack.parity)) here))
    (each_of rack seen (right_true (is_of rack s) (list_all (is_of rack) seen) e))

pub spots_fit : (rack : Rack) (a : Audit) → IsAudit a → are_of rack a ≡ true → AreSpots rack (spots_of a)
spots_fit rack a h of = record { each = each_of rack a.seen.items of; ascend = ascend 0 a.seen.items h }

-- RECORDS IN A ROW

pub text_more : (all : List Audited) (a : Audited) → audit_text (all ++ a ∷ []) ≡ audit_text all ++ veil_lines a.kept.name a.veils
text_more all a = sym (flat_map_more (λ (a : Audited). veil_lines a.kept.name a.veils) [] all a)

or_false : (b : Bool) → (b || false) ≡ b
or_false true = refl
or_false false = refl

pub bare_more : (all : List Audited) (a : Audited) → has_bare (all ++ a ∷ []) ≡ (has_bare all || list_any is_bare a.veils)
bare_more all a = list_any-append (λ (a : Audited). list_any is_bare a.veils) all (a ∷ []) ∙ ap (λ b. has_bare all || b) (or_false (list_any is_bare a.veils))

module _ (rack : Rack) (spots : List Spot) (records : List Record) where
  pub none_audited : AreAudited rack spots (take 0 records) []
  none_audited = record { are = search rules; each = search rules }

  pub one_audited : (all : List Audited) (i : ℕ) (r : Record) (veils : List Veil) → i < length records → r ≡ get_or records i r → AreAudited rack spots (take i records) all → AreVeils rack spots r veils
      → AreAudited rack spots (take (i + 1) records) (all ++ record { kept = r; veils = veils } ∷ [])
  one_audited all i r veils within is h are = record {
    are = map-append (λ (a : Audited). a.kept) all (record { kept = r; veils = veils } ∷ []) ∙ ap (λ l. l ++ r ∷ []) h.are ∙ sym next;
    each = All-push (λ (a : Audited). AreVeils rack spots a.kept a.veils) all (record { kept = r; veils = veils }) h.each are;
  }
    where
      next : take (i + 1) records ≡ take i records ++ r ∷ []
      next = take_more records i r within ∙ ap (λ y. take i records ++ y ∷ []) (sym is)

  pub all_audited : (all : List Audited) (i : ℕ) → i ≡ length records → AreAudited rack spots (take i records) all → AreAudited rack spots records all
  all_audited all i e h = subst (λ l. AreAudited rack spots l all) (ap (λ n. take n records) e ∙ take-length records) h

-- THE ANSWER

-- what the words name is an audit
pub is_audit : (a : Audit) → IsWithinLimits (task.Audit a) → IsAudit a
is_audit a h = h.1

-- what `audit` may answer
abbrev IsAuditStatus : Status → Type 0
IsAuditStatus status.Good = Unit {0}
IsAuditStatus status.Refusals = Unit {0}
IsAuditStatus status.WordsRefused = Unit {0}
IsAuditStatus status.SinkFault = Unit {0}
IsAuditStatus status.DeskFault = Unit {0}
IsAuditStatus status.ImageRefused = Unit {0}
IsAuditStatus status.NoMemory = Unit {0}
IsAuditStatus _ = ⊥

told_is : (b : Bool) → IsAuditStatus (told_status b)
told_is true = tt
told_is false = tt

stop_is : (s : Stop) → IsImageStop s → IsAuditStatus (status_of s)
stop_is stop.NoImage h = tt
stop_is stop.Cut h = tt
stop_is (stop.Trailer kept computed) h = tt
stop_is (stop.Form place) h = tt
stop_is stop.DeskFault h = tt
stop_is stop.NoMemory h = tt
stop_is stop.Words h = absurd h
stop_is stop.SourceFault h = absurd h
stop_is (stop.BadLine number) h = absurd h
stop_is stop.Spent h = absurd h
stop_is stop.Exists h = absurd h
stop_is stop.RoomFault h = absurd h
stop_is stop.TooWide h = absurd h

refused : (sink : Transition (List ℕ)) (s : Stop) (answer : Status) → IsAuditStatus (status_of s) → Refuses sink s answer → IsAuditStatus answer
refused sink s answer h (inl r) = subst IsAuditStatus (sym r.0) h
refused sink s answer h (inr (inl r)) = subst IsAuditStatus (sym r.0) tt
refused sink s answer h (inr (inr r)) = subst IsAuditStatus (sym r.0) tt

module _ (a : Audit) (desk : Transition (Option (List ℕ))) (sink : Transition (List ℕ)) (answer : Status) where
  audit_status : Audits a desk sink answer → IsAuditStatus answer
  audit_status (Stopped s which reads refuses) = refused sink s answer (stop_is s which) refuses
  audit_status (Outside i holds of refuses) = refused sink stop.Words answer tt refuses
  audit_status (Told i holds of (inl (bare, puts, e))) = subst IsAuditStatus (sym e) (told_is bare)
  audit_status (Told i holds of (inr (fault, puts, inl e))) = subst IsAuditStatus (sym e) tt
  audit_status (Told i holds of (inr (fault, puts, inr e))) = subst IsAuditStatus (sym e) tt

  -- an audit fails neither for the source nor for the room
  pub audit_source : Audits a desk sink answer → answer ≡ status.SourceFault → ⊥
  audit_source h e = subst IsAuditStatus e (audit_status h)

  pub audit_room : Audits a desk sink answer → answer ≡ status.RoomFault → ⊥
  audit_room h e = subst IsAuditStatus e (audit_status h)
