-- Reads of slots one after another, and what they leave of a table.
use Rattle.std.proofs.Common.{◌≡◌, ◌⊎◌, ◌<◌, ◌≤◌, ◌++◌, ◌+◌, ℕ, zero, suc, List, [], ◌∷◌, inl, inr, refl, ap, sym, subst, ◌∙◌, arith, length, length-append, take, map, drop, get_or, IsTrue}
use Rattle.std.specs.Prelude.{Some, None, IsErr}
use Rattle.std.proofs.lemmas.List.{drop_all, drop_more, get_or-map, get_or-take}
use Rattle.pot_bytes.specs.declared.digest.Digest.{Digest}
use Rattle.pot_bytes.specs.declared.rack.Place.{Place}
use Rattle.pot_bytes.specs.Digests.{digest_bytes, digest_of}
use Rattle.pot_machine.specs.Slot.{is_live, lost_of}
use Rattle.pot_machine.specs.Table.{Table, width, slot_at}
use Rattle.pot_machine.specs.Machine.{after, with_loss}
use Rattle.pot_machine.proofs.Places.{slot_other}
use Rattle.pot_shelves.specs.Shelves.{Shelves, ShelvesStay}
use Rattle.pot_shelves.proofs.ShelfLemmas.{stays_refl, stays_then}
use Rattle.pot_group.specs.declared.lanes.Lane.{Lane}
use Rattle.pot_group.specs.declared.lanes.Lanes.{Lanes}
use Rattle.pot_group.specs.declared.reads.Found.{Found}
use Rattle.pot_group.specs.declared.reads.Found.TheVariants.{Sound, Missing, NotRead}
use Rattle.pot_group.specs.Finding.{Before, IsFrom, IsPlace}
use Rattle.pot_group.specs.Lanes.{AreLaneDigests, Gathers, OnlyLastFails, ReadsLane, ReadsOn, entry_of, lanes_of}

-- ONE READ MORE

-- the place at or after which the next read is
abbrev pub after_reads : ℕ → ℕ → List Lane → ℕ × ℕ
after_reads s c [] = (s, c)
after_reads s c (lane ∷ rest) = after_reads lane.place.stripe (lane.place.column + 1) rest

after_more : (s c : ℕ) (lanes : List Lane) (lane : Lane) → after_reads s c (lanes ++ lane ∷ []) ≡ (lane.place.stripe, lane.place.column + 1)
after_more s c [] lane = refl
after_more s c (l ∷ lanes) lane = after_more l.place.stripe (l.place.column + 1) lanes lane

reads_more : (told : Type 0) (number : ℕ) (t : Table) (s c : ℕ) (lanes : List Lane) (lane : Lane) (x y z : Shelves) → ReadsOn told number t s c lanes x y
    → IsPlace number t is_live (after_reads s c lanes).0 (after_reads s c lanes).1 (Some lane.place) → ReadsLane told lane t y z
    → ReadsOn told number t s c (lanes ++ lane ∷ []) x z
reads_more told number t s c [] lane x y z o place r = (z, place, subst (λ (v : Shelves). ReadsLane told lane t v z) o r, refl)
reads_more told number t s c (l ∷ lanes) lane x y z o place r =
    (o.0, o.1, o.2, reads_more told number t l.place.stripe (l.place.column + 1) lanes lane o.0 y z o.3 place r)

-- no archive failed
abbrev pub NoneFails : List Lane → Type 0
NoneFails [] = Unit {0}
NoneFails (lane ∷ rest) = (IsErr lane.answer → ⊥) × NoneFails rest

none_more : (lanes : List Lane) (lane : Lane) → NoneFails lanes → (IsErr lane.answer → ⊥) → NoneFails (lanes ++ lane ∷ [])
none_more [] lane none well = (well, tt)
none_more (l ∷ lanes) lane none well = (none.0, none_more lanes lane none.1 well)

last_fails : (lanes : List Lane) (lane : Lane) → NoneFails lanes → OnlyLastFails (lanes ++ lane ∷ [])
last_fails [] lane none = (λ e. refl, tt)
last_fails (l ∷ lanes) lane none = (λ e. absurd (none.0 e), last_fails lanes lane none.1)

no_fails : (lanes : List Lane) → NoneFails lanes → OnlyLastFails lanes
no_fails [] none = tt
no_fails (l ∷ lanes) none = (λ e. absurd (none.0 e), no_fails lanes none.1)

-- READS UNDER WAY

-- So many slots were read, no archive failed, and the next one is at or after this place.
pub record Gathering (told : Type 0) (number : ℕ) (t : Table) (s c n at_stripe at_column : ℕ) (lanes : List Lane) (old now : Shelves) : Type 0 where
  pub reads : ReadsOn told number t s c lanes old now
  pub at : after_reads s c lanes ≡ (at_stripe, at_column)
  pub fails : NoneFails lanes
  pub count : length lanes ≡ n

pub gathering_none : (told : Type 0) (number : ℕ) (t : Table) (s c : ℕ) (x : Lanes) (old : Shelves) → x.count ≡ 0 → Gathering told number t s c 0 s c (lanes_of x) old old
gathering_none told number t s c x old none =
    subst (λ k. Gathering told number t s c 0 s c (take k x.lanes) old old) (sym none) (record { reads = refl; at = refl; fails = tt; count = refl })

module _ (told : Type 0) (number : ℕ) (t : Table) (s c n at_stripe at_column : ℕ) (lanes : List Lane) (old now : Shelves) (gathering : Gathering told number t s c n at_stripe at_column lanes old now) where
  module _ (lane : Lane) (place : Place) (new : Shelves) (more : List Lane) (at : IsPlace number t is_live at_stripe at_column (Some place)) (here : lane.place ≡ place) (read : ReadsLane told lane t now new) (put : more ≡ lanes ++ lane ∷ []) where
    one_read : ReadsOn told number t s c (lanes ++ lane ∷ []) old new
    one_read = reads_more told number t s c lanes lane old now new gathering.reads
        (subst (λ (q : ℕ × ℕ). IsPlace number t is_live q.0 q.1 (Some lane.place)) (sym gathering.at) (subst (λ (p : Place). IsPlace number t is_live at_stripe at_column (Some p)) (sym here) at)) read

    one_count : length (lanes ++ lane ∷ []) ≡ n + 1
    one_count = length-append lanes (lane ∷ []) ∙ ap (λ k. k + 1) gathering.count

    pub gathering_more : (IsErr lane.answer → ⊥) → Gathering told number t s c (n + 1) place.stripe (place.column + 1) more old new
    gathering_more well =
        subst (λ (p : Place). Gathering told number t s c (n + 1) p.stripe (p.column + 1) more old new) here (subst (λ ls. Gathering told number t s c (n + 1) lane.place.stripe (lane.place.column + 1) ls old new) (sym put)
        (record { reads = one_read; at = after_more s c lanes lane; fails = none_more lanes lane gathering.fails well; count = one_count }))

    -- the reads end with this one
    pub gathered_last : (most : ℕ) → n < most → Gathers told number t s c most more old new
    gathered_last most few = subst (λ ls. Gathers told number t s c most ls old new) (sym put) (record {
      reads = one_read;
      fails = last_fails lanes lane gathering.fails;
      few = omega (arith, one_count, few);
      none = λ e. absurd (let none : length (lanes ++ lane ∷ []) ≡ 0 = ap length e in omega (arith, none, one_count));
    })

  -- no Live slot is left
  pub gathered_end : (most : ℕ) → n < most → IsPlace number t is_live at_stripe at_column None → Gathers told number t s c most lanes old now
  gathered_end most few place = record {
    reads = gathering.reads;
    fails = no_fails lanes gathering.fails;
    few = omega (arith, gathering.count, few);
    none = nothing lanes gathering.at;
  }
    where
      nothing : (ls : List Lane) → after_reads s c ls ≡ (at_stripe, at_column) → ls ≡ [] → IsPlace number t is_live s c None
      nothing [] at e = subst (λ (q : ℕ × ℕ). IsPlace number t is_live q.0 q.1 None) (sym at) place
      nothing (l ∷ ls) at e = absurd (cc)

  -- all slots that were to be read were
  pub gathered_all : (most : ℕ) → n ≡ most → 0 < most → Gathers told number t s c most lanes old now
  gathered_all most all some = record {
    reads = gathering.reads;
    fails = no_fails lanes gathering.fails;
    few = omega (arith, gathering.count, all);
    none = λ e. absurd (let none : length lanes ≡ 0 = ap length e in omega (arith, none, gathering.count, all, some));
  }

-- WHAT READS LEAVE

pub reads_stay : (told : Type 0) (number : ℕ) (t : Table) (s c : ℕ) (lanes : List Lane) (x y : Shelves) → ReadsOn told number t s c lanes x y → ShelvesStay told x y
reads_stay told number t s c [] x y o = subst (λ (v : Shelves). ShelvesStay told x v) (sym o) (stays_refl told x)
reads_stay told number t s c (lane ∷ lanes) x y o =
    stays_then told x o.0 y o.2.reads.stays (reads_stay told number t lane.place.stripe (lane.place.column + 1) lanes o.0 y o.3)

-- IN A TABLE WITH ONE SLOT MORE LOST

-- a place at or after one that is behind a slot is not that slot
apart : (s c a b n k : ℕ) → Before s c a b → (a < n) ⊎ ((a ≡ n) × (b ≤ k)) → (n ≡ s) × (k ≡ c) → ⊥
apart s c a b n k (inl x) (inl y) same = omega (arith, x, y, same.0)
apart s c a b n k (inl x) (inr y) same = omega (arith, x, y.0, same.0)
apart s c a b n k (inr x) (inl y) same = omega (arith, x.0, y, same.0)
apart s c a b n k (inr x) (inr y) same = omega (arith, x.1, y.1, same.1)

further : (s c a b n k : ℕ) → Before s c a b → (a < n) ⊎ ((a ≡ n) × (b ≤ k)) → Before s c n (k + 1)
further s c a b n k (inl x) (inl y) = inl (omega (arith, x, y))
further s c a b n k (inl x) (inr y) = inl (omega (arith, x, y.0))
further s c a b n k (inr x) (inl y) = inl (omega (arith, x.0, y))
further s c a b n k (inr x) (inr y) = inr (x.0 ∙ y.0, omega (arith, x.1, y.1))

module _ (number : ℕ) (t : Table) (s c : ℕ) (column : c < width t) where
  slot_kept : (a b n k : ℕ) → Before s c a b → IsFrom t a b n k → slot_at (with_loss t s c) n k ≡ slot_at t n k
  slot_kept a b n k behind from = slot_other t s c n k (lost_of (slot_at t s c)) column from.0.1 (apart s c a b n k behind from.1)

  place_kept : (a b : ℕ) (p : Place) → Before s c a b → IsPlace number t is_live a b (Some p) → IsPlace number (with_loss t s c) is_live a b (Some p)
  place_kept a b p behind place = (
    place.0,
    (
      place.1.0,
      subst (λ x. IsTrue (is_live x)) (sym (slot_kept a b p.stripe p.column behind place.1.0)) place.1.1,
      λ n k from before. ap is_live (slot_kept a b n k behind from) ∙ place.1.2 n k from before,
    ),
  )

  pub reads_past : (told : Type 0) (a b : ℕ) (lanes : List Lane) (x y : Shelves) → Before s c a b → ReadsOn told number t a b lanes x y → ReadsOn told number (with_loss t s c) a b lanes x y
  reads_past told a b [] x y behind o = o
  reads_past told a b (lane ∷ lanes) x y behind o =
      let p = lane.place in (
        o.0,
        place_kept a b p behind o.1,
        record { state = o.2.state ∙ sym (slot_kept a b p.stripe p.column behind o.1.1.0); reads = o.2.reads },
        reads_past told p.stripe (p.column + 1) lanes o.0 y (further s c a b p.stripe p.column behind o.1.1.0.1) o.3,
      )

-- the slots behind one whose entry was logged are as they were
pub reads_after : (told : Type 0) (number job : ℕ) (t : Table) (p : Place) (found : Found) (lanes : List Lane) (x y : Shelves) → p.column < width t
    → ReadsOn told number t p.stripe (p.column + 1) lanes x y → ReadsOn told number (after t (entry_of job p found)) p.stripe (p.column + 1) lanes x y
reads_after told number job t p Sound lanes x y column o = o
reads_after told number job t p Missing lanes x y column o =
    reads_past number t p.stripe p.column column told p.stripe (p.column + 1) lanes x y (inr (refl, omega arith)) o
reads_after told number job t p NotRead lanes x y column o = o

-- DIGESTS

four_lanes : (lanes : List Lane) (p q r s : Lane) → length lanes ≡ 4 → get_or lanes 0 p ∷ get_or lanes 1 q ∷ get_or lanes 2 r ∷ get_or lanes 3 s ∷ [] ≡ lanes
four_lanes (a ∷ b ∷ c ∷ d ∷ []) p q r s long = refl
four_lanes [] p q r s long = absurd (omega (arith, long))
four_lanes (a ∷ []) p q r s long = absurd (omega (arith, long))
four_lanes (a ∷ b ∷ []) p q r s long = absurd (omega (arith, long))
four_lanes (a ∷ b ∷ c ∷ []) p q r s long = absurd (omega (arith, long))
four_lanes (a ∷ b ∷ c ∷ d ∷ e ∷ l) p q r s long = absurd (omega (arith, long))

first_lane : (lanes : List Lane) (p q : Lane) → length lanes ≡ 4 → get_or lanes 0 p ≡ get_or lanes 0 q
first_lane [] p q long = absurd (omega (arith, long))
first_lane (a ∷ lanes) p q long = refl

pub digests_four : (n : ℕ) (lanes : List Lane) (digests : List Digest) (p q r s : Lane) → n ≤ 4 → length lanes ≡ 4
    → digests ≡ map (λ block. record { bytes = digest_bytes block }) ((get_or lanes 0 p).block ∷ (get_or lanes 1 q).block ∷ (get_or lanes 2 r).block ∷ (get_or lanes 3 s).block ∷ [])
    → AreLaneDigests n lanes digests
unfolding digest_of
digests_four n lanes digests p q r s few long e k x d lt =
    let f : Lane → Digest = (λ (l : Lane). digest_of l.block) in
    let all : digests ≡ map f lanes = e ∙ ap (map f) (four_lanes lanes p q r s long) in
    ap (λ ds. get_or ds k d) all ∙ get_or-map f lanes k x d (omega (arith, lt, few, long))

pub digests_one : (n : ℕ) (lanes : List Lane) (p : Lane) (bytes : List ℕ) (d : Digest) → n < 2 → length lanes ≡ 4 → bytes ≡ (get_or lanes 0 p).block → d.bytes ≡ digest_bytes bytes
    → AreLaneDigests n lanes (d ∷ d ∷ d ∷ d ∷ [])
unfolding digest_of
digests_one n lanes p bytes d few long value is zero x y lt = ap made (is ∙ ap digest_bytes (value ∙ ap (λ (l : Lane). l.block) (first_lane lanes p x long)))
  where
    made : List ℕ → Digest
    made xs = record { bytes = xs }
digests_one n lanes p bytes d few long value is (suc k) x y lt = absurd (omega (arith, few, lt))

-- THE READS THAT ARE LEFT

pub left_of : (x : Lanes) (i : ℕ) (lane : Lane) → length (lanes_of x) ≡ x.count → i < x.count → lane ≡ get_or x.lanes i lane → drop i (lanes_of x) ≡ lane ∷ drop (i + 1) (lanes_of x)
left_of x i lane long lt is =
    drop_more (lanes_of x) i lane (omega (arith, long, lt)) ∙ ap (λ l. l ∷ drop (i + 1) (lanes_of x)) (get_or-take x.count x.lanes i lane lt ∙ sym is)

pub none_left : (x : Lanes) (i : ℕ) → length (lanes_of x) ≡ x.count → x.count ≤ i → drop i (lanes_of x) ≡ []
none_left x i long le = drop_all i (lanes_of x) (omega (arith, long, le))
