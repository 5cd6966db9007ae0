-- A block stands at a data place because it was put there, and stays there.
use Rattle.std.proofs.Common.{◌≡◌, ◌⊎◌, inl, inr, ℕ, zero, suc, ◌+◌, ◌<◌, List, [], ◌∷◌, ◌≢◌, Option, Some, None, Bool, true, false, refl, sym, ap, ◌∙◌, subst, arith, map, nat_eq, nat_lt, if◌then◌else◌}
use Rattle.std.specs.Prelude.{is_some, slice_index_or}
use Rattle.std.specs.Str.{bytes_eq}
use Rattle.std.proofs.lemmas.Bool.{cases_eq}
use Rattle.std.proofs.lemmas.Bool.Decides.{nat_tests}
use Rattle.pot_bytes.specs.Digests.{digest_of}
use Rattle.pot_bytes.specs.Lists.{IsBlock}
use Rattle.pot_bytes.specs.Sums.{xor}
use Rattle.pot_bytes.specs.Weighted.{scaled}
use Rattle.pot_gf.specs.Field.{power}
use Rattle.pot_machine.specs.declared.column.Moving.{Moving}
use Rattle.pot_machine.specs.declared.entry.Entry.TheVariants as entry
use Rattle.pot_machine.specs.declared.slot.SlotState.TheVariants.{Live}
use Rattle.pot_machine.specs.Machine.{after, stuck_by, with_losses, with_slot}
use Rattle.pot_machine.specs.Rules.{IsTable}
use Rattle.pot_machine.specs.Slot.{is_unsound, is_void, live_of, lost_of, parity_slot}
use Rattle.pot_machine.specs.Table.{Table, column_at, next_column, slot_at}
use Rattle.pot_machine.proofs.LeftAlone.{sizes_stay}
use Rattle.pot_machine.proofs.Places.{slot_other, void_same, void-live, void-lost}
use Rattle.pot_steps.specs.declared.flight.Flight.{Flight}
use Rattle.pot_steps.specs.Flight.{partial_of}
use Rattle.pot_steps.specs.Flights.{flight_in}
use Rattle.pot_steps.specs.GroupStep.{put_entry}
use Rattle.pot_world.specs.Acts.{Act, Lose, Look, Mend, MoveBegin, MoveOne, PutNext, Swap, act}
use Rattle.pot_world.specs.Alike.{Alike}
use Rattle.pot_world.specs.Audit.{AllSame, Blind, One, SeesSame, Sight, Whole}
use Rattle.pot_world.specs.Group.{WorldGroup, Takes, Passes, Verdict, advance, advance_by, advance_to, begin_unless, crowding, finish_by, log_entry, lose, look, mend, mend_by, mend_unless, old_block, pass, place, put, put_by, put_within, sound_block, verdict}
use Rattle.pot_world.specs.Kept.{IsKept}
use Rattle.pot_world.specs.Later.{Sessions, reopened, reopened_site}
use Rattle.pot_world.specs.Moves.{copy_by, move_by, move_one, swap}
use Rattle.pot_world.specs.Places.{HasPlaced}
use Rattle.pot_world.specs.Reached.{AllGood, EachGroup, IsAllowedAt, IsGood, Loses, Makes, Move, Reaches, Site, at_group, may, moved}
use Rattle.pot_world.specs.Remains.{HasPlacedAt, PutAnswersPlace}
use Rattle.pot_world.specs.World.{no_group}
use Rattle.pot_world.proofs.Alikeness.{keeps_alike}
use Rattle.pot_world.proofs.Later.{good_anew}
use Rattle.pot_world.proofs.Placing.{pass_keeps}
use Rattle.pot_world.proofs.Putting.{written-data, written-other}
use Rattle.pot_world.proofs.Reaching.{moves_keep}
use Rattle.pot_world.proofs.Remaining.{SameSizes, act_sizes, move_still, puts_there}
use Rattle.pot_world.proofs.Staying.{pass_sizes}

-- A STEP THAT PUTS NOTHING

-- the block written last to a place, and whether its slot is Void, are the same
abbrev SameAt : WorldGroup → WorldGroup → ℕ → ℕ → Type 0
SameAt g h s c = (h.written s c ≡ g.written s c) × (is_void (slot_at h.state.table s c) ≡ is_void (slot_at g.state.table s c))

was_there : (g h : WorldGroup) (s c : ℕ) (block : List ℕ) → SameSizes g h → SameAt g h s c → HasPlaced h s c block → HasPlaced g s c block
was_there g h s c block sizes same p = record {
  stripe = subst (λ n. s < n) sizes.0 p.stripe;
  column = subst (λ n. c < n) sizes.1 p.column;
  used = sym same.1 ∙ p.used;
  written = sym same.0 ∙ p.written;
}

module _ (s c : ℕ) where
  lost_void : (t : Table) (n k : ℕ) → is_void (slot_at (with_slot t n k (lost_of (slot_at t n k))) s c) ≡ is_void (slot_at t s c)
  lost_void t n k = void_same t n k (lost_of (slot_at t n k)) s c (void-lost (slot_at t n k))

  look_same : (job n k : ℕ) (g : WorldGroup) → SameAt g (look job n k g) s c
  look_same job n k g = by (is_some (sound_block g n k))
    where
      by : (b : Bool) → SameAt g (log_entry g (if b then entry.Seen job n k else entry.Gone job n k)) s c
      by true = (refl, refl)
      by false = (refl, lost_void g.state.table n k)

  advance_same : (job : ℕ) (f : Flight) (g : WorldGroup) → SameAt g (advance job f g) s c
  advance_same job f g = by (next_column g.state.table f.relay)
    where
      ends : (b : Bool) → SameAt g (finish_by b job f g) s c
      ends true = (refl, void_same g.state.table f.relay.stripe f.relay.target (live_of (slot_at g.state.table f.relay.stripe f.relay.target)) s c (void-live (slot_at g.state.table f.relay.stripe f.relay.target)))
      ends false = (refl, refl)

      to : (j : ℕ) (o : Option (List ℕ)) → SameAt g (advance_to job f j o g) s c
      to j None = (refl, lost_void g.state.table f.relay.stripe j)
      to j (Some b) = (refl, refl)

      by : (o : Option ℕ) → SameAt g (advance_by job f o g) s c
      by None = ends (bytes_eq (partial_of f) (g.written f.relay.stripe f.relay.target))
      by (Some j) = to j (sound_block g f.relay.stripe j)

  mend_same : (job n k : ℕ) (blind : List ℕ) (g : WorldGroup) → SameAt g (mend job n k blind g) s c
  mend_same job n k blind g = by (is_unsound (slot_at g.state.table n k))
    where
      begins : (o : Option Flight) → SameAt g (begin_unless job n k blind o g) s c
      begins None = (refl, refl)
      begins (Some f) = advance_same job f g

      sticks : (o : Option ℕ) → SameAt g (mend_unless job n k blind o g) s c
      sticks None = begins (crowding g.state.flights)
      sticks (Some j) = (refl, refl)

      stands : (o : Option Flight) → SameAt g (mend_by job n k blind o g) s c
      stands None = sticks (stuck_by g.state.table n k)
      stands (Some f) = advance_same job f g

      by : (b : Bool) → SameAt g (if b then mend_by job n k blind (flight_in g.state.flights n) g else g) s c
      by true = stands (flight_in g.state.flights n)
      by false = (refl, refl)

  move_same : (job k : ℕ) (g : WorldGroup) → SameAt g (move_one job k g) s c
  move_same job k g = moving (column_at g.state.table k).moving
    where
      copies : (m : Moving) (o : Option (List ℕ)) → SameAt g (copy_by job k m o g) s c
      copies m None = (refl, lost_void g.state.table m.upto k)
      copies m (Some b) = (refl, refl)

      by : (m : Moving) (b : Bool) → SameAt g (if b then copy_by job k m (sound_block g m.upto k) g else log_entry g (entry.MoveEnd job k)) s c
      by m true = copies m (sound_block g m.upto k)
      by m false = (refl, refl)

      moving : (o : Option Moving) → SameAt g (move_by job k o g) s c
      moving None = (refl, refl)
      moving (Some m) = by m (nat_lt m.upto g.state.table.stripes)

  losses_void : (m : ℕ) (t : Table) (k : ℕ) → is_void (slot_at (with_losses m t k) s c) ≡ is_void (slot_at t s c)
  losses_void zero t k = refl
  losses_void (suc m) t k = lost_void (with_losses m t k) m k ∙ losses_void m t k

  swap_same : (job k to : ℕ) (g : WorldGroup) → SameAt g (swap job k to g) s c
  swap_same job k to g = (refl, losses_void g.state.table.stripes g.state.table k)

-- A PUT

module _ (t : Table) (table : IsTable t) (job s c : ℕ) (block p q : List ℕ) (lc : c < t.data_columns) (n k : ℕ) (lk : k < t.data_columns) (away : (n ≡ s) × (k ≡ c) → ⊥) where
  first_two : slot_at (with_slot (with_slot t s c (Live (digest_of block))) s t.data_columns (parity_slot (digest_of (xor p block)) true)) n k ≡ slot_at t n k
  first_two =
      let some = table.size.parity.0 in
      slot_other (with_slot t s c (Live (digest_of block))) s t.data_columns n k (parity_slot (digest_of (xor p block)) true) (omega (arith, some)) (omega (arith, lk)) (λ e. (let x = e.1 in omega (arith, x, lk)))
      ∙ slot_other t s c n k (Live (digest_of block)) (omega (arith, lc)) (omega (arith, lk)) away

  other_data : slot_at (after t (put_entry t.parity job s c block p q true true)) n k ≡ slot_at t n k
  other_data = by (nat_eq t.parity 1) refl
    where
      wide : (x : ℕ) → nat_eq x 1 ≡ false → 1 < x + 1 → 1 < x
      wide x e some = grind (arith, nat_tests)

      by : (b : Bool) → nat_eq t.parity 1 ≡ b
          → slot_at (after t (if b then entry.Put job s c (digest_of block) (digest_of (xor p block)) true else entry.Put2 job s c (digest_of block) (digest_of (xor p block)) (digest_of (xor q (scaled (power 3 c) block))) true true)) n k
          ≡ slot_at t n k
      by true e = first_two
      by false e =
          let two : 1 < t.parity = wide t.parity e (let a = table.size.parity.0 in omega (arith, a)) in
          slot_other (with_slot (with_slot t s c (Live (digest_of block))) s t.data_columns (parity_slot (digest_of (xor p block)) true)) s (t.data_columns + 1) n k (parity_slot (digest_of (xor q (scaled (power 3 c) block))) true)
          (omega (arith, two)) (omega (arith, lk)) (λ e. (let x = e.1 in omega (arith, x, lk)))
          ∙ first_two

-- it stood there before, or it was put there now
abbrev WasOrPut : List ℕ → WorldGroup → Option (ℕ × ℕ) → ℕ → ℕ → List ℕ → Type 0
WasOrPut put g at s c block = HasPlaced g s c block ⊎ ((at ≡ Some (s, c)) × (block ≡ put))

module _ (job : ℕ) (block : List ℕ) (g : WorldGroup) (kept : IsKept g) (ls : g.state.table.cursor.stripe < g.state.table.stripes) where
  abbrev t : Table
  t = g.state.table

  abbrev n : ℕ
  n = g.state.table.cursor.stripe

  abbrev k : ℕ
  k = g.state.table.cursor.column

  lk : k < t.data_columns
  lk = kept.table.cursor.column

  abbrev h : WorldGroup
  h = place job block n k g

  placed_elsewhere : (s c : ℕ) (b : List ℕ) → ((s ≡ n) × (c ≡ k) → ⊥) → HasPlaced h s c b → HasPlaced g s c b
  placed_elsewhere s c b away x =
      let sizes : SameSizes g h = act_size in
      let lc : c < t.data_columns = subst (λ m. c < m) sizes.1 x.column in
      was_there g h s c b sizes (
        written-other t kept.table n k ls lk block (old_block g n t.data_columns) (old_block g n (t.data_columns + 1)) g.written s c (far lc (cases_eq s n)),
        ap is_void (other_data t kept.table job n k block (old_block g n t.data_columns) (old_block g n (t.data_columns + 1)) lk s c lc away),
      )
      x
    where
      act_size : SameSizes g h
      act_size = (let z = sizes_stay t (put_entry t.parity job n k block (old_block g n t.data_columns) (old_block g n (t.data_columns + 1)) true true) in (z.2, z.0))

      far : c < t.data_columns → (s ≡ n) ⊎ (s ≢ n) → (s ≢ n) ⊎ ((c < t.data_columns) × (c ≢ k))
      far lc (inl e) = inr (lc, λ q. away (e, q))
      far lc (inr ne) = inl ne

  placed_or : (s c : ℕ) (b : List ℕ) → HasPlaced h s c b → WasOrPut block g (Some (n, k)) s c b
  placed_or s c b x = elim (cases_eq s n) [
    | inl es ↦ elim (cases_eq c k) [
      | inl ec ↦
          inr (
            ap (λ i. Some (i, k)) (sym es) ∙ ap (λ j. Some (s, j)) (sym ec),
            sym x.written ∙ ap (λ i. h.written i c) es ∙ ap (h.written n) ec
                ∙ written-data t kept.table n k ls lk block (old_block g n t.data_columns) (old_block g n (t.data_columns + 1)) g.written,
          )
      | inr ne ↦ inl (placed_elsewhere s c b (λ e. ne e.1) x)
    ]
    | inr ne ↦ inl (placed_elsewhere s c b (λ e. ne e.0) x)
  ]

pass_same : (job n : ℕ) (gone : Option ℕ) (g : WorldGroup) (s c : ℕ) → SameAt g (pass job n gone g) s c
pass_same job n None g s c = (refl, refl)
pass_same job n (Some k) g s c = (refl, lost_void s c g.state.table n k)

abbrev AllOr : ℕ → ℕ → List ℕ → Type 0
AllOr n job block = (y : WorldGroup) (s c : ℕ) (b : List ℕ) → IsKept y → HasPlaced (put_within n job block y).group s c b → WasOrPut block y (put_within n job block y).place s c b

within_or : (n job : ℕ) (block : List ℕ) (g : WorldGroup) (s c : ℕ) (b : List ℕ) → IsKept g → HasPlaced (put_within n job block g).group s c b → WasOrPut block g (put_within n job block g).place s c b
unfolding put_within
within_or zero job block g s c b kept x = inl x
within_or (suc n) job block g s c b kept x = by (nat_lt g.state.table.cursor.stripe g.state.table.stripes) refl (within_or n job block) x
  where
    below : (a b : ℕ) → nat_lt a b ≡ true → a < b
    below a b e = grind (arith, nat_tests)

    judged : (v : Verdict) → verdict g g.state.table.cursor.stripe ≡ v → g.state.table.cursor.stripe < g.state.table.stripes → AllOr n job block
        → HasPlaced (put_by (put_within n job block) job block v g).group s c b → WasOrPut block g (put_by (put_within n job block) job block v g).place s c b
    judged Takes e ls more x = placed_or job block g kept ls s c b x
    judged (Passes gone) e ls more x =
        let y : WorldGroup = pass job g.state.table.cursor.stripe gone g in
        elim (more y s c b (pass_keeps g job gone kept ls e) x) [
          | inl before ↦ inl (was_there g y s c b (pass_sizes job g.state.table.cursor.stripe gone g) (pass_same job g.state.table.cursor.stripe gone g s c) before)
          | inr now ↦ inr now
        ]

    by : (d : Bool) → nat_lt g.state.table.cursor.stripe g.state.table.stripes ≡ d → AllOr n job block
        → HasPlaced (if d then put_by (put_within n job block) job block (verdict g g.state.table.cursor.stripe) g else record { group = g; place = None }).group s c b
        → WasOrPut block g (if d then put_by (put_within n job block) job block (verdict g g.state.table.cursor.stripe) g else record { group = g; place = None }).place s c b
    by true e more x = judged (verdict g g.state.table.cursor.stripe) refl (below _ _ e) more x
    by false e more x = inl x

-- ONE STEP

-- it stood there before the step, or the step put it there
abbrev pub WasOrActed : Act → WorldGroup → ℕ → ℕ → List ℕ → Type 0
WasOrActed a g s c b = HasPlaced g s c b ⊎ ((job : ℕ) × (a ≡ PutNext job b) × ((put job b g).place ≡ Some (s, c)))

act_or : (a : Act) (g : WorldGroup) (s c : ℕ) (b : List ℕ) → IsKept g → HasPlaced (act a g) s c b → WasOrActed a g s c b
act_or (Lose number slot) g s c b kept x = inl (was_there g (act (Lose number slot) g) s c b (act_sizes (Lose number slot) g) (refl, refl) x)
act_or (Look job n k) g s c b kept x = inl (was_there g (act (Look job n k) g) s c b (act_sizes (Look job n k) g) (look_same s c job n k g) x)
act_or (PutNext job block) g s c b kept x = elim (within_or g.state.table.stripes job block g s c b kept x) [
  | inl before ↦ inl before
  | inr now ↦ inr (job, ap (PutNext job) (sym now.1), subst (λ y. (put job y g).place ≡ Some (s, c)) (sym now.1) now.0)
]
act_or (Mend job n k blind) g s c b kept x = inl (was_there g (act (Mend job n k blind) g) s c b (act_sizes (Mend job n k blind) g) (mend_same s c job n k blind g) x)
act_or (MoveBegin job k to) g s c b kept x = inl (was_there g (act (MoveBegin job k to) g) s c b (act_sizes (MoveBegin job k to) g) (refl, refl) x)
act_or (MoveOne job k) g s c b kept x = inl (was_there g (act (MoveOne job k) g) s c b (act_sizes (MoveOne job k) g) (move_same s c job k g) x)
act_or (Swap job k to) g s c b kept x = inl (was_there g (act (Swap job k to) g) s c b (act_sizes (Swap job k to) g) (swap_same s c job k to g) x)

-- ALL GROUPS

-- it stood there before the move, or the move put it there
abbrev pub WasOrMoved : Move → List WorldGroup → ℕ → ℕ → ℕ → List ℕ → Type 0
WasOrMoved m gs n s c b = HasPlacedAt n s c b gs ⊎ ((job : ℕ) × (m ≡ Makes n (PutNext job b)) × PutAnswersPlace n job b s c gs)

module _ (s c : ℕ) (b : List ℕ) where
  lost_or : (n number slot : ℕ) (gs : List WorldGroup) → HasPlacedAt n s c b (map (lose number slot) gs) → HasPlacedAt n s c b gs
  unfolding HasPlacedAt
  lost_or n number slot [] h = h
  lost_or zero number slot (g ∷ gs) h = was_there g (lose number slot g) s c b (refl, refl) (refl, refl) h
  lost_or (suc n) number slot (g ∷ gs) h = lost_or n number slot gs h

  one_or : (used : ℕ → Bool) (n m : ℕ) (a : Act) (gs : List WorldGroup) → EachGroup (IsGood used) gs → HasPlacedAt n s c b (at_group m (act a) gs)
      → HasPlacedAt n s c b gs ⊎ ((n ≡ m) × (job : ℕ) × (a ≡ PutNext job b) × PutAnswersPlace n job b s c gs)
  unfolding HasPlacedAt EachGroup at_group PutAnswersPlace
  one_or used n m a [] good h = inl h
  one_or used zero zero a (g ∷ gs) good h = elim (act_or a g s c b good.0.0 h) [ inl before ↦ inl before | inr now ↦ inr (refl, now.0, now.1, now.2) ]
  one_or used zero (suc m) a (g ∷ gs) good h = inl h
  one_or used (suc n) zero a (g ∷ gs) good h = inl h
  one_or used (suc n) (suc m) a (g ∷ gs) good h = elim (one_or used n m a gs good.1 h) [ inl before ↦ inl before | inr now ↦ inr (ap suc now.0, now.1, now.2, now.3) ]

  pub moved_or : (n : ℕ) (m : Move) (x : Site) → AllGood x → HasPlacedAt n s c b (moved m x).groups → WasOrMoved m x.groups n s c b
  moved_or n (Loses number slot) x good h = inl (lost_or n number slot x.groups h)
  moved_or n (Makes m a) x good h = elim (one_or x.used n m a x.groups good h) [
    | inl before ↦ inl before
    | inr now ↦ inr (now.1, ap (λ i. Makes i a) (sym now.0) ∙ ap (Makes n) now.2, now.3)
  ]

-- A PUT THAT IS ALLOWED

pub allowed_block : (used : ℕ → Bool) (n job : ℕ) (block : List ℕ) (gs : List WorldGroup) → IsAllowedAt used n (PutNext job block) gs → IsBlock block
unfolding IsAllowedAt
allowed_block used n job block [] is = absurd is
allowed_block used zero job block (g ∷ gs) is = is
allowed_block used (suc n) job block (g ∷ gs) is = allowed_block used n job block gs is

pub puts_at : (used : ℕ → Bool) (n job : ℕ) (block : List ℕ) (s c : ℕ) (gs : List WorldGroup) → IsAllowedAt used n (PutNext job block) gs → (put job block (slice_index_or gs n no_group)).place ≡ Some (s, c) → PutAnswersPlace n job block s c gs
unfolding IsAllowedAt PutAnswersPlace
puts_at used n job block s c [] is e = absurd is
puts_at used zero job block s c (g ∷ gs) is e = e
puts_at used (suc n) job block s c (g ∷ gs) is e = puts_at used n job block s c gs is e

pub put_of : (n job : ℕ) (block : List ℕ) (s c : ℕ) (gs : List WorldGroup) → PutAnswersPlace n job block s c gs → (put job block (slice_index_or gs n no_group)).place ≡ Some (s, c)
unfolding PutAnswersPlace
put_of n job block s c [] p = absurd p
put_of zero job block s c (g ∷ gs) p = p
put_of (suc n) job block s c (g ∷ gs) p = put_of n job block s c gs p

pub written_at : (n s c : ℕ) (block : List ℕ) (gs : List WorldGroup) → HasPlacedAt n s c block gs → (slice_index_or gs n no_group).written s c ≡ block
unfolding HasPlacedAt
written_at n s c block [] h = absurd h
written_at zero s c block (g ∷ gs) h = h.written
written_at (suc n) s c block (g ∷ gs) h = written_at n s c block gs h

-- a put of other bytes comes to the same place of a group that is alike
seen_alike : (exchanges : Bool) (sight : Sight) (g h : WorldGroup) → SeesSame exchanges sight g h → Alike g h
seen_alike exchanges Whole g h e = subst (λ x. Alike g x) (sym e) (record { table = refl; log = refl; held = λ n slot. refl })
seen_alike exchanges (One k) g h x = x.0.alike
seen_alike exchanges Blind g h x = x

pub puts_alike : (exchanges : Bool) (sights : ℕ → Sight) (n job : ℕ) (block other : List ℕ) (s c : ℕ) (gs hs : List WorldGroup) → AllSame exchanges sights gs hs → PutAnswersPlace n job block s c gs → PutAnswersPlace n job other s c hs
unfolding AllSame PutAnswersPlace
puts_alike exchanges sights n job block other s c [] hs same p = absurd p
puts_alike exchanges sights n job block other s c (g ∷ gs) [] same p = absurd same
puts_alike exchanges sights zero job block other s c (g ∷ gs) (h ∷ hs) same p = sym (keeps_alike.put job block other g h (seen_alike exchanges (sights 0) g h same.0)).1 ∙ p
puts_alike exchanges sights (suc n) job block other s c (g ∷ gs) (h ∷ hs) same p = puts_alike exchanges (λ i. sights (suc i)) n job block other s c gs hs same.1 p

-- THROUGH SESSIONS

good_again : (used : ℕ → Bool) (gs : List WorldGroup) → EachGroup (IsGood used) gs → EachGroup (IsGood used) (map reopened gs)
unfolding EachGroup
good_again used [] h = tt
good_again used (g ∷ gs) h = (good_anew used g h.0, good_again used gs h.1)

pub reopened_good : (x : Site) → AllGood x → AllGood (reopened_site x)
reopened_good x good = good_again x.used x.groups good

pub good_on : (moves : List Move) (x y : Site) → AllGood x → Reaches x moves y → AllGood y
unfolding Reaches
good_on [] x y good r = subst AllGood (sym r) good
good_on (m ∷ moves) x y good r = good_on moves (moved m x) y (moves_keep m x r.0 good) r.1

module _ (s c : ℕ) (block : List ℕ) where
  pub reopened_there : (n : ℕ) (gs : List WorldGroup) → HasPlacedAt n s c block gs → HasPlacedAt n s c block (map reopened gs)
  unfolding HasPlacedAt
  reopened_there n [] h = h
  reopened_there zero (g ∷ gs) h = record { stripe = h.stripe; column = h.column; used = h.used; written = h.written }
  reopened_there (suc n) (g ∷ gs) h = reopened_there n gs h

  pub before_reopened : (n : ℕ) (gs : List WorldGroup) → HasPlacedAt n s c block (map reopened gs) → HasPlacedAt n s c block gs
  unfolding HasPlacedAt
  before_reopened n [] h = h
  before_reopened zero (g ∷ gs) h = record { stripe = h.stripe; column = h.column; used = h.used; written = h.written }
  before_reopened (suc n) (g ∷ gs) h = before_reopened n gs h

module _ (n s c : ℕ) (block : List ℕ) where
  pub stays_on : (moves : List Move) (x y : Site) → AllGood x → Reaches x moves y → HasPlacedAt n s c block x.groups → HasPlacedAt n s c block y.groups
  unfolding Reaches
  stays_on [] x y good r h = subst (λ (z : Site). HasPlacedAt n s c block z.groups) (sym r) h
  stays_on (m ∷ moves) x y good r h = stays_on moves (moved m x) y (moves_keep m x r.0 good) r.1 (move_still s c block n m x good r.0 h)

  pub stays_through : (x : Site) (sessions : List (List Move)) (z : Site) → Sessions x sessions z → AllGood x → HasPlacedAt n s c block x.groups → HasPlacedAt n s c block z.groups
  stays_through x [] z run good h = subst (λ (y : Site). HasPlacedAt n s c block y.groups) (sym run) h
  stays_through x (moves ∷ more) z run good h =
      stays_through run.0 more z run.2 (good_on moves (reopened_site x) run.0 (reopened_good x good) run.1)
      (stays_on moves (reopened_site x) run.0 (reopened_good x good) run.1 (reopened_there s c block n x.groups h))

-- a move that puts a block at a place
pub puts_now : (x : Site) (n job s c : ℕ) (block : List ℕ) → AllGood x → may (Makes n (PutNext job block)) x → (put job block (slice_index_or x.groups n no_group)).place ≡ Some (s, c)
    → HasPlacedAt n s c block (moved (Makes n (PutNext job block)) x).groups
puts_now x n job s c block good is e = puts_there s c block x.used n job x.groups good (allowed_block x.used n job block x.groups is) (puts_at x.used n job block s c x.groups is e)
