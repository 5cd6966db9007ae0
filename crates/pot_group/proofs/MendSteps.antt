-- A mend as a step of a group.
use Rattle.std.proofs.Common.{◌≡◌, ◌≢◌, inl, inr, ℕ, ◌<◌, List, [], ◌∷◌, Option, Some, None, IsSomeAnd, true, false, Bool, IsTrue, length, refl, sym, ap, ◌∙◌, subst, arith}
use Rattle.std.specs.Prelude.{Ok, Err, Result, ◌==◌, ◌↔◌, slice_index_or, find, if◌then◌else◌}
use Rattle.pot_bytes.specs.declared.rack.Place.{Place}
use Rattle.std.proofs.lemmas.Bool.Decides.{nat_tests}
use Rattle.std.proofs.lemmas.Bool.{eqb-true, eq-eqb}
use Rattle.pot_bytes.specs.declared.digest.Digest.{Digest}
use Rattle.pot_bytes.specs.Rack.{log_bound}
use Rattle.pot_machine.specs.declared.relay.Relay.{Relay}
use Rattle.pot_machine.specs.Slot.{is_unsound}
use Rattle.pot_machine.specs.Table.{Table, width, slot_at, relay_at, relay_in}
use Rattle.pot_steps.specs.RelaySteps.{MovesRelay, no_relay}
use Rattle.pot_group.specs.declared.relaying.Advanced.{Advanced}
use Rattle.pot_group.specs.declared.relaying.Advanced.TheVariants as advanced
use Rattle.pot_group.specs.declared.relaying.AdvanceFault.{AdvanceFault}
use Rattle.pot_group.specs.declared.relaying.AdvanceFault.TheVariants as failed
use Rattle.pot_group.specs.declared.relaying.BeginFault.{BeginFault}
use Rattle.pot_group.specs.declared.relaying.BeginFault.TheVariants as fault
use Rattle.pot_group.specs.declared.relaying.Mend.{Mend}
use Rattle.pot_group.specs.declared.relaying.Mend.TheVariants as mend
use Rattle.pot_machine.specs.declared.entry.Entry.{Entry}
use Rattle.pot_machine.specs.Machine.{after}
use Rattle.pot_machine.specs.declared.entry.Entry.TheVariants.{Begin, Stuck}
use Rattle.pot_steps.specs.Mending.{LosesNothing}
use Rattle.pot_steps.proofs.Acting.{Lessens}
use Rattle.pot_shelves.specs.Shelves.{Keeps, LosesByCount, NoneLost}
use Rattle.pot_group.specs.Group.{GroupView, IsSettled, state_of}
use Rattle.pot_group.specs.Relaying.{Drives, Moves, Owns, answered}
use Rattle.pot_group.specs.Calls.{AdvanceCall, BeginCall, Made, MendCall}
use Rattle.pot_group.proofs.BeginSteps.{crowded}
use Rattle.pot_group.proofs.Lossless.{lossless_less, lossless_same}
use Rattle.pot_shelves.proofs.ShelfLemmas.{keeps_refl, loses_refl}

pub stands_some : (o : Option Relay) (P : Relay → Type 0) → IsSomeAnd o P → o ≢ None
stands_some (Some r) P h e = cc
stands_some None P h e = h

pub owns_where : (t : Table) (s k c : ℕ) → IsSomeAnd (relay_at t s) (λ r. r.target ≡ k) → IsTrue (k == c) ↔ Owns t s s c
owns_where t s k c h = (λ e. there (relay_at t s) h (eqb-true k c e), λ o. eq-eqb k c (back (relay_at t s) h o))
  where
    there : (o : Option Relay) → IsSomeAnd o (λ r. r.target ≡ k) → k ≡ c → IsSomeAnd o (λ r. (s ≡ s) × (r.target ≡ c))
    there (Some r) h e = (refl, h ∙ e)
    there None h e = absurd h

    back : (o : Option Relay) → IsSomeAnd o (λ r. r.target ≡ k) → IsSomeAnd o (λ r. (s ≡ s) × (r.target ≡ c)) → k ≡ c
    back (Some r) h w = sym h ∙ w.1
    back None h w = absurd h

-- the first of all relays stands in its stripe
first_stands : (rs : List Relay) → length rs ≡ 16 → relay_in rs (slice_index_or rs 0 no_relay).stripe ≢ None
first_stands [] l e = absurd (cc)
first_stands (r ∷ rs) l e = some (r.stripe == r.stripe) (itself r.stripe) (find (λ q. q.stripe == r.stripe) rs) e
  where
    itself : (a : ℕ) → (a == a) ≡ true
    itself a = grind (arith, nat_tests)

    some : (b : Bool) → b ≡ true → (o : Option Relay) → (if b then Some r else o) ≡ None → ⊥
    some true q o e = cc
    some false q o e = cc

module _ (told : Type 0) (job : ℕ) (place : Place) (blind : List ℕ) where
  abbrev Begins : Result (Unit {0}) BeginFault → GroupView → GroupView → Type 0
  Begins answer old new = Made (BeginCall told job place blind answer) old new

  abbrev pub Mends : Mend → GroupView → GroupView → Type 0
  Mends answer old new = Made (MendCall told job place blind answer) old new

  -- A BEGIN ALONE

  module _ (old new : GroupView) where
    -- a begin leaves the archives, and writes nothing
    keeps_same : new.shelves ≡ old.shelves → Keeps old.shelves new.shelves
    keeps_same e = subst (λ s. Keeps old.shelves s) (sym e) (keeps_refl old.shelves)

    loses_same : new.shelves ≡ old.shelves → LosesByCount old.shelves.held old.shelves new.shelves
    loses_same e = subst (λ s. LosesByCount old.shelves.held old.shelves s) (sym e) (loses_refl old.shelves)

    lossless_one : (e : Entry) → Lessens e → new.table ≡ after old.table e → new.shelves ≡ old.shelves → NoneLost old.shelves new.shelves
        → LosesNothing (state_of old) (state_of new)
    lossless_one e less table shelves none = lossless_less old new old.shelves.held (loses_same shelves) none (λ n k x ln lk live q. q) e less table

    lossless_none : new ≡ old → LosesNothing (state_of old) (state_of new)
    lossless_none e = subst (λ (g : GroupView). LosesNothing (state_of old) (state_of g)) (sym e) (lossless_same old)

    pub began_mends : Begins (Ok (tt)) old new → Mends mend.Began old new
    began_mends (entries, grows, row) = (
      entries,
      grows,
      record {
        tells = row.tells;
        keeps = keeps_same row.tells.3;
        step = row.step;
        lossless = λ t none. lossless_one (Begin job place.stripe place.column) tt row.tells.2.table row.tells.3 none;
        writes = λ t. loses_same row.tells.3;
      },
    )

    pub stuck_mends : (first second : ℕ) → Begins (Err (fault.TwoGone first second)) old new → Mends (mend.TwoGone first second) old new
    stuck_mends first second (entries, grows, row) = (
      entries,
      grows,
      record {
        tells = row.tells;
        keeps = keeps_same row.tells.4;
        step = row.step;
        lossless = λ t none. lossless_one (Stuck job place.stripe place.column second) tt row.tells.3.table row.tells.4 none;
        writes = λ t. loses_same row.tells.4;
      },
    )

    pub whole_mends : Begins (Err fault.Whole) old new → Mends mend.Whole old new
    whole_mends (entries, grows, row) = (
      entries,
      grows,
      record {
        tells = row.tells;
        keeps = keeps_same (ap (λ (g : GroupView). g.shelves) row.tells.1);
        step = row.step;
        lossless = λ t none. lossless_none row.tells.1;
        writes = λ t. loses_same (ap (λ (g : GroupView). g.shelves) row.tells.1);
      },
    )

    pub full_mends : Begins (Err fault.LogFull) old new → Mends mend.LogFull old new
    full_mends (entries, grows, row) = (
      entries,
      grows,
      record {
        tells = row.tells;
        keeps = keeps_same (ap (λ (g : GroupView). g.shelves) row.tells.1);
        step = row.step;
        lossless = λ t none. lossless_none row.tells.1;
        writes = λ t. loses_same (ap (λ (g : GroupView). g.shelves) row.tells.1);
      },
    )

  -- AN ADVANCE FOR A MEND

  module _ (n : ℕ) (old new : GroupView) (room : length old.log < log_bound) (there : relay_at old.table n ≢ None) (unsound : IsTrue (is_unsound (slot_at old.table place.stripe place.column)))
      (which : MovesRelay old.table place.stripe place.column n) where
    abbrev Advanced_by : Result Advanced AdvanceFault → Type 0
    Advanced_by r = Made (AdvanceCall told job n r) old new

    abbrev drives : (own : Bool) (r : Result Advanced AdvanceFault) (answer : Mend) → IsTrue own ↔ Owns old.table n place.stripe place.column → answer ≡ answered own r
        → Moves job n r old new → Drives job place.stripe place.column answer old new
    drives own r answer owns is moves = record {
      unsound = unsound;
      stripe = n;
      own = own;
      result = r;
      which = which;
      owns = owns;
      is = is;
      moves = moves;
    }

    odd : (own : Bool) (wanted found : Digest) → IsTrue own ↔ Owns old.table n place.stripe place.column → Advanced_by (Err (failed.Odd wanted found))
        → Mends (if own then mend.Odd wanted found else mend.Passed) old new
    odd true wanted found owns (entries, grows, row) = (
      entries,
      grows,
      record {
        tells = (room, (drives true (Err (failed.Odd wanted found)) (mend.Odd wanted found) owns refl row.tells.1, row.tells.2));
        keeps = row.keeps;
        step = λ t. (unsound, (n, which, (row.step t, owns.0 refl)));
        lossless = row.lossless;
        writes = λ t. (n, Err (failed.Odd wanted found), which, row.tells.1, row.writes t);
      },
    )
    odd false wanted found owns (entries, grows, row) = (
      entries,
      grows,
      record {
        tells = (room, (drives false (Err (failed.Odd wanted found)) mend.Passed owns refl row.tells.1, row.tells.2));
        keeps = row.keeps;
        step = λ t. (unsound, (n, which, inr (inr (inr (wanted, found, row.step t, λ o. no (owns.1 o))))));
        lossless = row.lossless;
        writes = λ t. (n, Err (failed.Odd wanted found), which, row.tells.1, row.writes t);
      },
    )
      where
        no : IsTrue false → ⊥
        no e = cc

    pub driven : (own : Bool) (r : Result Advanced AdvanceFault) → IsTrue own ↔ Owns old.table n place.stripe place.column → Advanced_by r → Mends (answered own r) old new
    driven own (Ok advanced.Hopped) owns (entries, grows, row) = (
      entries,
      grows,
      record {
        tells = (room, (drives own (Ok advanced.Hopped) mend.Extends owns refl row.tells.1, row.tells.2));
        keeps = row.keeps;
        step = λ t. (unsound, (n, which, inl (row.step t)));
        lossless = row.lossless;
        writes = λ t. (n, Ok advanced.Hopped, which, row.tells.1, row.writes t);
      },
    )
    driven own (Ok advanced.Mended) owns (entries, grows, row) = (
      entries,
      grows,
      record {
        tells = (room, (drives own (Ok advanced.Mended) mend.Mended owns refl row.tells.1, row.tells.2));
        keeps = row.keeps;
        step = λ t. (unsound, (n, which, inr (inl (row.step t))));
        lossless = row.lossless;
        writes = λ t. (n, Ok advanced.Mended, which, row.tells.1, row.writes t);
      },
    )
    driven own (Ok advanced.Ended) owns (entries, grows, row) = (
      entries,
      grows,
      record {
        tells = (room, (drives own (Ok advanced.Ended) mend.Extends owns refl row.tells.1, row.tells.2));
        keeps = row.keeps;
        step = λ t. (unsound, (n, which, inr (inr (inl (row.step t)))));
        lossless = row.lossless;
        writes = λ t. (n, Ok advanced.Ended, which, row.tells.1, row.writes t);
      },
    )
    driven own (Err (failed.Faulted column)) owns (entries, grows, row) = (
      entries,
      grows,
      record {
        tells = (room, (drives own (Err (failed.Faulted column)) (mend.Faulted column) owns refl row.tells.1, row.tells.2));
        keeps = row.keeps;
        step = λ t. (unsound, (n, which, row.step t));
        lossless = row.lossless;
        writes = λ t. (n, Err (failed.Faulted column), which, row.tells.1, row.writes t);
      },
    )
    driven own (Err (failed.Odd wanted found)) owns row = odd own wanted found owns row
    driven own (Err failed.LogFull) owns (entries, grows, row) = (let f : length old.log ≡ 262144 = row.tells.2 in absurd (omega (arith, room)))
    driven own (Err failed.Idle) owns (entries, grows, row) = absurd (there row.tells.3)

  module _ (old mid new : GroupView) where
    pub standing_mends : (k : ℕ) (r : Result Advanced AdvanceFault) → Begins (Err (fault.Standing k)) old mid → Made (AdvanceCall told job place.stripe r) mid new
        → Mends (answered (k == place.column) r) old new
    standing_mends k r (entries, grows, row) a =
        let m = row.tells in
        let stands : relay_at old.table place.stripe ≢ None = stands_some (relay_at old.table place.stripe) (λ r. r.target ≡ k) m.4 in
        driven place.stripe old new m.2 stands m.3 (inl (stands, refl)) (k == place.column) r (owns_where old.table place.stripe k place.column m.4)
        (subst (λ (g : GroupView). Made (AdvanceCall told job place.stripe r) g new) m.1 a)

    module _ (settled : IsSettled told old) (within : place.stripe < old.table.stripes) (column : place.column < width old.table) (b : Begins (Err fault.Crowded) old mid) where
      sixteen : length old.table.relays ≡ 16
      sixteen = (let m = b.2.tells in crowded old.table place.stripe place.column settled.table within column m.3 m.4 m.5 job m.6)

      pub full_relays : length mid.table.relays ≡ 16
      full_relays = subst (λ (g : GroupView). length g.table.relays ≡ 16) (sym b.2.tells.1) sixteen

      pub crowded_mends : (n : ℕ) (r : Result Advanced AdvanceFault) → (length mid.table.relays ≡ 16 → n ≡ (slice_index_or mid.table.relays 0 no_relay).stripe)
          → Made (AdvanceCall told job n r) mid new → Mends (answered false r) old new
      crowded_mends n r first a =
          let m = b.2.tells in
          driven n old new m.2 there m.3 (inr (m.4, m.5, sixteen, is_first)) false r (λ e. absurd (no e), λ o. absurd (away (relay_at old.table n) o))
          (subst (λ (g : GroupView). Made (AdvanceCall told job n r) g new) m.1 a)
        where
          no : IsTrue false → ⊥
          no e = cc

          is_first : n ≡ (slice_index_or old.table.relays 0 no_relay).stripe
          is_first = subst (λ (g : GroupView). length g.table.relays ≡ 16 → n ≡ (slice_index_or g.table.relays 0 no_relay).stripe) b.2.tells.1 first sixteen

          there : relay_at old.table n ≢ None
          there = subst (λ k. relay_at old.table k ≢ None) (sym is_first) (first_stands old.table.relays sixteen)

          away : (o : Option Relay) → IsSomeAnd o (λ r. (n ≡ place.stripe) × (r.target ≡ place.column)) → ⊥
          away (Some r) w = there (ap (relay_at old.table) w.0 ∙ b.2.tells.4)
          away None w = w
