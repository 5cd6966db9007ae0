-- The exits of a begin and of an advance, over plain data.
use Rattle.std.proofs.Common.{◌≡◌, ◌≢◌, ◌⊎◌, inl, inr, ℕ, ◌+◌, ◌<◌, ◌++◌, List, [], ◌∷◌, Option, Some, None, IsSomeAnd, true, false, IsTrue, length, length-append, map, refl, sym, ap, ap₂, ◌∙◌, subst, arith}
use Rattle.std.specs.Prelude.{Contains, Ok, Err, nat_eq, if◌then◌else◌, ◌==◌, IsSome, take, drop}
use Rattle.pot_bytes.specs.declared.digest.Digest.{Digest}
use Rattle.pot_bytes.specs.Sums.{xor}
use Rattle.pot_bytes.specs.Weighted.{scaled}
use Rattle.pot_outside.specs.Archives.{FoldTells, HearsFold}
use Rattle.pot_outside.specs.declared.archive.Held.TheVariants.{Held, Absent}
use Rattle.pot_outside.specs.declared.faults.Failed.{Failed}
use Rattle.pot_machine.specs.declared.slot.SlotState.{SlotState}
use Rattle.pot_machine.specs.declared.slot.SlotState.TheVariants.{Void, Live, Lost, Broken}
use Rattle.pot_machine.specs.declared.entry.Entry.{Entry}
use Rattle.pot_machine.specs.declared.entry.Entry.TheVariants.{Begin, Hop, Mended, GaveUp, Fault}
use Rattle.pot_machine.specs.Slot.{is_live, is_unsound, digest_in}
use Rattle.pot_machine.specs.Table.{Table, width, slot_at, serving_at, relay_at, next_column}
use Rattle.pot_machine.specs.Machine.{Legal, after}
use Rattle.pot_machine.proofs.Columns.{serving_apart}
use Rattle.pot_steps.specs.declared.flight.Flight.{Flight}
use Rattle.pot_bytes.specs.Lists.{IsBlock}
use Rattle.pot_bytes.specs.Digests.{digest_of}
use Rattle.pot_steps.specs.Stripe.{Sound, IsSound}
use Rattle.pot_steps.specs.Flight.{partial_of, unfolded, weight_in, left_out, IsRelay}
use Rattle.std.proofs.lemmas.Bool.Decides.{nat_tests}
use Rattle.pot_steps.specs.Calls.{HopMeans, RelayStandsIn}
use Rattle.pot_steps.specs.declared.rebuilding.Hopped.TheVariants as hopped
use Rattle.pot_group.specs.Relaying.{acted, flown_to, HopsOver}
use Rattle.pot_group.specs.declared.relaying.Advanced.TheVariants as advanced
use Rattle.pot_group.specs.Group.{GroupParts, GroupView, IsSettled, state_of}
use Rattle.pot_steps.specs.Flights.{without_flight, Acts, FoldsIn, WritesBack, IsFlying, FliesOver, flight_in, flights_after, flown}
use Rattle.pot_steps.specs.Holdings.{Holdings, stripe_of}
use Rattle.pot_steps.specs.RelaySteps.{AdvanceStep, Hopped, ArchiveHears}
use Rattle.pot_steps.proofs.Acting.{weight-below}
use Rattle.pot_steps.proofs.CallLemmas.{unfolds, next_positive, next_within, stands, two_relay}
use Rattle.std.proofs.lemmas.List.{length-map}
use Rattle.std.proofs.Math.Seq.{take-append_seam}
use Rattle.std.proofs.lemmas.Bool.{cases_eq, false≢true}
use Rattle.std.proofs.lemmas.Option.{same_Some}
use Rattle.pot_bytes.specs.Rack.{log_bound}
use Rattle.pot_steps.proofs.FlightLists.{over_stripe, relay_of, relay_of_flight}
use Rattle.pot_shelves.specs.Shelves.{Shelves, Keeps, LosesByCount, FoldsAt, WritesAt, put_at}
use Rattle.pot_group.specs.Causes.{Covers, HasLost, Misses, archives_of, faults_in, fault_of, brought}
use Rattle.pot_steps.specs.Losses.{KeepsHeld}
use Rattle.pot_group.proofs.CauseLemmas.{archives_of-snoc, covers-stays}
use Rattle.pot_shelves.proofs.ShelfLemmas.{keeps_refl, loses_refl, put_at-here, put_at-other}
use Rattle.pot_group.specs.Heard.{Sum, GivesBlock, IsSumOf, blinds_after}
use Rattle.pot_group.proofs.Framing.{frames_still, frames_write}
use Rattle.pot_group.proofs.Hearing.{heard_fold}
use Rattle.pot_group.proofs.Settled.{settled_act, settled_loses, same_columns, gone_lost, no_fault, one_fault}
use Rattle.pot_group.proofs.Reading.{covers_rise, served}
use Rattle.pot_machine.specs.Rules.{IsStanding}

-- a write leaves what is held elsewhere
pub unwritten : (Writes : ℕ → ℕ → Type 0) (h : Holdings) (number slot : ℕ) (left : Option (List ℕ)) → Writes number slot → (n q : ℕ) → (Writes n q → ⊥) → put_at h number slot left n q ≡ h n q
unwritten Writes h number slot left here n q apart = put_at-other h number slot left n q (elim (cases_eq n number) [
  | inl e ↦ inr (λ k. apart (subst (λ n. Writes n q) (sym e) (subst (Writes number) (sym k) here)))
  | inr ne ↦ inl ne
])

-- One entry that names no fault. The archives are as they are.
pub quiet_act : (told : Type 0) (g : GroupView) (e : Entry) (given : List ℕ) → IsSettled told g → Legal g.table e → length g.log < log_bound
    → (after g.table e).columns ≡ g.table.columns → ((c : ℕ) → brought c e ≡ []) → (told → Acts g.table g.flights given e g.shelves.held g.shelves.held)
    → ((c : ℕ) → fault_of g.first.data_columns c e ≡ 0)
    → (told → (c : ℕ) → c < width g.first → Misses g.table e c → HasLost g.shelves (archives_of g.first g.log c)) → (told → GivesBlock g.table g.flights e given)
    → IsSettled told (record g { table = after g.table e; log = g.log ++ e ∷ []; flights = flights_after g.table e given g.flights; blinds = blinds_after e given g.blinds })
quiet_act told g e given settled legal room same none acts no_fault_of missed gives =
    settled_act told g e given g.shelves (λ t. g.shelves.held) settled legal room (keeps_refl g.shelves) (same_columns told g e g.shelves settled (keeps_refl g.shelves) same none)
    (λ t. loses_refl g.shelves) acts (λ t puts n c b ln lc live q. q)
    (λ c lc. subst (λ ns. Covers g.shelves ns (faults_in g.first.data_columns c g.log + fault_of g.first.data_columns c e)) (sym (archives_of-snoc g.first g.log c e (none c)))
    (subst (λ n. Covers g.shelves (archives_of g.first g.log c) (faults_in g.first.data_columns c g.log + n)) (sym (no_fault_of c))
    (no_fault g.shelves (archives_of g.first g.log c) (faults_in g.first.data_columns c g.log) (settled.causes.faults c lc))))
    (λ t c lc m. subst (λ ns. HasLost g.shelves ns) (sym (archives_of-snoc g.first g.log c e (none c))) (missed t c lc m))
    (λ t. frames_still g.table e g.shelves) (λ t n. refl) gives

-- A BEGIN

pub begin_exit : (told : Type 0) (g : GroupView) (job s c : ℕ) (blind : List ℕ) (t : Table) (log : List Entry) (fs : List Flight) (bs : List (List ℕ)) → IsSettled told g → Legal g.table (Begin job s c) → length g.log < log_bound → IsBlock blind
    → t ≡ after g.table (Begin job s c) → log ≡ g.log ++ Begin job s c ∷ [] → fs ≡ flights_after g.table (Begin job s c) blind g.flights → bs ≡ g.blinds ++ blind ∷ []
    → IsSettled told (record g { table = t; log = log; flights = fs; blinds = bs })
begin_exit told g job s c blind t log fs bs settled legal room block et el ef eb =
    subst (λ t. IsSettled told (record g { table = t; log = log; flights = fs; blinds = bs })) (sym et)
    (subst (λ log. IsSettled told (record g { table = after g.table (Begin job s c); log = log; flights = fs; blinds = bs })) (sym el)
    (subst (λ fs. IsSettled told (record g { table = after g.table (Begin job s c); log = g.log ++ Begin job s c ∷ []; flights = fs; blinds = bs })) (sym ef)
    (subst (λ bs. IsSettled told (record g { table = after g.table (Begin job s c); log = g.log ++ Begin job s c ∷ []; flights = flights_after g.table (Begin job s c) blind g.flights; blinds = bs })) (sym eb)
    (quiet_act told g (Begin job s c) blind settled legal room refl (λ k. refl) (λ t. (block, λ n k b ln lk live h. h)) (λ k. refl) (λ t k lk m. absurd m) (λ t. tt)))))

-- a flight for each relay: no more flights than relays
pub flights_few : (told : Type 0) (g : GroupView) → IsSettled told g → length g.flights ≡ length g.table.relays
flights_few told g settled = sym (length-map g.flights (λ f. f.relay)) ∙ ap length settled.relays

-- AN ADVANCE: WHAT A FOLD CAME TO

live_digest : (x : SlotState) (d : Digest) → IsTrue (is_live x) → digest_in x ≡ Some d → x ≡ Live d
live_digest Void d l e = absurd (cc)
live_digest (Live a) d l e = ap Live (cc)
live_digest (Lost a) d l e = absurd (cc)
live_digest (Broken a) d l e = absurd (cc)

module _ (told : Type 0) (g : GroupView) (now : Shelves) (job s c : ℕ) (f : Flight) (sum : List ℕ) (settled : IsSettled told g) (room : length g.log < log_bound)
    (here : flight_in g.flights s ≡ Some f) (next : next_column g.table f.relay ≡ Some c) (within : s < g.table.stripes) where
  over : f.relay.stripe ≡ s
  over = over_stripe g.flights s f here

  relay : relay_at g.table s ≡ Some f.relay
  relay = relay_of_flight g.table g.flights s settled.relays ∙ ap relay_of here

  standing : relay_at g.table f.relay.stripe ≡ Some f.relay
  standing = ap (relay_at g.table) over ∙ relay

  weight : ℕ
  weight = weight_in g.table.data_columns f.relay c

  column : c < width g.table
  column = next_within g.table f.relay settled.table standing c next

  flying : told → IsFlying g.table.data_columns g.table.parity (stripe_of g.table g.shelves.held s) f
  flying t = subst (λ o. FliesOver g.table.data_columns g.table.parity (stripe_of g.table g.shelves.held s) o) here (settled.flying t s within)

  -- the state after the fold
  abbrev folded : GroupView
  folded = record g { shelves = now }

  module _ (keeps : Keeps g.shelves now) (loses : told → LosesByCount g.shelves.held g.shelves now) (same : told → (n : ℕ) → now.history n ≡ g.shelves.history n)
      (sums : told → (n : ℕ) (x : Sum) → Contains (now.heard n) x → Contains (g.shelves.heard n) x ⊎ IsSumOf g.table g.flights n x)
      (tells : told → FoldTells (now.held (serving_at g.table s c)) s (weight_in g.table.data_columns f.relay c) f.sum sum (Ok Held)) where
    pub fold_settled : IsSettled told (record g { shelves = now })
    fold_settled = settled_loses told g now settled keeps loses same sums

    block : told → (block : List ℕ) × (now.held (serving_at g.table s c) s ≡ Some block) × IsBlock block × (sum ≡ xor f.sum (scaled (weight_in g.table.data_columns f.relay c) block))
    block t = tells t

    unfolds_to : (t : told) → unfolded (weight_in g.table.data_columns f.relay c) f.sum sum ≡ (block t).0
    unfolds_to t = ap (unfolded (weight_in g.table.data_columns f.relay c) f.sum) (block t).3
        ∙ unfolds (weight_in g.table.data_columns f.relay c) f.sum (block t).0 (next_positive g.table f.relay settled.table standing c next)
        (weight-below g.table.data_columns f.relay.target (left_out g.table.data_columns f.relay.target f.relay.skip) c) (flying t).sum (block t).2

    -- the block is one of the slot's digest: a hop
    module _ (live : IsTrue (is_live (slot_at g.table s c))) (digest : digest_in (slot_at g.table s c) ≡ Some (digest_of (unfolded (weight_in g.table.data_columns f.relay c) f.sum sum))) where
      folds_in : told → FoldsIn g.table now.held f c sum
      folds_in t = record {
        block = (block t).0;
        sound = subst (λ n. IsSound (stripe_of g.table now.held n) c (block t).0) (sym over) record {
          digest = digest_of (block t).0;
          live = live_digest (slot_at g.table s c) (digest_of (block t).0) live (digest ∙ ap (λ b. Some (digest_of b)) (unfolds_to t));
          held = (block t).1;
          right = refl;
        };
        is_block = (block t).2;
        grows = (block t).3;
      }

      hop_acts : told → Acts g.table g.flights sum (Hop job s c) now.held now.held
      hop_acts t = (subst (λ o. IsSomeAnd o (λ f. FoldsIn g.table now.held f c sum)) (sym here) (folds_in t), λ n k b ln lk l h. h)

      hop_legal : Legal g.table (Hop job s c)
      hop_legal = ((within, column), subst (λ o. IsSomeAnd o (λ r. next_column g.table r ≡ Some c)) (sym relay) next, live)

      pub hop_settled : IsSettled told (record g { table = after g.table (Hop job s c); log = g.log ++ Hop job s c ∷ []; flights = map (flown s c sum) g.flights; shelves = now })
      hop_settled = quiet_act told (record g { shelves = now }) (Hop job s c) sum fold_settled hop_legal room refl (λ k. refl) hop_acts (λ k. refl) (λ t k lk m. absurd m)
          (λ t. subst (λ o. IsSomeAnd o (λ x. digest_in (slot_at g.table s c) ≡ Some (digest_of (unfolded (weight_in g.table.data_columns x.relay c) x.sum sum)))) (sym here) digest)

      pub hop_step : (told → HearsFold (g.shelves.heard (serving_at g.table s c)) (now.heard (serving_at g.table s c)) s f.sum (Ok Held)) → (told → (n : ℕ) → n ≢ serving_at g.table s c → now.heard n ≡ g.shelves.heard n) → told
          → AdvanceStep job s Hopped (state_of g) (state_of (record g { table = after g.table (Hop job s c); log = g.log ++ Hop job s c ∷ []; flights = map (flown s c sum) g.flights; shelves = now }))
      hop_step hears silent t = (
        c,
        sum,
        record {
          legal = hop_legal;
          log = refl;
          room = (let l : length (g.log ++ Hop job s c ∷ []) ≡ length g.log + 1 = length-append g.log (Hop job s c ∷ []) in omega (arith, room));
          table = refl;
          flights = refl;
          before = now.held;
          now = now.held;
          lost = (λ n m b e. (loses t n).keeps m b e);
          acts = hop_acts t;
          loses = (λ n m b e. e);
          elsewhere = (λ n m b ne e. (loses t n).keeps m b e);
        },
        subst (λ o. IsSomeAnd o (λ f. ArchiveHears s c f.sum (state_of g) (state_of (record g { table = after g.table (Hop job s c); log = g.log ++ Hop job s c ∷ []; flights = map (flown s c sum) g.flights; shelves = now })))) (sym here)
            (record { here = hears t; others = silent t }),
      )

    -- it is not: the relay ends
    module _ (live : IsTrue (is_live (slot_at g.table s c))) (digest : digest_in (slot_at g.table s c) ≢ Some (digest_of (unfolded (weight_in g.table.data_columns f.relay c) f.sum sum))) where
      pub missing : told → Sound (stripe_of g.table now.held s) c → ⊥
      missing t x = digest (ap digest_in x.1.live ∙ ap Some (sym x.1.right ∙ ap digest_of (same_Some x.0 (block t).0 (sym x.1.held ∙ (block t).1) ∙ sym (unfolds_to t))))

      gave_up_legal : Legal g.table (GaveUp job s f.relay.target c)
      gave_up_legal = ((within, stands_target), subst (λ o. IsSomeAnd o (λ r. (r.target ≡ f.relay.target) × (next_column g.table r ≡ Some c))) (sym relay) (refl, next))
        where
          stands_target : f.relay.target < width g.table
          stands_target = (stands g.table f.relay settled.table standing).target

      pub ended_settled : IsSettled told (record g { table = after g.table (GaveUp job s f.relay.target c); log = g.log ++ GaveUp job s f.relay.target c ∷ []; flights = flights_after g.table (GaveUp job s f.relay.target c) [] g.flights; shelves = now })
      ended_settled = quiet_act told (record g { shelves = now }) (GaveUp job s f.relay.target c) [] fold_settled gave_up_legal room refl (λ k. refl) (λ t n k b ln lk l h. h) (λ k. refl)
          (λ t k lk m. subst (λ x. HasLost now (archives_of g.first g.log x)) m.0 (gone_lost told (record g { shelves = now }) fold_settled t s c within column m.1 (missing t))) (λ t. tt)
      -- the slot had no block of its digest

  module _ (folds : FoldsAt told (serving_at g.table s c) s (weight_in g.table.data_columns f.relay c) f.sum sum (Ok Absent) g.shelves now) where
    absent_settled : IsSettled told (record g { shelves = now })
    absent_settled = settled_loses told g now settled folds.keeps folds.loses folds.history (λ t. heard_fold g.table g.flights f s c (Ok Absent) g.shelves now here next (folds.hears t) (folds.silent t))

    absent_missing : told → Sound (stripe_of g.table now.held s) c → ⊥
    absent_missing t x = no (sym (folds.tells t) ∙ x.1.held)
      where
        no : {b : List ℕ} → None ≡ Some b → ⊥
        no e = cc

    absent_legal : Legal g.table (GaveUp job s f.relay.target c)
    absent_legal = ((within, (stands g.table f.relay settled.table standing).target), subst (λ o. IsSomeAnd o (λ r. (r.target ≡ f.relay.target) × (next_column g.table r ≡ Some c))) (sym relay) (refl, next))

    pub absent_ended : IsSettled told (record g { table = after g.table (GaveUp job s f.relay.target c); log = g.log ++ GaveUp job s f.relay.target c ∷ []; flights = flights_after g.table (GaveUp job s f.relay.target c) [] g.flights; shelves = now })
    absent_ended = quiet_act told (record g { shelves = now }) (GaveUp job s f.relay.target c) [] absent_settled absent_legal room refl (λ k. refl) (λ t n k b ln lk l h. h) (λ k. refl)
        (λ t k lk m. subst (λ x. HasLost now (archives_of g.first g.log x)) m.0 (gone_lost told (record g { shelves = now }) absent_settled t s c within column m.1 (absent_missing t))) (λ t. tt)

-- A RELAY THAT WENT OVER ALL ITS COLUMNS

-- The partial was written into the target's slot.
module _ (told : Type 0) (g : GroupView) (now : Shelves) (job s c : ℕ) (f : Flight) (settled : IsSettled told g) (room : length g.log < log_bound)
    (here : flight_in g.flights s ≡ Some f) (legal : Legal g.table (Mended job s c)) (digest : digest_in (slot_at g.table s c) ≡ Some (digest_of (partial_of f)))
    (w : WritesAt told (serving_at g.table s c) s (partial_of f) (Ok (tt)) g.shelves now) where
  column_in : c < width g.table
  column_in = legal.0.1

  abbrev ideal : told → Holdings
  ideal t = put_at g.shelves.held (serving_at g.table s c) s (Some (partial_of f))

  loses : (t : told) → LosesByCount (ideal t) g.shelves now
  loses t = subst (λ left. LosesByCount (put_at g.shelves.held (serving_at g.table s c) s left) g.shelves now) ((w.wrote t).1) (w.wrote t).2

  beside : (n k : ℕ) → k < width g.table → (n ≢ s) ⊎ (k ≢ c) → put_at g.shelves.held (serving_at g.table s c) s (Some (partial_of f)) (serving_at g.table n k) n ≡ g.shelves.held (serving_at g.table n k) n
  beside n k lk apart = put_at-other g.shelves.held (serving_at g.table s c) s (Some (partial_of f)) (serving_at g.table n k) n (elim (cases_eq n s) [
    | inl e ↦ elim apart [
      | inl ne ↦ absurd (ne e)
      | inr ne ↦ inl (subst (λ n. serving_at g.table n k ≢ serving_at g.table s c) (sym e) (serving_apart g.table s k c settled.table.columns lk column_in ne))
    ]
    | inr ne ↦ inr ne
  ])

  pub writes_back : told → WritesBack g.table g.shelves.held (put_at g.shelves.held (serving_at g.table s c) s (Some (partial_of f))) f s c
  writes_back t = record {
    digest = digest;
    written = put_at-here g.shelves.held (serving_at g.table s c) s (Some (partial_of f));
    others = λ n k ln lk apart. beside n k lk apart;
  }

  acts : (t : told) → Acts g.table g.flights [] (Mended job s c) g.shelves.held (ideal t)
  acts t = subst (λ o. IsSomeAnd o (λ x. WritesBack g.table g.shelves.held (put_at g.shelves.held (serving_at g.table s c) s (Some (partial_of f))) x s c)) (sym here) (writes_back t)

  -- the target is not Live, so the write covers no Live slot
  module _ (dead : is_live (slot_at g.table s c) ≡ false) where
    keeps_live : (t : told) → KeepsHeld g.table g.shelves.held (ideal t)
    keeps_live t n k b ln lk live h = elim (cases_eq n s) [
      | inl e ↦ elim (cases_eq k c) [
        | inl q ↦ absurd (no (sym (ap₂ (λ n k. is_live (slot_at g.table n k)) e q ∙ dead) ∙ live))
        | inr ne ↦ beside n k lk (inr ne) ∙ h
      ]
      | inr ne ↦ beside n k lk (inl ne) ∙ h
    ]
      where
        no : false ≡ true → ⊥
        no e = cc

    pub mended_settled : IsSettled told (record g { table = after g.table (Mended job s c); log = g.log ++ Mended job s c ∷ []; flights = flights_after g.table (Mended job s c) [] g.flights; shelves = now })
    mended_settled = settled_act told g (Mended job s c) [] now ideal settled legal room w.keeps (same_columns told g (Mended job s c) now settled w.keeps refl (λ k. refl)) loses acts (λ t none. keeps_live t)
        (λ k lk. subst (λ ns. Covers now ns (faults_in g.first.data_columns k g.log + 0)) (sym (archives_of-snoc g.first g.log k (Mended job s c) refl))
        (no_fault now (archives_of g.first g.log k) (faults_in g.first.data_columns k g.log)
        (covers-stays g.shelves now (archives_of g.first g.log k) (faults_in g.first.data_columns k g.log) w.keeps.later w.keeps.faults_taken (settled.causes.faults k lk))))
        (λ t k lk m. absurd m)
        (λ t. frames_write told g.table (Mended job s c) (serving_at g.table s c) s (partial_of f) (Ok (tt)) g.shelves now t w (refl, refl, digest) (Some (partial_of f)) true (λ e. absurd (false≢true (sym e))) refl) w.heard (λ t. tt)

-- THE ENTRY AFTER A FOLD

-- what a hop of pot_steps answered, with the flights that the code leaves
module _ (told : Type 0) (g : GroupView) (job : ℕ) (f : Flight) (sum : List ℕ) (settled : IsSettled told g) (room : length g.log < log_bound)
    (here : flight_in g.flights f.relay.stripe ≡ Some f) (within : f.relay.stripe < g.table.stripes) where
  next_facts : (o : Option ℕ) → next_column g.table f.relay ≡ o → IsSomeAnd o (λ c. IsTrue (is_live (slot_at g.table f.relay.stripe c)) × (told → FoldTells (g.shelves.held (serving_at g.table f.relay.stripe c)) f.relay.stripe (weight_in g.table.data_columns f.relay c) f.sum sum (Ok Held)))
      → (c : ℕ) × (next_column g.table f.relay ≡ Some c) × IsTrue (is_live (slot_at g.table f.relay.stripe c)) × (told → FoldTells (g.shelves.held (serving_at g.table f.relay.stripe c)) f.relay.stripe (weight_in g.table.data_columns f.relay c) f.sum sum (Ok Held))
  next_facts None e h = absurd h
  next_facts (Some c) e h = (c, e, h.0, h.1)

  is_relay : relay_at g.table f.relay.stripe ≡ Some f.relay
  is_relay = relay_of_flight g.table g.flights f.relay.stripe settled.relays ∙ ap relay_of here

  at_next : (P : ℕ → Type 0) (c : ℕ) → next_column g.table f.relay ≡ Some c → IsSomeAnd (next_column g.table f.relay) P → P c
  at_next P c e h = subst (λ o. IsSomeAnd o P) e h

  module _ (next : IsSomeAnd (next_column g.table f.relay) (λ c. IsTrue (is_live (slot_at g.table f.relay.stripe c)) × (told → FoldTells (g.shelves.held (serving_at g.table f.relay.stripe c)) f.relay.stripe (weight_in g.table.data_columns f.relay c) f.sum sum (Ok Held)))) where
    facts : (c : ℕ) × (next_column g.table f.relay ≡ Some c) × IsTrue (is_live (slot_at g.table f.relay.stripe c)) × (told → FoldTells (g.shelves.held (serving_at g.table f.relay.stripe c)) f.relay.stripe (weight_in g.table.data_columns f.relay c) f.sum sum (Ok Held))
    facts = next_facts (next_column g.table f.relay) refl next

    pub folded_exit : (e : Entry) (t : Table) (f2 : Flight) (log : List Entry) (fs : List Flight) → HopMeans job sum (hopped.Folded e) g.table t f f2 → log ≡ g.log ++ e ∷ [] → fs ≡ map (flown_to f.relay.stripe f2.relay.last sum) g.flights
        → IsSettled told (record g { table = t; log = log; flights = fs })
    folded_exit e t f2 log fs means el ef =
        let c : ℕ = facts.0 in
        let m : (e ≡ Hop job f.relay.stripe facts.0) × (t ≡ after g.table e) × (f2 ≡ flown f.relay.stripe facts.0 sum f) × (digest_in (slot_at g.table f.relay.stripe facts.0) ≡ Some (digest_of (unfolded (weight_in g.table.data_columns f.relay facts.0) f.sum sum))) =
        at_next (λ c. (e ≡ Hop job f.relay.stripe c) × (t ≡ after g.table e) × (f2 ≡ flown f.relay.stripe c sum f) × (digest_in (slot_at g.table f.relay.stripe c) ≡ Some (digest_of (unfolded (weight_in g.table.data_columns f.relay c) f.sum sum)))) facts.0 facts.1 means in
        subst (λ t. IsSettled told (record g { table = t; log = log; flights = fs })) (sym (m.1 ∙ ap (after g.table) m.0))
        (subst (λ log. IsSettled told (record g { table = after g.table (Hop job f.relay.stripe facts.0); log = log; flights = fs })) (sym (el ∙ ap (λ e. g.log ++ e ∷ []) m.0))
        (subst (λ fs. IsSettled told (record g { table = after g.table (Hop job f.relay.stripe facts.0); log = g.log ++ Hop job f.relay.stripe facts.0 ∷ []; flights = fs })) (sym (ef ∙ ap (λ l. map (flown_to f.relay.stripe l sum) g.flights) (ap (λ (x : Flight). x.relay.last) m.2 ∙ last_is f.relay.stripe f.relay.last facts.0)))
        (hop_settled told g g.shelves job f.relay.stripe facts.0 f sum settled room here facts.1 within (keeps_refl g.shelves) (λ t. loses_refl g.shelves) (λ t n. refl) (λ t n x h. inl h) facts.3 facts.2 m.3)))
      where
        last_is : (s : ℕ) (l : Option ℕ) (c : ℕ) → (if s == s then Some c else l) ≡ Some c
        last_is s l c = grind (arith, nat_tests)

    pub ended_exit : (e : Entry) (t : Table) (f2 : Flight) (log : List Entry) (fs : List Flight) → HopMeans job sum (hopped.Ended e) g.table t f f2 → log ≡ g.log ++ e ∷ [] → fs ≡ without_flight g.flights f.relay.stripe
        → IsSettled told (record g { table = t; log = log; flights = fs })
    ended_exit e t f2 log fs means el ef =
        let m : (e ≡ GaveUp job f.relay.stripe f.relay.target facts.0) × (t ≡ after g.table e) × (f2 ≡ f) × (digest_in (slot_at g.table f.relay.stripe facts.0) ≢ Some (digest_of (unfolded (weight_in g.table.data_columns f.relay facts.0) f.sum sum))) =
        at_next (λ c. (e ≡ GaveUp job f.relay.stripe f.relay.target c) × (t ≡ after g.table e) × (f2 ≡ f) × (digest_in (slot_at g.table f.relay.stripe c) ≢ Some (digest_of (unfolded (weight_in g.table.data_columns f.relay c) f.sum sum)))) facts.0 facts.1 means in
        subst (λ t. IsSettled told (record g { table = t; log = log; flights = fs })) (sym (m.1 ∙ ap (after g.table) m.0))
        (subst (λ log. IsSettled told (record g { table = after g.table (GaveUp job f.relay.stripe f.relay.target facts.0); log = log; flights = fs })) (sym (el ∙ ap (λ e. g.log ++ e ∷ []) m.0))
        (subst (λ fs. IsSettled told (record g { table = after g.table (GaveUp job f.relay.stripe f.relay.target facts.0); log = g.log ++ GaveUp job f.relay.stripe f.relay.target facts.0 ∷ []; flights = fs })) (sym ef)
        (ended_settled told g g.shelves job f.relay.stripe facts.0 f sum settled room here facts.1 within (keeps_refl g.shelves) (λ t. loses_refl g.shelves) (λ t n. refl) (λ t n x h. inl h) facts.3 facts.2 m.3)))

-- a flight's next column
pub next_facts_of : (told : Type 0) (g : GroupView) (f : Flight) (c : ℕ) → IsSettled told g → flight_in g.flights f.relay.stripe ≡ Some f → next_column g.table f.relay ≡ Some c
    → IsRelay g.table.data_columns 2 f.relay × (c < width g.table) × (0 < weight_in g.table.data_columns f.relay c)
next_facts_of told g f c settled here next =
    let at : relay_at g.table f.relay.stripe ≡ Some f.relay = relay_of_flight g.table g.flights f.relay.stripe settled.relays ∙ ap relay_of here in
    (two_relay g.table f.relay settled.table at, next_within g.table f.relay settled.table at c next, next_positive g.table f.relay settled.table at c next)

-- A CALL OF HOP, AS THE CODE MAKES IT

-- a part of a vector that was written in place
pub written_all : {A : Type 0} (n : ℕ) (xs ys : List A) → n ≡ length ys → length xs ≡ length ys → take n (xs ++ drop (length xs) ys) ≡ xs
written_all n xs ys e l = ap (λ m. take m (xs ++ drop (length xs) ys)) (e ∙ sym l) ∙ take-append_seam xs (drop (length xs) ys)

-- the flight stands in the table
pub stands_in_table : (told : Type 0) (g : GroupView) (f : Flight) → IsSettled told g → flight_in g.flights f.relay.stripe ≡ Some f → RelayStandsIn g.table f.relay
stands_in_table told g f settled here = record { here = relay_of_flight g.table g.flights f.relay.stripe settled.relays ∙ ap relay_of here }

-- what hop asks for, without what archives tell
pub next_live : (told : Type 0) (P : ℕ → Type 0) (Q : ℕ → Type 0) (o : Option ℕ) → IsSomeAnd o (λ c. P c × (told → Q c)) → IsSomeAnd o P
next_live told P Q None h = h
next_live told P Q (Some c) h = h.0

-- what the relay's end says of the group
some_map : (P Q : ℕ → Type 0) → ((c : ℕ) → P c → Q c) → (o : Option ℕ) → IsSomeAnd o P → IsSomeAnd o Q
some_map P Q f None h = h
some_map P Q f (Some c) h = f c h

pub ended_means : {A : Type 0} (job : ℕ) (sum : List ℕ) (old v : GroupParts A) (e : Entry) (t : Table) (f f2 : Flight) (log : List Entry) (fs : List Flight) → v ≡ old
    → HopMeans job sum (hopped.Ended e) v.table t f f2 → log ≡ v.log ++ e ∷ [] → fs ≡ without_flight v.flights f.relay.stripe
    → HopsOver job sum advanced.Ended f old (record v { table = t; log = log; flights = fs })
ended_means job sum old v e t f f2 log fs is means el ef = subst (λ o. HopsOver job sum advanced.Ended f o (record v { table = t; log = log; flights = fs })) is
    (some_map _ _ (λ c m. (
      m.3,
      ap (λ t. record v { table = t; log = log; flights = fs }) (m.1 ∙ ap (after v.table) m.0)
          ∙ ap (λ l. record v { table = after v.table (GaveUp job f.relay.stripe f.relay.target c); log = l; flights = fs }) (el ∙ ap (λ e. v.log ++ e ∷ []) m.0)
          ∙ ap (λ x. record v { table = after v.table (GaveUp job f.relay.stripe f.relay.target c); log = v.log ++ GaveUp job f.relay.stripe f.relay.target c ∷ []; flights = x }) ef,
    )) (next_column v.table f.relay) means)

-- A FLIGHT THAT IS LEFT

module _ (told : Type 0) (g : GroupView) (job : ℕ) (f : Flight) (settled : IsSettled told g) (room : length g.log < log_bound)
    (here : flight_in g.flights f.relay.stripe ≡ Some f) (within : f.relay.stripe < g.table.stripes) where
  at_relay : relay_at g.table f.relay.stripe ≡ Some f.relay
  at_relay = relay_of_flight g.table g.flights f.relay.stripe settled.relays ∙ ap relay_of here

  left_one : (c : ℕ) → next_column g.table f.relay ≡ Some c → (told → Sound (stripe_of g.table g.shelves.held f.relay.stripe) c → ⊥) → (e : Entry) (t : Table) (log : List Entry) (fs : List Flight)
      → e ≡ GaveUp job f.relay.stripe f.relay.target c → Legal g.table e → t ≡ after g.table e → log ≡ g.log ++ e ∷ [] → fs ≡ without_flight g.flights f.relay.stripe
      → IsSettled told (record g { table = t; log = log; flights = fs })
  left_one c next missing e t log fs ee legal et el ef =
      subst (λ t. IsSettled told (record g { table = t; log = log; flights = fs })) (sym (et ∙ ap (after g.table) ee))
      (subst (λ log. IsSettled told (record g { table = after g.table (GaveUp job f.relay.stripe f.relay.target c); log = log; flights = fs })) (sym (el ∙ ap (λ e. g.log ++ e ∷ []) ee))
      (subst (λ fs. IsSettled told (record g { table = after g.table (GaveUp job f.relay.stripe f.relay.target c); log = g.log ++ GaveUp job f.relay.stripe f.relay.target c ∷ []; flights = fs })) (sym ef)
      (quiet_act told g (GaveUp job f.relay.stripe f.relay.target c) [] settled (subst (λ e. Legal g.table e) ee legal) room refl (λ k. refl) (λ t n k b ln lk l h. h) (λ k. refl)
      (λ t k lk m. subst (λ x. HasLost g.shelves (archives_of g.first g.log x)) m.0 (gone_lost told g settled t f.relay.stripe c within (next_within g.table f.relay settled.table at_relay c next) m.1 (missing t))) (λ t. tt))))

  pub left_exit : (o : Option ℕ) → next_column g.table f.relay ≡ o → IsSomeAnd o (λ c. told → Sound (stripe_of g.table g.shelves.held f.relay.stripe) c → ⊥) → (e : Entry) (t : Table) (log : List Entry) (fs : List Flight)
      → IsSomeAnd o (λ c. e ≡ GaveUp job f.relay.stripe f.relay.target c) → Legal g.table e → t ≡ after g.table e → log ≡ g.log ++ e ∷ [] → fs ≡ without_flight g.flights f.relay.stripe
      → IsSettled told (record g { table = t; log = log; flights = fs })
  left_exit None eo missing e t log fs ee legal et el ef = absurd missing
  left_exit (Some c) eo missing e t log fs ee legal et el ef = left_one c eo missing e t log fs ee legal et el ef

pub is_some_next : (P : ℕ → Type 0) (o : Option ℕ) → IsSomeAnd o P → IsSome o
is_some_next P None h = absurd h
is_some_next P (Some c) h = refl

-- the table, the log and the flights of a group that left a flight
pub left_means : {A : Type 0} (job : ℕ) (old v : GroupParts A) (e : Entry) (t : Table) (f : Flight) (log : List Entry) (fs : List Flight) → v ≡ old
    → IsSomeAnd (next_column v.table f.relay) (λ c. e ≡ GaveUp job f.relay.stripe f.relay.target c) → t ≡ after v.table e → log ≡ v.log ++ e ∷ [] → fs ≡ without_flight v.flights f.relay.stripe
    → IsSomeAnd (next_column old.table f.relay) (λ c. record v { table = t; log = log; flights = fs } ≡ acted old (GaveUp job f.relay.stripe f.relay.target c) [])
left_means job old v e t f log fs is ee et el ef = subst (λ o. IsSomeAnd (next_column o.table f.relay) (λ c. record v { table = t; log = log; flights = fs } ≡ acted o (GaveUp job f.relay.stripe f.relay.target c) [])) is
    (some_map _ _ (λ c m. ap (λ t. record v { table = t; log = log; flights = fs }) (et ∙ ap (after v.table) m)
    ∙ ap (λ l. record v { table = after v.table (GaveUp job f.relay.stripe f.relay.target c); log = l; flights = fs }) (el ∙ ap (λ e. v.log ++ e ∷ []) m)
    ∙ ap (λ x. record v { table = after v.table (GaveUp job f.relay.stripe f.relay.target c); log = v.log ++ GaveUp job f.relay.stripe f.relay.target c ∷ []; flights = x }) ef) (next_column v.table f.relay) ee)

-- A FLIGHT THAT WRITES ITS TARGET

module _ (told : Type 0) (g : GroupView) (now : Shelves) (job : ℕ) (f : Flight) (block : List ℕ) (settled : IsSettled told g) (room : length g.log < log_bound)
    (here : flight_in g.flights f.relay.stripe ≡ Some f) (next : next_column g.table f.relay ≡ None) where
  of_table : relay_at g.table f.relay.stripe ≡ Some f.relay
  of_table = relay_of_flight g.table g.flights f.relay.stripe settled.relays ∙ ap relay_of here

  at_place : IsStanding g.table f.relay
  at_place = stands g.table f.relay settled.table of_table

  pub target_wide : f.relay.target < width g.table
  target_wide = at_place.target

  pub mended_legal : Legal g.table (Mended job f.relay.stripe f.relay.target)
  mended_legal = ((at_place.stripe, at_place.target), subst (λ o. IsSomeAnd o (λ r. (r.target ≡ f.relay.target) × (next_column g.table r ≡ None))) (sym of_table) (refl, next))

  pub fault_legal : Legal g.table (Fault job f.relay.stripe f.relay.target)
  fault_legal = (at_place.stripe, at_place.target)

  not_live : (x : SlotState) → IsTrue (is_unsound x) → is_live x ≡ false
  not_live Void u = refl
  not_live (Live d) u = absurd (cc)
  not_live (Lost d) u = refl
  not_live (Broken d) u = refl

  dead : is_live (slot_at g.table f.relay.stripe f.relay.target) ≡ false
  dead = not_live (slot_at g.table f.relay.stripe f.relay.target) at_place.unsound

  pub mended_exit : (block ≡ partial_of f) → digest_in (slot_at g.table f.relay.stripe f.relay.target) ≡ Some (digest_of block)
      → WritesAt told (serving_at g.table f.relay.stripe f.relay.target) f.relay.stripe block (Ok (tt)) g.shelves now → (e : Entry) (t : Table) (log : List Entry) (fs : List Flight)
      → e ≡ Mended job f.relay.stripe f.relay.target → t ≡ after g.table e → log ≡ g.log ++ e ∷ [] → fs ≡ without_flight g.flights f.relay.stripe
      → IsSettled told (record g { table = t; log = log; flights = fs; shelves = now })
  mended_exit is digest w e t log fs ee et el ef =
      subst (λ t. IsSettled told (record g { table = t; log = log; flights = fs; shelves = now })) (sym (et ∙ ap (after g.table) ee))
      (subst (λ log. IsSettled told (record g { table = after g.table (Mended job f.relay.stripe f.relay.target); log = log; flights = fs; shelves = now })) (sym (el ∙ ap (λ e. g.log ++ e ∷ []) ee))
      (subst (λ fs. IsSettled told (record g { table = after g.table (Mended job f.relay.stripe f.relay.target); log = g.log ++ Mended job f.relay.stripe f.relay.target ∷ []; flights = fs; shelves = now })) (sym ef)
      (mended_settled told g now job f.relay.stripe f.relay.target f settled room here mended_legal (digest ∙ ap (λ b. Some (digest_of b)) is)
      (subst (λ b. WritesAt told (serving_at g.table f.relay.stripe f.relay.target) f.relay.stripe b (Ok (tt)) g.shelves now) is w) dead)))

  pub untouched : (left : Option (List ℕ)) (n k : ℕ) → k < width g.table → IsTrue (is_live (slot_at g.table n k)) → put_at g.shelves.held (serving_at g.table f.relay.stripe f.relay.target) f.relay.stripe left (serving_at g.table n k) n ≡ g.shelves.held (serving_at g.table n k) n
  untouched left n k lk live = put_at-other g.shelves.held (serving_at g.table f.relay.stripe f.relay.target) f.relay.stripe left (serving_at g.table n k) n (elim (cases_eq n f.relay.stripe) [
    | inl e ↦ elim (cases_eq k f.relay.target) [
      | inl q ↦ absurd (clash (sym (ap₂ (λ n k. is_live (slot_at g.table n k)) e q ∙ dead) ∙ live))
      | inr ne ↦ inl (subst (λ n. serving_at g.table n k ≢ serving_at g.table f.relay.stripe f.relay.target) (sym e) (serving_apart g.table f.relay.stripe k f.relay.target settled.table.columns lk at_place.target ne))
    ]
    | inr ne ↦ inr ne
  ])
    where
      clash : false ≡ true → ⊥
      clash e = cc

  -- the write failed
  pub fault_exit : digest_in (slot_at g.table f.relay.stripe f.relay.target) ≡ Some (digest_of block) → (e : Failed) → WritesAt told (serving_at g.table f.relay.stripe f.relay.target) f.relay.stripe block (Err e) g.shelves now → (t : Table) (log : List Entry)
      → t ≡ after g.table (Fault job f.relay.stripe f.relay.target) → log ≡ g.log ++ Fault job f.relay.stripe f.relay.target ∷ []
      → IsSettled told (record g { table = t; log = log; shelves = now })
  fault_exit digest e w t log et el =
      subst (λ t. IsSettled told (record g { table = t; log = log; shelves = now })) (sym et)
      (subst (λ log. IsSettled told (record g { table = g.table; log = log; shelves = now })) (sym el)
      (settled_act told g (Fault job f.relay.stripe f.relay.target) [] now (λ t. put_at g.shelves.held (serving_at g.table f.relay.stripe f.relay.target) f.relay.stripe (w.wrote t).0) settled fault_legal room w.keeps
      (same_columns told g (Fault job f.relay.stripe f.relay.target) now settled w.keeps refl (λ k. refl)) (λ t. (w.wrote t).2)
      (λ t n k b ln lk live h. sym (untouched (w.wrote t).0 n k lk live) ∙ h)
      (λ t none n k b ln lk live h. untouched (w.wrote t).0 n k lk live ∙ h)
      (λ k lk. subst (λ ns. Covers now ns (faults_in g.first.data_columns k g.log + (if nat_eq k f.relay.target then 1 else 0))) (sym (archives_of-snoc g.first g.log k (Fault job f.relay.stripe f.relay.target) refl))
      (one_fault now (archives_of g.first g.log) (λ k. faults_in g.first.data_columns k g.log) f.relay.target k
      (covers-stays g.shelves now (archives_of g.first g.log k) (faults_in g.first.data_columns k g.log) w.keeps.later w.keeps.faults_taken (settled.causes.faults k lk))
      (covers_rise told g now f.relay.stripe f.relay.target settled at_place.target w.keeps (w.cause refl))))
      (λ t k lk m. absurd m)
      (λ t. frames_write told g.table (Fault job f.relay.stripe f.relay.target) (serving_at g.table f.relay.stripe f.relay.target) f.relay.stripe block (Err e) g.shelves now t w
      (refl, inl (dead, refl), inr digest) (w.wrote t).0 false (λ _. (refl, inl (dead, refl))) (w.wrote t).1) w.heard (λ t. tt)))

-- the archive that serves a flight's target is one of the group
pub target_served : (told : Type 0) (g : GroupView) (f : Flight) → IsSettled told g → flight_in g.flights f.relay.stripe ≡ Some f → Contains g.shelves.numbers (serving_at g.table f.relay.stripe f.relay.target)
target_served told g f settled here = served told g settled f.relay.stripe f.relay.target (stands g.table f.relay settled.table (relay_of_flight g.table g.flights f.relay.stripe settled.relays ∙ ap relay_of here)).target
