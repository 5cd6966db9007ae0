-- What a group keeps, over losses and over the entries of its calls.
use Rattle.std.proofs.Common.{◌≡◌, ◌⊎◌, inl, inr, ℕ, ◌+◌, ◌<◌, ◌≤◌, ◌++◌, List, [], ◌∷◌, Some, true, false, IsTrue, length, refl, sym, ap, ◌∙◌, subst, arith, length-append}
use Rattle.std.specs.Prelude.{Contains, nat_eq, slice_index_or, if◌then◌else◌}
use Rattle.std.proofs.lemmas.Bool.Decides.{nat_tests}
use Rattle.pot_bytes.specs.Rack.{log_bound}
use Rattle.pot_outside.specs.Counts.{Rose}
use Rattle.pot_doubles.proofs.CallLemmas.{rose_later}
use Rattle.pot_machine.specs.declared.entry.Entry.{Entry}
use Rattle.pot_machine.specs.declared.entry.Entry.TheVariants.{Skip, Seen, Gone, Fault, Stuck, Counted}
use Rattle.pot_machine.specs.Column.{names}
use Rattle.pot_machine.specs.Slot.{is_live}
use Rattle.pot_machine.specs.Table.{Table, width, slot_at, column_at, serving_at, no_column}
use Rattle.pot_machine.specs.Machine.{Legal, after}
use Rattle.pot_machine.specs.Laws.{PutsInto}
use Rattle.pot_machine.proofs.Columns.{names_serving}
use Rattle.pot_machine.proofs.Kept.{after_keeps}
use Rattle.pot_machine.proofs.LeftAlone.{sizes_stay}
use Rattle.pot_machine.proofs.Logs.{replays_more}
use Rattle.pot_steps.specs.Stripe.{Sound}
use Rattle.pot_steps.specs.Holdings.{Holdings, LiveLaw, stripe_of}
use Rattle.pot_steps.specs.declared.flight.Flight.{Flight}
use Rattle.pot_steps.specs.Flights.{Acts, AreFlights, Stands, flights_after}
use Rattle.pot_steps.specs.Losses.{KeepsHeld}
use Rattle.pot_steps.proofs.Acting.{act_keeps, loss_keeps_all}
use Rattle.pot_steps.proofs.ActingLive.{act_keeps_live}
use Rattle.pot_steps.proofs.FlightLists.{flights_go_on}
use Rattle.pot_steps.proofs.Losses.{losses_keep_live}
use Rattle.pot_shelves.specs.Shelves.{Shelves, Keeps, ShelvesStay, LosesByCount}
use Rattle.pot_group.specs.Causes.{Covers, HasLost, Misses, WhereMissed, archives_of, faults_in, fault_of, brought}
use Rattle.pot_group.specs.Group.{GroupView, IsSettled, IsQuiet, LostSince}
use Rattle.pot_shelves.proofs.ShelfLemmas.{keeps_refl, loses_refl, lost_rose, rose_more}
use Rattle.pot_group.specs.Frames.{ArePlaced, Tries}
use Rattle.pot_group.specs.Heard.{Sum, GivesBlock, IsSumOf, HasHeard, blinds_after, begins}
use Rattle.pot_group.proofs.Framing.{AreIn, Frames, placed_later, framed_loses, framed_entry, frames_still}
use Rattle.pot_group.proofs.Hearing.{heard_on, heard_entry, begins_more}
use Rattle.pot_group.proofs.CauseLemmas.{faults_in-snoc, archives_of-snoc, WhereMissed-snoc, WhereMissed-mono, covers-stays, has_lost-mono}

-- what an entry of these calls leaves as it was
pub record LeavesShape (t : Table) (e : Entry) : Type 0 where
  pub flights : (fs : List Flight) → flights_after t e [] fs ≡ fs
  pub blinds : (bs : List (List ℕ)) → blinds_after e [] bs ≡ bs
  pub data_columns : (after t e).data_columns ≡ t.data_columns
  pub parity : (after t e).parity ≡ t.parity
  pub stripes : (after t e).stripes ≡ t.stripes
  pub columns : (after t e).columns ≡ t.columns
  pub none_brought : (c : ℕ) → brought c e ≡ []

-- a count of losses that rose before has risen after
lost_since : (told : Type 0) (g : GroupView) (s : Shelves) → Keeps g.shelves s → (h : Holdings) → LosesByCount h g.shelves s → (n : ℕ) → LostSince g.shelves n → LostSince s n
lost_since told g s k h o n r = subst (λ x. Rose x (s.losses n)) (sym (k.losses_taken n)) (rose_more (g.shelves.losses_taken n) (g.shelves.losses n) (s.losses n) r (o n).later)

-- One entry, or none, with losses after it. `h` is what the archives were to hold after it.
module _ (told : Type 0) (g : GroupView) (s : Shelves) (h : told → Holdings) (settled : IsSettled told g) (keeps : Keeps g.shelves s) (loses : (t : told) → LosesByCount (h t) g.shelves s) where
  -- the marks of the taking are no greater than the counts
  marked_faults : (n : ℕ) → s.faults_taken n ≤ s.faults n
  marked_faults n = omega (arith, settled.faults n, keeps.faults_taken n, keeps.later n)

  opened_faults_on : (n : ℕ) → s.faults_opened n ≤ s.faults n
  opened_faults_on n = omega (arith, settled.opened_faults n, keeps.faults_opened n, keeps.later n)

  opened_losses_on : told → (n : ℕ) → s.losses_opened n ≤ s.losses n
  opened_losses_on t n = omega (arith, settled.opened_losses t n, keeps.losses_opened n, (loses t n).later)

  marked_losses : told → (n : ℕ) → s.losses_taken n ≤ s.losses n
  marked_losses t n = omega (arith, settled.losses t n, keeps.losses_taken n, (loses t n).later)

  since : told → (n : ℕ) → LostSince g.shelves n → LostSince s n
  since t = lost_since told g s keeps (h t) (loses t)

  -- a block that goes has raised a count since the taking
  lost_now : (t : told) (n m : ℕ) (b : List ℕ) → h t n m ≡ Some b → (s.held n m ≡ Some b) ⊎ LostSince s n
  lost_now t n m b e = elim (lost_rose (h t) g.shelves s n m b (loses t) e) [
    | inl r ↦ inl r
    | inr r ↦ inr (subst (λ x. Rose x (s.losses n)) (sym (keeps.losses_taken n)) (rose_later (g.shelves.losses_taken n) (g.shelves.losses n) (s.losses n) (settled.losses t n) r))
  ]

  -- the laws over the contents, for the table `u` that they hold of before the losses
  stands_on : (t : told) (u : Table) (fs : List Flight) → Stands u (h t) fs → Stands u s.held fs
  stands_on t u fs = loss_keeps_all u fs (h t) s.held (λ n c b ln lc live e. (loses t (serving_at u n c)).keeps n b e)

  live_on : (t : told) (u : Table) → LiveLaw u (h t) (LostSince s) → LiveLaw u s.held (LostSince s)
  live_on t u = losses_keep_live (LostSince s) (LostSince s) u (h t) s.held (λ n r. r) (record { keeps = (λ n c b ln lc nv e. lost_now t (serving_at u n c) n b e) })

-- the table, the contents and the flights of a group
pub stands_in : (told : Type 0) (g : GroupView) → IsSettled told g → told → Stands g.table g.shelves.held g.flights
stands_in told g settled t = record { table = settled.table; relays = settled.relays; holds = settled.holds t; flying = settled.flying t }

-- archives that only lose blocks, whatever they hear
pub settled_loses : (told : Type 0) (g : GroupView) (s : Shelves) → IsSettled told g → Keeps g.shelves s → (told → LosesByCount g.shelves.held g.shelves s) → (told → (n : ℕ) → s.history n ≡ g.shelves.history n)
    → (told → (n : ℕ) (x : Sum) → Contains (s.heard n) x → Contains (g.shelves.heard n) x ⊎ IsSumOf g.table g.flights n x) → IsSettled told (record g { shelves = s })
settled_loses told g s settled keeps loses same hears = record {
  blinds = settled.blinds;
  tried = settled.tried;
  heard = (λ t. heard_on g.first g.table g.log g.blinds g.flights g.shelves s settled.replay keeps (hears t) (settled.heard t));
  frame = (λ t. framed_loses g.first g.log g.shelves s keeps (loses t) (settled.losses t) (same t) (settled.frame t));
  replay = settled.replay;
  table = settled.table;
  relays = settled.relays;
  bound = settled.bound;
  shelves = (λ c n lc e. subst (λ ns. Contains ns n) (sym keeps.numbers) (settled.shelves c n lc e));
  serves = settled.serves;
  sizes = settled.sizes;
  faults = marked_faults told g s (λ t. g.shelves.held) settled keeps loses;
  losses = marked_losses told g s (λ t. g.shelves.held) settled keeps loses;
  opened_faults = opened_faults_on told g s (λ t. g.shelves.held) settled keeps loses;
  opened_losses = opened_losses_on told g s (λ t. g.shelves.held) settled keeps loses;
  holds = (λ t. (stands_on told g s (λ t. g.shelves.held) settled keeps loses t g.table g.flights (stands_in told g settled t)).holds);
  flying = (λ t. (stands_on told g s (λ t. g.shelves.held) settled keeps loses t g.table g.flights (stands_in told g settled t)).flying);
  live = (λ t. losses_keep_live (LostSince g.shelves) (LostSince s) g.table g.shelves.held s.held
      (since told g s (λ t. g.shelves.held) settled keeps loses t)
      (record { keeps = (λ n c b ln lc nv e. lost_now told g s (λ t. g.shelves.held) settled keeps loses t (serving_at g.table n c) n b e) })
      (settled.live t));
  causes = record {
    faults = (λ c lc. covers-stays g.shelves s (archives_of g.first g.log c) (faults_in g.first.data_columns c g.log) keeps.later keeps.faults_taken (settled.causes.faults c lc));
    losses = (λ t c lc. WhereMissed-mono g.first g.log c (HasLost g.shelves (archives_of g.first g.log c)) (HasLost s (archives_of g.first g.log c))
        (has_lost-mono g.shelves s (archives_of g.first g.log c) (since told g s (λ t. g.shelves.held) settled keeps loses t))
        (settled.causes.losses t c lc));
  };
}

pub settled_stays : (told : Type 0) (g : GroupView) (s : Shelves) → IsSettled told g → ShelvesStay told g.shelves s → IsSettled told (record g { shelves = s })
settled_stays told g s settled stays = settled_loses told g s settled stays.keeps stays.loses stays.history (λ t n x c. inl (subst (λ l. Contains l x) (stays.heard t n) c))

-- what an entry leaves of the columns, and which archives it brings
pub record LeavesColumns (told : Type 0) (g : GroupView) (e : Entry) (s : Shelves) : Type 0 where
  pub shelves : (c number : ℕ) → c < width g.table → IsTrue (names (column_at (after g.table e) c) number) → Contains s.numbers number
  pub serves : (c number : ℕ) → c < width g.table → IsTrue (names (column_at (after g.table e) c) number) → Contains (archives_of g.first (g.log ++ e ∷ []) c) number
  pub archives : (c number : ℕ) → Contains (archives_of g.first g.log c) number → Contains (archives_of g.first (g.log ++ e ∷ []) c) number

placed_on : (log : List Entry) (e : Entry) (tried : Tries) → ArePlaced tried (length log + 1) → ArePlaced tried (length (log ++ e ∷ []))
placed_on log e tried placed = subst (λ n. ArePlaced tried n) (sym (length-append log (e ∷ []))) placed

-- One entry, with what the archives are to hold then, and the block that is handed in with it.
pub settled_act : (told : Type 0) (g : GroupView) (e : Entry) (given : List ℕ) (s : Shelves) (h : told → Holdings) → IsSettled told g → Legal g.table e → length g.log < log_bound
    → Keeps g.shelves s → LeavesColumns told g e s → ((t : told) → LosesByCount (h t) g.shelves s) → ((t : told) → Acts g.table g.flights given e g.shelves.held (h t))
    → ((t : told) → ((n : ℕ) → PutsInto e n → ⊥) → KeepsHeld g.table g.shelves.held (h t))
    → ((c : ℕ) → c < width g.first → Covers s (archives_of g.first (g.log ++ e ∷ []) c) (faults_in g.first.data_columns c g.log + fault_of g.first.data_columns c e))
    → (told → (c : ℕ) → c < width g.first → Misses g.table e c → HasLost s (archives_of g.first (g.log ++ e ∷ []) c))
    → ((t : told) → Frames g.tried (length g.log) g.table e g.shelves (h t) s) → (told → (n : ℕ) → s.heard n ≡ g.shelves.heard n) → (told → GivesBlock g.table g.flights e given)
    → IsSettled told (record g { table = after g.table e; log = g.log ++ e ∷ []; flights = flights_after g.table e given g.flights; blinds = blinds_after e given g.blinds; shelves = s })
settled_act told g e given s h settled legal room keeps columns loses acts kept covers missed frames silent gives = record {
  blinds = begins_more g.log e given g.blinds settled.blinds;
  tried = placed_on g.log e g.tried (placed_later g.tried (length g.log) settled.tried);
  heard = (λ t. heard_entry g.first g.table g.log e given g.blinds g.flights g.shelves s settled.replay keeps (silent t) (gives t) (settled.heard t));
  frame = (λ t. framed_entry g.first g.table g.log e g.shelves s (h t) settled.replay keeps (loses t) (settled.losses t) (λ i b q. q) (frames t) (settled.frame t));
  replay = replays_more g.first g.log g.table e settled.replay legal;
  table = after_keeps g.table e settled.table legal;
  relays = flights_go_on g.table e given g.flights settled.relays;
  bound = (let l : length (g.log ++ e ∷ []) ≡ length g.log + 1 = length-append g.log (e ∷ []) in omega (arith, room));
  shelves = (λ c n lc q. columns.shelves c n (wide c lc) q);
  serves = (λ c n lc q. columns.serves c n (wide c lc) q);
  sizes = (size.0 ∙ settled.sizes.0, size.1 ∙ settled.sizes.1, size.2 ∙ settled.sizes.2);
  faults = marked_faults told g s h settled keeps loses;
  losses = marked_losses told g s h settled keeps loses;
  opened_faults = opened_faults_on told g s h settled keeps loses;
  opened_losses = opened_losses_on told g s h settled keeps loses;
  holds = (λ t. (stands_then t).holds);
  flying = (λ t. (stands_then t).flying);
  live = (λ t. live_on told g s h settled keeps loses t (after g.table e)
      (act_keeps_live (LostSince s) g.table e g.flights given g.shelves.held (h t) settled.table legal (acts t) (kept t) (live_then t)));
  causes = record {
    faults = (λ c lc. subst (λ n. Covers s (archives_of g.first (g.log ++ e ∷ []) c) n) (sym (faults_in-snoc g.first.data_columns c g.log e)) (covers c lc));
    losses = (λ t c lc. WhereMissed-snoc g.first g.table g.log e c (HasLost s (archives_of g.first (g.log ++ e ∷ []) c)) settled.replay
        (WhereMissed-mono g.first g.log c (HasLost g.shelves (archives_of g.first g.log c)) (HasLost s (archives_of g.first (g.log ++ e ∷ []) c))
        (λ x. (let y : HasLost s (archives_of g.first g.log c) = has_lost-mono g.shelves s (archives_of g.first g.log c) (since told g s h settled keeps loses t) x in (y.0, columns.archives c y.0 y.1, y.2)))
        (settled.causes.losses t c lc))
        (missed t c lc));
  };
}
  where
    size : ((after g.table e).data_columns ≡ g.table.data_columns) × ((after g.table e).parity ≡ g.table.parity) × ((after g.table e).stripes ≡ g.table.stripes)
    size = sizes_stay g.table e

    wide : (c : ℕ) → c < width (after g.table e) → c < width g.table
    wide c lc = omega (arith, lc, size.0, size.1)

    stands_then : (t : told) → Stands (after g.table e) s.held (flights_after g.table e given g.flights)
    stands_then t = stands_on told g s h settled keeps loses t (after g.table e) (flights_after g.table e given g.flights)
        (act_keeps g.table e g.flights given g.shelves.held (h t) legal (acts t) (stands_in told g settled t))

    live_then : told → LiveLaw g.table g.shelves.held (LostSince s)
    live_then t = losses_keep_live (LostSince g.shelves) (LostSince s) g.table g.shelves.held g.shelves.held (since told g s h settled keeps loses t)
        (record { keeps = (λ n c b ln lc nv e. inl e) }) (settled.live t)

-- an entry that leaves the columns and brings no archive
pub same_columns : (told : Type 0) (g : GroupView) (e : Entry) (s : Shelves) → IsSettled told g → Keeps g.shelves s → (after g.table e).columns ≡ g.table.columns → ((c : ℕ) → brought c e ≡ []) → LeavesColumns told g e s
same_columns told g e s settled keeps same none = record {
  shelves = (λ c n lc q. subst (λ ns. Contains ns n) (sym keeps.numbers) (settled.shelves c n lc (subst (λ x. IsTrue (names x n)) (at c) q)));
  serves = (λ c n lc q. subst (λ ns. Contains ns n) (sym (archives_of-snoc g.first g.log c e (none c)))
      (settled.serves c n lc (subst (λ x. IsTrue (names x n)) (at c) q)));
  archives = (λ c n x. subst (λ ns. Contains ns n) (sym (archives_of-snoc g.first g.log c e (none c))) x);
}
  where
    at : (c : ℕ) → column_at (after g.table e) c ≡ column_at g.table c
    at c = ap (λ cs. slice_index_or cs c no_column) same

-- an entry, with what the archives are to hold then, and with the blocks of puts that are kept then
pub settled_trying : (told : Type 0) (g : GroupView) (tried : Tries) (e : Entry) (s : Shelves) (h : told → Holdings) → AreIn g.tried tried → ArePlaced tried (length g.log + 1) → IsSettled told g → LeavesShape g.table e → Legal g.table e → length g.log < log_bound
    → Keeps g.shelves s → ((t : told) → LosesByCount (h t) g.shelves s) → ((t : told) → Acts g.table g.flights [] e g.shelves.held (h t))
    → ((t : told) → ((n : ℕ) → PutsInto e n → ⊥) → KeepsHeld g.table g.shelves.held (h t))
    → ((c : ℕ) → c < width g.first → Covers s (archives_of g.first g.log c) (faults_in g.first.data_columns c g.log + fault_of g.first.data_columns c e))
    → (told → (c : ℕ) → c < width g.first → Misses g.table e c → HasLost s (archives_of g.first g.log c))
    → ((t : told) → Frames tried (length g.log) g.table e g.shelves (h t) s) → (told → (n : ℕ) → s.heard n ≡ g.shelves.heard n) → (told → GivesBlock g.table g.flights e [])
    → IsSettled told (record g { table = after g.table e; log = g.log ++ e ∷ []; tried = tried; shelves = s })
settled_trying told g tried e s h are placed settled shape legal room keeps loses enters kept covers missed frames silent gives = record {
  blinds = subst (λ bs. length bs ≡ begins (g.log ++ e ∷ [])) (shape.blinds g.blinds) (begins_more g.log e [] g.blinds settled.blinds);
  tried = placed_on g.log e tried placed;
  heard = (λ t. subst (λ bs. HasHeard g.first (g.log ++ e ∷ []) bs g.flights s) (shape.blinds g.blinds) (subst (λ fs. HasHeard g.first (g.log ++ e ∷ []) (blinds_after e [] g.blinds) fs s) (shape.flights g.flights) (heard_entry g.first g.table g.log e [] g.blinds g.flights g.shelves s settled.replay keeps (silent t) (gives t) (settled.heard t))));
  frame = (λ t. framed_entry g.first g.table g.log e g.shelves s (h t) settled.replay keeps (loses t) (settled.losses t) are (frames t) (settled.frame t));
  replay = replays_more g.first g.log g.table e settled.replay legal;
  table = after_keeps g.table e settled.table legal;
  relays = subst (λ fs. AreFlights (after g.table e) fs) (shape.flights g.flights) (flights_go_on g.table e [] g.flights settled.relays);
  bound = (let l : length (g.log ++ e ∷ []) ≡ length g.log + 1 = length-append g.log (e ∷ []) in omega (arith, room));
  shelves = (λ c n lc q. subst (λ ns. Contains ns n) (sym keeps.numbers) (settled.shelves c n (wide c lc) (subst (λ x. IsTrue (names x n)) (same_column c) q)));
  serves = (λ c n lc q. subst (λ ns. Contains ns n) (sym (archives_of-snoc g.first g.log c e (shape.none_brought c)))
      (settled.serves c n (wide c lc) (subst (λ x. IsTrue (names x n)) (same_column c) q)));
  sizes = (shape.data_columns ∙ settled.sizes.0, shape.parity ∙ settled.sizes.1, shape.stripes ∙ settled.sizes.2);
  faults = marked_faults told g s h settled keeps loses;
  losses = marked_losses told g s h settled keeps loses;
  opened_faults = opened_faults_on told g s h settled keeps loses;
  opened_losses = opened_losses_on told g s h settled keeps loses;
  holds = (λ t. (stands_then t).holds);
  flying = (λ t. (stands_then t).flying);
  live = (λ t. live_on told g s h settled keeps loses t (after g.table e)
      (act_keeps_live (LostSince s) g.table e g.flights [] g.shelves.held (h t) settled.table legal (enters t) (kept t) (live_then t)));
  causes = record {
    faults = (λ c lc. subst (λ ns. Covers s ns (faults_in g.first.data_columns c (g.log ++ e ∷ []))) (sym (archives_of-snoc g.first g.log c e (shape.none_brought c)))
        (subst (λ n. Covers s (archives_of g.first g.log c) n) (sym (faults_in-snoc g.first.data_columns c g.log e)) (covers c lc)));
    losses = (λ t c lc. subst (λ ns. WhereMissed g.first (g.log ++ e ∷ []) c (HasLost s ns)) (sym (archives_of-snoc g.first g.log c e (shape.none_brought c)))
        (WhereMissed-snoc g.first g.table g.log e c (HasLost s (archives_of g.first g.log c)) settled.replay
        (WhereMissed-mono g.first g.log c (HasLost g.shelves (archives_of g.first g.log c)) (HasLost s (archives_of g.first g.log c)) (has_lost-mono g.shelves s (archives_of g.first g.log c) (since told g s h settled keeps loses t)) (settled.causes.losses t c lc))
        (missed t c lc)));
  };
}
  where
    stands_then : (t : told) → Stands (after g.table e) s.held g.flights
    stands_then t = stands_on told g s h settled keeps loses t (after g.table e) g.flights
        (subst (λ fs. Stands (after g.table e) (h t) fs) (shape.flights g.flights) (act_keeps g.table e g.flights [] g.shelves.held (h t) legal (enters t) (stands_in told g settled t)))

    wide : (c : ℕ) → c < width (after g.table e) → c < width g.table
    wide c lc = omega (arith, lc, shape.data_columns, shape.parity)

    same_column : (c : ℕ) → column_at (after g.table e) c ≡ column_at g.table c
    same_column c = ap (λ cs. slice_index_or cs c no_column) shape.columns

    -- the law of the Live slots before the entry, by what has risen now
    live_then : told → LiveLaw g.table g.shelves.held (LostSince s)
    live_then t = losses_keep_live (LostSince g.shelves) (LostSince s) g.table g.shelves.held g.shelves.held (since told g s h settled keeps loses t)
        (record { keeps = (λ n c b ln lc nv e. inl e) }) (settled.live t)

-- and where no put failed so
pub settled_entry : (told : Type 0) (g : GroupView) (e : Entry) (s : Shelves) (h : told → Holdings) → IsSettled told g → LeavesShape g.table e → Legal g.table e → length g.log < log_bound
    → Keeps g.shelves s → ((t : told) → LosesByCount (h t) g.shelves s) → ((t : told) → Acts g.table g.flights [] e g.shelves.held (h t))
    → ((t : told) → ((n : ℕ) → PutsInto e n → ⊥) → KeepsHeld g.table g.shelves.held (h t))
    → ((c : ℕ) → c < width g.first → Covers s (archives_of g.first g.log c) (faults_in g.first.data_columns c g.log + fault_of g.first.data_columns c e))
    → (told → (c : ℕ) → c < width g.first → Misses g.table e c → HasLost s (archives_of g.first g.log c))
    → ((t : told) → Frames g.tried (length g.log) g.table e g.shelves (h t) s) → (told → (n : ℕ) → s.heard n ≡ g.shelves.heard n) → (told → GivesBlock g.table g.flights e [])
    → IsSettled told (record g { table = after g.table e; log = g.log ++ e ∷ []; shelves = s })
settled_entry told g e s h settled shape legal room keeps loses enters kept covers missed frames silent gives =
    settled_trying told g g.tried e s h (λ i b q. q) (placed_later g.tried (length g.log) settled.tried) settled shape legal room keeps loses enters kept covers missed frames silent gives

-- an entry that says nothing untrue and puts no block
module _ (told : Type 0) (g : GroupView) (e : Entry) (settled : IsSettled told g) (legal : Legal g.table e) (room : length g.log < log_bound) where
  quiet : LeavesShape g.table e → (told → Acts g.table g.flights [] e g.shelves.held g.shelves.held)
      → ((c : ℕ) → c < width g.first → Covers g.shelves (archives_of g.first g.log c) (faults_in g.first.data_columns c g.log + fault_of g.first.data_columns c e))
      → (told → (c : ℕ) → c < width g.first → Misses g.table e c → HasLost g.shelves (archives_of g.first g.log c)) → (told → GivesBlock g.table g.flights e [])
      → IsSettled told (record g { table = after g.table e; log = g.log ++ e ∷ [] })
  quiet shape enters covers missed gives =
      settled_entry told g e g.shelves (λ t. g.shelves.held) settled shape legal room (keeps_refl g.shelves) (λ t. loses_refl g.shelves) enters (λ t none n c b ln lc nv q. q) covers missed (λ t. frames_still g.table e g.shelves) (λ t n. refl) gives

pub no_fault : (s : Shelves) (ns : List ℕ) (k : ℕ) → Covers s ns k → Covers s ns (k + 0)
no_fault s ns k c = subst (λ n. Covers s ns n) (same k) c
  where
    same : (k : ℕ) → k ≡ k + 0
    same k = omega arith

same_or : (c k : ℕ) → ((c ≡ k) × (nat_eq c k ≡ true)) ⊎ (nat_eq c k ≡ false)
same_or c k = grind (arith, nat_tests)

-- a Fault names one more at its column alone
pub one_fault : (s : Shelves) (ns : ℕ → List ℕ) (named : ℕ → ℕ) (k c : ℕ) → Covers s (ns c) (named c) → Covers s (ns k) (named k + 1)
    → Covers s (ns c) (named c + (if nat_eq c k then 1 else 0))
one_fault s ns named k c all here = elim (same_or c k) [
  | inl e ↦ rw e.1 (subst (λ n. Covers s (ns n) (named n + 1)) (sym e.0) here)
  | inr e ↦ rw e (no_fault s (ns c) (named c) all)
]

-- the archive that serves a slot is one of its column
pub serving_in : (told : Type 0) (g : GroupView) → IsSettled told g → (n k : ℕ) → k < width g.table → Contains (archives_of g.first g.log k) (serving_at g.table n k)
serving_in told g settled n k lk = settled.serves k (serving_at g.table n k) lk (names_serving (column_at g.table k) n)

-- a Live slot without its block is served by an archive that lost one
pub gone_lost : (told : Type 0) (g : GroupView) → IsSettled told g → told → (n k : ℕ) → n < g.table.stripes → k < width g.table → IsTrue (is_live (slot_at g.table n k))
    → (Sound (stripe_of g.table g.shelves.held n) k → ⊥) → HasLost g.shelves (archives_of g.first g.log k)
gone_lost told g settled t n k ln lk live none = elim (settled.live t n k ln lk live) [
  | inl x ↦ absurd (none x)
  | inr r ↦ (serving_at g.table n k, serving_in told g settled n k lk, r)
]

pub settled_quiet : (told : Type 0) (g : GroupView) (e : Entry) → IsSettled told g → Legal g.table e → length g.log < log_bound → IsQuiet told g e
    → IsSettled told (record g { table = after g.table e; log = g.log ++ e ∷ [] })
settled_quiet told g (Skip job n) settled legal room q =
    quiet told g (Skip job n) settled legal room (record { flights = (λ fs. refl); blinds = (λ bs. refl); data_columns = refl; parity = refl; stripes = refl; columns = refl; none_brought = (λ c. refl) })
    (λ t m c b lm lc nv h. h) (λ c lc. no_fault g.shelves (archives_of g.first g.log c) (faults_in g.first.data_columns c g.log) (settled.causes.faults c lc)) (λ t c lc m. absurd m) (λ t. tt)
settled_quiet told g (Seen job n k) settled legal room q =
    quiet told g (Seen job n k) settled legal room (record { flights = (λ fs. refl); blinds = (λ bs. refl); data_columns = refl; parity = refl; stripes = refl; columns = refl; none_brought = (λ c. refl) })
    (λ t m c b lm lc nv h. h) (λ c lc. no_fault g.shelves (archives_of g.first g.log c) (faults_in g.first.data_columns c g.log) (settled.causes.faults c lc)) (λ t c lc m. absurd m) (λ t. tt)
settled_quiet told g (Counted job) settled legal room q =
    quiet told g (Counted job) settled legal room (record { flights = (λ fs. refl); blinds = (λ bs. refl); data_columns = refl; parity = refl; stripes = refl; columns = refl; none_brought = (λ c. refl) })
    (λ t m c b lm lc nv h. h) (λ c lc. no_fault g.shelves (archives_of g.first g.log c) (faults_in g.first.data_columns c g.log) (settled.causes.faults c lc)) (λ t c lc m. absurd m) (λ t. tt)
settled_quiet told g (Fault job n k) settled legal room q =
    quiet told g (Fault job n k) settled legal room (record { flights = (λ fs. refl); blinds = (λ bs. refl); data_columns = refl; parity = refl; stripes = refl; columns = refl; none_brought = (λ c. refl) })
    (λ t m c b lm lc nv h. h) (λ c lc. one_fault g.shelves (archives_of g.first g.log) (λ c. faults_in g.first.data_columns c g.log) k c (settled.causes.faults c lc) q) (λ t c lc m. absurd m) (λ t. tt)
settled_quiet told g (Gone job n k) settled legal room q =
    quiet told g (Gone job n k) settled legal room (record { flights = (λ fs. refl); blinds = (λ bs. refl); data_columns = refl; parity = refl; stripes = refl; columns = refl; none_brought = (λ c. refl) })
    (λ t m c b lm lc nv h. h) (λ c lc. no_fault g.shelves (archives_of g.first g.log c) (faults_in g.first.data_columns c g.log) (settled.causes.faults c lc))
    (λ t c lc m. subst (λ x. HasLost g.shelves (archives_of g.first g.log x)) m.1 (gone_lost told g settled t n k legal.0 legal.1 m.2 (q t))) (λ t. tt)
settled_quiet told g (Stuck job n k other) settled legal room q =
    quiet told g (Stuck job n k other) settled legal room (record { flights = (λ fs. refl); blinds = (λ bs. refl); data_columns = refl; parity = refl; stripes = refl; columns = refl; none_brought = (λ c. refl) })
    (λ t m c b lm lc nv h. h) (λ c lc. no_fault g.shelves (archives_of g.first g.log c) (faults_in g.first.data_columns c g.log) (settled.causes.faults c lc)) (λ t c lc m. absurd m) (λ t. tt)
settled_quiet told g _ settled legal room q = absurd q
