-- How a put passes stripes, over plain data.
use Rattle.std.proofs.Common.{◌≡◌, ◌≢◌, ◌⊎◌, inl, inr, ℕ, ◌+◌, ◌-◌, ◌<◌, ◌≤◌, ◌++◌, List, [], ◌∷◌, Option, Some, None, true, false, length, refl, sym, ap, ◌∙◌, subst, arith, append_assoc, append-nil}
use Rattle.std.specs.Prelude.{Bool, IsTrue, IfSome, IsSome, slice_index_or}
use Rattle.std.proofs.lemmas.List.Elements.{All-nil, All-push, All-weaker}
use Rattle.std.proofs.lemmas.Bool.{both_ways}
use Rattle.pot_bytes.specs.Rack.{log_bound}
use Rattle.pot_machine.specs.declared.slot.SlotState.{SlotState}
use Rattle.pot_machine.specs.declared.slot.SlotState.TheVariants.{Void, Live, Lost, Broken}
use Rattle.pot_machine.specs.declared.entry.Entry.{Entry}
use Rattle.pot_machine.specs.declared.entry.Entry.TheVariants as entry
use Rattle.pot_machine.specs.Slot.{is_unsound, is_live, lost_of}
use Rattle.pot_machine.specs.Column.{serving}
use Rattle.pot_machine.specs.Table.{Table, width, slot_at, serving_at, no_column, least, relay_in}
use Rattle.pot_machine.specs.Machine.{AtCursor, TakesBlocks, TakesSkip, Replays, after, with_loss}
use Rattle.pot_machine.specs.Rules.{IsTable}
use Rattle.pot_machine.proofs.Searches.{least_none, none_least}
use Rattle.pot_machine.proofs.Places.{slot_same, slot_other}
use Rattle.pot_machine.proofs.Logs.{replays_append}
use Rattle.pot_steps.specs.Stripe.{Sound}
use Rattle.pot_steps.specs.Holdings.{stripe_of}
use Rattle.pot_steps.specs.GroupStep.{Passed, IsParityMissing, skips, gone_entries}
use Rattle.pot_group.specs.declared.putting.Stop.{Stop}
use Rattle.pot_group.specs.declared.putting.Stop.TheVariants as stop
use Rattle.pot_shelves.specs.Shelves.{Shelves, ShelvesStay, LosesByCount}
use Rattle.pot_group.specs.Group.{GroupView, Logs, FitsGone, state_of}
use Rattle.pot_group.specs.Putting.{FoundGone, IsLeast, Passes, PassesAll, FindsStripe}
use Rattle.pot_shelves.proofs.ShelfLemmas.{stays_refl, stays_then}

-- an entry is logged, and does in the table what it says
abbrev pub entered : GroupView → Entry → GroupView
entered v e = record v { table = after v.table e; log = v.log ++ e ∷ [] }

-- THE PARITY BLOCK OF THE CURSOR'S STRIPE IS GONE

unsound_lost : (x : SlotState) → x ≢ Void → is_unsound (lost_of x) ≡ true
unsound_lost Void ne = absurd (ne refl)
unsound_lost (Live d) ne = refl
unsound_lost (Lost d) ne = refl
unsound_lost (Broken d) ne = refl

-- where a number passes there is a least one
some_least : (n : ℕ) (test : ℕ → Bool) (k : ℕ) → k < n → test k ≡ true → IsSome (least n test)
some_least n test k lt e = step (least n test) refl
  where
    step : (o : Option ℕ) → least n test ≡ o → IsSome o
    step None q = absurd (both_ways _ (least_none n test q k lt) e)
    step (Some j) q = refl

-- a slot that is neither Void nor Lost nor Broken is Live
live_else : (x : SlotState) → x ≢ Void → is_unsound x ≡ false → is_live x ≡ true
live_else Void ne e = absurd (ne refl)
live_else (Live d) ne e = refl
live_else (Lost d) ne e = absurd (cc)
live_else (Broken d) ne e = absurd (cc)

module _ (told : Type 0) (job s c : ℕ) (v : GroupView) (rules : IsTable v.table) (at : AtCursor v.table s) (parity : v.table.data_columns ≤ c) (within : c < width v.table)
    (some : slot_at v.table s c ≢ Void) where
  -- the stripe can be passed then
  pub skip_legal : TakesSkip (after v.table (entry.Gone job s c)) s
  skip_legal = (
    at,
    inr (some_least (width v.table) (λ k. is_unsound (slot_at (with_loss v.table s c) s k)) c within
        (ap is_unsound (slot_same v.table s c (lost_of (slot_at v.table s c)) rules.size.slots at.1 within) ∙ unsound_lost (slot_at v.table s c) some)),
  )

  module _ (gone : told → Sound (stripe_of v.table v.shelves.held s) c → ⊥) (takes : TakesBlocks v.table s) (least : IsLeast told v.table v.shelves.held s c) where
    found : FoundGone told v v v.table.cursor.stripe (Some c)
    found = (
      parity,
      within,
      subst (λ n. told → Sound (stripe_of v.table v.shelves.held n) c → ⊥) at.0 gone,
      subst (λ n. TakesBlocks v.table n) at.0 takes,
      subst (λ n. IsTrue (is_live (slot_at v.table n c))) at.0
          (live_else (slot_at v.table s c) some (least_none (width v.table) (λ k. is_unsound (slot_at v.table s k)) takes.1 c within)),
      subst (λ n. IsLeast told v.table v.shelves.held n c) at.0 least,
    )

    -- the log has no room then
    pub left_full : (new : GroupView) → new ≡ entered v (entry.Gone job s c) → length new.log ≡ log_bound → Passes told job [] [] (Some stop.LogFull) v new
    left_full new e full =
        subst (λ x. Passes told job [] [] (Some stop.LogFull) v x) (sym e) (record {
          stays = stays_refl told v.shelves;
          means = (
            Some c,
            found,
            subst (λ n. Logs (entry.Gone job n c ∷ []) v (entered v (entry.Gone job s c))) at.0 (record { number = refl; first = refl; log = refl; flights = refl; blinds = refl; tried = refl; replay = ((at.1, within), refl) }),
            sym (ap (λ x. length x.log) e) ∙ full,
            subst (λ n. n < v.table.stripes) at.0 at.1,
          );
        })

    -- the stripe is passed
    pub left_behind : (new : GroupView) → new ≡ entered (entered v (entry.Gone job s c)) (entry.Skip job s) → Passes told job [] [] None v new
    left_behind new e =
        subst (λ x. Passes told job [] [] None v x) (sym e) (record {
          stays = stays_refl told v.shelves;
          means = (
            Some c,
            found,
            subst (λ n. Logs (entry.Gone job n c ∷ entry.Skip job n ∷ []) v (entered (entered v (entry.Gone job s c)) (entry.Skip job s))) at.0 (record {
              number = refl;
              first = refl;
              flights = refl;
              blinds = refl;
              tried = refl;
              log = append_assoc v.log (entry.Gone job s c ∷ []) (entry.Skip job s ∷ []);
              replay = ((at.1, within), (skip_legal, refl));
            }),
          );
        })

logs_from : (entries : List Entry) (old : GroupView) (s : Shelves) (new : GroupView) → Logs entries (record old { shelves = s }) new → Logs entries old new
logs_from entries old s new l = record { number = l.number; first = l.first; log = l.log; flights = l.flights; blinds = l.blinds; tried = l.tried; replay = l.replay }

-- what was sound after a loss was sound before it
pub sound_before : (t : Table) (a b : Shelves) (n k : ℕ) → LosesByCount a.held a b → Sound (stripe_of t b.held n) k → Sound (stripe_of t a.held n) k
sound_before t a b n k l x = (x.0, record { digest = x.1.digest; live = x.1.live; held = (l (serving_at t n k)).keeps n x.0 x.1.held; right = x.1.right })

-- what was found gone after a read
gone_before : (told : Type 0) (old : GroupView) (s : Shelves) (new : GroupView) (n : ℕ) (gone : Option ℕ) → ShelvesStay told old.shelves s → FoundGone told (record old { shelves = s }) new n gone → FoundGone told old new n gone
gone_before told old s new n None stays f = tt
gone_before told old s new n (Some c) stays f = (f.0, f.1, f.2, f.3, f.4, λ t e. sound_before old.table old.shelves s n old.table.data_columns (stays.loses t) (f.5 t e))

-- what was read before is lost at most
pub left_passes : (told : Type 0) (job : ℕ) (p q : List ℕ) (result : Option Stop) (old : GroupView) (s : Shelves) (new : GroupView) → ShelvesStay told old.shelves s
    → (result ≡ None) ⊎ (result ≡ Some stop.LogFull) → Passes told job [] [] result (record old { shelves = s }) new → Passes told job p q result old new
left_passes told job p q None old s new stays which l = record {
  stays = stays_then told old.shelves s new.shelves stays l.stays;
  means = (l.means.0, gone_before told old s new old.table.cursor.stripe l.means.0 stays l.means.1, logs_from _ old s new l.means.2);
}
left_passes told job p q (Some stop.LogFull) old s new stays which l = record {
  stays = stays_then told old.shelves s new.shelves stays l.stays;
  means = (l.means.0, gone_before told old s new old.table.cursor.stripe l.means.0 stays l.means.1, logs_from _ old s new l.means.2, l.means.3, l.means.4);
}
left_passes told job p q (Some stop.Here) old s new stays which l = absurd (elim which [ inl e ↦ (cc) | inr e ↦ (cc) ])
left_passes told job p q (Some stop.Full) old s new stays which l = absurd (elim which [ inl e ↦ (cc) | inr e ↦ (cc) ])
left_passes told job p q (Some (stop.Faulted column)) old s new stays which l = absurd (elim which [ inl e ↦ (cc) | inr e ↦ (cc) ])

-- STRIPES THAT WERE PASSED, AND ONE MORE

skips_push : (job : ℕ) (passed : List Passed) (x : Passed) → skips job (passed ++ x ∷ []) ≡ skips job passed ++ (gone_entries job x.stripe x.gone ++ entry.Skip job x.stripe ∷ [])
skips_push job [] x = refl
skips_push job (y ∷ passed) x =
    ap (λ l. gone_entries job y.stripe y.gone ++ entry.Skip job y.stripe ∷ l) (skips_push job passed x)
    ∙ sym (append_assoc (gone_entries job y.stripe y.gone) (entry.Skip job y.stripe ∷ skips job passed) (gone_entries job x.stripe x.gone ++ entry.Skip job x.stripe ∷ []))

-- logs one after the other
pub logs_then : (before more : List Entry) (a b c : GroupView) → Logs before a b → Logs more b c → Logs (before ++ more) a c
logs_then before more a b c p q = record {
  number = q.number ∙ p.number;
  first = q.first ∙ p.first;
  log = q.log ∙ ap (λ l. l ++ more) p.log ∙ append_assoc a.log before more;
  flights = q.flights ∙ p.flights;
  blinds = q.blinds ∙ p.blinds;
  tried = q.tried ∙ p.tried;
  replay = replays_append a.table before b.table more c.table p.replay q.replay;
}

-- the table after a stripe was passed
record Crossed (t u : Table) (s : ℕ) : Type 0 where
  below : s < t.stripes
  cursor : u.cursor.stripe ≡ s + 1
  slots : (n k : ℕ) → n ≢ s → k < width t → slot_at u n k ≡ slot_at t n k
  relays : u.relays ≡ t.relays
  columns : u.columns ≡ t.columns
  data_columns : u.data_columns ≡ t.data_columns
  parity : u.parity ≡ t.parity
  stripes : u.stripes ≡ t.stripes

crossed : (t u : Table) (job s : ℕ) (gone : Option ℕ) → Replays t (gone_entries job s gone ++ entry.Skip job s ∷ []) u → Crossed t u s
crossed t u job s None r = record {
  below = r.0.0.1;
  cursor = ap (λ x. x.cursor.stripe) r.1;
  slots = (λ n k ne lk. ap (λ x. slot_at x n k) r.1);
  relays = ap (λ x. x.relays) r.1;
  columns = ap (λ x. x.columns) r.1;
  data_columns = ap (λ x. x.data_columns) r.1;
  parity = ap (λ x. x.parity) r.1;
  stripes = ap (λ x. x.stripes) r.1;
}
crossed t u job s (Some c) r = record {
  below = r.0.0;
  cursor = ap (λ x. x.cursor.stripe) r.1.1;
  slots = (λ n k ne lk. ap (λ x. slot_at x n k) r.1.1 ∙ slot_other t s c n k (lost_of (slot_at t s c)) r.0.1 lk (λ e. ne e.0));
  relays = ap (λ x. x.relays) r.1.1;
  columns = ap (λ x. x.columns) r.1.1;
  data_columns = ap (λ x. x.data_columns) r.1.1;
  parity = ap (λ x. x.parity) r.1.1;
  stripes = ap (λ x. x.stripes) r.1.1;
}

passed_one : (told : Type 0) (job : ℕ) (p q : List ℕ) (now new : GroupView) → Passes told job p q None now new → Crossed now.table new.table now.table.cursor.stripe
passed_one told job p q now new x = crossed now.table new.table job now.table.cursor.stripe x.means.0 x.means.2.replay

-- what is missing is missing under later losses
pub missing_on : (old : GroupView) (now new : Shelves) (s : ℕ) (gone : Option ℕ) → LosesByCount now.held now new
    → IfSome gone (λ c. IsParityMissing (state_of old) now.held s c) → IfSome gone (λ c. IsParityMissing (state_of old) new.held s c)
missing_on old now new s None l m = tt
missing_on old now new s (Some c) l m = record {
  takes = m.takes;
  live = m.live;
  parity = m.parity;
  missing = (λ x. m.missing (x.0, record { digest = x.1.digest; live = x.1.live; held = (l (serving_at old.table s c)).keeps s x.0 x.1.held; right = x.1.right }));
  least = m.least;
}

-- the archives that serve a slot
pub same_serving : (t u : Table) → t.columns ≡ u.columns → (n k : ℕ) → serving_at t n k ≡ serving_at u n k
same_serving t u e n k = ap (λ cs. serving (slice_index_or cs k no_column) n) e

-- a parity slot that was Live in a stripe that takes blocks was so in the old table
pub fits_gone : (told : Type 0) (job : ℕ) (passed : List Passed) (old now new : GroupView) → PassesAll told job passed old now
    → (s : ℕ) (gone : Option ℕ) → now.table.cursor.stripe ≤ s → FoundGone told now new s gone → FitsGone old.table s gone
fits_gone told job passed old now new all s None le f = tt
fits_gone told job passed old now new all s (Some c) le f = (
  omega (arith, f.0, all.data_columns),
  (
    ap (λ l. relay_in l s) (sym all.relays) ∙ f.3.0,
    none_least (width old.table) (λ k. is_unsound (slot_at old.table s k))
        (λ k lk. ap is_unsound (sym (all.ahead s k le lk)) ∙ least_none (width now.table) (λ k. is_unsound (slot_at now.table s k)) f.3.1 k (omega (arith, lk, all.data_columns, all.parity))),
  ),
  ap is_live (sym (all.ahead s c le (omega (arith, f.1, all.data_columns, all.parity)))) ∙ f.4,
)

-- a slot ahead that is sound now was sound in the old group
sound_ahead : (told : Type 0) (job : ℕ) (passed : List Passed) (old now : GroupView) → PassesAll told job passed old now → (h : Shelves) (s c : ℕ) → now.table.cursor.stripe ≤ s → c < width old.table
    → Sound (stripe_of now.table h.held s) c → Sound (stripe_of old.table h.held s) c
sound_ahead told job passed old now all h s c le lc x = (
  x.0,
  record {
    digest = x.1.digest;
    live = sym (all.ahead s c le lc) ∙ x.1.live;
    held = ap (λ n. h.held n s) (sym (same_serving now.table old.table all.columns s c)) ∙ x.1.held;
    right = x.1.right;
  },
)

-- a parity block that is missing in the table now is missing in the old one
pub missing_here : (told : Type 0) (job : ℕ) (passed : List Passed) (old now new : GroupView) → PassesAll told job passed old now
    → told → (s : ℕ) (gone : Option ℕ) → now.table.cursor.stripe ≤ s → FoundGone told now new s gone → IfSome gone (λ c. IsParityMissing (state_of old) new.shelves.held s c)
missing_here told job passed old now new all t s None le f = tt
missing_here told job passed old now new all t s (Some c) le f = record {
  takes = (fits_gone told job passed old now new all s (Some c) le f).1;
  live = (fits_gone told job passed old now new all s (Some c) le f).2;
  parity = omega (arith, f.0, all.data_columns);
  missing = (λ x. f.2 t (
    x.0,
    record {
      digest = x.1.digest;
      live = all.ahead s c le (omega (arith, f.1, all.data_columns, all.parity)) ∙ x.1.live;
      held = ap (λ n. new.shelves.held n s) (same_serving now.table old.table all.columns s c) ∙ x.1.held;
      right = x.1.right;
    },
  ));
  least = (λ e. sound_before old.table old.shelves now.shelves s old.table.data_columns (all.stays.loses t)
      (sound_ahead told job passed old now all now.shelves s old.table.data_columns le (omega (arith, f.1, e, all.data_columns, all.parity))
      (subst (λ k. Sound (stripe_of now.table now.shelves.held s) k) all.data_columns (f.5 t (e ∙ ap (λ k. k + 1) (sym all.data_columns))))));
}

module _ (told : Type 0) (job : ℕ) (passed : List Passed) (p q : List ℕ) (old now new : GroupView)
    (all : PassesAll told job passed old now) (one : Passes told job p q None now new) where
  -- the stripe passed last
  abbrev last : Passed
  last = record { stripe = now.table.cursor.stripe; gone = one.means.0 }

  beyond : Crossed now.table new.table now.table.cursor.stripe
  beyond = passed_one told job p q now new one

  ahead : (n k : ℕ) → new.table.cursor.stripe ≤ n → k < width old.table → slot_at new.table n k ≡ slot_at old.table n k
  ahead n k le lk =
      let differs : n ≢ now.table.cursor.stripe = omega (arith, beyond.cursor) in
      beyond.slots n k differs (omega (arith, all.data_columns, all.parity)) ∙ all.ahead n k (omega (arith, beyond.cursor)) lk

  pub passes_more : PassesAll told job (passed ++ last ∷ []) old new
  passes_more = record {
    logs = subst (λ l. Logs l old new) (sym (skips_push job passed last))
        (logs_then (skips job passed) (gone_entries job last.stripe last.gone ++ entry.Skip job last.stripe ∷ []) old now new all.logs one.means.2);
    stays = stays_then told old.shelves now.shelves new.shelves all.stays one.stays;
    missing = (λ t. All-push (λ x. IfSome x.gone (λ c. IsParityMissing (state_of old) new.shelves.held x.stripe c)) passed last
        (All-weaker (λ x. IfSome x.gone (λ c. IsParityMissing (state_of old) now.shelves.held x.stripe c)) (λ x. IfSome x.gone (λ c. IsParityMissing (state_of old) new.shelves.held x.stripe c))
        (λ x m. missing_on old now.shelves new.shelves x.stripe x.gone (one.stays.loses t) m) passed (all.missing t))
        (missing_here told job passed old now new all t now.table.cursor.stripe one.means.0 (omega arith) one.means.1));
    gones = All-push (λ x. FitsGone old.table x.stripe x.gone) passed last all.gones (fits_gone told job passed old now new all now.table.cursor.stripe one.means.0 (omega arith) one.means.1);
    ahead = ahead;
    relays = beyond.relays ∙ all.relays;
    columns = beyond.columns ∙ all.columns;
    data_columns = beyond.data_columns ∙ all.data_columns;
    parity = beyond.parity ∙ all.parity;
    stripes = beyond.stripes ∙ all.stripes;
  }

-- no stripe was passed
pub passes_none : (told : Type 0) (job : ℕ) (v : GroupView) → PassesAll told job [] v v
passes_none told job v = record {
  logs = record { number = refl; first = refl; log = sym (append-nil v.log); flights = refl; blinds = refl; tried = refl; replay = refl };
  stays = stays_refl told v.shelves;
  missing = (λ t. All-nil (λ x. IfSome x.gone (λ c. IsParityMissing (state_of v) v.shelves.held x.stripe c)));
  gones = All-nil (λ x. FitsGone v.table x.stripe x.gone);
  ahead = (λ n k le lk. refl);
  relays = refl;
  columns = refl;
  data_columns = refl;
  parity = refl;
  stripes = refl;
}

-- fewer stripes are left
pub fewer_left : (told : Type 0) (job : ℕ) (p q : List ℕ) (now new : GroupView) → Passes told job p q None now new
    → new.table.stripes - new.table.cursor.stripe < now.table.stripes - now.table.cursor.stripe
fewer_left told job p q now new one =
    let x : Crossed now.table new.table now.table.cursor.stripe = passed_one told job p q now new one in
    omega (arith, x.below, x.cursor, x.stripes)

-- the put stops at the next stripe
pub finds_at : (told : Type 0) (job : ℕ) (passed : List Passed) (p q : List ℕ) (s : Stop) (old now new : GroupView) → PassesAll told job passed old now
    → Passes told job p q (Some s) now new → FindsStripe told job p q s old new
finds_at told job passed p q s old now new all one = record { passed = passed; now = now; passes = all; stays = one.stays; means = one.means }
