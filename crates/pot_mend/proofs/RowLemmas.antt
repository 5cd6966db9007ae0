-- The repair of a group, place after place, and what its answers say of the section.
use Rattle.std.proofs.Common.{◌≡◌, ◌<◌, ◌≤◌, inl, inr, ⊎_elim, ℕ, ◌+◌, ◌*◌, List, [], ◌∷◌, ◌++◌, length, refl, ap, sym, ◌∙◌, subst, arith, append-nil, eq-eqb}
use Rattle.std.specs.Prelude.{Contains, filter, Some, None, Ok, Err}
use Rattle.pot_bytes.specs.declared.rack.Place.{Place}
use Rattle.pot_bytes.specs.declared.rack.Rack.{Rack}
use Rattle.pot_bytes.specs.Rack.{log_bound}
use Rattle.pot_machine.specs.declared.entry.Entry.{Entry}
use Rattle.pot_machine.specs.declared.entry.Entry.TheVariants as entry
use Rattle.pot_machine.specs.Slot.{is_unsound}
use Rattle.pot_machine.specs.Logs.{own}
use Rattle.pot_machine.proofs.Logs.{own_with}
use Rattle.pot_pads.specs.Pads.{Pads}
use Rattle.pot_group.specs.declared.finding.Kind.TheVariants as kind
use Rattle.pot_turn.specs.declared.name.TurnName.{TurnName}
use Rattle.pot_rows.specs.Rows.{view_at}
use Rattle.pot_rows.specs.Works.{AllIdle, RowOnlyWriterOf, RowWroteOnlyFor}
use Rattle.pot_rows.proofs.WorkLemmas.{row_work_in_parts}
use Rattle.pot_shared.specs.Catalogs.{IndexPasses}
use Rattle.pot_shared.specs.Members.{entries_of}
use Rattle.pot_shared.specs.Ready.{GroupPasses, AreReady}
use Rattle.pot_shared.specs.Calls.{CallAt, NextCall}
use Rattle.pot_shared.specs.MendCalls.{drawn}
use Rattle.pot_replies.specs.Jobs.{is_mended, is_left, is_stuck_at, Precedes}
use Rattle.pot_replies.specs.Sections.{Section}
use Rattle.pot_replies.specs.Settings.{Setting}
use Rattle.pot_replies.specs.Fetches.{MendsOnce}
use Rattle.pot_replies.specs.Scrubs.{AreRelays, IsRepaired, IsRepairFault, IsRepairLogFull}
use Rattle.pot_shared.specs.Works.{of_job, gained, known, section_of, IsSettingOf}
use Rattle.pot_mend.specs.declared.fault.MendFault.{MendFault}
use Rattle.pot_mend.specs.declared.fault.MendFault.TheVariants as fault
use Rattle.pot_mend.specs.declared.repairing.Repaired.{Repaired}
use Rattle.pot_shared.specs.Adds.{Adds, FailsTest, FailsOnce, FindsNext, IsFromOn, IsNextOf}
use Rattle.pot_shared.specs.Blinds.{Blinds, is_begin, most_dropped}
use Rattle.pot_mend.specs.Repairs.{NoneAgain, AreRepairs, WasLeft, IsPlaceDone, RepairSofar, RepairFails, RepairFills, RepairsPlace, Draws, RepairRow}
use Rattle.pot_mend.proofs.OrderLemmas.{AtOrAfter, before_or_after, none_before}
use Rattle.pot_mend.proofs.EntryLemmas.{count_one}
use Rattle.pot_shared.proofs.AddLemmas.{adds_none, adds_then, next_adds, next_finds, next_from, next_group, once_back, once_front}
use Rattle.pot_shared.proofs.BlindLemmas.{blinds_fewer, blinds_none, blinds_then, none_adds, then_quiet}
use Rattle.pot_mend.proofs.SectionLemmas.{found_was, last_full, not_always, only_in}
use Rattle.pot_mend.proofs.RepairLemmas.{none_again_more, repairs_wider}
use Rattle.pot_mend.proofs.PlaceLemmas.{drawn_more}

-- PLACE AFTER PLACE

-- What was done before this place, what was counted, and where the stream stands.
pub record Repairing (job g s c : ℕ) (r : Repaired) (pads after : Pads) (old now : GroupPasses) : Type 0 where
  pub draws : ℕ
  pub stream : after ≡ drawn pads draws
  pub few : r.mended + r.left ≤ length (view_at now g).seen
  pub sofar : RepairSofar job g s c r.mended r.left draws old now

-- the blinds that were drawn before this place, of which one at most was dropped at each
pub record Drawing (job s c : ℕ) (pads after : Pads) (old now : GroupPasses) : Type 0 where
  pub blinds : Blinds job (32 * s + c) pads after old now
  pub column : c ≤ 32
  pub few : 32 * s + c ≤ most_dropped

pub drawing_begin : {job : ℕ} {pads : Pads} {row : GroupPasses} → AllIdle row → Drawing job 0 0 pads pads row row
drawing_begin {job} {pads} {row} idle = record { blinds = blinds_none idle; column = omega arith; few = omega arith }

none_in : (e : Entry) → Contains [] e → ⊥
none_in e has = (let lt = has.1 in absurd (omega (arith, lt)))

empty_end : {E : Type 0} (xs ys : List E) (e : E) → [] ≡ xs ++ e ∷ ys → ⊥
empty_end [] ys e is = cc is
empty_end (x ∷ xs) ys e is = cc is

pub repairing_begin : (job g : ℕ) (pads : Pads) (row : GroupPasses) → AllIdle row → Repairing job g 0 0 (record { mended = 0; left = 0 }) pads pads row row
repairing_begin job g pads row idle = record {
  draws = 0;
  stream = refl;
  few = omega arith;
  sofar = record {
    entries = [];
    adds = adds_none job g row idle;
    are = record {
      kinds = λ e has. absurd (none_in e has);
      one_stuck = λ n k. omega arith;
      stuck_before = λ j n k o has. absurd (none_in (entry.Stuck j n k o) has);
      begun_before = λ j n k has. absurd (none_in (entry.Begin j n k) has);
      none_again = λ n k f x between y z is. empty_end (x ++ entry.Begin job n k ∷ (between ++ entry.Oddly job n k f ∷ y)) z (entry.Begin job n k) is;
      mended_is = refl;
      left_is = refl;
      counts = omega arith;
      blinds = omega arith;
    };
    done = λ n k before. absurd (none_before n k before);
  };
}

-- more is seen, and nothing logged
module _ (job g s c mended left draws : ℕ) (u v w : GroupPasses) (sofar : RepairSofar job g s c mended left draws u v) (more : Adds job g [] v w) where
  same_adds : Adds job g sofar.entries u w
  same_adds = subst (λ es. Adds job g es u w) (append-nil sofar.entries) (adds_then job g sofar.entries [] u v w sofar.adds more)

  still : (n k : ℕ) → IsPlaceDone sofar.entries job n k g u v → IsPlaceDone sofar.entries job n k g u w
  still n k (inl was) = inl was
  still n k (inr failed) = inr (once_front job g u v w sofar.adds.worked more.worked (FailsTest is_unsound n k) failed)

  -- the next place was found: each before it is done
  pub repair_found : (p : Place) → FindsNext is_unsound s c (Some p) g v w → IsFromOn s c p → RepairSofar job g p.stripe p.column mended left draws u w
  repair_found p finds from = record {
    entries = sofar.entries;
    adds = same_adds;
    are = repairs_wider job sofar.entries (s, c) (s, c) (p.stripe, p.column) (p.stripe, p.column) mended left draws sofar.are from from draws (omega arith);
    done = λ n k before. ⊎_elim
        (λ (low : Precedes (n, k) (s, c)). still n k (sofar.done n k low))
        (λ (at : AtOrAfter (s, c) (n, k)). inr (once_back job g u v w sofar.adds.worked more.worked (FailsTest is_unsound n k) (passed n k at before)))
        (before_or_after n k s c);
  }
    where
      passed : (n k : ℕ) → AtOrAfter (s, c) (n, k) → Precedes (n, k) (p.stripe, p.column) → FailsOnce is_unsound n k g v w
      passed n k at before first read =
          let (x, y, parts, next) = finds first read in
          (x, y, parts, λ in_stripes in_columns. next.2.1.2 n k ((subst (λ m. n < m) (sym next.0) in_stripes, subst (λ m. k < m) (sym next.1) in_columns), at) before)

  -- none was found: each is done
  pub repair_none : FindsNext is_unsound s c None g v w → (n k : ℕ) → IsPlaceDone sofar.entries job n k g u w
  repair_none finds n k = ⊎_elim
      (λ (low : Precedes (n, k) (s, c)). still n k (sofar.done n k low))
      (λ (at : AtOrAfter (s, c) (n, k)). inr (once_back job g u v w sofar.adds.worked more.worked (FailsTest is_unsound n k) (rest n k at)))
      (before_or_after n k s c)
    where
      rest : (n k : ℕ) → AtOrAfter (s, c) (n, k) → FailsOnce is_unsound n k g v w
      rest n k at first read =
          let (x, y, parts, next) = finds first read in
          (x, y, parts, λ in_stripes in_columns. next.2 n k ((subst (λ m. n < m) (sym next.0) in_stripes, subst (λ m. k < m) (sym next.1) in_columns), at))

-- WHAT THE LISTS SAY

mends_are : (job : ℕ) (added es : List Entry) → own job added ≡ es → ((n k : ℕ) → length (filter (is_stuck_at n k) es) ≤ 1) → NoneAgain job es → MendsOnce job added
mends_are job added es are one_stuck none_again = record {
  one_stuck = λ s c. subst (λ l. length (filter (is_stuck_at s c) l) ≤ 1) (sym are) (one_stuck s c);
  none_again = λ s c f x between y z at quiet. none_again s c f (own job x) (own job between) (own job y) (own job z)
      (sym are ∙ (ap (own job) at
      ∙ (own_with job (entry.Begin job s c) (x ++ entry.Begin job s c ∷ (between ++ entry.Oddly job s c f ∷ y)) z (eq-eqb job job refl)
      ∙ ap (λ l. l ++ entry.Begin job s c ∷ own job z)
      (own_with job (entry.Begin job s c) x (between ++ entry.Oddly job s c f ∷ y) (eq-eqb job job refl)
      ∙ ap (λ l. own job x ++ entry.Begin job s c ∷ l) (own_with job (entry.Oddly job s c f) between y (eq-eqb job job refl))))));
}

-- THE ANSWERS

module _ (st : Setting) (job g : ℕ) (rack : Rack) (u w : GroupPasses) (ui wi : IndexPasses) (same : wi ≡ ui) (within : g < length u.names)
    (alone : RowOnlyWriterOf (of_job job) u w) (set : IsSettingOf st rack (known u ui)) where
  abbrev its : Section
  its = section_of (known u ui) (known w wi)

  relays_are : (entries : List Entry) (stuck begun : ℕ × ℕ) (mended left draws : ℕ) → Adds job g entries u w → AreRepairs job entries stuck begun mended left draws → AreRelays job (its.added g)
  relays_are entries stuck begun mended left draws adds are = record {
    kinds = λ e has. are.kinds e (subst (λ l. Contains l e) (adds.own_is alone) has);
    mends = mends_are job (its.added g) entries (adds.own_is alone) are.one_stuck are.none_again;
  }

  pub repair_fault_row : (column draws : ℕ) → RepairFails job g column draws u w → IsRepairFault job g column its
  repair_fault_row column draws fails =
      let e : Entry = entry.Fault job fails.stripe column in
      let are = fails.are in
      record {
        sofar = fails.entries;
        stripe = fails.stripe;
        own_is = fails.adds.own_is alone;
        kinds = are.kinds;
        mends = mends_are job (its.added g) (fails.entries ++ e ∷ []) (fails.adds.own_is alone)
            (λ n k. (let a = are.one_stuck n k in let b = count_one (is_stuck_at n k) fails.entries e in omega (arith, a, b)))
            (none_again_more job fails.entries e are.none_again (λ n k is. absurd (cc is)));
        only = only_in st job g rack u w ui wi same within alone set (fails.entries ++ e ∷ []) fails.adds;
      }

  pub repair_full_row : (draws s c : ℕ) (p : Place) → RepairFills job g draws u w → FindsNext is_unsound s c (Some p) g u w → IsRepairLogFull st job g its
  repair_full_row draws s c p fills finds =
      let full = last_full st job g rack u w ui wi same within alone set fills.entries fills.adds fills.full in
      let was = found_was st job g rack u w ui wi same within alone set is_unsound s c p finds in
      record {
        relays = relays_are fills.entries fills.stuck fills.begun fills.mended fills.left draws fills.adds fills.are;
        only = only_in st job g rack u w ui wi same within alone set fills.entries fills.adds;
        log = entries_of (view_at w g).seen;
        moment = full.0;
        full = full.1;
        stripe = p.stripe;
        column = p.column;
        in_stripes = was.0;
        in_columns = was.1;
        was = was.2;
      }

  pub repaired_row : (s c draws : ℕ) (r : Repaired) (v : GroupPasses) → RepairSofar job g s c r.mended r.left draws u v → FindsNext is_unsound s c None g v w → Adds job g [] v w
      → IsRepaired st job g r.mended r.left its
  repaired_row s c draws r v sofar finds more =
      let adds : Adds job g sofar.entries u w = subst (λ es. Adds job g es u w) (append-nil sofar.entries) (adds_then job g sofar.entries [] u v w sofar.adds more) in
      let are = adds.own_is alone in
      record {
        relays = relays_are sofar.entries (s, c) (s, c) r.mended r.left draws adds sofar.are;
        only = only_in st job g rack u w ui wi same within alone set sofar.entries adds;
        mended_is = sofar.are.mended_is ∙ ap (λ es. length (filter is_mended es)) (sym are);
        left_is = sofar.are.left_is ∙ ap (λ es. length (filter is_left es)) (sym are);
        all = λ n k in_stripes in_columns always. subst (λ es. WasLeft es job n k) (sym are) (⊎_elim
            (λ (was : WasLeft sofar.entries job n k). was)
            (λ (failed : FailsOnce is_unsound n k g u w). absurd (not_always st job g rack u w ui wi same within alone set is_unsound n k in_stripes in_columns always failed))
            (repair_none job g s c r.mended r.left draws u v w sofar more finds n k));
      }

-- THE LOOP

module _ (told : Type 0) (job : ℕ) (rack : Rack) (names : List TurnName) (g s c : ℕ) (r : Repaired) (pads after : Pads) (u v x : GroupPasses) (within : g < length names) (ready : AreReady rack names v)
    (sofar : Repairing job g s c r pads after u v) where
  -- no place is left
  module _ (call : CallAt told (NextCall s c kind.Unsound None) g v x) where
    last_more : Adds job g [] v x
    last_more = next_adds told job rack names g s c kind.Unsound None v x within ready call

    last_finds : FindsNext is_unsound s c None g v x
    last_finds = next_finds told job rack names g s c kind.Unsound None v x within ready call

    pub group_work : RowWroteOnlyFor (of_job job) u x
    group_work = row_work_in_parts (of_job job) u v x sofar.sofar.adds.worked last_more.worked

    pub group_blinds : Drawing job s c pads after u v → Blinds job most_dropped pads after u x
    group_blinds before = blinds_fewer (then_quiet before.blinds (none_adds job g [] v x refl last_more)) before.few

    pub group_draws : Draws job g pads after u x
    group_draws =
        let adds : Adds job g sofar.sofar.entries u x = subst (λ es. Adds job g es u x) (append-nil sofar.sofar.entries) (adds_then job g sofar.sofar.entries [] u v x sofar.sofar.adds last_more) in
        (sofar.draws, sofar.stream, λ alone. subst (λ es. length (filter is_begin es) ≤ sofar.draws) (sym (adds.own_is alone)) sofar.sofar.are.blinds)

    pub group_row : (st : Setting) (ui wi : IndexPasses) → wi ≡ ui → g < length u.names → RowOnlyWriterOf (of_job job) u x → IsSettingOf st rack (known u ui)
        → RepairRow st job g (Ok r) (section_of (known u ui) (known x wi))
    group_row st ui wi same has alone set = repaired_row st job g rack u x ui wi same has alone set s c sofar.draws r v sofar.sofar last_finds last_more

  -- a place was found
  module _ (p : Place) (call : CallAt told (NextCall s c kind.Unsound (Some p)) g v x) where
    pub found_group : p.group ≡ g
    found_group = next_group told job rack names g s c kind.Unsound (Some p) v x within ready call p refl

    found_more : Adds job g [] v x
    found_more = next_adds told job rack names g s c kind.Unsound (Some p) v x within ready call

    found_finds : FindsNext is_unsound s c (Some p) g v x
    found_finds = next_finds told job rack names g s c kind.Unsound (Some p) v x within ready call

    found_from : IsFromOn s c p
    found_from = next_from told job rack names g s c kind.Unsound (Some p) v x within ready call p refl

    -- one of few places
    found_small : (p.stripe < 4096) × (p.column < 18)
    found_small =
        let sizes = call.turn.settled_old.sizes in
        let a = sizes.0 in
        let b = sizes.1 in
        let d = sizes.2 in
        let columns = call.turn.read.size.data_columns.1 in
        let parity = call.turn.read.size.parity.1 in
        let stripes = call.turn.read.size.stripes.1 in
        let stripe = call.turn.call.2.1.0.0.0 in
        let column = call.turn.call.2.1.0.0.1 in
        (omega (arith, stripe, d, stripes), omega (arith, column, a, b, columns, parity))

    found_few : r.mended + r.left ≤ length (view_at x p.group).seen
    found_few = subst (λ n. r.mended + r.left ≤ length (view_at x n).seen) (sym found_group) (let a = found_more.grew in let b = sofar.few in omega (arith, a, b))

    there : RepairSofar job p.group p.stripe p.column r.mended r.left sofar.draws u x
    there = subst (λ n. RepairSofar job n p.stripe p.column r.mended r.left sofar.draws u x) (sym found_group)
        (repair_found job g s c r.mended r.left sofar.draws u v x sofar.sofar found_more p found_finds found_from)

    module _ (after' : Pads) (w : GroupPasses) where
      pub found_drawing : Drawing job s c pads after u v → Blinds job 1 after after' x w → Drawing job p.stripe (p.column + 1) pads after' u w
      found_drawing before place = record {
        blinds = blinds_then (then_quiet before.blinds (none_adds job g [] v x refl found_more)) place (later before found_from);
        column = (let small = found_small.1 in omega (arith, small));
        few = (let stripe = found_small.0 in let column = found_small.1 in omega (arith, stripe, column));
      }
        where
          later : Drawing job s c pads after u v → IsFromOn s c p → (32 * s + c) + 1 ≤ 32 * p.stripe + (p.column + 1)
          later d (inl lt) = (let column = d.column in omega (arith, lt, column))
          later d (inr (same, le)) = omega (arith, same, le)

      pub stop_blinds : Drawing job s c pads after u v → Blinds job 1 after after' x w → Blinds job most_dropped pads after' u w
      stop_blinds before place = (let d = found_drawing before place in blinds_fewer d.blinds d.few)

      module _ (more : Repaired) (place : RepairsPlace job p (Ok more) after after' x w) where
        -- all that was counted has entries
        pub found_fits : (r.mended + more.mended) + (r.left + more.left) ≤ log_bound
        found_fits = (let a = found_few in let b = place.few in let c = place.bound in omega (arith, a, b, c))

        pub found_step : Repairing job g p.stripe (p.column + 1) (record { mended = r.mended + more.mended; left = r.left + more.left }) pads after' u w
        found_step = record {
          draws = sofar.draws + place.more;
          stream = place.stream ∙ (ap (λ q. drawn q place.more) sofar.stream ∙ drawn_more pads sofar.draws place.more);
          few = subst (λ n. (r.mended + more.mended) + (r.left + more.left) ≤ length (view_at w n).seen) found_group (let a = found_few in let b = place.few in omega (arith, a, b));
          sofar = subst (λ n. RepairSofar job n p.stripe (p.column + 1) (r.mended + more.mended) (r.left + more.left) (sofar.draws + place.more) u w) found_group
              (place.ends u r.mended r.left sofar.draws there);
        }

      stop_stream : (more : ℕ) → after' ≡ drawn after more → after' ≡ drawn pads (sofar.draws + more)
      stop_stream more is = is ∙ (ap (λ q. drawn q more) sofar.stream ∙ drawn_more pads sofar.draws more)

      -- at the first fault, or full log
      pub stop_work : (e : MendFault) → RepairsPlace job p (Err e) after after' x w → RowWroteOnlyFor (of_job job) u w
      stop_work (fault.Faulted group column) place = (place.ends.1 u r.mended r.left sofar.draws there).adds.worked
      stop_work (fault.LogFull group) place = (place.ends.1 u r.mended r.left sofar.draws there).adds.worked

      pub stop_draws : (e : MendFault) → RepairsPlace job p (Err e) after after' x w → Draws job g pads after' u w
      stop_draws (fault.Faulted group column) place =
          let fails = place.ends.1 u r.mended r.left sofar.draws there in
          let d = sofar.draws + place.more in
          let f = entry.Fault job fails.stripe column in (
            d,
            stop_stream place.more place.stream,
            λ alone. subst (λ n. length (filter is_begin (own job (gained u w n))) ≤ d) found_group
                (subst (λ es. length (filter is_begin es) ≤ d) (sym (fails.adds.own_is alone)) (let a = fails.are.blinds in let b = count_one is_begin fails.entries f in omega (arith, a, b))),
          )
      stop_draws (fault.LogFull group) place =
          let fills = place.ends.1 u r.mended r.left sofar.draws there in
          let d = sofar.draws + place.more in (
            d,
            stop_stream place.more place.stream,
            λ alone. subst (λ n. length (filter is_begin (own job (gained u w n))) ≤ d) found_group
                (subst (λ es. length (filter is_begin es) ≤ d) (sym (fills.adds.own_is alone)) fills.are.blinds),
          )

      module _ (st : Setting) (ui wi : IndexPasses) (same : wi ≡ ui) (has : g < length u.names) (alone : RowOnlyWriterOf (of_job job) u w) (set : IsSettingOf st rack (known u ui)) where
        pub stop_row : (e : MendFault) → RepairsPlace job p (Err e) after after' x w → RepairRow st job g (Err e) (section_of (known u ui) (known w wi))
        stop_row (fault.Faulted group column) place = (
          place.ends.0 ∙ found_group,
          repair_fault_row st job g rack u w ui wi same has alone set column (sofar.draws + place.more)
              (subst (λ n. RepairFails job n column (sofar.draws + place.more) u w) found_group (place.ends.1 u r.mended r.left sofar.draws there)),
        )
        stop_row (fault.LogFull group) place = (
          place.ends.0 ∙ found_group,
          repair_full_row st job g rack u w ui wi same has alone set (sofar.draws + place.more) s c p
              (subst (λ n. RepairFills job n (sofar.draws + place.more) u w) found_group (place.ends.1 u r.mended r.left sofar.draws there))
              (once_front job g u x w (row_work_in_parts (of_job job) u v x sofar.sofar.adds.worked found_more.worked) place.worked (IsNextOf is_unsound s c (Some p) g)
              (once_back job g u v x sofar.sofar.adds.worked found_more.worked (IsNextOf is_unsound s c (Some p) g) found_finds)),
        )
