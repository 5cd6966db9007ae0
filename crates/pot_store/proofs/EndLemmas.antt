-- The put that a store ends at.
use Rattle.std.proofs.Common.{◌≡◌, ◌≢◌, ◌<◌, ◌≤◌, ◌⊎◌, inl, inr, ⊎_elim, ℕ, ◌+◌, ◌-◌, Bool, false, List, [], ◌∷◌, ◌++◌, length, refl, ap, sym, ◌∙◌, subst, arith, append-nil, append_assoc}
use Rattle.std.specs.Prelude.{Option, Some, None, Err, slice_get}
use Rattle.std.proofs.lemmas.List.{length-map, length-append, append_cancel_left}
use Rattle.pot_bytes.specs.declared.rack.Geometry.{Geometry}
use Rattle.pot_bytes.specs.declared.rack.Rack.{Rack}
use Rattle.pot_bytes.specs.declared.rack.Place.{Place}
use Rattle.pot_bytes.specs.Rack.{log_bound}
use Rattle.pot_machine.specs.declared.entry.Entry.TheVariants as entry
use Rattle.pot_machine.specs.Logs.{own, replayed}
use Rattle.pot_machine.specs.declared.entry.Entry.{Entry}
use Rattle.pot_machine.specs.Table.{Table, relay_at}
use Rattle.pot_machine.proofs.Logs.{replays_is, replayed_append}
use Rattle.pot_bytes.specs.Digests.{digest_of}
use Rattle.pot_steps.specs.GroupStep.{Passed, skips, gone_entries, put_entry, unkept}
use Rattle.pot_group.specs.Group.{GroupView}
use Rattle.pot_group.specs.declared.answers.PutFault.{PutFault}
use Rattle.pot_group.specs.declared.answers.PutFault.TheVariants as fault
use Rattle.pot_index.specs.Fits.{group_of}
use Rattle.pot_turn.specs.declared.name.TurnName.{TurnName}
use Rattle.pot_rows.specs.Rows.{view_at}
use Rattle.pot_rows.specs.Works.{RowWroteOnlyFor, RowOnlyWriterOf}
use Rattle.pot_rows.proofs.WorkLemmas.{row_work_in_parts, row_alone_in_parts}
use Rattle.pot_replies.specs.Renewals.{IsPutFault}
use Rattle.pot_replies.specs.Stores.{Puts, in_group, IsUnkept}
use Rattle.pot_shared.specs.Members.{entries_of, origin_of}
use Rattle.pot_shared.specs.Ready.{GroupPass, GroupPasses, AreReady, IsTableOf}
use Rattle.pot_group.specs.Calls.{PutCall, PutTells, PutNothing}
use Rattle.pot_shared.specs.Calls.{CallAt}
use Rattle.pot_shared.proofs.CallLemmas.{is_table}
use Rattle.pot_shared.specs.Works.{of_job, gained}
use Rattle.pot_store.specs.Puts.{ArePut, EndsFull, EndsLogFull, EndsPut, PutsEnd}
use Rattle.pot_shared.proofs.WorkLemmas.{group_work, group_own, group_else, own_more}
use Rattle.pot_store.proofs.PutLemmas.{all_put, unkept_put}
use Rattle.pot_store.proofs.StepLemmas.{called_here, met_log, left_log}
use Rattle.pot_shared.proofs.AddLemmas.{its_gain}
use Rattle.pot_store.proofs.ReadLemmas.{both_gained, seen_parts}

-- a log that was not full has room while nothing was logged
room_at : (passed : List Passed) (before now : ℕ) → before ≤ log_bound → (before ≡ log_bound → ⊥) → (passed ≡ [] → now ≡ before) → (now < log_bound) ⊎ (passed ≢ [])
room_at [] before now bound not_full same = inl (let e = same refl in below before now bound not_full e)
  where
    below : (b n : ℕ) → b ≤ log_bound → (b ≡ log_bound → ⊥) → n ≡ b → n < log_bound
    below b n le ne is = omega (arith, le, ne, is)
room_at (x ∷ xs) before now bound not_full same = inr (λ e. absurd (cc e))

-- nothing was logged where no stripe was passed
none_gone : (job s : ℕ) (gone : Option ℕ) → gone_entries job s gone ≡ [] → gone ≡ None
none_gone job s None e = refl
none_gone job s (Some c) e = absurd (cc e)

none_logged : (job s : ℕ) (passed : List Passed) (gone : Option ℕ) → skips job passed ++ gone_entries job s gone ≡ [] → (passed ≡ []) × (gone ≡ None)
none_logged job s [] gone e = (refl, none_gone job s gone e)
none_logged job s (x ∷ xs) gone e = absurd (some x.gone e)
  where
    some : (g : Option ℕ) → (gone_entries job x.stripe g ++ entry.Skip job x.stripe ∷ skips job xs) ++ gone_entries job s gone ≡ [] → ⊥
    some None is = absurd (cc is)
    some (Some c) is = absurd (cc is)

module _ (rack : Rack) (names : List TurnName) (told : Type 0) (job : ℕ) (v w : GroupPasses) (group : ℕ) (block : List ℕ) (cause : PutFault)
    (ready : AreReady rack names v) (lt : group < length names) (call : CallAt told (PutCall told job block (Err cause)) group v w) where
  within : group < length v.views
  within = let l = ready.of.1 in omega (arith, lt, l)

  its_table : IsTableOf rack call.turn.old.table
  its_table = is_table rack told group (view_at v group).origin call.turn.old call.turn.origin (ready.origins group lt) call.turn.settled_old

  its_origin : Some (origin_of call.turn.old) ≡ (view_at w group).origin
  its_origin = call.turn.origin ∙ sym (ap (λ (x : GroupPass). x.origin) (called_here told (PutCall told job block (Err cause)) group v w within call) ∙ ap (λ (x : GroupPass). x.origin) call.turn.turn)

  seen_log : entries_of (view_at w group).seen ≡ call.turn.new.log
  seen_log = left_log told (PutCall told job block (Err cause)) group v w within call

  seen_long : length (view_at w group).seen ≡ length call.turn.new.log
  seen_long = sym (length-map (view_at w group).seen (λ l. l.entry)) ∙ ap length seen_log

  -- the table that the log seen leads to
  leads : replayed call.turn.old.first (entries_of (view_at w group).seen) ≡ call.turn.new.table
  leads = ap (λ x. replayed x (entries_of (view_at w group).seen)) (sym call.turn.first) ∙ (ap (replayed call.turn.new.first) seen_log
      ∙ replays_is call.turn.new.first call.turn.new.log call.turn.new.table call.turn.settled.replay)

  its_stripes : call.turn.new.table.stripes ≡ call.turn.old.first.stripes
  its_stripes = call.turn.settled.sizes.2 ∙ ap (λ (x : Table). x.stripes) call.turn.first

  logged_long : length call.turn.new.log ≡ length call.turn.old.log + length call.turn.entries
  logged_long = ap length call.turn.log ∙ length-append call.turn.old.log call.turn.entries

  ends_full : cause ≡ fault.Full → call.turn.new.table.cursor.stripe ≡ call.turn.new.table.stripes → (passed : List Passed) → call.turn.entries ≡ skips job passed → EndsFull call.turn.old.first passed (view_at w group)
  ends_full is behind passed are =
      let at : (replayed call.turn.old.first (entries_of (view_at w group).seen)).cursor.stripe ≡ call.turn.old.first.stripes = ap (λ (x : Table). x.cursor.stripe) leads ∙ (behind ∙ its_stripes) in
      let not_full : length call.turn.old.log ≡ log_bound → ⊥ = λ l. absurd (let f = (call.turn.call.full l).0 in cc (f, is)) in
      let room = room_at passed (length call.turn.old.log) (length (view_at w group).seen) call.turn.settled_old.bound not_full
      (λ none. seen_long ∙ (logged_long ∙ (let e = ap length (are ∙ ap (skips job) none) in omega (arith, e)))) in
      (at, room)

  ends_log_full : length call.turn.new.log ≡ log_bound → (length call.turn.old.log ≡ log_bound) ⊎ (call.turn.new.table.cursor.stripe < call.turn.new.table.stripes)
      → (passed : List Passed) (s : ℕ) (gone : Option ℕ) → call.turn.entries ≡ skips job passed ++ gone_entries job s gone → EndsLogFull call.turn.old.first passed gone (view_at w group)
  ends_log_full full next passed s gone are = (
    seen_long ∙ full,
    ⊎_elim
        (λ (was : length call.turn.old.log ≡ log_bound).
        let same : call.turn.new.log ≡ call.turn.old.log = ap (λ (g : GroupView). g.log) (call.turn.call.full was).1 in
        let none : call.turn.entries ≡ [] = append_cancel_left call.turn.old.log call.turn.entries [] (sym call.turn.log ∙ (same ∙ sym (append-nil call.turn.old.log))) in
        inl (none_logged job s passed gone (sym are ∙ none)))
        (λ (less : call.turn.new.table.cursor.stripe < call.turn.new.table.stripes).
        let at = ap (λ (x : Table). x.cursor.stripe) leads in let st = its_stripes in
        inr (omega (arith, less, at, st)))
        next,
  )

  not_kept : (s c column : ℕ) (p q : List ℕ) (kept kept2 : Bool) → column ≡ unkept call.turn.old.table.data_columns kept → (kept ≡ false) ⊎ ((call.turn.old.table.parity ≡ 2) × (kept2 ≡ false))
      → IsUnkept rack.columns job (digest_of block) column (put_entry call.turn.old.table.parity job s c block p q kept kept2)
  not_kept s c column p q kept kept2 is fails =
      unkept_put rack.columns call.turn.old.table.parity job s c column block p q kept kept2 (is ∙ ap (λ n. unkept n kept) its_table.0) fails

  -- a Fault of the put stands in the cursor's stripe, which has no relay
  put_fault : (passed : List Passed) (s column : ℕ) → PutNothing job passed s column call.turn.old call.turn.new call.turn.entries
      → IsPutFault call.turn.old.first job (entries_of (view_at v group).seen) (gained v w group) s column
  put_fault passed s column (is, stripe, takes, place) =
      let R = PutCall told job block (Err cause) in
      let x : List Entry = entries_of call.turn.others ++ skips job passed in
      let before : List Entry = entries_of (view_at v group).seen in
      let e : Entry = entry.Fault job s column in
      let log : entries_of (view_at w group).seen ≡ (before ++ x) ++ e ∷ [] =
      seen_log ∙ (call.turn.log ∙ (ap (λ l. l ++ call.turn.entries) (met_log told R group v w within call) ∙ (ap (λ es. (before ++ entries_of call.turn.others) ++ es) is
      ∙ (sym (append_assoc (before ++ entries_of call.turn.others) (skips job passed) (e ∷ [])) ∙ ap (λ l. l ++ e ∷ []) (append_assoc before (entries_of call.turn.others) (skips job passed)))))) in
      let table : replayed call.turn.old.first (before ++ x) ≡ call.turn.new.table =
      sym (replayed_append call.turn.old.first (before ++ x) (e ∷ [])) ∙ (ap (replayed call.turn.old.first) (sym log) ∙ leads) in
      let columns : call.turn.old.table.data_columns ≡ call.turn.old.first.data_columns = call.turn.settled_old.sizes.0 in
      record {
        x = x;
        y = [];
        at = its_gain told job R group v w within call ∙ (ap (λ es. entries_of call.turn.others ++ es) is ∙ sym (append_assoc (entries_of call.turn.others) (skips job passed) (e ∷ [])));
        in_stripe = stripe ∙ ap (λ (t : Table). t.cursor.stripe) (sym table);
        in_column = ⊎_elim
            (λ (here : column ≡ call.turn.new.table.cursor.column). inl (here ∙ ap (λ (t : Table). t.cursor.column) (sym table)))
            (λ (parity : call.turn.old.table.data_columns ≤ column). inr (column - call.turn.old.first.data_columns, omega (arith, parity, columns)))
            place;
        no_relay = subst (λ t. relay_at t s ≡ None) (sym table) (subst (λ n. relay_at call.turn.new.table n ≡ None) (sym stripe) takes.0);
      }

-- WITH WHAT STOOD BEFORE

pub fault_wider : (first : Table) (job : ℕ) (before gain more : List Entry) (s c : ℕ) → IsPutFault first job (before ++ gain) more s c → IsPutFault first job before (gain ++ more) s c
fault_wider first job before gain more s c f = record {
  x = gain ++ f.x;
  y = f.y;
  at = ap (λ l. gain ++ l) f.at ∙ sym (append_assoc gain f.x (entry.Fault job s c ∷ f.y));
  in_stripe = subst (λ l. s ≡ (replayed first l).cursor.stripe) (append_assoc before gain f.x) f.in_stripe;
  in_column = subst (λ l. (c ≡ (replayed first l).cursor.column) ⊎ ((q : ℕ) × (c ≡ first.data_columns + q))) (append_assoc before gain f.x) f.in_column;
  no_relay = subst (λ l. relay_at (replayed first l) s ≡ None) (append_assoc before gain f.x) f.no_relay;
}

ends_wider : (rack : Rack) (first : Table) (job : ℕ) (block : List ℕ) (cause : PutFault) (entries before gain more : List Entry) (w : GroupPass)
    → EndsPut rack first job block cause entries (before ++ gain) more w → EndsPut rack first job block cause entries before (gain ++ more) w
ends_wider rack first job block fault.Full entries before gain more w ends = ends
ends_wider rack first job block fault.LogFull entries before gain more w ends = ends
ends_wider rack first job block (fault.Faulted column) entries before gain more w (passed, last, is, inl (s, at, f)) =
    (passed, last, is, inl (s, at, fault_wider first job before gain more s column f))
ends_wider rack first job block (fault.Faulted column) entries before gain more w (passed, last, is, inr un) = (passed, last, is, inr un)

ends_put : (rack : Rack) (names : List TurnName) (told : Type 0) (job : ℕ) (v w : GroupPasses) (group : ℕ) (block : List ℕ) (cause : PutFault)
    → AreReady rack names v → group < length names → (call : CallAt told (PutCall told job block (Err cause)) group v w)
    → EndsPut rack call.turn.old.first job block cause call.turn.entries (entries_of (view_at v group).seen) (gained v w group) (view_at w group)
ends_put rack names told job v w group block fault.Full ready lt call =
    let m = call.turn.call.tells in
    (m.0, m.1, ends_full rack names told job v w group block fault.Full ready lt call refl m.3 m.0 m.1)
ends_put rack names told job v w group block fault.LogFull ready lt call =
    let m = call.turn.call.tells in
    (m.0, m.1, m.2, m.3, ends_log_full rack names told job v w group block fault.LogFull ready lt call m.6 m.7 m.0 m.1 m.2 m.3)
ends_put rack names told job v w group block (fault.Faulted column) ready lt call = faulted call.turn.call.tells
  where
    faulted : PutTells job block (Err (fault.Faulted column)) call.turn.old call.turn.new call.turn.entries
        → EndsPut rack call.turn.old.first job block (fault.Faulted column) call.turn.entries (entries_of (view_at v group).seen) (gained v w group) (view_at w group)
    faulted (passed, s, inl (is, stripe, takes, place), fails, gones) =
        (passed, entry.Fault job s column, is, inl (s, refl, put_fault rack names told job v w group block (fault.Faulted column) ready lt call passed s column (is, stripe, takes, place)))
    faulted (passed, s, inr (c, p, q, kept, kept2, column_is, unkept, is, fits), fails, gones) =
        (passed, _, is, inr (not_kept rack names told job v w group block (fault.Faulted column) ready lt call s c column p q kept kept2 column_is unkept))

pub refused_work : (rack : Rack) (names : List TurnName) (told : Type 0) (job : ℕ) (u v w : GroupPasses) (group : ℕ) (block : List ℕ) (cause : PutFault)
    → AreReady rack names v → group < length names → CallAt told (PutCall told job block (Err cause)) group v w → RowWroteOnlyFor (of_job job) u v → RowWroteOnlyFor (of_job job) u w
refused_work rack names told job u v w group block cause ready lt call worked =
    let R = PutCall told job block (Err cause) in
    let in_views = within rack names told job v w group block cause ready lt call in
    let all = all_put job block (Err cause) call.turn.old call.turn.new call.turn.entries call.turn.call.tells in
    row_work_in_parts (of_job job) u v w worked (group_work told job R group v w in_views call all ready.idle)

pub puts_end : (rack : Rack) (geometry : Geometry) (names : List TurnName) (told : Type 0) (job : ℕ) (u v w : GroupPasses) (group : ℕ) (block : List ℕ) (cause : PutFault)
    → AreReady rack names v → group < length names → CallAt told (PutCall told job block (Err cause)) group v w
    → (blocks : List (List ℕ)) (places : List Place) → ArePut rack geometry job blocks places u v → slice_get blocks (length places) ≡ Some block → group ≡ group_of rack geometry (length places)
    → u.names ≡ names → RowOnlyWriterOf (of_job job) u w → PutsEnd rack geometry job blocks group cause u w
puts_end rack geometry names told job u v w group block cause ready lt call blocks places sofar is at_group named alone =
    let R = PutCall told job block (Err cause) in
    let in_views = within rack names told job v w group block cause ready lt call in
    let all = all_put job block (Err cause) call.turn.old call.turn.new call.turn.entries call.turn.call.tells in
    let work = group_work told job R group v w in_views call all ready.idle in
    let parts = row_alone_in_parts (of_job job) u v w sofar.worked work alone in
    let puts = sofar.puts parts.0 in
    let long : length sofar.placed ≡ length places = sym (ap length sofar.places_are ∙ length-map sofar.placed _) in
    record {
      placed = sofar.placed;
      next = block;
      within = (let l = ap length named in omega (arith, lt, l));
      origin = origin_of call.turn.old;
      named = sym (its_origin rack names told job v w group block cause ready lt call);
      digests = sofar.digests;
      next_is = subst (λ n. slice_get blocks n ≡ Some block) (sym long) is;
      fits = sofar.fits;
      group_is = at_group ∙ ap (group_of rack geometry) (sym long);
      sofar = own job (gained u v group);
      last = call.turn.entries;
      here = own_more job u v w sofar.worked work group ∙ ap (λ es. own job (gained u v group) ++ es) (group_own told job R group v w in_views call all parts.1);
      puts_here = puts group;
      puts = λ h ne. subst (λ es. Puts job (in_group h sofar.placed) es)
          (sym (own_more job u v w sofar.worked work h ∙ (ap (λ es. own job (gained u v h) ++ es) (group_else told job R group v w in_views call all parts.1 h ne) ∙ append-nil (own job (gained u v h))))) (puts h);
      ends = subst (λ l. EndsPut rack call.turn.old.first job block cause call.turn.entries (entries_of (view_at u group).seen) l (view_at w group)) (sym (both_gained job u v w sofar.worked work group))
          (ends_wider rack call.turn.old.first job block cause call.turn.entries (entries_of (view_at u group).seen) (gained u v group) (gained v w group) (view_at w group)
          (subst (λ l. EndsPut rack call.turn.old.first job block cause call.turn.entries l (gained v w group) (view_at w group)) (seen_parts job u v w sofar.worked work group)
          (ends_put rack names told job v w group block cause ready lt call)));
    }
