-- One put more.
use Rattle.std.proofs.Common.{◌≡◌, ◌≢◌, ◌<◌, ⊎_elim, ℕ, ◌+◌, true, List, [], ◌∷◌, ◌++◌, length, refl, ap, sym, ◌∙◌, subst, arith, append-nil, append_assoc, take}
use Rattle.std.specs.Prelude.{Some, Ok, map, Contains, slice_get}
use Rattle.std.proofs.lemmas.List.{map-append, length-append, length-map}
use Rattle.std.proofs.lemmas.List.Elements.{Contains-append_left, Contains-append_right}
use Rattle.std.proofs.lemmas.Bool.{cases_eq}
use lib.Seq.{drop-length}
use Rattle.pot_bytes.specs.declared.digest.Digest.{Digest}
use Rattle.pot_bytes.specs.declared.rack.Geometry.{Geometry}
use Rattle.pot_bytes.specs.declared.rack.Place.{Place}
use Rattle.pot_bytes.specs.declared.rack.Rack.{Rack}
use Rattle.pot_machine.specs.declared.entry.Entry.{Entry}
use Rattle.pot_machine.specs.Table.{Table}
use Rattle.pot_machine.specs.Machine.{Legal, Replays, TakesPut, after}
use Rattle.pot_machine.specs.Rules.{IsTable}
use Rattle.pot_machine.specs.Logs.{own, IsKeptPut}
use Rattle.pot_machine.proofs.LeftAlone.{sizes_stay, rules_stay, logs_went_on}
use Rattle.pot_bytes.specs.Digests.{digest_of}
use Rattle.pot_steps.specs.GroupStep.{Passed, skips, put_entry}
use Rattle.pot_group.specs.Group.{GroupView}
use Rattle.pot_index.specs.Fits.{FitsPlace, group_of}
use Rattle.pot_turn.specs.declared.name.TurnName.{TurnName}
use Rattle.pot_turn.specs.Logs.{StartsWith}
use Rattle.pot_rows.specs.Rows.{view_at}
use Rattle.pot_rows.specs.Works.{RowWroteOnlyFor, RowOnlyWriterOf, AllIdle}
use Rattle.pot_rows.proofs.RowLemmas.{at_set, at_other}
use Rattle.pot_rows.proofs.WorkLemmas.{row_work_in_parts, row_alone_in_parts}
use Rattle.pot_replies.specs.Stores.{Placed, Puts, place_of, in_group}
use Rattle.pot_shared.specs.Members.{entries_of}
use Rattle.pot_shared.specs.Ready.{GroupPass, GroupPasses, AreReady, IsTableOf}
use Rattle.pot_shared.specs.Seen.{SeesPut}
use Rattle.pot_group.specs.Calls.{PutCall}
use Rattle.pot_shared.specs.Calls.{CallAt, marked}
use Rattle.pot_shared.proofs.MemberLemmas.{entries_all, entries_kept}
use Rattle.pot_shared.proofs.CallLemmas.{is_origin, is_table}
use Rattle.pot_shared.proofs.CatalogLemmas.{sees_more}
use Rattle.pot_shared.specs.Works.{of_job, gained}
use Rattle.pot_store.specs.Puts.{ArePut}
use Rattle.pot_shared.proofs.WorkLemmas.{row_stays, group_work, group_own, group_else, own_more}
use Rattle.pot_store.proofs.PutLemmas.{all_put, kept_put, takes_put, puts_more, in_more, in_same, take_next, snoc_get}
use Rattle.pot_store.proofs.CursorLemmas.{IsBefore, puts_behind}

-- no block was put yet
pub puts_none : (rack : Rack) (geometry : Geometry) (job : ℕ) (blocks : List (List ℕ)) (row : GroupPasses) → AllIdle row → ArePut rack geometry job blocks [] row row
puts_none rack geometry job blocks row idle = record {
  placed = [];
  places_are = refl;
  digests = refl;
  fits = λ b x is. absurd (cc is);
  seen = λ b x is. absurd (cc is);
  apart = λ a b x y is. absurd (cc is);
  worked = row_stays (of_job job) row idle;
  puts = λ alone g. ap (λ ls. own job (entries_of ls)) (drop-length (view_at row g).seen);
}

-- WHAT A CALL SAW

module _ (told : Type 0) (R : GroupView → GroupView → List Entry → Type 0) (group : ℕ) (v w : GroupPasses) (within : group < length v.views) (call : CallAt told R group v w) where
  pub called_here : view_at w group ≡ call.pass
  called_here = ap (λ (r : GroupPasses). view_at r group) call.is ∙ at_set v group call.pass within

  pub called_there : (h : ℕ) → group ≢ h → view_at w h ≡ view_at v h
  called_there h ne = ap (λ (r : GroupPasses). view_at r h) call.is ∙ at_other v group h call.pass ne

  -- the log that was met, and the log that was left
  pub met_log : call.turn.old.log ≡ entries_of (view_at v group).seen ++ entries_of call.turn.others
  met_log = sym (entries_kept call.turn.old) ∙ (ap entries_of call.turn.transition ∙ map-append (λ l. l.entry) (view_at v group).seen call.turn.others)

  pub left_log : entries_of (view_at w group).seen ≡ call.turn.new.log
  left_log =
      let seen : (view_at w group).seen ≡ ((view_at v group).seen ++ call.turn.others) ++ marked call.turn = ap (λ (x : GroupPass). x.seen) called_here ∙ ap (λ (x : GroupPass). x.seen) call.turn.turn in
      ap entries_of seen
      ∙ (map-append (λ l. l.entry) ((view_at v group).seen ++ call.turn.others) (marked call.turn)
      ∙ (ap (λ s. s ++ entries_of (marked call.turn)) (sym (ap entries_of call.turn.transition) ∙ entries_kept call.turn.old)
      ∙ (ap (λ s. call.turn.old.log ++ s) (entries_all call.turn.new.shelves call.turn.more call.turn.entries) ∙ sym call.turn.log)))

  -- each pass has seen more
  pub called_grown : (g : ℕ) → StartsWith (view_at w g).seen (view_at v g).seen
  called_grown g = ⊎_elim
      (λ (e : group ≡ g).
      let seen : (view_at w group).seen ≡ ((view_at v group).seen ++ call.turn.others) ++ marked call.turn = ap (λ (x : GroupPass). x.seen) called_here ∙ ap (λ (x : GroupPass). x.seen) call.turn.turn in
      subst (λ i. StartsWith (view_at w i).seen (view_at v i).seen) e (call.turn.others ++ marked call.turn, seen ∙ append_assoc (view_at v group).seen call.turn.others (marked call.turn)))
      (λ (ne : group ≢ g). subst (λ (x : GroupPass). StartsWith x.seen (view_at v g).seen) (sym (called_there g ne)) ([], sym (append-nil (view_at v g).seen)))
      (cases_eq group g)

  pub called_names : w.names ≡ v.names
  called_names = ap (λ (r : GroupPasses). r.names) call.is

-- A PUT THAT WAS MADE

module _ (rack : Rack) (geometry : Geometry) (names : List TurnName) (told : Type 0) (job : ℕ) (v w : GroupPasses) (group : ℕ) (block : List ℕ) (place : Place)
    (ready : AreReady rack names v) (lt : group < length names) (call : CallAt told (PutCall told job block (Ok place)) group v w) where
  within : group < length v.views
  within = let l = ready.of.1 in omega (arith, lt, l)

  its_table : IsTableOf rack call.turn.old.table
  its_table = is_table rack told group (view_at v group).origin call.turn.old call.turn.origin (ready.origins group lt) call.turn.settled_old

  pub its_group : place.group ≡ group
  its_group = call.turn.call.tells.0 ∙ (is_origin rack group (view_at v group).origin call.turn.old call.turn.origin (ready.origins group lt)).0

  pub made : (passed : List Passed) × (p : List ℕ) × (q : List ℕ) × (call.turn.entries ≡ skips job passed ++ put_entry call.turn.old.table.parity job place.stripe place.column block p q true true ∷ [])
  made = (let m = call.turn.call.tells.1 in (m.0, m.1, m.2, m.3))

  abbrev the_put : Entry
  the_put = put_entry call.turn.old.table.parity job place.stripe place.column block made.1 made.2 true true

  -- the new entry
  pub is_put : IsKeptPut job place.stripe place.column (digest_of block) the_put
  is_put = kept_put call.turn.old.table.parity job place.stripe place.column block made.1 made.2

  pub entries_are : call.turn.entries ≡ skips job made.0 ++ the_put ∷ []
  entries_are = made.3

  the_log : call.turn.new.log ≡ (call.turn.old.log ++ skips job made.0) ++ the_put ∷ []
  the_log = call.turn.log ∙ (ap (λ es. call.turn.old.log ++ es) entries_are ∙ sym (append_assoc call.turn.old.log (skips job made.0) (the_put ∷ [])))

  -- the table that the put met
  at : (u : Table) × Replays call.turn.new.first (call.turn.old.log ++ skips job made.0) u × Legal u the_put × (call.turn.new.table ≡ after u the_put)
  at = logs_went_on call.turn.new.first call.turn.new.table (call.turn.old.log ++ skips job made.0) the_put (subst (λ l. Replays call.turn.new.first l call.turn.new.table) the_log call.turn.settled.replay)

  at_rules : IsTable at.0
  at_rules = rules_stay call.turn.new.first at.0 (call.turn.old.log ++ skips job made.0) (subst IsTable (sym call.turn.first) call.turn.read) at.1

  at_takes : TakesPut at.0 place.stripe place.column
  at_takes = takes_put at.0 call.turn.old.table.parity job place.stripe place.column block made.1 made.2 true true at.2

  -- its place lies in the rack
  pub its_fit : (b : ℕ) → group ≡ group_of rack geometry b → FitsPlace rack geometry b (record { group = group; column = place.column; stripe = place.stripe })
  its_fit b is =
      let s = sizes_stay at.0 the_put in
      let t = ap (λ (x : Table). x.data_columns) at.3 in
      let r = ap (λ (x : Table). x.stripes) at.3 in
      let sizes = call.turn.settled.sizes in
      let first = ap (λ (x : Table). x.data_columns) call.turn.first in
      let first_r = ap (λ (x : Table). x.stripes) call.turn.first in
      let origin = (is_origin rack group (view_at v group).origin call.turn.old call.turn.origin (ready.origins group lt)).1 in
      let columns : at.0.data_columns ≡ rack.columns = sym s.0 ∙ (sym t ∙ (sizes.0 ∙ (first ∙ origin.0))) in
      let stripes : at.0.stripes ≡ rack.stripes = sym s.2 ∙ (sym r ∙ (sizes.2 ∙ (first_r ∙ origin.2))) in
      let lc : place.column ≡ at.0.cursor.column = at_takes.1 in
      let ls : place.stripe < at.0.stripes = at_takes.0.1 in
      let c : at.0.cursor.column < at.0.data_columns = at_rules.cursor.column in
      record {
        group = is;
        column = omega (arith, lc, c, columns);
        stripe = omega (arith, ls, stripes);
      }

  -- and no put that the passes had seen stands there
  pub its_new : (p : Place) (d : Digest) → SeesPut v p d → p ≡ record { group = group; column = place.column; stripe = place.stripe } → ⊥
  its_new p d (p_within, (j, e, put, has)) same =
      let g : p.group ≡ group = ap (λ (x : Place). x.group) same in
      let here : Contains (entries_of (view_at v group).seen) e = subst (λ i. Contains (entries_of (view_at v i).seen) e) g has in
      let transition : Contains call.turn.old.log e = subst (λ l. Contains l e) (sym (met_log told (PutCall told job block (Ok place)) group v w within call)) (Contains-append_left (entries_of (view_at v group).seen) (entries_of call.turn.others) e here) in
      let behind : IsBefore p.stripe p.column at.0.cursor =
      puts_behind call.turn.new.first (call.turn.old.log ++ skips job made.0) at.0 at.1 j p.stripe p.column d e put (Contains-append_left call.turn.old.log (skips job made.0) e transition) in
      let s : p.stripe ≡ place.stripe = ap (λ (x : Place). x.stripe) same in
      let c : p.column ≡ place.column = ap (λ (x : Place). x.column) same in
      let ls : place.stripe ≡ at.0.cursor.stripe = at_takes.0.0 in
      let lc : place.column ≡ at.0.cursor.column = at_takes.1 in
      ⊎_elim (λ (b : p.stripe < at.0.cursor.stripe). omega (arith, b, s, ls)) (λ (b : (p.stripe ≡ at.0.cursor.stripe) × (p.column < at.0.cursor.column)). (let k = b.1 in omega (arith, k, c, lc))) behind

  -- WITH THOSE BEFORE

  abbrev it : Placed
  it = record { group = group; stripe = place.stripe; column = place.column; digest = digest_of block }

  pub work : RowWroteOnlyFor (of_job job) v w
  work = group_work told job (PutCall told job block (Ok place)) group v w within call (all_put job block (Ok place) call.turn.old call.turn.new call.turn.entries call.turn.call.tells) ready.idle

  own_here : RowOnlyWriterOf (of_job job) v w → own job (gained v w group) ≡ call.turn.entries
  own_here alone = group_own told job (PutCall told job block (Ok place)) group v w within call (all_put job block (Ok place) call.turn.old call.turn.new call.turn.entries call.turn.call.tells) alone

  own_else : RowOnlyWriterOf (of_job job) v w → (h : ℕ) → group ≢ h → own job (gained v w h) ≡ []
  own_else alone = group_else told job (PutCall told job block (Ok place)) group v w within call (all_put job block (Ok place) call.turn.old call.turn.new call.turn.entries call.turn.call.tells) alone

  pub is_place : place ≡ place_of it
  is_place = ap (λ g. record { group = g; column = place.column; stripe = place.stripe }) its_group

  sees_it : SeesPut w (place_of it) (digest_of block)
  sees_it = (
    (let l = ap length (called_names told (PutCall told job block (Ok place)) group v w within call) in let n = ap length ready.of.0 in omega (arith, lt, l, n)),
    (
      job,
      the_put,
      is_put,
      subst (λ l. Contains l the_put) (sym (left_log told (PutCall told job block (Ok place)) group v w within call ∙ the_log))
          (Contains-append_right (call.turn.old.log ++ skips job made.0) (the_put ∷ []) the_put (0, omega arith, refl)),
    ),
  )

  still_sees : (p : Place) (d : Digest) → SeesPut v p d → SeesPut w p d
  still_sees = sees_more v w (ap length (called_names told (PutCall told job block (Ok place)) group v w within call))
      (λ g lt. called_grown told (PutCall told job block (Ok place)) group v w within call g)

  puts_now : (u : GroupPasses) (worked : RowWroteOnlyFor (of_job job) u v) (placed : List Placed)
      → (RowOnlyWriterOf (of_job job) u v → (g : ℕ) → Puts job (in_group g placed) (own job (gained u v g)))
      → RowOnlyWriterOf (of_job job) u w → (g : ℕ) → Puts job (in_group g (placed ++ it ∷ [])) (own job (gained u w g))
  puts_now u worked placed puts alone g =
      let parts = row_alone_in_parts (of_job job) u v w worked work alone in
      let more = own_more job u v w worked work g in
      ⊎_elim
      (λ (e : group ≡ g).
      let here : own job (gained v w g) ≡ skips job made.0 ++ the_put ∷ [] = subst (λ i. own job (gained v w i) ≡ skips job made.0 ++ the_put ∷ []) e (own_here parts.1 ∙ entries_are) in
      subst (λ xs. Puts job xs (own job (gained u w g))) (sym (in_more g placed it e))
      (subst (λ es. Puts job (in_group g placed ++ it ∷ []) es) (sym (more ∙ ap (λ es. own job (gained u v g) ++ es) here))
      (puts_more job (in_group g placed) (own job (gained u v g)) it made.0 the_put is_put (puts parts.0 g))))
      (λ (ne : group ≢ g).
      let none : own job (gained v w g) ≡ [] = own_else parts.1 g ne in
      subst (λ xs. Puts job xs (own job (gained u w g))) (sym (in_same g placed it ne))
      (subst (λ es. Puts job (in_group g placed) es) (sym (more ∙ (ap (λ es. own job (gained u v g) ++ es) none ∙ append-nil (own job (gained u v g))))) (puts parts.0 g)))
      (cases_eq group g)

  pub put_one : (blocks : List (List ℕ)) (places : List Place) (u : GroupPasses) → ArePut rack geometry job blocks places u v → slice_get blocks (length places) ≡ Some block
      → group ≡ group_of rack geometry (length places) → ArePut rack geometry job blocks (places ++ place ∷ []) u w
  put_one blocks places u sofar is at_group =
      let long : length sofar.placed ≡ length places = sym (ap length sofar.places_are ∙ length-map sofar.placed place_of) in
      let long_now : length (sofar.placed ++ it ∷ []) ≡ length sofar.placed + 1 = length-append sofar.placed (it ∷ []) in
      let is_next : slice_get blocks (length sofar.placed) ≡ Some block = subst (λ n. slice_get blocks n ≡ Some block) (sym long) is in
      record {
        placed = sofar.placed ++ it ∷ [];
        places_are = ap (λ ps. ps ++ place ∷ []) sofar.places_are ∙ (ap (λ p. map place_of sofar.placed ++ p ∷ []) is_place ∙ sym (map-append place_of sofar.placed (it ∷ [])));
        digests =
            map-append (λ x. x.digest) sofar.placed (it ∷ [])
            ∙ (ap (λ ds. ds ++ digest_of block ∷ []) sofar.digests
            ∙ (sym (map-append digest_of (take (length sofar.placed) blocks) (block ∷ []))
            ∙ ap (map digest_of) (sym (ap (λ n. take n blocks) long_now ∙ take_next blocks (length sofar.placed) block is_next))));
        fits = λ b x at. ⊎_elim
            (λ (old : slice_get sofar.placed b ≡ Some x). sofar.fits b x old)
            (λ (new : (b ≡ length sofar.placed) × (x ≡ it)).
            subst (λ y. FitsPlace rack geometry b (place_of y)) (sym new.1) (its_fit b (at_group ∙ ap (group_of rack geometry) (sym (new.0 ∙ long)))))
            (snoc_get sofar.placed it b x at);
        seen = λ b x at. ⊎_elim
            (λ (old : slice_get sofar.placed b ≡ Some x). still_sees (place_of x) x.digest (sofar.seen b x old))
            (λ (new : (b ≡ length sofar.placed) × (x ≡ it)). subst (λ (y : Placed). SeesPut w (place_of y) y.digest) (sym new.1) sees_it)
            (snoc_get sofar.placed it b x at);
        apart = λ a b x y at_a at_b same. ⊎_elim
            (λ (old : slice_get sofar.placed a ≡ Some x). ⊎_elim
            (λ (old2 : slice_get sofar.placed b ≡ Some y). sofar.apart a b x y old old2 same)
            (λ (new2 : (b ≡ length sofar.placed) × (y ≡ it)). absurd (its_new (place_of x) x.digest (sofar.seen a x old) (same ∙ ap place_of new2.1)))
            (snoc_get sofar.placed it b y at_b))
            (λ (new : (a ≡ length sofar.placed) × (x ≡ it)). ⊎_elim
            (λ (old2 : slice_get sofar.placed b ≡ Some y). absurd (its_new (place_of y) y.digest (sofar.seen b y old2) (sym same ∙ ap place_of new.1)))
            (λ (new2 : (b ≡ length sofar.placed) × (y ≡ it)). new.0 ∙ sym new2.0)
            (snoc_get sofar.placed it b y at_b))
            (snoc_get sofar.placed it a x at_a);
        worked = row_work_in_parts (of_job job) u v w sofar.worked work;
        puts = puts_now u sofar.worked sofar.placed sofar.puts;
      }
