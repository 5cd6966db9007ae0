-- One locked call of the index, step by step.
use Rattle.std.proofs.Common.{◌≡◌, ◌<◌, inr, ℕ, false, List, [], ◌++◌, length, ap, sym, ◌∙◌, subst, arith, append-nil}
use Rattle.std.specs.Prelude.{Any, Some, Result, Ok, Err}
use Rattle.std.proofs.lemmas.List.{map-append}
use Rattle.pot_bytes.specs.declared.rack.Rack.{Rack}
use Rattle.pot_bytes.proofs.Elements.{any_front}
use Rattle.pot_index.specs.declared.entry.Logged.{Logged}
use Rattle.pot_object.specs.Pieces.{pieces_of}
use Rattle.pot_index.specs.declared.fault.RenewFault.{RenewFault}
use Rattle.pot_index.specs.declared.fault.RenewFault.TheVariants as renew_fault
use Rattle.pot_index.specs.declared.record.Record.{Record}
use Rattle.pot_index.specs.declared.record.Split.{Split}
use Rattle.pot_index.specs.Calls.{Renews}
use Rattle.pot_index.specs.Entries.{entries, IsReserving}
use Rattle.pot_index.specs.Fits.{FitsSplit}
use Rattle.pot_index.specs.Index.{AreNames, IndexView, IsIndex, Names, ReplaysIndex, names_read}
use Rattle.pot_index.proofs.IndexLemmas.{started_is}
use Rattle.pot_index.proofs.NamesKept.{replay_keeps, went_on, leads_once}
use Rattle.pot_index.proofs.RecordLaws.{splits_stay}
use Rattle.pot_turn.specs.declared.name.TurnName.{TurnName}
use Rattle.pot_turn.specs.Logs.{StartsWith}
use Rattle.pot_turn.specs.Views.{took_view, left_view}
use Rattle.pot_rows.specs.Rows.{AreOf, view_at, with_view}
use Rattle.pot_rows.proofs.RowLemmas.{at_set, still_of}
use Rattle.pot_shared.specs.declared.catalog.ReservationLost.{ReservationLost}
use Rattle.pot_shared.specs.Ready.{GroupPasses}
use Rattle.pot_shared.specs.Catalogs.{CatalogView, IndexPass, IndexPasses, IsIndexReady, IsIndexOf, origin_of, records_in}
use Rattle.pot_shared.specs.IndexCalls.{IndexCall, HasReserved, Abandons, PublishesRecord, MayRenew, MayRenewBy}
use Rattle.pot_shared.proofs.CatalogLemmas.{IsSmall, file_same, small_log, small_rack, small_read}
use Rattle.pot_shared.proofs.CallLemmas.{set_twice}

-- the log went on, and nothing else that the origin has changed
pub record GoesOn (s t : IndexView) : Type 0 where
  pub more : List Logged
  pub log : t.log ≡ s.log ++ more
  pub rack : t.rack ≡ s.rack
  pub read : t.read ≡ s.read

module _ {rack : Rack} {names turn : List TurnName} {row row1 : IndexPasses} (ready : IsIndexReady rack names turn row) (old : CatalogView)
    (took : row1 ≡ with_view row 0 (took_view old.index.log (view_at row 0))) (origin : Some (origin_of old) ≡ (view_at row 0).origin) where
  within : 0 < length row.views
  within = let a = ready.of.1 in let b = ready.one in omega (arith, a, b)

  pub took_at : view_at row1 0 ≡ took_view old.index.log (view_at row 0)
  took_at = ap (λ (r : IndexPasses). view_at r 0) took ∙ at_set row 0 (took_view old.index.log (view_at row 0)) within

  -- what the origin says of the index that was met
  pub met_is : (old.index.rack ≡ rack) × (old.kept.names ≡ names)
  met_is = subst (λ o. IsIndexOf rack names o) (sym origin) ready.origin

  module _ (new : CatalogView) (on : GoesOn old.index new.index) (kept : new.kept.names ≡ old.kept.names) where
    same_origin_of : origin_of new ≡ origin_of old
    same_origin_of = cc (on.rack, on.read, kept)

    pub grown : StartsWith new.index.log (view_at row1 0).seen
    grown = subst (λ (v : IndexPass). StartsWith new.index.log v.seen) (sym took_at) (on.more, on.log)

    pub same_origin : Some (origin_of new) ≡ (view_at row1 0).origin
    same_origin = ap (λ o. Some o) same_origin_of ∙ (origin ∙ sym (ap (λ (v : IndexPass). v.origin) took_at))

    module _ {row2 : IndexPasses} (left : row2 ≡ with_view row1 0 (left_view new.index.log (view_at row1 0)))
        (begins : StartsWith old.index.log (view_at row 0).seen) where
      abbrev pass : IndexPass
      pass = left_view new.index.log (took_view old.index.log (view_at row 0))

      is_pass : row2 ≡ with_view row 0 pass
      is_pass =
          let here : row2 ≡ with_view row1 0 pass = left ∙ ap (λ (u : IndexPass). with_view row1 0 (left_view new.index.log u)) took_at in
          let there : with_view row1 0 pass ≡ with_view (with_view row 0 (took_view old.index.log (view_at row 0))) 0 pass = ap (λ (r : IndexPasses). with_view r 0 pass) took in
          here ∙ (there ∙ ap (λ vs. record row { views = vs }) (set_twice row.views 0 (took_view old.index.log (view_at row 0)) pass))

      pub called : {R : IndexView → IndexView → Type 0} → IsIndex old.index → IsIndex new.index → R old.index new.index → IndexCall R row row2
      called is_old is_new call =
          let v = view_at row 0 in
          let transition = v.seen ++ begins.0 in
          let one : new.index.log ≡ transition ++ on.more = on.log ∙ ap (λ w. w ++ on.more) begins.1 in
          record {
            pass = pass;
            is = is_pass;
            turn = record {
              old = old.index;
              new = new.index;
              others = begins.0;
              entries = on.more;
              transition = begins.1;
              is_old = is_old;
              is_new = is_new;
              read = on.read;
              rack = on.rack;
              origin = (old.kept.names, origin);
              log = on.log;
              turn = ap (λ l. left_view l (took_view old.index.log v)) one ∙ ap (λ l. left_view (transition ++ on.more) (took_view l v)) begins.1;
              call = call;
            };
          }

      pub ready_again : IsIndexReady rack names turn row2
      ready_again =
          let at : view_at row2 0 ≡ pass = ap (λ (r : IndexPasses). view_at r 0) is_pass ∙ at_set row 0 pass within in
          record {
            of = subst (λ (r : IndexPasses). AreOf turn r) (sym is_pass) (still_of turn row 0 pass ready.of);
            one = ready.one;
            idle = (λ k lt. (let z : k ≡ 0 = (let o = ready.one in omega (arith, lt, o)) in subst (λ n. (view_at row2 n).holds ≡ false) (sym z) (ap (λ (v : IndexPass). v.holds) at)));
            origin = subst (λ o. IsIndexOf rack names o) (sym (ap (λ (v : IndexPass). v.origin) at)) ready.origin;
          }

pub reserved_there : (job : ℕ) (name : List ℕ) (row : IndexPasses) (log : List Logged) → StartsWith log (view_at row 0).seen → HasReserved job name row
    → Any (IsReserving job name) (entries log)
reserved_there job name row log begins has =
    subst (λ l. Any (IsReserving job name) (entries l)) (sym begins.1)
    (subst (λ es. Any (IsReserving job name) es) (sym (map-append (λ (x : Logged). x.entry) (view_at row 0).seen begins.0)) (any_front (IsReserving job name) (entries (view_at row 0).seen) (entries begins.0) has))

pub same_on : (s t : IndexView) → t ≡ s → GoesOn s t
same_on s t e = record { more = []; log = ap (λ (i : IndexView). i.log) e ∙ sym (append-nil s.log); rack = ap (λ (i : IndexView). i.rack) e; read = ap (λ (i : IndexView). i.read) e }

pub small_on : (s t : IndexView) → IsSmall s t → GoesOn s t
small_on s t small = record { more = (small_log s t small).0; log = (small_log s t small).1; rack = small_rack s t small; read = small_read s t small }

pub abandons_on : (job : ℕ) (name : List ℕ) (result : Result (Unit {0}) ReservationLost) (s t : IndexView) → Abandons job name result s t → GoesOn s t
abandons_on job name (Ok u) s t a = record { more = _; log = ap (λ (i : IndexView). i.log) a.1; rack = ap (λ (i : IndexView). i.rack) a.1; read = ap (λ (i : IndexView). i.read) a.1 }
abandons_on job name (Err e) s t a = same_on s t a.0

pub publishes_on : (job : ℕ) (r : Record) (result : Result (Unit {0}) ReservationLost) (s t : IndexView) → PublishesRecord job r result s t → GoesOn s t
publishes_on job r (Ok u) s t a = record { more = _; log = ap (λ (i : IndexView). i.log) a.1; rack = ap (λ (i : IndexView). i.rack) a.1; read = ap (λ (i : IndexView). i.read) a.1 }
publishes_on job r (Err e) s t a = same_on s t a.0

pub renews_on : (job : ℕ) (name : List ℕ) (split : Split) (result : Result (Unit {0}) RenewFault) (s t : IndexView) → Renews job name split s t result → GoesOn s t
renews_on job name split (Ok u) s t (o, of, (room, few, is)) = record { more = _; log = ap (λ (i : IndexView). i.log) is; rack = ap (λ (i : IndexView). i.rack) is; read = ap (λ (i : IndexView). i.read) is }
renews_on job name split (Err renew_fault.LogFull) s t (o, of, (full, is)) = same_on s t is
renews_on job name split (Err renew_fault.TooOften) s t (o, of, (room, many, is)) = small_on s t (inr (_, is))
renews_on job name split (Err renew_fault.NoMemory) s t (o, of, (room, few, is)) = same_on s t is

-- WHAT MAY BE RENEWED STILL MAY

-- whatever came between: a record keeps its file
still_may : (rack : Rack) (n m k : Names) (log more : List Logged) (name : List ℕ) (split : Split) (row : GroupPasses) → AreNames rack n
    → ReplaysIndex rack n log m → ReplaysIndex rack n (log ++ more) k → MayRenew rack m name split row → MayRenew rack k name split row
still_may rack n m k log more name split row names to all (r, is, fits, seen) =
    let parts = went_on rack n k log more all in
    let same : parts.0 ≡ m = leads_once rack n parts.0 m log parts.1 to in
    let rest : ReplaysIndex rack m more k = subst (λ (x : Names). ReplaysIndex rack x more k) same parts.2 in
    let now = splits_stay rack m k more r (replay_keeps rack n m log names to) rest is.0 in (
      now.0,
      (now.1, now.2.name ∙ is.1),
      subst (λ (p : ℕ). FitsSplit rack (pieces_of p) split) (sym now.2.long) fits,
      file_same row r now.0 split now.2.long now.2.digest seen,
    )

module _ {rack : Rack} {names turn : List TurnName} {row row1 : IndexPasses} (ready : IsIndexReady rack names turn row) (old : CatalogView)
    (took : row1 ≡ with_view row 0 (took_view old.index.log (view_at row 0))) (origin : Some (origin_of old) ≡ (view_at row 0).origin) (begins : StartsWith old.index.log (view_at row 0).seen) where
  -- what the pass of the index may renew, the index that was met may
  pub may_there : (name : List ℕ) (split : Split) (groups : GroupPasses) → IsIndex old.index → MayRenewBy rack name split groups row → MayRenew old.index.rack old.index.now name split groups
  may_there name split groups is_index (n, to, may) =
      let same : old.index.rack ≡ rack = (met_is ready old took origin).0 in
      let read : records_in (view_at row 0).origin ≡ old.index.read = sym (ap records_in origin) in
      let first : AreNames old.index.rack (names_read old.index.read) = (started_is old.index.rack old.index.read is_index.rack is_index.read).names in
      still_may old.index.rack (names_read old.index.read) n old.index.now (view_at row 0).seen begins.0 name split groups first
      (subst (λ (rs : List Record). ReplaysIndex old.index.rack (names_read rs) (view_at row 0).seen n) read (subst (λ (x : Rack). ReplaysIndex x (names_read (records_in (view_at row 0).origin)) (view_at row 0).seen n) (sym same) to))
      (subst (λ (l : List Logged). ReplaysIndex old.index.rack (names_read old.index.read) l old.index.now) begins.1 is_index.replays)
      (subst (λ (x : Rack). MayRenew x n name split groups) (sym same) may)
