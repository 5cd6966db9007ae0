-- What the groups tell of two archives, said of the logs that their passes have seen.
use Rattle.std.proofs.Common.{◌≡◌, ◌≢◌, inl, inr, ⊎_elim, ℕ, zero, suc, ◌<◌, ◌≤◌, ◌+◌, ◌++◌, ◌||◌, Bool, true, false, List, [], ◌∷◌, Option, Some, None, length, refl, sym, ap, ◌∙◌, subst, arith, append-nil}
use Rattle.std.specs.Prelude.{is_some, IsSome, IsSomeAnd, IfSome, Ok, Err, filter, slice_get}
use Rattle.std.specs.List.{list_any}
use Rattle.std.specs.Option.{option_or}
use Rattle.std.proofs.lemmas.Option.{slice_get_within, same_Some}
use Rattle.std.proofs.lemmas.Bool.{cases_lt}
use Rattle.pot_bytes.specs.declared.rack.Rack.{Rack}
use Rattle.pot_machine.specs.declared.column.Moving.{Moving}
use Rattle.pot_machine.specs.declared.entry.Entry.{Entry}
use Rattle.pot_machine.specs.Column.{names}
use Rattle.pot_machine.specs.Table.{Table, width, column_at, holder_of}
use Rattle.pot_machine.specs.Rules.{IsTable}
use Rattle.pot_machine.specs.Logs.{own, replayed}
use Rattle.pot_machine.proofs.Logs.{replays_is}
use Rattle.pot_group.specs.declared.uses.HomeAt.{HomeAt}
use Rattle.pot_group.specs.declared.uses.Role.{Role}
use Rattle.pot_group.specs.declared.uses.Role.TheVariants as role
use Rattle.pot_group.specs.declared.uses.Trace.{Trace}
use Rattle.pot_group.specs.declared.uses.Use.{Use}
use Rattle.pot_group.specs.Group.{GroupView, IsSettled}
use Rattle.pot_group.specs.Uses.{IsHomeAt, IsRole, IsUse, target_in}
use Rattle.pot_turn.specs.declared.name.TurnName.{TurnName}
use Rattle.pot_worked.specs.Laws.{AllOf}
use Rattle.pot_worked.specs.WroteOnlyFor.{added, OnlyWriterOf, WroteOnlyFor}
use Rattle.pot_worked.proofs.WroteOnlyForLemmas.{work_goes_on, own_in_turn, more_is_work, more_has_none}
use Rattle.pot_rows.specs.Rows.{view_at}
use Rattle.pot_rows.specs.Works.{RowOnlyWriterOf, RowWroteOnlyFor}
use Rattle.pot_rows.proofs.TieLemmas.{knows_same}
use Rattle.pot_replies.specs.Settings.{Setting}
use Rattle.pot_replies.specs.Moves.{HasHome, IsUsed, NoHome, moving_at}
use Rattle.pot_shared.specs.declared.member.GroupOrigin.{GroupOrigin}
use Rattle.pot_shared.specs.Members.{all_logged, entries_of, kept_log, origin_of}
use Rattle.pot_shared.specs.Ready.{AreReady, GroupPass, GroupPasses}
use Rattle.pot_shared.specs.Calls.{CallTurn, marked}
use Rattle.pot_shared.specs.Catalogs.{IndexPasses}
use Rattle.pot_shared.specs.UseCalls.{TraceCall, TracesAll, first_home}
use Rattle.pot_shared.proofs.MemberLemmas.{entries_kept}
use Rattle.pot_shared.specs.Works.{of_job, gained, known, IsSettingOf}
use Rattle.pot_shared.proofs.WorkLemmas.{all_none, own_entries}
use Rattle.pot_mend.specs.Moves.{IsOnlyAsked, MigrateChecked, ReplaceChecked, seen_in}
use Rattle.pot_mend.specs.declared.checking.UseFault.TheVariants as used
use Rattle.pot_mend.proofs.HadLemmas.{IsUsedIn, had_used, home_named, named_held, target_named, used_had}

-- ONE GROUP

module _ (told : Type 0) (g : GroupView) (read : IsTable g.first) (settled : IsSettled told g) where
  table_now : replayed g.first g.log ≡ g.table
  table_now = replays_is g.first g.log g.table settled.replay

  now_used : (n c : ℕ) → c < width g.table → IsSome (holder_of g.table n) → IsUsedIn g.first g.log n
  now_used n c lt some = (g.log, [], sym (append-nil g.log), subst (λ (t : Table). IsSome (holder_of t n)) (sym table_now) some)

  role_used : (n c : ℕ) (r : Role) → IsRole g n c r → IsUsedIn g.first g.log n
  role_used n c role.Home h =
      let x = column_at g.table c in now_used n c h.0 (named_held g.table c n h.0 (home_named x.moving x.home n h.1))
  role_used n c role.Target h =
      let x = column_at g.table c in now_used n c h.0 (named_held g.table c n h.0 (by x.moving x.home h.1))
    where
      by : (o : Option Moving) (home : ℕ) → IsSomeAnd o (λ m. m.to ≡ n) → names (record { home = home; moving = o }) n ≡ true
      by None home e = absurd e
      by (Some m) home e = target_named (Some m) home n m refl e
  role_used n c role.Retired h = had_used g.first g.log g.table n read settled.replay c h.1 h.2

  pub use_used : (n : ℕ) (u : Use) → IsUse g n (Some u) → IsUsedIn g.first g.log n
  use_used n u h = role_used n u.column u.role h.1

  pub none_used : (n : ℕ) → IsUse g n None → IsUsedIn g.first g.log n → ⊥
  none_used n h is = (let c = used_had g.first g.log g.table n read settled.replay is in h.1 c.0 c.1 c.2)

-- ALL OF THEM

abbrev HomeFrom : List Trace → HomeAt → Type 0
HomeFrom ts h = (g : ℕ) × (x : Trace) × (slice_get ts g ≡ Some x) × (x.home ≡ Some h)

home_from : (ts : List Trace) (h : HomeAt) → first_home ts ≡ Some h → HomeFrom ts h
home_from [] h e = absurd (cc e)
home_from (t ∷ ts) h e = by (λ q. home_from ts h q) t.home refl e
  where
    by : (first_home ts ≡ Some h → HomeFrom ts h) → (o : Option HomeAt) → t.home ≡ o → option_or o (first_home ts) ≡ Some h → HomeFrom (t ∷ ts) h
    by rest None is q = (let r : HomeFrom ts h = rest q in (suc r.0, r.1, r.2, r.3))
    by rest (Some k) is q = (0, t, refl, is ∙ q)

home_none : (ts : List Trace) → first_home ts ≡ None → (g : ℕ) (x : Trace) → slice_get ts g ≡ Some x → x.home ≡ None
home_none [] e g x at = absurd (cc at)
home_none (t ∷ ts) e g x at = by (λ q k. home_none ts q k x) t.home refl e g at
  where
    by : (first_home ts ≡ None → (k : ℕ) → slice_get ts k ≡ Some x → x.home ≡ None) → (o : Option HomeAt) → t.home ≡ o → option_or o (first_home ts) ≡ None
        → (g : ℕ) → slice_get (t ∷ ts) g ≡ Some x → x.home ≡ None
    by rest None is q zero at = ap (λ (y : Trace). y.home) (sym (same_Some t x at)) ∙ is
    by rest None is q (suc g) at = rest q g at
    by rest (Some k) is q g at = absurd (cc q)

abbrev TakenFrom : List Trace → Type 0
TakenFrom ts = (g : ℕ) × (x : Trace) × (slice_get ts g ≡ Some x) × (x.taken ≡ true)

any_from : (ts : List Trace) → list_any (λ t. t.taken) ts ≡ true → TakenFrom ts
any_from [] e = absurd (cc e)
any_from (t ∷ ts) e = by (λ q. any_from ts q) t.taken refl e
  where
    by : (list_any (λ t. t.taken) ts ≡ true → TakenFrom ts) → (b : Bool) → t.taken ≡ b → (b || list_any (λ t. t.taken) ts) ≡ true → TakenFrom (t ∷ ts)
    by rest true is q = (0, t, refl, is)
    by rest false is q = (let r : TakenFrom ts = rest q in (suc r.0, r.1, r.2, r.3))

any_none : (ts : List Trace) → list_any (λ t. t.taken) ts ≡ false → (g : ℕ) (x : Trace) → slice_get ts g ≡ Some x → x.taken ≡ false
any_none [] e g x at = absurd (cc at)
any_none (t ∷ ts) e g x at = by (λ q k. any_none ts q k x) t.taken refl e g at
  where
    by : (list_any (λ t. t.taken) ts ≡ false → (k : ℕ) → slice_get ts k ≡ Some x → x.taken ≡ false) → (b : Bool) → t.taken ≡ b → (b || list_any (λ t. t.taken) ts) ≡ false
        → (g : ℕ) → slice_get (t ∷ ts) g ≡ Some x → x.taken ≡ false
    by rest true is q g at = absurd (cc q)
    by rest false is q zero at = ap (λ (y : Trace). y.taken) (sym (same_Some t x at)) ∙ is
    by rest false is q (suc g) at = rest q g at

there_is : (ts : List Trace) (g : ℕ) → g < length ts → (x : Trace) × (slice_get ts g ≡ Some x)
there_is [] g lt = absurd (omega (arith, lt))
there_is (t ∷ ts) zero lt = (t, refl)
there_is (t ∷ ts) (suc g) lt = there_is ts g (omega (arith, lt))

pub from_some : {X : Type 0} (o : Option X) (x : X) (P : X → Type 0) → Some x ≡ o → IfSome o P → P x
from_some None x P e h = absurd (cc e)
from_some (Some y) x P e h = subst P (sym (same_Some x y e)) h

module _ (told : Type 0) (rack : Rack) (turns : List TurnName) (from to : ℕ) (old new : GroupPasses) (ready : AreReady rack turns old) (t : Trace)
    (traces : TracesAll told (length turns) from to t old new) where
  within : (g : ℕ) (x : Trace) → slice_get traces.answers g ≡ Some x → g < length turns
  within g x at = (let lt = slice_get_within traces.answers g x at in let c = traces.count in omega (arith, lt, c))

  -- NOTHING WAS LOGGED

  module _ (g : ℕ) (x : Trace) (at : slice_get traces.answers g ≡ Some x) where
    turn : CallTurn told (TraceCall from to x) (view_at old g) (view_at new g)
    turn = traces.asked.each g x at

    nothing : marked turn ≡ []
    nothing = ap (all_logged turn.new.shelves turn.more) turn.call.0

    none_of : (job : ℕ) → AllOf (of_job job) (marked turn)
    none_of job = subst (λ ls. AllOf (of_job job) ls) (sym nothing) (all_none (of_job job))

    its_work : (job : ℕ) → WroteOnlyFor (of_job job) (view_at old g) (view_at new g)
    its_work job = work_goes_on (of_job job) (view_at old g) (view_at new g) turn.others (marked turn) turn.turn (none_of job)

    -- the log that the pass has seen is the one that the call met
    transition : seen_in new g ≡ turn.old.log
    transition =
        let seen : (view_at new g).seen ≡ ((view_at old g).seen ++ turn.others) ++ marked turn = ap (λ (v : GroupPass). v.seen) turn.turn in
        let same : (view_at new g).seen ≡ kept_log turn.old =
        seen ∙ (ap (λ ls. ((view_at old g).seen ++ turn.others) ++ ls) nothing ∙ (append-nil ((view_at old g).seen ++ turn.others) ∙ sym turn.transition)) in
        ap entries_of same ∙ entries_kept turn.old

    number_is : turn.old.number ≡ g
    number_is = from_some (view_at old g).origin (origin_of turn.old) (λ (o : GroupOrigin). o.number ≡ g) turn.origin
        (of_number (view_at old g).origin (ready.origins g (within g x at)))
      where
        of_number : (o : Option GroupOrigin) → IfSome o (λ o. (o.number ≡ g) × ((o.first.data_columns ≡ rack.columns) × (o.first.parity ≡ rack.parity) × (o.first.stripes ≡ rack.stripes))) → IfSome o (λ o. o.number ≡ g)
        of_number None h = h
        of_number (Some o) h = h.0

    first_sizes : (turn.old.first.data_columns ≡ rack.columns) × (turn.old.first.parity ≡ rack.parity) × (turn.old.first.stripes ≡ rack.stripes)
    first_sizes = from_some (view_at old g).origin (origin_of turn.old) (λ (o : GroupOrigin). (o.first.data_columns ≡ rack.columns) × (o.first.parity ≡ rack.parity) × (o.first.stripes ≡ rack.stripes)) turn.origin
        (of_sizes (view_at old g).origin (ready.origins g (within g x at)))
      where
        of_sizes : (o : Option GroupOrigin) → IfSome o (λ o. (o.number ≡ g) × ((o.first.data_columns ≡ rack.columns) × (o.first.parity ≡ rack.parity) × (o.first.stripes ≡ rack.stripes)))
            → IfSome o (λ o. (o.first.data_columns ≡ rack.columns) × (o.first.parity ≡ rack.parity) × (o.first.stripes ≡ rack.stripes))
        of_sizes None h = h
        of_sizes (Some o) h = h.1

    now_wide : width turn.old.table ≡ rack.columns + rack.parity
    now_wide = (let a = turn.settled_old.sizes in let b = first_sizes in let c = a.0 in let d = a.1 in let e = b.0 in let f = b.1 in omega (arith, c, d, e, f))

  asked_work : (job : ℕ) → RowWroteOnlyFor (of_job job) old new
  asked_work job g = ⊎_elim
      (λ (lt : g < length traces.answers). (let x = there_is traces.answers g lt in its_work g x.0 x.1 job))
      (λ (past : length traces.answers ≤ g). subst (λ v. WroteOnlyFor (of_job job) (view_at old g) v) (sym (traces.asked.rest g past))
      (more_is_work (of_job job) (view_at old g) (view_at old g) (knows_same (view_at old g)) (ready.idle g)))
      (cases_lt g (length traces.answers))

  asked_none : (job : ℕ) → RowOnlyWriterOf (of_job job) old new → (g : ℕ) → own job (gained old new g) ≡ []
  asked_none job alone g = own_entries job (added (view_at old g) (view_at new g)) ∙ ap entries_of (⊎_elim
      (λ (lt : g < length traces.answers).
      let x = there_is traces.answers g lt in
      let c = turn g x.0 x.1 in
      own_in_turn (of_job job) (view_at old g) (view_at new g) c.others (marked c) c.turn (none_of g x.0 x.1 job) (alone g) ∙ nothing g x.0 x.1)
      (λ (past : length traces.answers ≤ g).
      let same : view_at new g ≡ view_at old g = traces.asked.rest g past in
      subst (λ (v : GroupPass). filter (of_job job) (added (view_at old g) v) ≡ []) (sym same)
      (more_has_none (of_job job) (view_at old g) (view_at old g) (knows_same (view_at old g)) (subst (λ (v : GroupPass). OnlyWriterOf (of_job job) (view_at old g) v) same (alone g))))
      (cases_lt g (length traces.answers)))

  pub all_asked : IsOnlyAsked old new
  all_asked = record { worked = asked_work; silent = asked_none }

  -- THE HOME

  pub home_within : (h : HomeAt) → t.home ≡ Some h → (h.group < length turns) × (h.column < rack.columns + rack.parity)
  home_within h is =
      let r = home_from traces.answers h (sym traces.home ∙ is) in
      let c = turn r.0 r.1 r.2 in
      let at : IsHomeAt c.old from (Some h) = subst (λ o. IsHomeAt c.old from o) r.3 c.call.2.home in
      let n = at.0 ∙ number_is r.0 r.1 r.2 in
      let lt = within r.0 r.1 r.2 in
      let k = at.1 in
      let w = now_wide r.0 r.1 r.2 in
      (omega (arith, n, lt), omega (arith, k, w))

  module _ (index : IndexPasses) (count : length turns ≡ rack.groups) (s : Setting) (set : IsSettingOf s rack (known old index)) where
    abbrev logs : ℕ → List Entry
    logs = seen_in new

    in_rack : (g : ℕ) → g < length turns → g < s.rack.groups
    in_rack g lt = (let e : s.rack.groups ≡ rack.groups = ap (λ (r : Rack). r.groups) set.rack_is in omega (arith, e, lt, count))

    module _ (g : ℕ) (x : Trace) (at : slice_get traces.answers g ≡ Some x) where
      first_is : s.first g ≡ (turn g x at).old.first
      first_is = from_some (view_at old g).origin (origin_of (turn g x at).old) (λ (o : GroupOrigin). s.first g ≡ o.first) (turn g x at).origin
          (set.first g (let lt = within g x at in let n = ap length ready.of.0 in omega (arith, lt, n)))

      table_is : replayed (s.first g) (logs g) ≡ (turn g x at).old.table
      table_is = ap (λ (f : Table). replayed f (logs g)) first_is
          ∙ (ap (replayed (turn g x at).old.first) (transition g x at) ∙ replays_is (turn g x at).old.first (turn g x at).old.log (turn g x at).old.table (turn g x at).settled_old.replay)

      wide : width (s.first g) ≡ width (turn g x at).old.table
      wide =
          let e : width (s.first g) ≡ width (turn g x at).old.first = ap width first_is in
          let z = (turn g x at).settled_old.sizes in let a = z.0 in let b = z.1 in omega (arith, e, a, b)

      has_home : (c : ℕ) → c < width (turn g x at).old.table → (column_at (turn g x at).old.table c).home ≡ from → HasHome s logs from g c
      has_home c lt is = record {
        group = in_rack g (within g x at);
        column = (let w = wide in omega (arith, lt, w));
        home = ap (λ (u : Table). (column_at u c).home) table_is ∙ is;
      }

      moving_is : (c : ℕ) → moving_at s logs g c ≡ (column_at (turn g x at).old.table c).moving
      moving_is c = ap (λ (u : Table). (column_at u c).moving) table_is

      not_there : x.home ≡ None → (c : ℕ) → HasHome s logs from g c → ⊥
      not_there none c has =
          let no : IsHomeAt (turn g x at).old from None = subst (λ o. IsHomeAt (turn g x at).old from o) none (turn g x at).call.2.home in
          let lt = has.column in let w = wide in
          no c (omega (arith, lt, w)) (sym (ap (λ (u : Table). (column_at u c).home) table_is) ∙ has.home)

      carry : (P : Table → List Entry → Type 0) → P (turn g x at).old.first (turn g x at).old.log → P (s.first g) (logs g)
      carry P p = subst (λ f. P f (logs g)) (sym first_is) (subst (λ l. P (turn g x at).old.first l) (sym (transition g x at)) p)

      taken_there : x.taken ≡ true → IsUsedIn (s.first g) (logs g) to
      taken_there is =
          let trace = (turn g x at).call.2 in
          carry (λ f l. IsUsedIn f l to) (by trace.used trace.is_use (sym trace.taken ∙ is))
        where
          by : (o : Option Use) → IsUse (turn g x at).old to o → is_some o ≡ true → IsUsedIn (turn g x at).old.first (turn g x at).old.log to
          by None h e = absurd (cc e)
          by (Some u) h e = use_used told (turn g x at).old (turn g x at).read (turn g x at).settled_old to u h

      free_there : x.taken ≡ false → IsUsedIn (s.first g) (logs g) to → ⊥
      free_there is =
          let trace = (turn g x at).call.2 in
          carry (λ f l. IsUsedIn f l to → ⊥) (by trace.used trace.is_use (sym trace.taken ∙ is))
        where
          by : (o : Option Use) → IsUse (turn g x at).old to o → is_some o ≡ false → IsUsedIn (turn g x at).old.first (turn g x at).old.log to → ⊥
          by None h e = none_used told (turn g x at).old (turn g x at).read (turn g x at).settled_old to h
          by (Some u) h e = absurd (cc e)

    pub home_is : (h : HomeAt) → t.home ≡ Some h → HasHome s logs from h.group h.column × (h.moving ≡ target_in (moving_at s logs h.group h.column))
    home_is h is =
        let r = home_from traces.answers h (sym traces.home ∙ is) in
        let c = turn r.0 r.1 r.2 in
        let at : IsHomeAt c.old from (Some h) = subst (λ o. IsHomeAt c.old from o) r.3 c.call.2.home in
        let n : h.group ≡ r.0 = at.0 ∙ number_is r.0 r.1 r.2 in
        subst (λ g. HasHome s logs from g h.column × (h.moving ≡ target_in (moving_at s logs g h.column))) (sym n)
        (has_home r.0 r.1 r.2 h.column at.1 at.2, at.3 ∙ ap target_in (sym (moving_is r.0 r.1 r.2 h.column)))

    pub no_home : t.home ≡ None → NoHome s logs from
    no_home is g c has =
        let lt = has.group in
        let e : s.rack.groups ≡ rack.groups = ap (λ (r : Rack). r.groups) set.rack_is in
        let many = traces.count in
        let x = there_is traces.answers g (omega (arith, lt, e, count, many)) in
        not_there g x.0 x.1 (home_none traces.answers (sym traces.home ∙ is) g x.0 x.1) c has

    pub is_used : t.taken ≡ true → IsUsed s logs to
    is_used is =
        let r = any_from traces.answers (sym traces.taken ∙ is) in
        (r.0, in_rack r.0 (within r.0 r.1 r.2), taken_there r.0 r.1 r.2 r.3)

    pub is_free : t.taken ≡ false → IsUsed s logs to → ⊥
    is_free is (g, lt, cut) =
        let e : s.rack.groups ≡ rack.groups = ap (λ (r : Rack). r.groups) set.rack_is in
        let many = traces.count in
        let x = there_is traces.answers g (omega (arith, lt, e, count, many)) in
        free_there g x.0 x.1 (any_none traces.answers (sym traces.taken ∙ is) g x.0 x.1) cut

    -- THE ANSWERS

    stays : (o : Option Moving) → None ≡ target_in o → o ≡ None
    stays None e = refl
    stays (Some m) e = absurd (cc e)

    goes : (o : Option Moving) (n : ℕ) → Some n ≡ target_in o → (m : Moving) × (o ≡ Some m) × (m.to ≡ n)
    goes None n e = absurd (cc e)
    goes (Some m) n e = (m, refl, sym (same_Some n m.to e))

    pub absent : t.home ≡ None → MigrateChecked s logs from to (Err (used.NoSuchArchive from)) × ReplaceChecked s logs from to (Err (used.NoSuchArchive from))
    absent is = ((refl, no_home is), (refl, no_home is))

    module _ (h : HomeAt) (is : t.home ≡ Some h) where
      pub resumes : h.moving ≡ Some to → MigrateChecked s logs from to (Ok (record { group = h.group; column = h.column; resumes = true }))
      resumes moves =
          let home = home_is h is in ((home.0, goes (moving_at s logs h.group h.column) to (sym moves ∙ home.1)))

      pub elsewhere : (n : ℕ) → h.moving ≡ Some n → n ≢ to → MigrateChecked s logs from to (Err (used.InUse from))
      elsewhere n moves other =
          let home = home_is h is in
          let m = goes (moving_at s logs h.group h.column) n (sym moves ∙ home.1) in
          inl (refl, (h.group, h.column, home.0, (m.0, m.1, λ e. other (sym m.2 ∙ e))))

      pub taken_to : h.moving ≡ None → t.taken ≡ true → MigrateChecked s logs from to (Err (used.InUse to))
      taken_to idle taken =
          let home = home_is h is in
          inr (refl, (h.group, h.column, home.0, stays (moving_at s logs h.group h.column) (sym idle ∙ home.1), is_used taken))

      pub begins : h.moving ≡ None → t.taken ≡ false → MigrateChecked s logs from to (Ok (record { group = h.group; column = h.column; resumes = false }))
      begins idle free =
          let home = home_is h is in
          (home.0, stays (moving_at s logs h.group h.column) (sym idle ∙ home.1), is_free free)

      pub replaces : t.taken ≡ false → ReplaceChecked s logs from to (Ok (record { group = h.group; column = h.column; resumes = false }))
      replaces free = (refl, (home_is h is).0, is_free free)

      pub in_use : t.taken ≡ true → ReplaceChecked s logs from to (Err (used.InUse to))
      in_use taken = (refl, (h.group, h.column, (home_is h is).0), is_used taken)
