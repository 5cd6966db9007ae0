-- What a coalition sees of sessions in a row.
use Rattle.std.proofs.Common.{◌≡◌, ℕ, zero, suc, ◌<◌, List, [], ◌∷◌, ◌++◌, Option, Some, None, Bool, true, false, ◌||◌, IsTrue, map, inl, inr, refl, sym, ap, ◌∙◌, subst, arith, append-nil}
use Rattle.std.specs.Prelude.{◌==◌, Contains, if◌then◌else◌, is_some}
use Rattle.std.specs.List.{list_any}
use Rattle.std.proofs.Math.Path.{fun_ext}
use Rattle.std.proofs.lemmas.Bool.Decides.{eqb_tells, nat_tests}
use Rattle.std.proofs.lemmas.List.Elements.{All-nil, Contains-append_right}
use Rattle.pot_bytes.specs.declared.rack.Rack.{Rack}
use Rattle.pot_bytes.specs.Lists.{IsBlock}
use Rattle.pot_machine.specs.declared.column.Column.{Column}
use Rattle.pot_machine.specs.declared.column.Moving.{Moving}
use Rattle.pot_machine.specs.Column.{homes_of, names, names_moved, target_of}
use Rattle.pot_machine.specs.Making.{empty_table}
use Rattle.pot_machine.specs.Table.{Table, archives_in, serving_at, width, column_at}
use Rattle.pot_machine.specs.Rules.{IsTable, IsStanding}
use Rattle.pot_steps.specs.declared.flight.Flight.{Flight}
use Rattle.pot_world.specs.Alike.{Alike}
use Rattle.pot_world.specs.Audit.{AllSame, SeesSame, Sight, Whole, One, Blind}
use Rattle.pot_world.specs.Coalition.{IsServed, Served}
use Rattle.pot_world.specs.Group.{WorldGroup}
use Rattle.pot_world.specs.Kept.{IsFlight}
use Rattle.pot_world.specs.Later.{of_table, KnownOfGroup, Both, SeesNoParity, RunsSeenOn, reopened, reopened_site, ReopenedBoth, FirstReopened, Sessions, SessionsFit, OtherSessions, SessionsSeenSame}
use Rattle.pot_world.specs.Reached.{EachGroup, IsGood, Move, Site, first_group, first_groups, first_site, is_oddly}
use Rattle.pot_world.proofs.Auditing.{first_both, runs_both}

-- WHAT A GROUP KEEPS

-- a table without its relays keeps the rules
table_still : (t : Table) → IsTable t → IsTable (record t { relays = [] })
table_still t h = record {
  size = record { data_columns = h.size.data_columns; parity = h.size.parity; stripes = h.size.stripes; columns = h.size.columns; slots = h.size.slots; relays = omega arith };
  cursor = record { stripe = h.cursor.stripe; column = h.cursor.column; behind = h.cursor.behind };
  voids = record { first = h.voids.first; parity = h.voids.parity; after = h.voids.after; cursor = h.voids.cursor };
  columns = record { target = h.columns.target; distinct = h.columns.distinct };
  relays = record { apart = λ i j d lt within. absurd (omega arith); standing = All-nil (IsStanding (record t { relays = [] })) };
}

-- an archive of a table, and one that is none of it
any_there : (ns : List ℕ) (n : ℕ) → Contains ns n → list_any (λ m. m == n) ns ≡ true
any_there [] n h = absurd (omega (arith, h.1))
any_there (m ∷ ns) n (zero, lt, e) = elim (eqb_tells m n) [ inl q ↦ rw q.0 refl | inr q ↦ absurd (q.1 e) ]
any_there (m ∷ ns) n (suc i, lt, e) = elim (eqb_tells m n) [ inl q ↦ rw q.0 refl | inr q ↦ rw q.0 (any_there ns n (i, omega (arith, lt), e)) ]

any_not : (ns : List ℕ) (n : ℕ) → (Contains ns n → ⊥) → list_any (λ m. m == n) ns ≡ false
any_not [] n none = refl
any_not (m ∷ ns) n none = elim (eqb_tells m n) [
  | inl q ↦ absurd (none (0, omega arith, q.1))
  | inr q ↦ rw q.0 (any_not ns n (λ h. none (Contains-append_right (m ∷ []) ns n h)))
]

pub of_listed : {A : Type 0} (t : Table) (none : A) (f : ℕ → A) (n : ℕ) → Contains (archives_in t) n → of_table t none f n ≡ f n
of_listed t none f n h = ap (λ b. if b then f n else none) (any_there (archives_in t) n h)

pub of_unlisted : {A : Type 0} (t : Table) (none : A) (f : ℕ → A) (n : ℕ) → (Contains (archives_in t) n → ⊥) → of_table t none f n ≡ none
of_unlisted t none f n h = ap (λ b. if b then f n else none) (any_not (archives_in t) n h)

-- what is held then was held
pub held_anew : (g : WorldGroup) (n slot : ℕ) (b : List ℕ) → (reopened g).state.held n slot ≡ Some b → g.state.held n slot ≡ Some b
held_anew g n slot b h = by (list_any (λ m. m == n) (archives_in g.state.table)) h
  where
    by : (x : Bool) → (if x then g.state.held n slot else None) ≡ Some b → g.state.held n slot ≡ Some b
    by true e = e
    by false e = absurd (cc)

-- and nothing stays nothing
nothing_anew : {A : Type 0} (x : Bool) (none a : A) → a ≡ none → (if x then a else none) ≡ none
nothing_anew true none a e = e
nothing_anew false none a e = refl

pub good_anew : (used : ℕ → Bool) (g : WorldGroup) → IsGood used g → IsGood used (reopened g)
good_anew used g good = (
  record {
    replay = refl;
    table = table_still g.state.table good.0.table;
    unbroken = good.0.unbroken;
    filled = λ s ls. (let was = good.0.filled s ls in record {
      block = was.block;
      void = was.void;
      digest = was.digest;
      held = λ c b lc x. was.held c b lc (record { digest = x.digest; live = x.live; held = held_anew g (serving_at g.state.table s c) s b x.held; right = x.right });
      p_sum = was.p_sum;
      q_sum = was.q_sum;
    });
    holds = λ s c b ls lc filled h. good.0.holds s c b ls lc filled (held_anew g (serving_at g.state.table s c) s b h);
    relays = refl;
    flights = All-nil (IsFlight (reopened g).state.table (reopened g).state.held (reopened g).written);
  },
  record {
    named = good.1.named;
    empty = λ n free k le. nothing_anew (list_any (λ m. m == n) (archives_in g.state.table)) None (g.state.held n k) (good.1.empty n free k le);
    silent = λ n free. nothing_anew (list_any (λ m. m == n) (archives_in g.state.table)) [] (g.state.heard n) (good.1.silent n free);
    targets = λ c m lc moves k le. nothing_anew (list_any (λ x. x == m.to) (archives_in g.state.table)) None (g.state.held m.to k) (good.1.targets c m lc moves k le);
  },
  All-nil (λ e. is_oddly e ≡ false),
)

-- the home and the target of a column
home_named : (c : Column) (n : ℕ) → Contains (homes_of c) n → IsTrue (names c n)
home_named c n h = by c.moving h
  where
    same : (a b : ℕ) → a ≡ b → (a == b) ≡ true
    same a b e = grind (arith, nat_tests)

    left : (a b m : ℕ) → a ≡ b → ((a == b) || (m == b)) ≡ true
    left a b m e = grind (arith, nat_tests)

    right : (a b m : ℕ) → m ≡ b → ((a == b) || (m == b)) ≡ true
    right a b m e = grind (arith, nat_tests)

    by : (m : Option Moving) → Contains (c.home ∷ target_of m) n → IsTrue (names_moved m c.home n)
    by None (zero, lt, e) = same c.home n e
    by None (suc i, lt, e) = absurd (omega (arith, lt))
    by (Some m) (zero, lt, e) = left c.home n m.to e
    by (Some m) (suc zero, lt, e) = right c.home n m.to e
    by (Some m) (suc (suc i), lt, e) = absurd (omega (arith, lt))

-- an archive that has served a column since is one of its own
served_now : (g : WorldGroup) (k n : ℕ) → Served (reopened g) k n → Contains (homes_of (column_at g.state.table k)) n
served_now g k n s = subst (λ l. Contains l n) (append-nil (homes_of (column_at g.state.table k))) s

served_before : (used : ℕ → Bool) (g : WorldGroup) (k n : ℕ) → IsServed used g → k < width g.state.table → Served (reopened g) k n → Served g k n
served_before used g k n sv lk s = sv.names k n lk (home_named (column_at g.state.table k) n (served_now g k n s))

served_anew : (used : ℕ → Bool) (g : WorldGroup) → IsServed used g → IsServed used (reopened g)
served_anew used g sv = record {
  names = λ k n lk h. subst (λ l. Contains l n) (sym (append-nil (homes_of (column_at g.state.table k)))) (named (column_at g.state.table k) n h);
  in_use = λ k n lk s. sv.in_use k n lk (served_before used g k n sv lk s);
  apart = λ k j n lk lj s q. sv.apart k j n lk lj (served_before used g k n sv lk s) (served_before used g j n sv lj q);
}
  where
    is : (a b : ℕ) → (a == b) ≡ true → a ≡ b
    is a b e = grind (arith, nat_tests)

    named : (c : Column) (n : ℕ) → IsTrue (names c n) → Contains (homes_of c) n
    named c n h = by c.moving h
      where
        by : (m : Option Moving) → IsTrue (names_moved m c.home n) → Contains (c.home ∷ target_of m) n
        by None h = (0, omega arith, is c.home n h)
        by (Some m) h = either (c.home == n) (m.to == n) refl refl h
          where
            either : (x y : Bool) → (c.home == n) ≡ x → (m.to == n) ≡ y → x || y ≡ true → Contains (c.home ∷ m.to ∷ []) n
            either true y ex ey e = (0, omega arith, is c.home n ex)
            either false true ex ey e = (1, omega arith, is m.to n ey)
            either false false ex ey e = absurd (cc)

known_anew : (rack : Rack) (used : ℕ → Bool) (g : WorldGroup) → KnownOfGroup rack used g → KnownOfGroup rack used (reopened g)
known_anew rack used g x = record { good = good_anew used g x.good; served = served_anew used g x.served; sizes = x.sizes }

-- WHAT IS SEEN

listed_alike : (g h : WorldGroup) (n : ℕ) → Alike g h → list_any (λ m. m == n) (archives_in g.state.table) ≡ list_any (λ m. m == n) (archives_in h.state.table)
listed_alike g h n a = ap {A = Table} (λ t. list_any (λ m. m == n) (archives_in t)) a.table

alike_anew : (g h : WorldGroup) → Alike g h → Alike (reopened g) (reopened h)
alike_anew g h a = record { table = ap {A = Table} (λ t. record t { relays = [] }) a.table; log = refl; held = λ n slot. both _ _ (g.state.held n slot) (h.state.held n slot) (listed_alike g h n a) (a.held n slot) }
  where
    both : (x y : Bool) (o p : Option (List ℕ)) → x ≡ y → is_some o ≡ is_some p → is_some (if x then o else None) ≡ is_some (if y then p else None)
    both true true o p e same = same
    both true false o p e same = absurd (cc)
    both false true o p e same = absurd (cc)
    both false false o p e same = refl

-- what is said of one archive in both
same_listed : {A : Type 0} (x y : Bool) (none a b : A) → x ≡ y → b ≡ a → (if y then b else none) ≡ (if x then a else none)
same_listed true true none a b e same = same
same_listed true false none a b e same = absurd (cc)
same_listed false true none a b e same = absurd (cc)
same_listed false false none a b e same = refl

same_anew : (rack : Rack) (exchanges : Bool) (used : ℕ → Bool) (sight : Sight) (g h : WorldGroup) → ((k : ℕ) → sight ≡ One k → k < rack.columns) → KnownOfGroup rack used g → SeesSame exchanges sight g h → SeesSame exchanges sight (reopened g) (reopened h)
same_anew rack exchanges used Whole g h low x e = ap reopened e
same_anew rack exchanges used (One k) g h low x s = (
  record {
    alike = alike_anew g h s.0.alike;
    first = ap {A = Table} (λ t. t.columns) (sym s.0.alike.table);
    written = s.0.written;
    held = λ n slot v. same_listed _ _ None (g.state.held n slot) (h.state.held n slot) (listed_alike g h n s.0.alike) (s.0.held n slot (served_before used g k n x.served lk v));
  },
  λ e. record { heard = λ n v. same_listed _ _ [] (g.state.heard n) (h.state.heard n) (listed_alike g h n s.0.alike) ((s.1 e).heard n (served_before used g k n x.served lk v)); blinds = λ s f f' q q' last over. absurd (none q) },
)
  where
    none : {f : Flight} → None ≡ Some f → ⊥
    none e = cc

    lk : k < width g.state.table
    lk = let a = low k refl in let b = x.sizes.1 in omega (arith, a, b)
same_anew rack exchanges used Blind g h low x a = alike_anew g h a

all_anew : (rack : Rack) (exchanges : Bool) (used : ℕ → Bool) (sights : ℕ → Sight) (gs hs : List WorldGroup) → SeesNoParity rack sights → EachGroup (KnownOfGroup rack used) gs → AllSame exchanges sights gs hs → AllSame exchanges sights (map reopened gs) (map reopened hs)
unfolding AllSame EachGroup
all_anew rack exchanges used sights [] [] low x s = tt
all_anew rack exchanges used sights [] (h ∷ hs) low x s = absurd s
all_anew rack exchanges used sights (g ∷ gs) [] low x s = absurd s
all_anew rack exchanges used sights (g ∷ gs) (h ∷ hs) low x s =
    (same_anew rack exchanges used (sights 0) g h (low 0) x.0 s.0, all_anew rack exchanges used (λ n. sights (suc n)) gs hs (λ n. low (suc n)) x.1 s.1)

each_anew : (P Q : WorldGroup → Type 0) → ((g : WorldGroup) → P g → Q (reopened g)) → (gs : List WorldGroup) → EachGroup P gs → EachGroup Q (map reopened gs)
unfolding EachGroup
each_anew P Q f [] h = tt
each_anew P Q f (g ∷ gs) h = (f g h.0, each_anew P Q f gs h.1)

pub reopened_both : ReopenedBoth
reopened_both rack exchanges sights x y low b = record {
  used = b.used;
  known = each_anew (KnownOfGroup rack x.used) (KnownOfGroup rack x.used) (known_anew rack x.used) x.groups b.known;
  good = each_anew (IsGood y.used) (IsGood y.used) (good_anew y.used) y.groups b.good;
  same = all_anew rack exchanges x.used sights x.groups y.groups low b.known b.same;
}

-- SESSIONS

pub runs_seen_on : RunsSeenOn
runs_seen_on rack exchanges sights bytes moves x y z low blocks b r fits = runs_both rack exchanges sights bytes moves x y z blocks low b r fits

sessions_on : (rack : Rack) (exchanges : Bool) (sights : ℕ → Sight) (sessions : List (List Move)) (bytes : ℕ → ℕ → List ℕ) (x y z : Site) → SeesNoParity rack sights → ((n m : ℕ) → IsBlock (bytes n m)) → Both rack exchanges sights x y
    → (run : Sessions x sessions z) → SessionsFit sights bytes x sessions z run → (w : Site) × OtherSessions exchanges sights bytes x y sessions z run w × (w.used ≡ z.used) × AllSame exchanges sights z.groups w.groups
sessions_on rack exchanges sights [] bytes x y z low blocks b run fits =
    (y, refl, b.used ∙ ap (λ (s : Site). s.used) (sym run), subst (λ (s : Site). AllSame exchanges sights s.groups y.groups) (sym run) b.same)
sessions_on rack exchanges sights (moves ∷ more) bytes x y z low blocks b run fits =
    let one = runs_both rack exchanges sights (bytes 0) moves (reopened_site x) (reopened_site y) run.0 (blocks 0) low (reopened_both rack exchanges sights x y low b) run.1 fits.0 in
    let rest = sessions_on rack exchanges sights more (λ n. bytes (suc n)) run.0 one.0 z low (λ n. blocks (suc n)) one.2 run.2 fits.1 in
    (rest.0, (one.0, one.1, rest.1), rest.2, rest.3)

pub sessions_seen_same : SessionsSeenSame
sessions_seen_same rack exchanges sights bytes sessions z fits low blocks run seen =
    sessions_on rack exchanges sights sessions bytes (first_site rack) (first_site rack) z low blocks (first_both rack exchanges sights fits) run seen

group_anew : (rack : Rack) (n : ℕ) → reopened (first_group rack n) ≡ first_group rack n
group_anew rack n =
    ap (λ h. record (first_group rack n) { state = record (reopened (first_group rack n)).state { held = h } }) (fun_ext (λ m. fun_ext (λ slot. nothing_anew (list_any (λ x. x == m) (archives_in (empty_table rack n))) None None refl)))
    ∙ ap (λ k. record (first_group rack n) { state = record (first_group rack n).state { heard = k } }) (fun_ext (λ m. nothing_anew (list_any (λ x. x == m) (archives_in (empty_table rack n))) [] [] refl))

first_anew : (rack : Rack) (n more : ℕ) → map reopened (first_groups rack n more) ≡ first_groups rack n more
unfolding first_groups
first_anew rack n zero = refl
first_anew rack n (suc more) = ap (λ gs. reopened (first_group rack n) ∷ gs) (first_anew rack (suc n) more) ∙ ap (λ g. g ∷ first_groups rack (suc n) more) (group_anew rack n)

pub first_reopened : FirstReopened
first_reopened rack = ap (λ gs. record (first_site rack) { groups = gs }) (first_anew rack 0 rack.groups)
