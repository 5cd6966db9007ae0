-- A group that was opened keeps what a group keeps.
use Rattle.std.proofs.Common.{◌≡◌, ◌⊎◌, inl, inr, ℕ, zero, suc, ◌<◌, ◌≤◌, ◌==◌, ◌++◌, List, [], ◌∷◌, Option, Some, None, Bool, true, false, IsTrue, length, refl, sym, ap, ◌∙◌, subst, arith, append-nil, All, Contains}
use Rattle.std.specs.Prelude.{slice_index_or, ◌||◌}
use Rattle.std.specs.List.{flat_map}
use Rattle.std.proofs.lemmas.Bool.Decides.{eqb_tells}
use Rattle.std.proofs.lemmas.List.Elements.{Contains-append_left, Contains-append_right, All-head, All-tail}
use Rattle.pot_bytes.specs.Rack.{log_bound}
use Rattle.pot_outside.specs.Archives.{Meaning}
use Rattle.pot_outside.specs.Counts.{Rose}
use Rattle.pot_outside.specs.declared.archive.Marks.{Marks}
use Rattle.pot_machine.specs.declared.column.Column.{Column}
use Rattle.pot_machine.specs.declared.column.Moving.{Moving}
use Rattle.pot_machine.specs.declared.entry.Entry.{Entry}
use Rattle.pot_machine.specs.declared.entry.Entry.TheVariants.{Gone, Broke}
use Rattle.pot_machine.specs.Column.{names, names_moved, serving, target_of, homes_of}
use Rattle.pot_machine.specs.Table.{Table, width, column_at, serving_at, no_column, archives_in}
use Rattle.pot_machine.specs.Machine.{Replays, after}
use Rattle.pot_machine.specs.Rules.{IsTable}
use Rattle.pot_machine.proofs.LeftAlone.{rules_stay}
use Rattle.pot_steps.specs.GroupStep.{StartStep}
use Rattle.pot_steps.proofs.Opening.{start_makes}
use Rattle.pot_steps.proofs.Losses.{start_makes_live}
use Rattle.pot_shelves.specs.Shelves.{Shelves, Shelved, IsOpenedNow, IsTaken, plain}
use Rattle.pot_group.specs.Causes.{HasLost, risen, archives_of}
use Rattle.pot_shelves.specs.Opening.{HasArchives, Opens}
use Rattle.pot_group.specs.Group.{GroupParts, GroupView, IsSettled, LostSince, RoseInOpening, state_of, view_of}
use Rattle.pot_group.specs.Beginning.{Begins, unopened}
use Rattle.pot_shelves.proofs.OpeningCauses.{gone_rose}
use Rattle.pot_shelves.proofs.ShelfLemmas.{lost_rose}
use Rattle.pot_group.proofs.Hearing.{heard_opened, begins_opening}
use Rattle.pot_group.proofs.CauseLemmas.{OfOpening, opening_entries, faults_in-opening, WhereMissed-opening, archives_of-opening}

-- THE ARCHIVES OF A TABLE

-- a number that a column names is its home or its target
named : (c : Column) (number : ℕ) → IsTrue (names c number) → Contains (homes_of c) number
named c number h = by_move c.moving c.home h
  where
    here : (n : ℕ) (ns : List ℕ) → n ≡ number → Contains (n ∷ ns) number
    here n ns e = (0, omega arith, e)

    there : (n m : ℕ) → m ≡ number → Contains (n ∷ m ∷ []) number
    there n m e = (1, omega arith, e)

    by_move : (m : Option Moving) (home : ℕ) → IsTrue (names_moved m home number) → Contains (home ∷ target_of m) number
    by_move None home h = elim (eqb_tells home number) [ inl e ↦ here home [] e.1 | inr e ↦ absurd (both (home == number) h e.0) ]
      where
        both : (b : Bool) → IsTrue b → b ≡ false → ⊥
        both true h e = cc
        both false h e = cc
    by_move (Some m) home h = elim (eqb_tells home number) [
      | inl e ↦ here home (m.to ∷ []) e.1
      | inr e ↦ elim (eqb_tells m.to number) [ inl f ↦ there home m.to f.1 | inr f ↦ absurd (none (home == number) (m.to == number) h e.0 f.0) ]
    ]
      where
        none : (a b : Bool) → IsTrue (a || b) → a ≡ false → b ≡ false → ⊥
        none true b h e f = cc
        none false true h e f = cc
        none false false h e f = cc

among : (columns : List Column) (c number : ℕ) → c < length columns → IsTrue (names (slice_index_or columns c no_column) number) → Contains (flat_map homes_of columns) number
among [] c number lt h = absurd (omega arith)
among (x ∷ xs) zero number lt h = Contains-append_left (homes_of x) (flat_map homes_of xs) number (named x number h)
among (x ∷ xs) (suc c) number lt h = Contains-append_right (homes_of x) (flat_map homes_of xs) number (among xs c number (omega arith) h)

-- the archives that a table is handed are all that it names
pub handed_all : (t : Table) (numbers : List ℕ) → IsTable t → numbers ≡ archives_in t → HasArchives t numbers
handed_all t numbers table is c number lt h =
    subst (λ ns. Contains ns number) (sym is) (among t.columns c number (omega (arith, lt, table.size.columns)) h)

-- THE TABLE AFTER AN OPENING

-- one entry changes slots alone
one_shape : (t : Table) (e : Entry) → OfOpening e → after t e ≡ record t { slots = (after t e).slots }
one_shape t (Gone job s c) h = refl
one_shape t (Broke job s c) h = refl
one_shape t _ h = absurd h

pub shape : (log : List Entry) (t u : Table) → All OfOpening log → Replays t log u → u ≡ record t { slots = u.slots }
shape [] t u h r = subst (λ x. x ≡ record t { slots = x.slots }) (sym r) refl
shape (e ∷ log) t u h r =
    shape log (after t e) u (All-tail OfOpening e log h) r.1 ∙ ap (λ (x : Table). record x { slots = u.slots }) (one_shape t e (All-head OfOpening e log h))

-- A GROUP THAT WAS OPENED

module _ {A : Type 0} (told : Type 0) (meaning : A → Meaning) (number : ℕ) (t u : Table) (log : List Entry) (a b : Shelved A) (marks : List Marks)
    (table : IsTable t) (relays : t.relays ≡ []) (taken : IsTaken told (plain meaning a)) (handed : HasArchives t (plain meaning a).numbers)
    (o : Opens told t.stripes t u log (plain meaning a) (plain meaning b)) (bound : length log ≤ log_bound)
    (opened : IsOpenedNow told (plain meaning (record b { opened = marks }))) where
  abbrev old : Shelves
  old = plain meaning a

  abbrev now : Shelves
  now = plain meaning (record b { opened = marks })

  abbrev group : GroupParts A
  group = record { number = number; first = t; table = u; log = log; flights = []; blinds = []; tried = []; shelves = record b { opened = marks } }

  abbrev view : GroupParts A → GroupView
  view g = view_of meaning g

  all : All OfOpening log
  all = subst (λ l. All OfOpening l) (sym o.log) (opening_entries (width t) t.stripes o.gone o.broke)

  is_shape : u ≡ record t { slots = u.slots }
  is_shape = shape log t u all o.replay

  same_columns : u.columns ≡ t.columns
  same_columns = ap (λ (x : Table). x.columns) is_shape

  same_width : width u ≡ width t
  same_width = ap (λ (x : Table). width x) is_shape

  same_serving : (s c : ℕ) → serving_at u s c ≡ serving_at t s c
  same_serving s c = ap (λ cs. serving (slice_index_or cs c no_column) s) same_columns

  pub start_step : told → StartStep (state_of (view (unopened number t a))) (state_of (view group))
  start_step k = record {
    no_relays = relays;
    no_flights = refl;
    no_log = refl;
    read = o.read;
    gone = o.gone;
    broke = o.broke;
    failed = o.failed;
    missing = o.missing k;
    reads = o.reads k;
    finds = o.finds;
    breaks = o.breaks;
    logs = record { log = o.log; room = bound; flights = refl; heard = o.stays.heard k };
    replay = subst (λ l. Replays t l u) o.log o.replay;
    loses = (λ n m x h. (o.stays.loses k n).keeps m x h);
  }

  -- a block that went since the taking has raised the count of losses
  lost_then : told → (n m : ℕ) (x : List ℕ) → old.held n m ≡ Some x → (now.held n m ≡ Some x) ⊎ LostSince now n
  lost_then k n m x h = elim (lost_rose old.held old now n m x (o.stays.loses k) h) [
    | inl r ↦ inl r
    | inr r ↦ inr (subst (λ y. Rose y (now.losses n)) (sym (o.stays.keeps.losses_taken n ∙ taken.losses k n)) r)
  ]

  serves_first : (c number : ℕ) → IsTrue (names (column_at t c) number) → Contains (archives_of t [] c) number
  serves_first c number h = subst (λ ns. Contains ns number) (homes_nil (column_at t c)) (named (column_at t c) number h)
    where
      homes_nil : (x : Column) → homes_of x ≡ x.home ∷ (target_of x.moving ++ [])
      homes_nil x = ap (λ l. x.home ∷ l) (sym (append-nil (target_of x.moving)))

  pub opened_settled : IsSettled told (view group)
  opened_settled = record {
    blinds = sym (begins_opening log all);
    tried = record { few = omega arith; below = λ x h. absurd (omega (arith, h.1)) };
    heard = (λ k. heard_opened t log now all (λ n. o.stays.heard k n ∙ sym (ap (λ (y : Meaning). y.heard) (o.stays.keeps.taken n ∙ taken.meant n))));
    frame = (λ k. record {
      held = (λ n m x h. inl (ap (λ (y : Meaning). y.held m) (o.stays.keeps.taken n ∙ taken.meant n) ∙ (o.stays.loses k n).keeps m x h));
      history = (λ n x h. inl (subst (λ (y : Meaning). Contains y.history x) (sym (o.stays.keeps.taken n ∙ taken.meant n)) (subst (λ l. Contains l x) (o.stays.history k n) h)));
      kept = (λ n m x h. elim (lost_then k n m x (sym (ap (λ (y : Meaning). y.held m) (o.stays.keeps.taken n ∙ taken.meant n)) ∙ h)) [ inl y ↦ inl (x, y) | inr y ↦ inr (inr y) ]);
    });
    replay = o.replay;
    table = rules_stay t u log table o.replay;
    relays = sym (ap (λ (x : Table). x.relays) is_shape ∙ relays);
    bound = bound;
    shelves = (λ c n lc h. subst (λ ns. Contains ns n) (sym o.stays.keeps.numbers)
        (handed c n (omega (arith, lc, same_width)) (subst (λ cs. IsTrue (names (slice_index_or cs c no_column) n)) same_columns h)));
    serves = (λ c n lc h. subst (λ ns. Contains ns n) (sym (archives_of-opening t log c all))
        (serves_first c n (subst (λ cs. IsTrue (names (slice_index_or cs c no_column) n)) same_columns h)));
    sizes = (ap (λ (x : Table). x.data_columns) is_shape, ap (λ (x : Table). x.parity) is_shape, ap (λ (x : Table). x.stripes) is_shape);
    faults = (λ n. omega (arith, o.stays.keeps.faults_taken n, taken.faults n, o.stays.keeps.later n));
    losses = (λ k n. omega (arith, o.stays.keeps.losses_taken n, taken.losses k n, (o.stays.loses k n).later));
    opened_faults = (λ n. let e : now.faults_opened n ≡ now.faults n = opened.faults n in omega (arith, e));
    opened_losses = (λ k n. let e : now.losses_opened n ≡ now.losses n = opened.losses k n in omega (arith, e));
    holds = (λ k. (start_makes (state_of (view (unopened number t a))) (state_of (view group)) (start_step k) table).holds);
    flying = (λ k s ls. tt);
    live = (λ k. start_makes_live (LostSince now) (state_of (view (unopened number t a))) (state_of (view group)) (start_step k) table
        (record { keeps = (λ s c x ls lc nv h. lost_then k (serving_at t s c) s x h) }));
    causes = record {
      faults = (λ c lc. inr (subst (λ n. n ≤ risen now (archives_of t log c)) (sym (faults_in-opening t.data_columns c log all)) (omega arith)));
      losses = (λ k c lc. WhereMissed-opening t log c (HasLost now (archives_of t log c)) all);
    };
  }

  -- the counts that rose in the opening are those that rose between the marks
  rose_in : told → (k : ℕ) → Rose (old.faults k) ((plain meaning b).faults k) ⊎ Rose (old.losses k) ((plain meaning b).losses k) → RoseInOpening now k
  rose_in z k (inl r) = inl (subst (λ x. Rose x (now.faults_opened k)) (sym (o.stays.keeps.faults_taken k ∙ taken.faults k)) (subst (λ y. Rose (old.faults k) y) (sym (opened.faults k)) r))
  rose_in z k (inr r) = inr (subst (λ x. Rose x (now.losses_opened k)) (sym (o.stays.keeps.losses_taken k ∙ taken.losses z k)) (subst (λ y. Rose (old.losses k) y) (sym (opened.losses z k)) r))

  pub opened_begins : Begins told meaning number t a.shelves group
  unfolding start_step
  opened_begins = record {
    taken = a;
    shelves = refl;
    marks = taken;
    is_number = refl;
    first = refl;
    blinds = refl;
    tried = refl;
    read = b;
    opens = o;
    marked = refl;
    opened = opened;
    rose = (λ z s c ls lc is sound. rose_in z (serving_at t s c) (gone_rose told t.stripes t u log old (plain meaning b) o z s c ls lc is sound));
    step = start_step;
    same_gone = (λ z. refl);
  }

-- THE ARCHIVES ONCE THEY ARE MARKED

module _ {A : Type 0} (told : Type 0) (meaning : A → Meaning) (number : ℕ) (t u : Table) (log : List Entry) (a b after : Shelved A)
    (table : IsTable t) (relays : t.relays ≡ []) (taken : IsTaken told (plain meaning a)) (handed : HasArchives t (plain meaning a).numbers)
    (o : Opens told t.stripes t u log (plain meaning a) (plain meaning b)) (bound : length log ≤ log_bound)
    (same : after ≡ record b { opened = after.opened }) (opened : IsOpenedNow told (plain meaning after)) where
  abbrev over : Shelved A → GroupParts A
  over s = record { number = number; first = t; table = u; log = log; flights = []; blinds = []; tried = []; shelves = s }

  now_opened : IsOpenedNow told (plain meaning (record b { opened = after.opened }))
  now_opened = subst (λ s. IsOpenedNow told (plain meaning s)) same opened

  pub after_settled : IsSettled told (view_of meaning (over after))
  after_settled = subst (λ s. IsSettled told (view_of meaning (over s))) (sym same)
      (opened_settled told meaning number t u log a b after.opened table relays taken handed o bound now_opened)

  pub after_begins : Begins told meaning number t a.shelves (over after)
  after_begins = subst (λ s. Begins told meaning number t a.shelves (over s)) (sym same)
      (opened_begins told meaning number t u log a b after.opened table relays taken handed o bound now_opened)
