-- The stripes of a session that closed keep their law over what the room means.
use Rattle.std.proofs.Common.{◌≡◌, ◌<◌, ◌++◌, ⊎_elim, inl, inr, ℕ, Bool, true, false, List, [], ◌∷◌, length, refl, sym, ap, subst, ◌∙◌, arith}
use Rattle.std.specs.Prelude.{Contains, if◌then◌else◌, nat_eq}
use Rattle.std.proofs.lemmas.List.Elements.{Contains-append_cases, Contains-append_left, Contains-append_right}
use Rattle.pot_bytes.proofs.Elements.{element_at, none_contained}
use Rattle.pot_outside.specs.Archives.{Meaning}
use Rattle.pot_outside.specs.declared.archive.Marks.{Marks}
use Rattle.pot_outside.specs.Counts.{Rose}
use Rattle.pot_machine.specs.declared.entry.Entry.{Entry}
use Rattle.pot_machine.specs.declared.entry.Entry.TheVariants as entry
use Rattle.pot_machine.specs.Column.{homes_of}
use Rattle.pot_machine.specs.Table.{Table, width, archives_in, column_at, no_column, relay_at, serving_at}
use Rattle.pot_machine.proofs.Columns.{names_serving}
use Rattle.pot_steps.specs.Holdings.{StripesConsistent, LiveLaw, stripe_of}
use Rattle.pot_steps.specs.Law.{Worse}
use Rattle.pot_steps.specs.Stripe.{Sound}
use Rattle.pot_steps.proofs.Steps.{worse_keeps}
use Rattle.pot_group.specs.Arrivals.{arrival, arrivals}
use Rattle.pot_group.specs.Causes.{archives_of, brought, brought_by}
use Rattle.pot_image.specs.Rules.{FitsTable}
use Rattle.pot_shared.specs.Groups.{had_by}
use Rattle.pot_session.specs.Serving.{IsInRoom}
use Rattle.pot_shared.specs.Leaving.{LeavesGroup, Shows, still}
use Rattle.pot_session.specs.Stripes.{CameBack, FitsRoom, StripesFit, held_in}
use Rattle.pot_shared.proofs.Lists.{all_at_place, at_same, flat_contains}

-- WHICH ARCHIVES A COLUMN HAS

none_of : {X : Type 0} (n : ℕ) → Contains [] n → X
none_of n has = absurd (none_contained n has)

by_test : (b : Bool) (to n : ℕ) → Contains (if b then to ∷ [] else []) n → Contains (to ∷ []) n
by_test true to n has = has
by_test false to n has = none_of n has

-- what comes to a column comes to its group
comes : (c : ℕ) (e : Entry) (n : ℕ) → Contains (brought c e) n → Contains (arrival e) n
comes c (entry.MoveBegin job k to) n has = by_test (nat_eq c k) to n has
comes c (entry.Swapped job k to) n has = by_test (nat_eq c k) to n has
comes c (entry.Put job s k d p kept) n has = none_of n has
comes c (entry.Put2 job s k d p q kept kept2) n has = none_of n has
comes c (entry.Skip job s) n has = none_of n has
comes c (entry.Seen job s k) n has = none_of n has
comes c (entry.Gone job s k) n has = none_of n has
comes c (entry.Broke job s k) n has = none_of n has
comes c (entry.Fault job s k) n has = none_of n has
comes c (entry.Begin job s k) n has = none_of n has
comes c (entry.Hop job s k) n has = none_of n has
comes c (entry.Mended job s k) n has = none_of n has
comes c (entry.GaveUp job s k o) n has = none_of n has
comes c (entry.Oddly job s k f) n has = none_of n has
comes c (entry.Stuck job s k o) n has = none_of n has
comes c (entry.Moved job s k copied) n has = none_of n has
comes c (entry.MoveEnd job k) n has = none_of n has
comes c (entry.Counted job) n has = none_of n has

all_come : (c : ℕ) (log : List Entry) (n : ℕ) → Contains (brought_by c log) n → Contains (arrivals log) n
all_come c [] n has = none_of n has
all_come c (e ∷ log) n has = ⊎_elim
    (λ (h : Contains (brought c e) n). Contains-append_left (arrival e) (arrivals log) n (comes c e n h))
    (λ (h : Contains (brought_by c log) n). Contains-append_right (arrival e) (arrivals log) n (all_come c log n h))
    (Contains-append_cases (brought c e) (brought_by c log) n has)

-- each archive of a column is one of its group
pub column_had : (t : Table) (log : List Entry) (c n : ℕ) → c < length t.columns → Contains (archives_of t log c) n → Contains (archives_in t ++ arrivals log) n
column_had t log c n lt has =
    let column = element_at t.columns c lt in
    let same : column_at t c ≡ column.0 = at_same t.columns c no_column column.0 column.1 in
    ⊎_elim
    (λ (h : Contains (homes_of (column_at t c)) n).
    Contains-append_left (archives_in t) (arrivals log) n (flat_contains homes_of t.columns c column.0 n column.1 (subst (λ k. Contains (homes_of k) n) same h)))
    (λ (h : Contains (brought_by c log) n). Contains-append_right (archives_in t) (arrivals log) n (all_come c log n h))
    (Contains-append_cases (homes_of (column_at t c)) (brought_by c log) n has)

-- ONE GROUP

module _ (told : Type 0) (meant means : ℕ → Meaning) (missing : List ℕ) (t u : Table) (log : List Entry) (is_told : told) (left : LeavesGroup told meant (IsInRoom told means missing) t log u)
    (back : CameBack missing t log) (columns : length t.columns ≡ width t) where
  had_at : (s c : ℕ) → c < width left.view.table → Contains (had_by left.view) (serving_at left.view.table s c)
  had_at s c lt =
      let sizes = left.settled.sizes in
      let within : c < length left.view.first.columns =
      (let a = sizes.0 in let b = sizes.1 in let k : length left.view.first.columns ≡ width left.view.first = subst (λ (f : Table). length f.columns ≡ width f) (sym left.first) columns in omega (arith, lt, a, b, k)) in
      column_had left.view.first left.view.log c (serving_at left.view.table s c) within
      (left.settled.serves c (serving_at left.view.table s c) lt (names_serving (column_at left.view.table c) s))

  shows_at : (s c : ℕ) → c < width left.view.table → Shows left.view.shelves (serving_at left.view.table s c) (means (serving_at left.view.table s c))
  shows_at s c lt =
      let n = serving_at left.view.table s c in
      let had = had_at s c lt in
      left.archives n had is_told
      (back n (subst (λ l. Contains (archives_in t ++ arrivals l) n) left.is_log (subst (λ f. Contains (archives_in f ++ arrivals left.view.log) n) left.first had)))

  worse : (s : ℕ) → Worse left.view.table.data_columns left.view.table.parity (stripe_of left.view.table left.view.shelves.held s) (stripe_of (still left.view.table) (held_in means) s)
  worse s = record {
    digests = λ c lt. refl;
    sound = λ c b lt h. record {
      digest = h.digest;
      live = h.live;
      held = (shows_at s c lt).blocks s ∙ h.held;
      right = h.right;
    };
    lost = λ c lt e. e;
    broken = λ c d lt e. e;
  }

  holds : StripesConsistent (still left.view.table) (held_in means)
  holds s lt = worse_keeps left.view.table.data_columns left.view.table.parity (stripe_of left.view.table left.view.shelves.held s) (stripe_of (still left.view.table) (held_in means) s)
      (relay_at left.view.table s) (relay_at (still left.view.table) s) (worse s) (λ some. absurd (some refl)) (left.settled.holds is_told s lt)

  live : LiveLaw (still left.view.table) (held_in means) (λ n. Rose (meant n).losses (means n).losses)
  live s c ls lc is =
      let n = serving_at left.view.table s c in
      let marks : left.view.shelves.losses_taken n ≡ (meant n).losses = ap (λ (m : Marks). m.losses) (left.marked is_told n (had_at s c lc)) in
      ⊎_elim
      (λ (h : Sound (stripe_of left.view.table left.view.shelves.held s) c). inl (
        h.0,
        record {
          digest = h.1.digest;
          live = h.1.live;
          held = sym ((shows_at s c lc).blocks s) ∙ h.1.held;
          right = h.1.right;
        },
      ))
      (λ (h : Rose (left.view.shelves.losses_taken n) (left.view.shelves.losses n)).
      inr (subst (λ k. Rose k (means n).losses) marks (subst (λ k. Rose (left.view.shelves.losses_taken n) k) (shows_at s c lc).losses h)))
      (left.settled.live is_told s c ls lc is)

  pub fits_room : FitsRoom meant means u
  fits_room = subst (λ w. FitsRoom meant means w) (sym left.is) (record { holds = holds; live = live })

pub stripes_fit : (told : Type 0) → StripesFit told
stripes_fit told first last meant means missing is_told fits groups g read written log is_read is_written is_log back =
    let rules : FitsTable first.rack read = all_at_place (FitsTable first.rack) first.tables g read fits.tables.fits is_read in
    fits_room told meant means missing read written log is_told (groups.each g read written log is_read is_written is_log) back rules.rules.size.columns
