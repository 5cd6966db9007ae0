-- Stripes and places of what sessions left, as the world has them.
use Rattle.std.proofs.Common.{◌≡◌, ℕ, zero, suc, ◌<◌, List, [], ◌∷◌, ◌++◌, Some, IsTrue, refl, sym, ap, ◌∙◌, subst, arith, length}
use Rattle.std.specs.Prelude.{Contains, slice_get}
use Rattle.std.proofs.lemmas.Option.{same_Some, slice_get_within}
use Rattle.pot_bytes.specs.declared.digest.Digest.{Digest}
use Rattle.pot_bytes.specs.declared.rack.Rack.{Rack}
use Rattle.pot_bytes.proofs.Elements.{element_at}
use Rattle.pot_machine.specs.declared.entry.Entry.{Entry}
use Rattle.pot_machine.specs.declared.entry.Entry.TheVariants.{Put, Put2}
use Rattle.pot_machine.specs.Slot.{digest_in}
use Rattle.pot_machine.specs.Column.{names}
use Rattle.pot_machine.specs.Logs.{Fills}
use Rattle.pot_machine.specs.Machine.{Legal, Replays, after}
use Rattle.pot_machine.specs.Rules.{IsTable}
use Rattle.pot_machine.specs.Table.{Table, archives_in, column_at, serving_at, slot_at, width}
use Rattle.pot_machine.proofs.Filled.{not_void, put_digest}
use Rattle.pot_machine.proofs.Kept.{after_keeps}
use Rattle.pot_machine.proofs.LeftAlone.{data_stays, put_column, sizes_stay}
use Rattle.pot_steps.specs.Stripe.{IsSound}
use Rattle.pot_steps.specs.Holdings.{stripe_of}
use Rattle.pot_steps.proofs.Steps.{filling_stays}
use Rattle.pot_group.specs.Arrivals.{arrivals}
use Rattle.pot_image.specs.Rules.{FitsTable}
use Rattle.pot_shared.specs.Groups.{had_by}
use Rattle.pot_shared.specs.Leaving.{still}
use Rattle.pot_shared.proofs.GroupLemmas.{serves_there}
use Rattle.pot_shared.proofs.Lists.{all_at_place}
use Rattle.pot_session.specs.Stripes.{held_in}
use Rattle.pot_world.specs.Group.{WorldGroup}
use Rattle.pot_world.specs.Kept.{IsKept}
use Rattle.pot_world.specs.Reached.{Site}
use Rattle.pot_world.proofs.Ending.{relay_gives}
use Rattle.pot_world.proofs.Flights.{flies, found_at}
use Rattle.pot_theorem.specs.Hard.{AreCodewords, NoneIsOdd, PlacesStand, StripesStand}
use Rattle.pot_theorem.specs.Sessions.{ClosedSession, AllSucceed, Succeeds, new_archives, last_session}
use Rattle.pot_theorem.specs.Worlds.{IsGroupOf, IsAsLeft, had_with}
use Rattle.pot_theorem.proofs.Chaining.{HasColumns, named_had, table_had}
use Rattle.pot_theorem.proofs.Groups.{had_there}
use Rattle.pot_theorem.proofs.Reaching.{IsReached, all_left, found, as_left}

-- A GROUP

-- a table that a session read keeps the rules
pub is_read : (c : ClosedSession) (g : ℕ) (t : Table) → slice_get c.first.tables g ≡ Some t → FitsTable c.first.rack t
is_read c g t e = all_at_place (FitsTable c.first.rack) c.first.tables g t c.fits.tables.fits e

module _ (rack : Rack) (earlier : List ℕ) (c : ClosedSession) (x : Site) (r : IsReached rack earlier c x) (g : ℕ) (read written : Table) (log : List Entry) (h : WorldGroup)
    (of : IsGroupOf c g read written log) (there : slice_get x.groups g ≡ Some h) where
  shown : IsAsLeft c read written log h
  shown = as_left rack earlier c x r g read written log h of there

  kept : IsKept h
  kept = (found rack earlier c x r g read written log h of there).1.good.0

  -- what its table names, it has had
  module _ (n : ℕ) where
    columns : HasColumns (found rack earlier c x r g read written log h of there).0.left.view.first
    columns =
        let f = found rack earlier c x r g read written log h of there in
        subst HasColumns (sym (f.0.left.first ∙ f.2)) (is_read c g read of.was).rules.size.columns

    was_had : Contains (had_by (found rack earlier c x r g read written log h of there).0.left.view) n → Contains (had_with read log) n
    was_had has =
        let f = found rack earlier c x r g read written log h of there in
        subst (λ l. Contains (archives_in read ++ arrivals l) n) f.3 (subst (λ (t : Table). Contains (archives_in t ++ arrivals f.0.log) n) f.2 (had_there c f.0 n has))

    pub of_table : Contains (archives_in h.state.table) n → Contains (had_with read log) n
    of_table has =
        let f = found rack earlier c x r g read written log h of there in
        was_had (table_had (IsTrue c.room.tells) f.0.left.view f.0.left.settled columns n (subst (λ (t : Table). Contains (archives_in t) n) f.1.same.table has))

    pub of_named : (k : ℕ) → k < width h.state.table → IsTrue (names (column_at h.state.table k) n) → Contains (had_with read log) n
    of_named k lt named =
        let f = found rack earlier c x r g read written log h of there in
        was_had (named_had (IsTrue c.room.tells) f.0.left.view f.0.left.settled columns k n (subst (λ (t : Table). k < width t) f.1.same.table lt)
        (subst (λ (t : Table). IsTrue (names (column_at t k) n)) f.1.same.table named))

  serves : (s k : ℕ) → k < width h.state.table → Contains (had_with read log) (serving_at h.state.table s k)
  serves s k lt = of_table (serving_at h.state.table s k) (serves_there h.state.table kept.table s k lt)

  sound : (s k : ℕ) (b : List ℕ) → k < width h.state.table → IsSound (stripe_of (still h.state.table) (held_in c.room.after.means) s) k b → IsSound (stripe_of h.state.table h.state.held s) k b
  sound s k b lt i = record {
    digest = i.digest;
    live = i.live;
    held = shown.held (serving_at h.state.table s k) s (serves s k lt) ∙ i.held;
    right = i.right;
  }

  codewords : AreCodewords c.room.after.means (still h.state.table) h.written
  codewords = record {
    unbroken = kept.unbroken;
    filled = λ s ls.
        filling_stays h.state.table.data_columns h.state.table.parity (stripe_of h.state.table h.state.held s) (stripe_of (still h.state.table) (held_in c.room.after.means) s) (h.written s)
        (kept.filled s ls) (λ k lk. refl) (λ k b lk i. (kept.filled s ls).held k b lk (sound s k b lk i));
    holds = λ s k b ls lk full e. kept.holds s k b ls lk full (shown.held (serving_at h.state.table s k) s (serves s k lk) ∙ e);
  }

  pub stripes : AreCodewords c.room.after.means written h.written × NoneIsOdd h
  stripes = (
    subst (λ t. AreCodewords c.room.after.means t h.written) (sym shown.is) codewords,
    λ s f e none. relay_gives h f kept (flies h f kept (found_at h.state.flights s f e).0) none,
  )

pub stripes_stand : (rack : Rack) (earlier : List ℕ) (c : ClosedSession) (x : Site) → IsReached rack earlier c x → StripesStand c x
stripes_stand rack earlier c x r g read written log h of there = stripes rack earlier c x r g read written log h of there

-- PLACES

-- a data slot keeps its digest
digest_along : (t : Table) (log : List Entry) (u : Table) (s k : ℕ) (d : Digest) → IsTable t → Replays t log u → k < t.data_columns → digest_in (slot_at t s k) ≡ Some d
    → digest_in (slot_at u s k) ≡ Some d
digest_along t [] u s k d is same lt has = ap (λ x. digest_in (slot_at x s k)) same ∙ has
digest_along t (e ∷ log) u s k d is (legal, rest) lt has =
    let size = (sizes_stay t e).0 in
    digest_along (after t e) log u s k d (after_keeps t e is legal) rest (omega (arith, lt, size))
    (data_stays t e s k is legal lt (not_void (slot_at t s k) d has) ∙ has)

-- the sizes stay along a log
sizes_along : (t : Table) (log : List Entry) (u : Table) → Replays t log u → (u.data_columns ≡ t.data_columns) × (u.stripes ≡ t.stripes)
sizes_along t [] u same = (ap (λ (x : Table). x.data_columns) same, ap (λ (x : Table). x.stripes) same)
sizes_along t (e ∷ log) u (legal, rest) =
    let one = sizes_stay t e in
    let more = sizes_along (after t e) log u rest in
    (more.0 ∙ one.0, more.1 ∙ one.2)

-- where a put fills
fills_in : (t : Table) (e : Entry) (s k : ℕ) (d : Digest) → IsTable t → Legal t e → Fills s k d e → (s < t.stripes) × (k < t.data_columns)
fills_in t (Put job n m x p kept) s k d is legal (es, ek, ed) = (
  (let lt = legal.1.0.1 in omega (arith, lt, es)),
  (let lt = put_column t n m is legal.1 in omega (arith, lt, ek)),
)
fills_in t (Put2 job n m x p q kept kept2) s k d is legal (es, ek, ed) = (
  (let lt = legal.1.0.1 in omega (arith, lt, es)),
  (let lt = put_column t n m is legal.1 in omega (arith, lt, ek)),
)
fills_in t _ s k d is legal fills = absurd fills

fills_within : (t : Table) (log : List Entry) (u : Table) (s k : ℕ) (d : Digest) (e : Entry) → IsTable t → Replays t log u → Contains log e → Fills s k d e → (s < t.stripes) × (k < t.data_columns)
fills_within t [] u s k d e is replays (i, lt, at) fills = absurd (omega (arith, lt))
fills_within t (x ∷ log) u s k d e is (legal, rest) (zero, lt, at) fills = fills_in t x s k d is legal (subst (Fills s k d) (sym at) fills)
fills_within t (x ∷ log) u s k d e is (legal, rest) (suc i, lt, at) fills =
    let one = sizes_stay t x in
    let more = fills_within (after t x) log u s k d e (after_keeps t x is legal) rest (i, omega (arith, lt), at) fills in
    ((let a = more.0 in let b = one.2 in omega (arith, a, b)), (let a = more.1 in let b = one.0 in omega (arith, a, b)))

-- a place of a group that a session left has this digest
abbrev pub Has : ClosedSession → ℕ → ℕ → ℕ → Digest → Type 0
Has c g s k d =
    (written : Table) → slice_get c.last.tables g ≡ Some written → (s < written.stripes) × (k < written.data_columns) × (digest_in (slot_at written s k) ≡ Some d)

-- what a session read and logged of a group whose table it wrote
module _ (c : ClosedSession) (g : ℕ) (written : Table) (is : slice_get c.last.tables g ≡ Some written) where
  within : g < length c.last.tables
  within = slice_get_within c.last.tables g written is

  pub read_there : (t : Table) × (slice_get c.first.tables g ≡ Some t)
  read_there = element_at c.first.tables g (let a = within in let b = c.leaves.groups.count in omega (arith, a, b))

  pub log_there : (l : List Entry) × (slice_get c.last.group_logs g ≡ Some l)
  log_there = element_at c.last.group_logs g (let a = within in let b = c.leaves.groups.count in let d = c.leaves.groups.count_logs in omega (arith, a, b, d))

-- a log leads from the table read to one that is written
leads_to : (c : ClosedSession) (g : ℕ) (read written : Table) (log : List Entry) → IsGroupOf c g read written log → (u : Table) × Replays read log u × (written ≡ still u)
leads_to c g read written log of =
    let left = c.leaves.groups.each g read written log of.was of.is of.logged in (
      left.view.table,
      subst (λ l. Replays read l left.view.table) left.is_log (subst (λ (t : Table). Replays t left.view.log left.view.table) left.first left.settled.replay),
      left.is,
    )

-- where its own log put a block
pub has_own : (c : ClosedSession) (g : ℕ) (read written : Table) (log : List Entry) (e : Entry) (s k : ℕ) (d : Digest) → IsGroupOf c g read written log → Contains log e → Fills s k d e → Has c g s k d
has_own c g read written log e s k d of has fills w is =
    let to = leads_to c g read written log of in
    let rules = (is_read c g read of.was).rules in
    let place = fills_within read log to.0 s k d e rules to.1 has fills in
    let sizes = sizes_along read log to.0 to.1 in
    let same : w ≡ still to.0 = same_Some w written (sym is ∙ of.is) ∙ to.2 in
    subst (λ (t : Table). (s < t.stripes) × (k < t.data_columns) × (digest_in (slot_at t s k) ≡ Some d)) (sym same)
    ((let a = place.0 in let b = sizes.1 in omega (arith, a, b)), (let a = place.1 in let b = sizes.0 in omega (arith, a, b)), put_digest read log to.0 s k d e rules to.1 has fills)

-- and in the next session
has_next : (c d : ClosedSession) (g s k : ℕ) (x : Digest) → Succeeds c d → Has c g s k x → Has d g s k x
has_next c d g s k x goes has w is =
    let read = read_there d g w is in
    let log = log_there d g w is in
    let to = leads_to d g read.0 w log.0 (record { was = read.1; is = is; logged = log.1 }) in
    let before = has read.0 (ap (λ ts. slice_get ts g) (sym goes.begins.tables) ∙ read.1) in
    let rules = (is_read d g read.0 read.1).rules in
    let sizes = sizes_along read.0 log.0 to.0 to.1 in
    subst (λ (t : Table). (s < t.stripes) × (k < t.data_columns) × (digest_in (slot_at t s k) ≡ Some x)) (sym to.2)
    ((let a = before.0 in let b = sizes.1 in omega (arith, a, b)), (let a = before.1 in let b = sizes.0 in omega (arith, a, b)), digest_along read.0 log.0 to.0 s k x rules to.1 before.1 before.2)

-- to the last one
has_last : (earlier : List ℕ) (c : ClosedSession) (more : List ClosedSession) (g s k : ℕ) (x : Digest) → AllSucceed earlier c more → Has c g s k x → Has (last_session c more) g s k x
has_last earlier c [] g s k x go has = has
has_last earlier c (d ∷ more) g s k x go has = has_last (earlier ++ new_archives c) d more g s k x go.2 (has_next c d g s k x go.0 has)

-- from each
pub has_from : (earlier : List ℕ) (c : ClosedSession) (more : List ClosedSession) (d : ClosedSession) (g s k : ℕ) (x : Digest) → AllSucceed earlier c more → Contains (c ∷ more) d → Has d g s k x → Has (last_session c more) g s k x
has_from earlier c more d g s k x go (zero, lt, e) has = has_last earlier c more g s k x go (subst (λ y. Has y g s k x) (sym e) has)
has_from earlier c [] d g s k x go (suc i, lt, e) has = absurd (omega (arith, lt))
has_from earlier c (y ∷ more) d g s k x go (suc i, lt, e) has = has_from (earlier ++ new_archives c) y more d g s k x go.2 (i, omega (arith, lt), e) has

-- there the codeword's block has it
pub places_stand : (rack : Rack) (earlier : List ℕ) (c : ClosedSession) (more : List ClosedSession) (x : Site) → IsReached rack earlier (last_session c more) x → AllSucceed [] c more → (d : ClosedSession) → Contains (c ∷ more) d
    → PlacesStand d x
places_stand rack earlier c more x r go d in_chain g read written log h e s k dg of there has fills =
    let l = last_session c more in
    let own = has_own d g read written log e s k dg of has fills in
    let last = has_from [] c more d g s k dg go in_chain own in
    let many : g < length l.last.tables =
    (let lt = slice_get_within x.groups g h there in let a = (all_left rack earlier l x r).count in let b = l.fits.tables.count in let m = l.leaves.groups.count in omega (arith, lt, a, b, m)) in
    let w = element_at l.last.tables g many in
    let rd = read_there l g w.0 w.1 in
    let lg = log_there l g w.0 w.1 in
    let here : IsGroupOf l g rd.0 w.0 lg.0 = record { was = rd.1; is = w.1; logged = lg.1 } in
    let words = (stripes rack earlier l x r g rd.0 w.0 lg.0 h here there).0 in
    let it = last w.0 w.1 in
    (words.filled s it.0).digest k dg (let a = it.1 in omega (arith, a)) it.2
