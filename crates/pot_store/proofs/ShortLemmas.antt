-- The answers of a fetch at a fragment with too few points, by what its visits logged.
use Rattle.std.proofs.Common.{◌≡◌, ◌≢◌, ◌<◌, ◌≤◌, ◌⊎◌, inl, inr, ⊎_elim, ℕ, ◌+◌, ◌-◌, ◌*◌, Bool, true, false, List, [], ◌∷◌, ◌++◌, length, refl, ap, sym, ◌∙◌, subst, arith, append-nil, append_assoc, length-append}
use Rattle.std.specs.Prelude.{Contains}
use Rattle.std.proofs.lemmas.Nat.{mul-add-lt}
use Rattle.std.proofs.lemmas.List.Elements.{Contains-append_right}
use Rattle.pot_bytes.specs.declared.rack.Place.{Place}
use Rattle.pot_bytes.specs.declared.rack.Rack.{Rack}
use Rattle.pot_machine.specs.declared.entry.Entry.{Entry}
use Rattle.pot_machine.specs.declared.entry.Entry.TheVariants as entry
use Rattle.pot_machine.specs.Logs.{own}
use Rattle.pot_steps.proofs.AheadLemmas.{count_same}
use Rattle.pot_object.specs.Pieces.{pieces_of}
use Rattle.pot_shard.specs.Places.{place_at}
use Rattle.pot_index.specs.declared.record.Record.{Record}
use Rattle.pot_index.specs.Fits.{FitsRack}
use Rattle.pot_rows.specs.Rows.{view_at}
use Rattle.pot_replies.specs.Sections.{Section, mine}
use Rattle.pot_replies.specs.Settings.{Setting}
use Rattle.pot_replies.specs.Fetches.{Found, FetchEntries, IsLost, IsFetchFault, IsFetchLogFull, FirstShort, HopelessIf, IsHopeless, FailsAt, LooksTwice, has_seen}
use Rattle.pot_shared.specs.Ready.{GroupPasses}
use Rattle.pot_store.specs.Visits.{Came, Unknown, Seen, Gone, Lost, Failed, Barred, Visit, IsVisit, EndsVisit, EndsInVain, EndsGone, was_seen, visit_at, came_at, place_in, logged_from, seen_in}
use Rattle.pot_store.specs.Reads.{IsFirstFailed, NoneFailed, AreTooFewSeen, IsBarred, AreHad}
use Rattle.pot_store.proofs.LookLemmas.{AreVisits, visit_front, visit_back, logged_last}
use Rattle.pot_store.proofs.FitLemmas.{fragment_within, point_within, points_within, groups_differ}
use Rattle.pot_store.proofs.GoneLemmas.{GoneTwice, gone_again}
use Rattle.pot_store.proofs.RowLemmas.{entries, has_is, seen_of_is}

-- what came of a point that was not seen, was tried, and is no failure
lost_is : (a : Came) → was_seen a ≡ false → a ≢ Unknown → a ≢ Gone → a ≢ Barred → ((k : ℕ) → a ≢ Failed k) → a ≡ Lost
lost_is Unknown unseen looked mended room sound = absurd (looked refl)
lost_is (Seen block) unseen looked mended room sound = absurd (cc unseen)
lost_is Gone unseen looked mended room sound = absurd (mended refl)
lost_is Lost unseen looked mended room sound = refl
lost_is (Failed column) unseen looked mended room sound = absurd (sound column refl)
lost_is Barred unseen looked mended room sound = absurd (room refl)

failed_or : (a : Came) → ((k : ℕ) × (a ≡ Failed k)) ⊎ ((k : ℕ) → a ≢ Failed k)
failed_or Unknown = inr (λ k e. cc e)
failed_or (Seen block) = inr (λ k e. cc e)
failed_or Gone = inr (λ k e. cc e)
failed_or Lost = inr (λ k e. cc e)
failed_or (Failed column) = inl (column, refl)
failed_or Barred = inr (λ k e. cc e)

-- a visit that ended in vain leaves no hope: its last entry is the job's last in the group
in_vain : (s : Setting) (job : ℕ) (w : Section) (p : Place) (sofar es : List Entry) → own job (w.added p.group) ≡ sofar ++ es → EndsInVain job p es
    → (EndsGone job p es → GoneTwice (s.first p.group) job (w.before p.group) (w.added p.group) p.stripe p.column)
    → LooksTwice job p.stripe p.column (own job (w.added p.group)) → HopelessIf true s job w p
in_vain s job w p sofar es is (inl (front, e, at, what)) twice looks = inl (sofar ++ front, e, is ∙ (ap (λ l. sofar ++ l) at ∙ sym (append_assoc sofar front (e ∷ []))), what)
in_vain s job w p sofar es is (inr (inl (front, e, at, what))) twice looks =
    inr (inl (sofar ++ front, e, is ∙ (ap (λ l. sofar ++ l) at ∙ sym (append_assoc sofar front (e ∷ []))), what))
in_vain s job w p sofar es is (inr (inr (front, e, at, what))) twice looks =
    inr (inr (gone_again job p.stripe p.column (s.first p.group) (w.before p.group) (w.added p.group) (twice (front, e, at, what)) looks
    (sofar ++ front, e, is ∙ (ap (λ l. sofar ++ l) at ∙ sym (append_assoc sofar front (e ∷ []))), what)))

module _ (s : Setting) (rack : Rack) (job : ℕ) (name : List ℕ) (kept : Record) (w : Section) (all done last : List Visit) (contents : List (List ℕ)) (fits : FitsRack rack kept)
    (logs : (g : ℕ) → own job (w.added g) ≡ logged_from kept.places g 0 all) (i j : ℕ) (in_pieces : i < pieces_of kept.length) (in_fragments : j < kept.geometry.fragments)
    (parts : all ≡ done ++ last) (had : AreHad kept (i * kept.geometry.fragments + j) done contents) (long : length last ≡ kept.geometry.shards)
    (are : AreVisits job kept.places 0 all)
    (twice : (b : ℕ) → b < length kept.places → b < length all → came_at all b ≡ Lost → EndsGone job (place_in kept.places b) (visit_at all b).entries
    → GoneTwice (s.first (place_in kept.places b).group) job (w.before (place_in kept.places b).group) (w.added (place_in kept.places b).group) (place_in kept.places b).stripe (place_in kept.places b).column) where
  abbrev fragments : ℕ
  fragments = kept.geometry.fragments

  abbrev shards : ℕ
  shards = kept.geometry.shards

  abbrev f : ℕ
  f = i * fragments + j

  f_within : f < pieces_of kept.length * fragments
  f_within = fragment_within rack kept fits i j in_pieces in_fragments

  all_long : length all ≡ f * shards + shards
  all_long = (let a = ap length parts in let b = length-append done last in let c = had.visited in omega (arith, a, b, c, long))

  fit : length all ≤ length kept.places
  fit = let h = points_within rack kept fits f f_within in let a = all_long in omega (arith, h, a)

  its_entries : FetchEntries kept job w
  its_entries = entries s rack job name kept w all fits logs fit are

  abbrev seen_by : Visit → Bool
  seen_by v = was_seen v.came

  -- the visits before, and those of this fragment
  before_is : (b : ℕ) → b < length done → visit_at all b ≡ visit_at done b
  before_is b lt = ap (λ l. visit_at l b) parts ∙ visit_front done last b lt

  point_is : (x : ℕ) → visit_at all (f * shards + x) ≡ visit_at last x
  point_is x = ap (λ l. visit_at l (f * shards + x)) parts ∙ ((let e : f * shards + x ≡ length done + x = (let c = had.visited in omega (arith, c)) in ap (visit_at (done ++ last)) e) ∙ visit_back done last x)

  abbrev place : ℕ → Place
  place x = place_at kept.geometry kept.places i j x

  its_seen : (x : ℕ) → x < shards → has_seen (mine job w).own (place x) ≡ was_seen (came_at last x)
  its_seen x lt = has_is s rack job name kept w all fits logs fit are (f * shards + x) (point_within rack kept fits f x f_within lt) ∙ ap seen_by (point_is x)

  earlier : (a b : ℕ) → b < fragments → (a < i) ⊎ ((a ≡ i) × (b < j)) → a * fragments + b < f
  earlier a b lt (inl less) = (let h : a * fragments + b < fragments * i = mul-add-lt a fragments b i less lt in omega (arith, h))
  earlier a b lt (inr (same, less)) = (let e : a * fragments ≡ i * fragments = ap (λ m. m * fragments) same in omega (arith, e, less))

  in_before : (a b : ℕ) → b < fragments → (a < i) ⊎ ((a ≡ i) × (b < j)) → a < pieces_of kept.length
  in_before a b lt (inl less) = omega (arith, less, in_pieces)
  in_before a b lt (inr (same, less)) = omega (arith, same, in_pieces)

  short : seen_in shards last < kept.geometry.need → FirstShort kept i j (seen_in shards last) (mine job w)
  short fewer = record {
    in_pieces = in_pieces;
    in_fragments = in_fragments;
    before = λ a b lt way.
        let at : a * fragments + b < f = earlier a b lt way in
        seen_of_is s rack job name kept w all fits logs fit are a b (in_before a b lt way) lt
        ∙ (count_same shards (λ x. was_seen (came_at all ((a * fragments + b) * shards + x))) (λ x. was_seen (came_at done ((a * fragments + b) * shards + x)))
        (λ x less. ap seen_by (before_is ((a * fragments + b) * shards + x)
        (let h : (a * fragments + b) * shards + x < shards * f = mul-add-lt (a * fragments + b) shards x f at less in let c = had.visited in omega (arith, h, c))))
        ∙ (had.each (a * fragments + b) at).enough);
    has = seen_of_is s rack job name kept w all fits logs fit are i j in_pieces in_fragments
        ∙ count_same shards (λ x. was_seen (came_at all (f * shards + x))) (λ x. was_seen (came_at last x)) (λ x less. ap seen_by (point_is x));
    fewer = fewer;
  }

  -- the visit to a point is the job's last in its group
  last_is : (x : ℕ) → x < shards → (sofar : List Entry) × (own job (w.added (place x).group) ≡ sofar ++ (visit_at last x).entries)
  last_is x lt =
      let b : ℕ = f * shards + x in
      let z : 0 + b ≡ b = omega arith in
      let later : (y : ℕ) → b < y → y < length all → (place_in kept.places (0 + y)).group ≢ (place x).group = λ y more less.
      (let e : f * shards + (y - f * shards) ≡ 0 + y = omega (arith, more) in
      subst (λ m. (place_in kept.places m).group ≢ (place x).group) e
      (groups_differ rack kept fits f x (y - f * shards) f_within (omega (arith, more)) (let a = all_long in omega (arith, less, a, more)))) in
      let got = logged_last kept.places (place x).group 0 all b (let a = all_long in omega (arith, lt, a)) (ap (λ m. (place_in kept.places m).group) z) later in
      (got.0, logs (place x).group ∙ (got.1 ∙ ap (λ (v : Visit). got.0 ++ v.entries) (point_is x)))

  -- how it ended
  ends_so : (x : ℕ) → x < shards → (a : Came) → came_at last x ≡ a → EndsVisit job (place x) (visit_at last x).entries a
  ends_so x lt a is =
      let b : ℕ = f * shards + x in
      let z : 0 + b ≡ b = omega arith in
      let visit : IsVisit job (place x) (visit_at last x) =
      subst (λ v. IsVisit job (place x) v) (point_is x)
      (subst (λ m. IsVisit job (place_in kept.places m) (visit_at all b)) z (are b (let l = all_long in omega (arith, lt, l)))) in
      subst (λ c. EndsVisit job (place x) (visit_at last x).entries c) is visit.ends

  -- the points that were not seen
  seen_not : (x : ℕ) → x < shards → has_seen (mine job w).own (place x) ≡ false → was_seen (came_at last x) ≡ false
  seen_not x lt unseen = sym (its_seen x lt) ∙ unseen

  is_lost : (x : ℕ) → x < shards → AreTooFewSeen shards kept.geometry.need last → has_seen (mine job w).own (place x) ≡ false → ((k : ℕ) → came_at last x ≢ Failed k) → came_at last x ≡ Lost
  is_lost x lt is unseen sound = lost_is (came_at last x) (seen_not x lt unseen) (is.looked x lt) (is.mended x lt) (is.room x lt) sound

  failed_fails : (x k : ℕ) → x < shards → came_at last x ≡ Failed k → FailsAt job (mine job w) (place x) k
  failed_fails x k lt is =
      let l = last_is x lt in
      let (sofar, t, at, why) = ends_so x lt (Failed k) is in (
        l.0 ++ sofar,
        t,
        l.1 ∙ (ap (λ es. l.0 ++ es) at ∙ sym (append_assoc l.0 sofar (entry.Fault job t k ∷ []))),
        ⊎_elim
            (λ (here : (t ≡ (place x).stripe) × (k ≡ (place x).column)). inl here)
            (λ (gone : Contains sofar (entry.Gone job (place x).stripe (place x).column)).
            inr (Contains-append_right l.0 sofar (entry.Gone job (place x).stripe (place x).column) gone))
            why,
      )

  module _ (mends : s.mends ≡ true) where
    lost_hopeless : (x : ℕ) → x < shards → came_at last x ≡ Lost → IsHopeless s job w (place x)
    lost_hopeless x lt is =
        let l = last_is x lt in
        let b : ℕ = f * shards + x in
        let within : b < length all = (let n = all_long in omega (arith, lt, n)) in
        subst (λ m. HopelessIf m s job w (place x)) (sym mends)
        (in_vain s job w (place x) l.0 (visit_at last x).entries l.1 (ends_so x lt Lost is)
        (λ ends. twice b (point_within rack kept fits f x f_within lt) within (ap (λ (v : Visit). v.came) (point_is x) ∙ is) (subst (λ (v : Visit). EndsGone job (place x) v.entries) (sym (point_is x)) ends))
        (its_entries.reads.looks (place x).group (place x).stripe (place x).column))

    pub lost_row : Found s job name kept w → AreTooFewSeen shards kept.geometry.need last → NoneFailed shards (came_at last)
        → IsLost s job name i j (seen_in shards last) kept.geometry.need w
    lost_row found is sound = record {
      kept = kept;
      found = found;
      entries = its_entries;
      short = short is.fewer;
      need_is = refl;
      hopeless = λ x unseen. lost_hopeless x unseen.0 (is_lost x unseen.0 is unseen.1 (sound x unseen.0));
    }

    pub fault_row : Found s job name kept w → AreTooFewSeen shards kept.geometry.need last → (x column : ℕ) → IsFirstFailed shards (came_at last) x column
        → IsFetchFault s job name (place_in kept.places (f * shards + x)).group column w
    fault_row found is x column (lt, fails, before) = record {
      kept = kept;
      found = found;
      entries = its_entries;
      piece = i;
      fragment = j;
      have = seen_in shards last;
      short = short is.fewer;
      point = x;
      unseen = (lt, its_seen x lt ∙ ap was_seen fails);
      group_is = refl;
      fails = failed_fails x column lt fails;
      least = λ y less un. lost_hopeless y un.0 (is_lost y un.0 is un.1 (before y less));
      others = λ y un. ⊎_elim
          (λ (bad : (k : ℕ) × (came_at last y ≡ Failed k)). inr (bad.0, failed_fails y bad.0 un.0 bad.1))
          (λ (sound : (k : ℕ) → came_at last y ≢ Failed k). inl (lost_hopeless y un.0 (is_lost y un.0 is un.1 sound)))
          (failed_or (came_at last y));
    }

  pub full_row : Found s job name kept w → (group : ℕ) (ended : GroupPasses) → ((g : ℕ) → length (w.before g ++ w.added g) ≡ length (view_at ended g).seen)
      → IsBarred kept.places (f * shards) shards kept.geometry.need last group ended → IsFetchLogFull s job name group w
  full_row found group ended whole is = record {
    kept = kept;
    found = found;
    entries = its_entries;
    piece = i;
    fragment = j;
    have = seen_in shards last;
    short = short is.fewer;
    point = is.point;
    unseen = (is.within, its_seen is.point is.within ∙ ap was_seen is.none);
    group_is = is.group_is;
    log = w.before group ++ w.added group;
    moment = record { sofar = w.added group; later = []; parts = sym (append-nil (w.added group)); last = refl; is = refl };
    full = whole group ∙ is.full;
  }
