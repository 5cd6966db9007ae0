-- Work in turns, part by part.
use Rattle.std.proofs.Common.{◌≡◌, ℕ, suc, ◌+◌, ◌-◌, ◌<◌, ◌≤◌, Bool, true, false, List, [], ◌∷◌, ◌++◌, length, drop, refl, ap, sym, ◌∙◌, subst, arith, append_assoc, append-nil, length-append, ⊎_elim}
use Rattle.std.specs.Prelude.{filter, slice_get, Some}
use Rattle.std.proofs.Math.Seq.{drop-append_seam}
use Rattle.std.proofs.lemmas.List.Elements.{filter-append}
use Rattle.std.proofs.lemmas.Option.{slice_get_within}
use Rattle.std.proofs.lemmas.Bool.{false_from_ne_true}
use Rattle.pot_turn.specs.declared.view.View.{View}
use Rattle.pot_turn.specs.declared.view.Stretch.{Stretch}
use Rattle.pot_turn.specs.Stretches.{stretch, times, StretchesAscend}
use Rattle.pot_turn.specs.Views.{took_view, left_view}
use Rattle.pot_turn.proofs.LogLemmas.{get_front, get_back, filter_none, starts_length}
use Rattle.pot_turn.proofs.StretchLemmas.{times-append, between_in, between_from, some_of, ascends_both, ascends_lies, lies_within, times_ahead, times_behind}
use Rattle.pot_worked.specs.WroteOnlyFor.{added, mine, WroteOnlyFor, OnlyWriterOf, KnowsMore}
use Rattle.pot_worked.specs.Laws.{AllOf, WorkGoesOn, WorkInParts, OnlyWriterOfInParts, OwnInTurn, OwnInParts, MoreIsWork, MoreHasNone, OnlyWriterOfAtClose}

module _ {E : Type 0} where
  -- what a list has behind a beginning
  pub behind : (whole front rest : List E) → whole ≡ front ++ rest → drop (length front) whole ≡ rest
  behind whole front rest is = ap (drop (length front)) is ∙ drop-append_seam front rest

  filter_all : (is_of : E → Bool) (xs : List E) → AllOf is_of xs → filter is_of xs ≡ xs
  filter_all is_of [] h = refl
  filter_all is_of (x ∷ xs) h = rw (h 0 x refl) (ap (λ w. x ∷ w) (filter_all is_of xs (λ i e is. h (suc i) e is)))

-- a position behind another is that and a rest
at_rest : (i n : ℕ) → n ≤ i → i ≡ n + (i - n)
at_rest i n le = omega (arith, le)

module _ {E O : Type 0} where
  -- One locked call

  abbrev left : View E O → List E → List E → View E O
  left v others entries = left_view ((v.seen ++ others) ++ entries) (took_view (v.seen ++ others) v)

  left_seen : (v : View E O) (others entries : List E) → (left v others entries).seen ≡ v.seen ++ (others ++ entries)
  left_seen v others entries = append_assoc v.seen others entries

  left_added : (v : View E O) (others entries : List E) → added v (left v others entries) ≡ others ++ entries
  left_added v others entries = behind (left v others entries).seen v.seen (others ++ entries) (left_seen v others entries)

  abbrev turn_of_call : View E O → List E → List E → Stretch
  turn_of_call v others entries = stretch (length (v.seen ++ others)) (length ((v.seen ++ others) ++ entries))

  left_mine : (v : View E O) (others entries : List E) → mine v (left v others entries) ≡ turn_of_call v others entries ∷ []
  left_mine v others entries = behind (left v others entries).turns v.turns (turn_of_call v others entries ∷ []) refl

  -- which entries stand in its stretch
  left_own : (is_of : E → Bool) (v : View E O) (others entries : List E) → AllOf is_of entries
      → (i : ℕ) (e : E) → slice_get (left v others entries).seen i ≡ Some e → 0 < times i (turn_of_call v others entries ∷ []) → is_of e ≡ true
  left_own is_of v others entries all i e is some =
      let transition = v.seen ++ others in
      let from : length transition ≤ i = between_from i (length transition) (length (transition ++ entries)) (omega (arith, some)) in
      let at = at_rest i (length transition) from in
      let here : slice_get entries (i - length transition) ≡ Some e = sym (get_back transition entries (i - length transition)) ∙ (ap (slice_get (transition ++ entries)) (sym at) ∙ is) in
      all (i - length transition) e here

  left_worked : (is_of : E → Bool) (v : View E O) (others entries : List E) → AllOf is_of entries → WroteOnlyFor is_of v (left v others entries)
  left_worked is_of v others entries all =
      let transition = v.seen ++ others in
      let one = length-append v.seen others in
      let two = length-append transition entries in
      record {
        idle = refl;
        opened = refl;
        origin = refl;
        parts = refl;
        joined = refl;
        seen = left_seen v others entries ∙ ap (λ w. v.seen ++ w) (sym (left_added v others entries));
        turns = ap (λ w. v.turns ++ w) (sym (left_mine v others entries));
        ascends = subst (λ ss. StretchesAscend (length v.seen) ss (length (transition ++ entries))) (sym (left_mine v others entries)) (omega (arith, one), omega (arith, two), omega arith);
        own = λ i e is some. left_own is_of v others entries all i e is (subst (λ ss. 0 < times i ss) (left_mine v others entries) some);
      }

pub work_goes_on : {E O : Type 0} → WorkGoesOn E O
work_goes_on {E} {O} is_of v w others entries is all = subst (λ (x : View E O). WroteOnlyFor is_of v x) (sym is) (left_worked is_of v others entries all)

-- Two parts

module _ {E O : Type 0} (is_of : E → Bool) (u v w : View E O) (first : WroteOnlyFor is_of u v) (then : WroteOnlyFor is_of v w) where
  both_seen : w.seen ≡ u.seen ++ (added u v ++ added v w)
  both_seen = then.seen ∙ (ap (λ s. s ++ added v w) first.seen ∙ append_assoc u.seen (added u v) (added v w))

  pub both_added : added u w ≡ added u v ++ added v w
  both_added = behind w.seen u.seen (added u v ++ added v w) both_seen

  both_turns : w.turns ≡ u.turns ++ (mine u v ++ mine v w)
  both_turns = then.turns ∙ (ap (λ s. s ++ mine v w) first.turns ∙ append_assoc u.turns (mine u v) (mine v w))

  both_mine : mine u w ≡ mine u v ++ mine v w
  both_mine = behind w.turns u.turns (mine u v ++ mine v w) both_turns

  both_times : (i : ℕ) → times i (mine u w) ≡ times i (mine u v) + times i (mine v w)
  both_times i = ap (times i) both_mine ∙ times-append i (mine u v) (mine v w)

  -- an entry that stood in the log at v stands there at w
  stands : (i : ℕ) → i < length v.seen → slice_get w.seen i ≡ slice_get v.seen i
  stands i lt = ap (λ s. slice_get s i) then.seen ∙ get_front v.seen (added v w) i lt

  both_own : (i : ℕ) (e : E) → slice_get w.seen i ≡ Some e → 0 < times i (mine u w) → is_of e ≡ true
  both_own i e is some =
      let sum = both_times i in
      ⊎_elim
      (λ (h : 0 < times i (mine u v)).
      let within = lies_within (length u.seen) (mine u v) (length v.seen) i (ascends_lies (length u.seen) (mine u v) (length v.seen) first.ascends) h in
      first.own i e (sym (stands i within) ∙ is) h)
      (λ (h : 0 < times i (mine v w)). then.own i e is h)
      (some_of (times i (mine u v)) (times i (mine v w)) (omega (arith, sum, some)))

  both_worked : WroteOnlyFor is_of u w
  both_worked = record {
    idle = then.idle;
    opened = then.opened ∙ first.opened;
    origin = then.origin ∙ first.origin;
    parts = then.parts ∙ first.parts;
    joined = then.joined ∙ first.joined;
    seen = both_seen ∙ ap (λ s. u.seen ++ s) (sym both_added);
    turns = both_turns ∙ ap (λ s. u.turns ++ s) (sym both_mine);
    ascends = subst (λ ss. StretchesAscend (length u.seen) ss (length w.seen)) (sym both_mine)
        (ascends_both (length u.seen) (mine u v) (mine v w) (length v.seen) (length v.seen) (length w.seen) first.ascends (omega arith) then.ascends);
    own = both_own;
  }

  both_own_entries : filter is_of (added u w) ≡ filter is_of (added u v) ++ filter is_of (added v w)
  both_own_entries = ap (filter is_of) both_added ∙ filter-append is_of (added u v) (added v w)

  module _ (alone : OnlyWriterOf is_of u w) where
    alone_first : OnlyWriterOf is_of u v
    alone_first i e from is its_own =
        let within = slice_get_within v.seen i e is in
        let some = alone i e from (stands i within ∙ is) its_own in
        let later = times_ahead (length v.seen) (mine v w) (length w.seen) i (ascends_lies (length v.seen) (mine v w) (length w.seen) then.ascends) within in
        let sum = both_times i in
        omega (arith, some, later, sum)

    alone_then : OnlyWriterOf is_of v w
    alone_then i e from is its_own =
        let long = ap length first.seen ∙ length-append u.seen (added u v) in
        let some = alone i e (omega (arith, from, long)) is its_own in
        let before = times_behind (length u.seen) (mine u v) (length v.seen) i (ascends_lies (length u.seen) (mine u v) (length v.seen) first.ascends) from in
        let sum = both_times i in
        omega (arith, some, before, sum)

pub work_in_parts : {E O : Type 0} → WorkInParts E O
work_in_parts is_of u v w p q = both_worked is_of u v w p q

pub alone_in_parts : {E O : Type 0} → OnlyWriterOfInParts E O
alone_in_parts is_of u v w p q alone = (alone_first is_of u v w p q alone, alone_then is_of u v w p q alone)

pub own_in_parts : {E O : Type 0} → OwnInParts E O
own_in_parts is_of u v w p q = both_own_entries is_of u v w p q

-- The job's own entries

module _ {E O : Type 0} (is_of : E → Bool) (v : View E O) (others entries : List E) (all : AllOf is_of entries) (alone : OnlyWriterOf is_of v (left v others entries)) where
  abbrev transition : List E
  transition = v.seen ++ others

  none_of_others : (k : ℕ) (e : E) → slice_get others k ≡ Some e → is_of e ≡ false
  none_of_others k e is = false_from_ne_true (is_of e) (λ its_own.
      let within = slice_get_within others k e is in
      let long = length-append v.seen others in
      let i : ℕ = length v.seen + k in
      let before : i < length transition = omega (arith, within, long) in
      let here : slice_get (transition ++ entries) i ≡ Some e = get_front transition entries i before ∙ (get_back v.seen others k ∙ is) in
      let some = alone i e (omega arith) here its_own in
      let its : 0 < times i (turn_of_call v others entries ∷ []) = subst (λ ss. 0 < times i ss) (left_mine v others entries) some in
      let from = between_from i (length transition) (length (transition ++ entries)) (omega (arith, its)) in
      omega (arith, from, before))

  left_filter : filter is_of (added v (left v others entries)) ≡ entries
  left_filter =
      ap (filter is_of) (left_added v others entries)
      ∙ (filter-append is_of others entries
      ∙ (ap (λ w. w ++ filter is_of entries) (filter_none is_of others none_of_others) ∙ filter_all is_of entries all))

pub own_in_turn : {E O : Type 0} → OwnInTurn E O
own_in_turn {E} {O} is_of v w others entries is all alone =
    subst (λ (x : View E O). filter is_of (added v x) ≡ entries) (sym is)
    (left_filter is_of v others entries all (subst (λ (x : View E O). OnlyWriterOf is_of v x) is alone))

pub alone_at_close : {E O : Type 0} → OnlyWriterOfAtClose E O
alone_at_close is_of u v x worked begins once since only i e from is its_own =
    let within = slice_get_within v.seen i e is in
    let long = starts_length x.seen v.seen begins in
    let here : slice_get x.seen i ≡ Some e = ap (λ s. slice_get s i) begins.1 ∙ (get_front v.seen begins.0 i within ∙ is) in
    let count = once i in
    let one = between_in i (length x.opened) (length x.seen) (omega (arith, since, from)) (omega (arith, within, long)) in
    only i e here its_own (omega (arith, count, one))

-- A pass that only saw more
module _ {E O : Type 0} (is_of : E → Bool) (v w : View E O) (more : KnowsMore v w) where
  none_mine : mine v w ≡ []
  none_mine = behind w.turns v.turns [] (more.turns ∙ sym (append-nil v.turns))

  more_added : added v w ≡ more.seen.0
  more_added = behind w.seen v.seen more.seen.0 more.seen.1

  more_seen : w.seen ≡ v.seen ++ added v w
  more_seen = more.seen.1 ∙ ap (λ s. v.seen ++ s) (sym more_added)

  in_none : (i : ℕ) → 0 < times i (mine v w) → ⊥
  in_none i some = (let none : 0 < times i [] = subst (λ ss. 0 < times i ss) none_mine some in omega (arith, none))

  more_at : v.holds ≡ false → WroteOnlyFor is_of v w
  more_at idle = record {
    idle = more.holds ∙ idle;
    opened = more.opened;
    origin = more.origin;
    parts = more.parts;
    joined = more.joined;
    seen = more_seen;
    turns = more.turns ∙ (sym (append-nil v.turns) ∙ ap (λ s. v.turns ++ s) (sym none_mine));
    ascends = subst (λ ss. StretchesAscend (length v.seen) ss (length w.seen)) (sym none_mine) (starts_length w.seen v.seen more.seen);
    own = λ i e is some. absurd (in_none i some);
  }

  none_at : OnlyWriterOf is_of v w → filter is_of (added v w) ≡ []
  none_at alone = filter_none is_of (added v w) (λ k e is. false_from_ne_true (is_of e) (λ its.
      let here : slice_get w.seen (length v.seen + k) ≡ Some e = ap (λ s. slice_get s (length v.seen + k)) more_seen ∙ (get_back v.seen (added v w) k ∙ is) in
      in_none (length v.seen + k) (alone (length v.seen + k) e (omega arith) here its)))

pub more_is_work : {E O : Type 0} → MoreIsWork E O
more_is_work is_of v w more idle = more_at is_of v w more idle

pub more_has_none : {E O : Type 0} → MoreHasNone E O
more_has_none is_of v w more alone = none_at is_of v w more alone
