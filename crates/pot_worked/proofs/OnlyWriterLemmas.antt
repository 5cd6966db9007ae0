-- Sole passes, part by part.
use Rattle.std.proofs.Common.{◌≡◌, ℕ, ◌+◌, ◌<◌, ◌≤◌, Bool, List, [], ◌∷◌, ◌++◌, length, drop, refl, ap, sym, ◌∙◌, subst, arith, append_assoc, append-nil, length-append}
use Rattle.std.specs.Prelude.{slice_get, Some}
use Rattle.std.proofs.lemmas.List.{append_cancel_left}
use Rattle.std.proofs.lemmas.Option.{slice_get_within}
use Rattle.pot_turn.specs.declared.view.View.{View}
use Rattle.pot_turn.specs.declared.view.Stretch.{Stretch}
use Rattle.pot_turn.specs.Stretches.{times, LieIn}
use Rattle.pot_turn.specs.Views.{stretches_of}
use Rattle.pot_turn.proofs.LogLemmas.{get_front, get_back, starts_length}
use Rattle.pot_turn.proofs.StretchLemmas.{times-append, between_in, ascends_lies, lies_append, lies_longer, lies_lower, lies_front, lies_rest, times_ahead, times_behind}
use Rattle.pot_worked.specs.WroteOnlyFor.{added, mine, theirs, WroteOnlyFor, OnlyWriterOf}
use Rattle.pot_worked.specs.Batches.{Carried, Joins, OnlyWriterBatch, AreCarried}
use Rattle.pot_worked.specs.OnlyWriter.{Extends, OnlyWriter, WorkExtends, ExtendsInParts, GainInParts, OnlyWriterInParts, OnlyWriterOfAny, OnlyWriterOwns, BatchExtends, OnlyWriterAtClose}
use Rattle.pot_worked.proofs.WroteOnlyForLemmas.{behind}
use Rattle.pot_worked.proofs.BatchLemmas.{joins_seen, joins_joined, own_turns, no_joined}

drop_same : {X : Type 0} (xs ys : List X) → ys ≡ xs → drop (length xs) ys ≡ []
drop_same xs ys is = behind ys xs [] (is ∙ sym (append-nil xs))

module _ {E O : Type 0} (v w : View E O) where
  none_joined : w.joined ≡ v.joined → theirs v w ≡ []
  none_joined is = drop_same v.joined w.joined is

  work_at : (is_of : E → Bool) → WroteOnlyFor is_of v w → Extends v w
  work_at is_of is =
      let none : theirs v w ≡ [] = none_joined is.joined in
      let all : mine v w ++ theirs v w ≡ mine v w = ap (λ s. mine v w ++ s) none ∙ append-nil (mine v w) in
      record {
        seen = is.seen;
        turns = is.turns;
        joined = is.joined ∙ (sym (append-nil v.joined) ∙ ap (λ s. v.joined ++ s) (sym none));
        lies = subst (λ ss. LieIn (length v.seen) ss (length w.seen)) (sym all) (ascends_lies (length v.seen) (mine v w) (length w.seen) is.ascends);
      }

  sole_at : (is_of : E → Bool) → WroteOnlyFor is_of v w → OnlyWriter v w → OnlyWriterOf is_of v w
  sole_at is_of is sole i e from at its =
      let none : theirs v w ≡ [] = none_joined is.joined in
      let all : mine v w ++ theirs v w ≡ mine v w = ap (λ s. mine v w ++ s) none ∙ append-nil (mine v w) in
      subst (λ ss. 0 < times i ss) all (sole i e from at)

pub work_went : {E O : Type 0} → WorkExtends E O
work_went is_of v w is = work_at v w is_of is

pub sole_is_alone : {E O : Type 0} → OnlyWriterOfAny E O
sole_is_alone is_of v w is sole = sole_at v w is_of is sole

-- two parts of a list of which each was continued
module _ {X : Type 0} (a b c : List X) (m n : List X) (first : b ≡ a ++ m) (then : c ≡ b ++ n) where
  both_parts : c ≡ a ++ (m ++ n)
  both_parts = then ∙ (ap (λ s. s ++ n) first ∙ append_assoc a m n)

  both_behind : drop (length a) c ≡ m ++ n
  both_behind = behind c a (m ++ n) both_parts

module _ {E O : Type 0} (u v w : View E O) (first : Extends u v) (then : Extends v w) where
  longer_seen : length u.seen ≤ length v.seen
  longer_seen = (let l = ap length first.seen ∙ length-append u.seen (added u v) in omega (arith, l))

  longer_seen2 : length v.seen ≤ length w.seen
  longer_seen2 = (let l = ap length then.seen ∙ length-append v.seen (added v w) in omega (arith, l))

  parts_times : (i : ℕ) → times i (mine u w ++ theirs u w) ≡ times i (mine u v ++ theirs u v) + times i (mine v w ++ theirs v w)
  parts_times i =
      let m = ap (times i) (both_behind u.turns v.turns w.turns (mine u v) (mine v w) first.turns then.turns) ∙ times-append i (mine u v) (mine v w) in
      let t = ap (times i) (both_behind u.joined v.joined w.joined (theirs u v) (theirs v w) first.joined then.joined) ∙ times-append i (theirs u v) (theirs v w) in
      let a = times-append i (mine u w) (theirs u w) in
      let b = times-append i (mine u v) (theirs u v) in
      let c = times-append i (mine v w) (theirs v w) in
      omega (arith, m, t, a, b, c)

  both_lies : LieIn (length u.seen) (mine u w ++ theirs u w) (length w.seen)
  both_lies =
      let m = both_behind u.turns v.turns w.turns (mine u v) (mine v w) first.turns then.turns in
      let t = both_behind u.joined v.joined w.joined (theirs u v) (theirs v w) first.joined then.joined in
      let one = lies_longer (length u.seen) (mine u v ++ theirs u v) (length v.seen) (length w.seen) longer_seen2 first.lies in
      let two = lies_lower (length u.seen) (length v.seen) (mine v w ++ theirs v w) (length w.seen) longer_seen then.lies in
      let mm = lies_append (length u.seen) (mine u v) (mine v w) (length w.seen) (lies_front (length u.seen) (mine u v) (theirs u v) (length w.seen) one) (lies_front (length u.seen) (mine v w) (theirs v w) (length w.seen) two) in
      let tt2 = lies_append (length u.seen) (theirs u v) (theirs v w) (length w.seen) (lies_rest (length u.seen) (mine u v) (theirs u v) (length w.seen) one) (lies_rest (length u.seen) (mine v w) (theirs v w) (length w.seen) two) in
      let whole = lies_append (length u.seen) (mine u v ++ mine v w) (theirs u v ++ theirs v w) (length w.seen) mm tt2 in
      subst (λ ss. LieIn (length u.seen) (ss ++ theirs u w) (length w.seen)) (sym m) (subst (λ ss. LieIn (length u.seen) ((mine u v ++ mine v w) ++ ss) (length w.seen)) (sym t) whole)

  both_went : Extends u w
  both_went = record {
    seen = both_parts u.seen v.seen w.seen (added u v) (added v w) first.seen then.seen ∙ ap (λ s. u.seen ++ s) (sym (both_behind u.seen v.seen w.seen (added u v) (added v w) first.seen then.seen));
    turns = both_parts u.turns v.turns w.turns (mine u v) (mine v w) first.turns then.turns ∙ ap (λ s. u.turns ++ s) (sym (both_behind u.turns v.turns w.turns (mine u v) (mine v w) first.turns then.turns));
    joined = both_parts u.joined v.joined w.joined (theirs u v) (theirs v w) first.joined then.joined ∙ ap (λ s. u.joined ++ s) (sym (both_behind u.joined v.joined w.joined (theirs u v) (theirs v w) first.joined then.joined));
    lies = both_lies;
  }

  sole_first : OnlyWriter u w → OnlyWriter u v
  sole_first sole i e from at =
      let within = slice_get_within v.seen i e at in
      let here : slice_get w.seen i ≡ Some e = ap (λ s. slice_get s i) then.seen ∙ (get_front v.seen (added v w) i within ∙ at) in
      let some = sole i e from here in
      let later = times_ahead (length v.seen) (mine v w ++ theirs v w) (length w.seen) i then.lies within in
      let sum = parts_times i in
      omega (arith, some, later, sum)

  sole_then : OnlyWriter u w → OnlyWriter v w
  sole_then sole i e from at =
      let l = longer_seen in
      let some = sole i e (omega (arith, from, l)) at in
      let before = times_behind (length u.seen) (mine u v ++ theirs u v) (length v.seen) i first.lies from in
      let sum = parts_times i in
      omega (arith, some, before, sum)

-- what was gained is what each part gained
pub gain_in_parts : {E O : Type 0} → GainInParts E O
gain_in_parts u v w first then = both_behind u.seen v.seen w.seen (added u v) (added v w) first.seen then.seen

-- where the pass was sole, all that was gained is of its job
pub sole_owns : {E O : Type 0} → OnlyWriterOwns E O
sole_owns is_of v w is sole i e at =
    let here : slice_get w.seen (length v.seen + i) ≡ Some e = ap (λ s. slice_get s (length v.seen + i)) is.seen ∙ (get_back v.seen (added v w) i ∙ at) in
    let some = sole (length v.seen + i) e (omega arith) here in
    let none : theirs v w ≡ [] = none_joined v w is.joined in
    let own : 0 < times (length v.seen + i) (mine v w) = subst (λ ss. 0 < times (length v.seen + i) ss) (ap (λ s. mine v w ++ s) none ∙ append-nil (mine v w)) some in
    is.own (length v.seen + i) e here own

pub went_in_parts : {E O : Type 0} → ExtendsInParts E O
went_in_parts u v w p q = both_went u v w p q

pub sole_in_parts : {E O : Type 0} → OnlyWriterInParts E O
sole_in_parts u v w p q sole = (sole_first u v w p q sole, sole_then u v w p q sole)

-- A batch

module _ {E O : Type 0} (of : ℕ → E → Bool) where
  joins_turns : (v : View E O) (cs : List (Carried E O)) (x : View E O) → Joins v cs x → x.turns ≡ v.turns
  joins_turns v [] x is = ap (λ (y : View E O). y.turns) is
  joins_turns v (c ∷ cs) x (y, is, begins, its_begins, more) = joins_turns y cs x more ∙ ap (λ (w : View E O). w.turns) is

  -- what the jobs logged lies in what the log gained
  joins_lies : (start : List E) (v : View E O) (cs : List (Carried E O)) (x : View E O) → Joins v cs x → AreCarried of start cs → length start ≤ length x.seen
      → (rest : List Stretch) → x.joined ≡ v.joined ++ rest → LieIn (length start) rest (length x.seen)
  joins_lies start v [] x is carried le rest more =
      let none : rest ≡ [] = append_cancel_left v.joined rest [] (sym more ∙ (ap (λ (y : View E O). y.joined) is ∙ sym (append-nil v.joined))) in
      subst (λ ss. LieIn (length start) ss (length x.seen)) (sym none) le
  joins_lies start v (c ∷ cs) x (y, is, begins, its_begins, later) carried le rest more =
      let its : y.joined ≡ v.joined ++ c.done.turns =
      ap (λ (w : View E O). w.joined) is ∙ ap (λ s. v.joined ++ s) (ap (λ s. c.done.turns ++ s) (no_joined of start c carried.0) ∙ append-nil c.done.turns) in
      let after = joins_joined y cs x later in
      let whole : rest ≡ c.done.turns ++ after.0 =
      append_cancel_left v.joined rest (c.done.turns ++ after.0) (sym more ∙ (after.1 ∙ (ap (λ s. s ++ after.0) its ∙ append_assoc v.joined c.done.turns after.0))) in
      let own : LieIn (length c.given.seen) (mine c.given c.done) (length c.done.seen) = ascends_lies (length c.given.seen) (mine c.given c.done) (length c.done.seen) carried.0.worked.ascends in
      let long : length c.done.seen ≤ length x.seen = (let a = starts_length y.seen c.done.seen its_begins in let b = starts_length x.seen y.seen (joins_seen y cs x later) in omega (arith, a, b)) in
      let here : LieIn (length start) c.done.turns (length x.seen) =
      lies_longer (length start) c.done.turns (length c.done.seen) (length x.seen) long
      (subst (λ ss. LieIn (length start) ss (length c.done.seen)) (own_turns of start c carried.0) (subst (λ s. LieIn (length s) (mine c.given c.done) (length c.done.seen)) carried.0.seen own)) in
      subst (λ ss. LieIn (length start) ss (length x.seen)) (sym whole) (lies_append (length start) c.done.turns after.0 (length x.seen) here (joins_lies start y cs x later carried.2 le after.0 after.1))

  module _ (v x : View E O) (cs : List (Carried E O)) (joins : Joins v cs x) (carried : AreCarried of v.seen cs) where
    none_mine : mine v x ≡ []
    none_mine = drop_same v.turns x.turns (joins_turns v cs x joins)

    batch_at : Extends v x
    batch_at =
        let seen = joins_seen v cs x joins in
        let joined = joins_joined v cs x joins in
        let is_added : added v x ≡ seen.0 = behind x.seen v.seen seen.0 seen.1 in
        let are_theirs : theirs v x ≡ joined.0 = behind x.joined v.joined joined.0 joined.1 in
        let le = starts_length x.seen v.seen seen in
        record {
          seen = seen.1 ∙ ap (λ s. v.seen ++ s) (sym is_added);
          turns = joins_turns v cs x joins ∙ (sym (append-nil v.turns) ∙ ap (λ s. v.turns ++ s) (sym none_mine));
          joined = joined.1 ∙ ap (λ s. v.joined ++ s) (sym are_theirs);
          lies = subst (λ ss. LieIn (length v.seen) (ss ++ theirs v x) (length x.seen)) (sym none_mine)
              (subst (λ ss. LieIn (length v.seen) ss (length x.seen)) (sym are_theirs) (joins_lies v.seen v cs x joins carried le joined.0 joined.1));
        }

    batch_sole : OnlyWriter v x → OnlyWriterBatch v x
    batch_sole sole i e from at = subst (λ ss. 0 < times i (ss ++ theirs v x)) none_mine (sole i e from at)

pub batch_went : {E O : Type 0} → BatchExtends E O
batch_went of v x cs joins carried = (batch_at of v x cs joins carried, batch_sole of v x cs joins carried)

-- The close

nil_both : {X : Type 0} (xs ys : List X) → xs ++ ys ≡ [] → (xs ≡ []) × (ys ≡ [])
nil_both [] ys is = (refl, is)
nil_both (x ∷ xs) ys is = absurd (cc is)

pub sole_at_close : {E O : Type 0} → OnlyWriterAtClose E O
sole_at_close u x went is i e from at =
    let within = slice_get_within x.seen i e at in
    let one = between_in i (length x.opened) (length x.seen) (omega (arith, is.opened, from)) within in
    let none = nil_both u.turns u.joined is.fresh in
    let turns : x.turns ≡ mine u x = went.turns ∙ ap (λ s. s ++ mine u x) none.0 in
    let joined : x.joined ≡ theirs u x = went.joined ∙ ap (λ s. s ++ theirs u x) none.1 in
    let all : stretches_of x ≡ mine u x ++ theirs u x = ap (λ s. s ++ x.joined) turns ∙ ap (λ s. mine u x ++ s) joined in
    let count = sym (ap (times i) all) ∙ is.once i in
    omega (arith, count, one)
