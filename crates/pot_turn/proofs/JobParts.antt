-- A job whose entries more than one pass logged, one after the other.
use Rattle.std.proofs.Common.{◌≡◌, ℕ, ◌-◌, ◌<◌, ◌≤◌, Bool, false, List, [], ◌∷◌, ◌++◌, length, take, drop, refl, ap, sym, ◌∙◌, arith, append_assoc}
use Rattle.std.specs.Prelude.{filter, slice_get, Some}
use Rattle.std.proofs.lemmas.Bool.Decides.{nat_tests}
use Rattle.std.proofs.lemmas.List.Elements.{filter-append}
use Rattle.pot_turn.specs.declared.view.View.{View}
use Rattle.pot_turn.specs.declared.view.Stretch.{Stretch}
use Rattle.pot_turn.specs.Logs.{StartsWith, longer}
use Rattle.pot_turn.specs.Stretches.{stretch, between, times, size_of, entries_in}
use Rattle.pot_turn.specs.Jobs.{NoneIn, CarriesBetween}
use Rattle.pot_turn.specs.JobLaws.{IdleLogsNothing, PartBegins, PartSplits, PartEnters, PartLogs, PartStays, PartsJoin, PartIsAll}
use Rattle.pot_turn.specs.Views.{took_view, left_view, IsPass}
use Rattle.pot_turn.proofs.LogLemmas.{starts_length}
use Rattle.pot_turn.proofs.StretchLemmas.{ascends_lower, ascends_both, ascends_longer, ascends_snoc, times-append, entries_in-longer, entries_in-snoc, stretch_rest}
use Rattle.pot_turn.proofs.PassLemmas.{pass_within, left-times, both-times}
use Rattle.pot_turn.proofs.Jobs.{none_longer, none_added, none_append}

between_none : (i a b : ℕ) → b ≤ a → between i a b ≡ 0
between_none i a b p = grind (arith, nat_tests)

-- where the positions number none, no position stands in a stretch
times_none : (i : ℕ) (ss : List Stretch) → size_of ss ≡ 0 → times i ss ≡ 0
times_none i [] h = refl
times_none i (s ∷ ss) h =
    let here = between_none i s.from s.upto (omega (arith, h)) in
    let rest = times_none i ss (omega (arith, h)) in
    omega (arith, here, rest)

pub idle_logs_nothing : {E O : Type 0} → IdleLogsNothing E O
idle_logs_nothing is_of v pass none i e is some =
    let own = times_none i v.turns (omega (arith, pass.made, none)) in
    let theirs = times_none i v.joined (omega (arith, pass.made, none)) in
    let sum = times-append i v.turns v.joined in
    absurd (omega (arith, own, theirs, sum, some))

entries_in-append : {E : Type 0} (log : List E) (xs ys : List Stretch) → entries_in log (xs ++ ys) ≡ entries_in log xs ++ entries_in log ys
entries_in-append log [] ys = refl
entries_in-append log (x ∷ xs) ys =
    let first = take (x.upto - x.from) (drop x.from log) in
    ap (λ w. first ++ w) (entries_in-append log xs ys) ∙ sym (append_assoc first (entries_in log xs) (entries_in log ys))

pub part_begins : {E O : Type 0} → PartBegins E O
part_begins is_of v n =
    record { own = []; others = []; within = omega arith; ascends = omega arith; parted = λ i. omega arith; foreign = λ i e is some. absurd (omega (arith, some)); picked = refl }

pub part_splits : {E O : Type 0} → PartSplits E O
part_splits is_of v n from upto entries c =
    record { own = c.own; others = c.others; within = c.within; ascends = c.ascends; parted = c.parted; foreign = c.foreign; picked = c.picked }

module _ {E O : Type 0} (is_of : E → Bool) (v : View E O) (pass : IsPass v) (from upto : ℕ) (entries : List E) (c : CarriesBetween is_of from upto v entries) where
  others_inside : (i : ℕ) → 0 < times i c.others → i < length v.seen
  others_inside i some = pass_within v pass i (let sum = c.parted i in omega (arith, sum, some))

  same_entries : (log : List E) → StartsWith log v.seen → entries_in log c.own ≡ entries_in v.seen c.own
  same_entries log grown = entries_in-longer log v.seen from c.own grown (ascends_longer from c.own upto (length v.seen) c.within c.ascends)

  enters : (log : List E) → StartsWith log v.seen → CarriesBetween is_of from upto (took_view log v) entries
  enters log grown =
      let more = starts_length log v.seen grown in record {
        own = c.own;
        others = c.others;
        within = omega (arith, c.within, more);
        ascends = c.ascends;
        parted = c.parted;
        foreign = none_longer is_of log v.seen c.others grown others_inside c.foreign;
        picked = ap (filter is_of) (same_entries log grown) ∙ c.picked;
      }

  module _ (log added : List E) (is : log ≡ v.seen ++ added) where
    abbrev new : Stretch
    new = stretch (length v.seen) (length log)

    more : length v.seen ≤ length log
    more = starts_length log v.seen (added, is)

    kept : NoneIn is_of log c.others
    kept = none_longer is_of log v.seen c.others (added, is) others_inside c.foreign

    logs : CarriesBetween is_of from (length log) (left_view log v) (entries ++ filter is_of added)
    logs = record {
      own = c.own ++ new ∷ [];
      others = c.others;
      within = omega arith;
      ascends = ascends_snoc from c.own (length v.seen) (length log) more (ascends_longer from c.own upto (length v.seen) c.within c.ascends);
      parted = λ i.
          let all = left-times v log i in
          let before = c.parted i in
          let own = times-append i c.own (new ∷ []) in
          omega (arith, all, before, own);
      foreign = kept;
      picked =
          ap (filter is_of) (entries_in-snoc log c.own (length v.seen) (length log)
          ∙ (λ i. same_entries log (added, is) i ++ stretch_rest log v.seen added is i))
          ∙ (filter-append is_of (entries_in v.seen c.own) added ∙ ap (λ w. w ++ filter is_of added) c.picked);
    }

    stays : ((k : ℕ) (e : E) → slice_get added k ≡ Some e → is_of e ≡ false) → CarriesBetween is_of from upto (left_view log v) entries
    stays none = record {
      own = c.own;
      others = c.others ++ new ∷ [];
      within = omega (arith, c.within, more);
      ascends = c.ascends;
      parted = λ i.
          let all = left-times v log i in
          let before = c.parted i in
          let sum = times-append i c.others (new ∷ []) in
          omega (arith, all, before, sum);
      foreign = none_append is_of log c.others (new ∷ []) (kept) (none_added is_of log v.seen added is none);
      picked = ap (filter is_of) (same_entries log (added, is)) ∙ c.picked;
    }

pub part_enters : {E O : Type 0} → PartEnters E O
part_enters is_of v from upto entries log pass grown c = enters is_of v pass from upto entries c log grown

pub part_logs : {E O : Type 0} → PartLogs E O
part_logs is_of v from upto entries log added pass is c = logs is_of v pass from upto entries c log added is

pub part_stays : {E O : Type 0} → PartStays E O
part_stays is_of v from upto entries log added pass is none c = stays is_of v pass from upto entries c log added is none

pub parts_join : {E O : Type 0} → PartsJoin E O
parts_join is_of v w a b c d xs ys pass its le grown grown' one two =
    let whole = longer v.seen w.seen in
    let more = starts_length whole w.seen grown' in record {
      own = one.own ++ two.own;
      others = one.others ++ two.others;
      within = omega (arith, two.within, more);
      ascends = ascends_both a one.own two.own b c d one.ascends le two.ascends;
      parted = λ i.
          let both = both-times v w i in
          let mine = one.parted i in
          let theirs = two.parted i in
          let own = times-append i one.own two.own in
          let others = times-append i one.others two.others in
          omega (arith, both, mine, theirs, own, others);
      foreign = none_append is_of whole one.others two.others
          (none_longer is_of whole v.seen one.others grown (others_inside is_of v pass a b xs one) one.foreign)
          (none_longer is_of whole w.seen two.others grown' (others_inside is_of w its c d ys two) two.foreign);
      picked =
          ap (filter is_of) (entries_in-append whole one.own two.own)
          ∙ (filter-append is_of (entries_in whole one.own) (entries_in whole two.own)
          ∙ (λ i. (ap (filter is_of) (same_entries is_of v pass a b xs one whole grown) ∙ one.picked) i ++ (ap (filter is_of) (same_entries is_of w its c d ys two whole grown') ∙ two.picked) i));
    }

pub part_is_all : {E O : Type 0} → PartIsAll E O
part_is_all is_of v from upto entries le c = record {
  own = c.own;
  others = c.others;
  ascends = ascends_lower (length v.opened) from c.own (length v.seen) le (ascends_longer from c.own upto (length v.seen) c.within c.ascends);
  parted = c.parted;
  foreign = c.foreign;
  picked = c.picked;
}
