-- What the authors wrote, step by step.
use Rattle.std.proofs.Common.{◌≡◌, ◌≢◌, ℕ, zero, suc, ◌+◌, ◌-◌, ◌*◌, ◌<◌, ◌≤◌, false, List, [], ◌∷◌, ◌++◌, length, refl, ap, sym, ◌∙◌, subst, arith, eq-eqb, ne_eqb, ⊎_elim, ◌⊎◌, length-append}
use Rattle.std.specs.Prelude.{filter, slice_get, Some}
use Rattle.std.proofs.Math.Nat.{add-mul}
use Rattle.std.proofs.lemmas.Bool.{cases_lt}
use Rattle.pot_turn.specs.declared.view.View.{View}
use Rattle.pot_turn.specs.Logs.{StartsWith, longer}
use Rattle.pot_turn.specs.Stretches.{times}
use Rattle.pot_turn.specs.Views.{stretches_of, took_view, left_view, cut_view, new_view, both_views, IsPass}
use Rattle.pot_turn.specs.Jobs.{NoneIn, Carries}
use Rattle.pot_turn.proofs.StretchLemmas.{ascends_bounds}
use Rattle.pot_turn.proofs.PassLemmas.{pass_took}
use Rattle.pot_turn.proofs.Jobs.{none_took, none_left, none_both, carries_none, carries_took, carries_left, carries_both, carries_other}
use Rattle.turn_demo.specs.declared.book.Line.{Line}
use Rattle.turn_demo.specs.Books.{line, lines_of, by, WroteLine, WroteLines}

-- an author's line is its own, and no other's
by_self : (author number : ℕ) → filter (by author) (line author number ∷ []) ≡ line author number ∷ []
by_self author number = rw (eq-eqb author author refl) refl

by_other : (author other number : ℕ) → other ≢ author → (k : ℕ) (e : Line) → slice_get (line author number ∷ []) k ≡ Some e → by other e ≡ false
by_other author other number ne zero e is =
    let same : e ≡ line author number = cc is in
    ap (by other) same ∙ ne_eqb author other (λ h. ne (sym h))
by_other author other number ne (suc k) e is = absurd (cc is)

-- a pass without stretches logged nothing
none_fresh : (v : View Line ℕ) (author : ℕ) → stretches_of v ≡ [] → NoneIn (by author) v.seen (stretches_of v)
none_fresh v author fresh i e is some = absurd (let none = ap (times i) fresh in omega (arith, none, some))

pub wrote_nothing : (v : View Line ℕ) → IsPass v → v.holds ≡ false → stretches_of v ≡ [] → (author count : ℕ) → count ≡ 0 → WroteLines author (author + 1) count v v
wrote_nothing v pass idle fresh author count is = subst (λ n. WroteLines author (author + 1) n v v) (sym is) (record {
  idle = idle;
  parts = refl;
  opened = refl;
  made = omega arith;
  theirs = λ a le lt. carries_none (by a) v (ascends_bounds (length v.opened) v.turns (length v.seen) pass.ascends) (none_fresh v a fresh);
  before = λ a lt. none_fresh v a fresh;
  after = λ a le. none_fresh v a fresh;
})

-- one line more
pub wrote_more : (u v w : View Line ℕ) (author n count : ℕ) → count ≡ suc n → IsPass v → WroteLines author (author + 1) n u v → WroteLine (line author n) v w → WroteLines author (author + 1) count u w
wrote_more u v w author n count is pass sofar wrote =
    let before = wrote.0 in
    let new = line author n in
    let transition = v.seen ++ before in
    let log = transition ++ new ∷ [] in
    let took : View Line ℕ = took_view transition v in
    let grown : StartsWith transition v.seen = (before, refl) in
    let passed : IsPass took = pass_took v pass transition grown in
    let other : (a : ℕ) → a ≢ author → NoneIn (by a) v.seen (stretches_of v) → NoneIn (by a) log (stretches_of (left_view log took)) =
    λ a ne none. none_left (by a) took passed log (new ∷ []) refl (by_other author a n ne) (none_took (by a) v pass transition grown none) in
    subst (λ (x : View Line ℕ). WroteLines author (author + 1) count u x) (sym wrote.1)
    (subst (λ (k : ℕ). WroteLines author (author + 1) k u (left_view log took)) (sym is) (record {
      idle = refl;
      parts = sofar.parts;
      opened = sofar.opened;
      made =
          let size : author + 1 - author ≡ 1 = omega arith in
          let before_it : (author + 1 - author) * n ≡ 1 * n = ap (λ k. k * n) size in
          let with_it : (author + 1 - author) * suc n ≡ 1 * suc n = ap (λ k. k * suc n) size in
          let long = length-append transition (new ∷ []) in
          omega (arith, sofar.made, before_it, with_it, long);
      theirs = λ a le lt.
          let same : author ≡ a = omega (arith, le, lt) in
          let its = sofar.theirs author (omega arith) (omega arith) in
          let more = carries_left (by author) took passed (lines_of author n) (carries_took (by author) v pass (lines_of author n) its transition grown) log (new ∷ []) refl in
          subst (λ (b : ℕ). Carries (by b) (left_view log took) (lines_of b (suc n))) same
          (subst (λ (es : List Line). Carries (by author) (left_view log took) (lines_of author n ++ es)) (by_self author n) more);
      before = λ a lt. other a (λ h. omega (arith, h, lt)) (sofar.before a lt);
      after = λ a le. other a (λ h. omega (arith, h, le)) (sofar.after a le);
    }))

-- the authors of both passes
pub wrote_both : (u w1 w2 : View Line ℕ) (n first middle upto count : ℕ) → first ≤ middle → middle ≤ upto → n < u.parts → IsPass w1 → IsPass w2
    → WroteLines first middle count (cut_view n u) w1 → WroteLines middle upto count (new_view n u) w2
    → StartsWith (longer w1.seen w2.seen) w1.seen → StartsWith (longer w1.seen w2.seen) w2.seen → w2.opened ≡ w1.opened → WroteLines first upto count u (both_views w1 w2)
wrote_both u w1 w2 n first middle upto count low high fewer pass1 pass2 one two grown1 grown2 same =
    let none : (a : ℕ) → NoneIn (by a) w1.seen (stretches_of w1) → NoneIn (by a) w2.seen (stretches_of w2) → NoneIn (by a) (longer w1.seen w2.seen) (stretches_of (both_views w1 w2)) =
    λ a mine its. none_both (by a) w1 pass1 w2 pass2 grown1 grown2 mine its in
    record {
      idle = one.idle;
      parts = omega (arith, one.parts, two.parts, fewer);
      opened = one.opened;
      made =
          let sizes : (middle - first) + (upto - middle) ≡ upto - first = omega (arith, low, high) in
          let sum : (upto - first) * count ≡ (middle - first) * count + (upto - middle) * count = ap (λ k. k * count) (sym sizes) ∙ add-mul (middle - first) (upto - middle) count in
          omega (arith, one.made, two.made, sum);
      theirs = λ a le lt. ⊎_elim
          (λ (h : a < middle). carries_both (by a) w1 pass1 (lines_of a count) (one.theirs a le h) w2 pass2 grown1 grown2 (two.before a h))
          (λ (h : middle ≤ a). carries_other (by a) w2 pass2 (lines_of a count) (two.theirs a h lt) w1 pass1 grown1 grown2 same (one.after a h))
          (cases_lt a middle);
      before = λ a lt. none a (one.before a lt) (two.before a (omega (arith, lt, low)));
      after = λ a le. none a (one.after a (omega (arith, le, high))) (two.after a le);
    }

-- the same of a pass that was split, and joined again
pub wrote_joined : (u v1 v2 w1 w2 x : View Line ℕ) (n first middle upto count : ℕ) → first ≤ middle → middle ≤ upto → n < u.parts → IsPass w1 → IsPass w2
    → v1 ≡ cut_view n u → v2 ≡ new_view n u → WroteLines first middle count v1 w1 → WroteLines middle upto count v2 w2
    → x ≡ both_views w1 w2 → StartsWith x.seen w1.seen → StartsWith x.seen w2.seen → w2.opened ≡ w1.opened → WroteLines first upto count u x
wrote_joined u v1 v2 w1 w2 x n first middle upto count low high fewer pass1 pass2 left given one two joined grown1 grown2 same =
    subst (WroteLines first upto count u) (sym joined)
    (wrote_both u w1 w2 n first middle upto count low high fewer pass1 pass2
    (subst (λ (v : View Line ℕ). WroteLines first middle count v w1) left one)
    (subst (λ (v : View Line ℕ). WroteLines middle upto count v w2) given two)
    (subst (λ (y : View Line ℕ). StartsWith y.seen w1.seen) joined grown1)
    (subst (λ (y : View Line ℕ). StartsWith y.seen w2.seen) joined grown2) same)
