-- The entries of a job are those of the stretches of the passes that carried it. A crate above
-- keeps, for each pass, the entries of its job (`Carries`) and that it logged none of any other
-- (`NoneIn`), by the laws below, one for each call.
use Rattle.std.proofs.Common.{◌≡◌, ℕ, ◌+◌, ◌-◌, ◌<◌, ◌≤◌, Bool, false, List, [], ◌∷◌, ◌++◌, length, take, drop, refl, ap, sym, ◌∙◌, arith, subst, ⊎_elim}
use Rattle.std.specs.Prelude.{filter, slice_get, Some}
use Rattle.std.proofs.lemmas.List.{take-append-drop, drop-drop}
use Rattle.std.proofs.lemmas.List.Elements.{filter-append}
use Rattle.std.proofs.lemmas.Option.{slice_get_within}
use Rattle.std.proofs.Math.Seq.{drop-append_seam}
use Rattle.pot_turn.specs.declared.view.View.{View}
use Rattle.pot_turn.specs.declared.view.Stretch.{Stretch}
use Rattle.pot_turn.specs.Logs.{StartsWith, longer}
use Rattle.pot_turn.specs.Stretches.{stretch, times, StretchesAscend, entries_in, IsOnceEach}
use Rattle.pot_turn.specs.Jobs.{NoneIn, Carries, EntriesAreCarried}
use Rattle.pot_turn.specs.Views.{stretches_of, logged_by, first_view, took_view, left_view, cut_view, new_view, both_views, IsPass}
use Rattle.pot_turn.proofs.LogLemmas.{starts_length, get_front, get_back, get_drop, get_take, filter_none}
use Rattle.pot_turn.proofs.StretchLemmas.{between_in, between_out, between_ahead, between_from, some_of, ascends_longer, ascends_snoc, times-append, times_ahead, ascends_lies, ascends_bounds, entries_in-longer, entries_in-snoc, stretch_rest}
use Rattle.pot_turn.proofs.PassLemmas.{pass_within, left-times, both-times}

module _ {E : Type 0} (is_of : E → Bool) (log : List E) where
  -- from this position on, an entry of the job stands in a stretch
  abbrev Picked : ℕ → List Stretch → Type 0
  Picked at ss = (i : ℕ) (e : E) → at ≤ i → slice_get log i ≡ Some e → times i ss ≡ 0 → is_of e ≡ false

  -- the entries of the job from a position on are those of the stretches, in their order
  pub filter-drop : (at : ℕ) (ss : List Stretch) → StretchesAscend at ss (length log) → Picked at ss → filter is_of (drop at log) ≡ filter is_of (entries_in log ss)
  filter-drop at [] h picked =
      filter_none is_of (drop at log) (λ i e is. picked (at + i) e (omega arith) (sym (get_drop at log i) ∙ is) refl)
  filter-drop at (s ∷ ss) h picked =
      let gap = s.from - at in
      let ahead = take gap (drop at log) in
      let mine = take (s.upto - s.from) (drop s.from log) in
      let later : drop gap (drop at log) ≡ drop s.from log =
      drop-drop gap at log ∙ (let whole : at + gap ≡ s.from = omega (arith, h.0) in ap (λ k. drop k log) whole) in
      let last : drop (s.upto - s.from) (drop s.from log) ≡ drop s.upto log =
      drop-drop (s.upto - s.from) s.from log ∙ (let whole : s.from + (s.upto - s.from) ≡ s.upto = omega (arith, h.1) in ap (λ k. drop k log) whole) in
      let parted : drop at log ≡ ahead ++ (mine ++ drop s.upto log) =
      sym (take-append-drop gap (drop at log)) ∙ ap (λ w. ahead ++ w) (later ∙ (sym (take-append-drop (s.upto - s.from) (drop s.from log)) ∙ ap (λ w. mine ++ w) last)) in
      let none : filter is_of ahead ≡ [] =
      filter_none is_of ahead (λ i e is.
      let there = get_take gap (drop at log) i e is in
      let i' = at + i in
      let small : i' < s.from = omega (arith, there.0, h.0) in
      let others = times_ahead s.upto ss (length log) i' (ascends_lies s.upto ss (length log) h.2) (omega (arith, small, h.1)) in
      let here = between_ahead i' s.from s.upto small in
      picked i' e (omega arith) (sym (get_drop at log i) ∙ there.1) (omega (arith, here, others))) in
      let rest = filter-drop s.upto ss h.2 (λ i e le is none. picked i e (omega (arith, le, h.0, h.1)) is (let here = between_out i s.from s.upto le in omega (arith, here, none))) in
      ap (filter is_of) parted
      ∙ (filter-append is_of ahead (mine ++ drop s.upto log)
      ∙ (ap (λ w. w ++ filter is_of (mine ++ drop s.upto log)) none
      ∙ (filter-append is_of mine (drop s.upto log)
      ∙ (ap (λ w. filter is_of mine ++ w) rest
      ∙ sym (filter-append is_of mine (entries_in log ss))))))

-- What a pass logged, and what it did not log, after each call
module _ {E : Type 0} (is_of : E → Bool) where
  -- without a stretch there is no entry
  pub none_nothing : (log : List E) → NoneIn is_of log []
  none_nothing log i e is some = absurd (omega (arith, some))

  -- what no stretch of a beginning has, none has in the whole
  pub none_longer : (log seen : List E) (ss : List Stretch) → StartsWith log seen → ((i : ℕ) → 0 < times i ss → i < length seen) → NoneIn is_of seen ss → NoneIn is_of log ss
  none_longer log seen ss grown inside none i e is some =
      let within = inside i some in
      none i e (sym (get_front seen grown.0 i within) ∙ (ap (λ w. slice_get w i) (sym grown.1) ∙ is)) some

  -- nor in the stretch of a turn that logged no entry of the job
  pub none_added : (log seen added : List E) → log ≡ seen ++ added → ((k : ℕ) (e : E) → slice_get added k ≡ Some e → is_of e ≡ false) → NoneIn is_of log (stretch (length seen) (length log) ∷ [])
  none_added log seen added is none i e there some =
      let from : length seen ≤ i = between_from i (length seen) (length log) (omega (arith, some)) in
      let back : length seen + (i - length seen) ≡ i = omega (arith, from) in
      none (i - length seen) e (sym (get_back seen added (i - length seen)) ∙ (ap (slice_get (seen ++ added)) back ∙ (ap (λ w. slice_get w i) (sym is) ∙ there)))

  -- nor in the stretches of both
  pub none_append : (log : List E) (xs ys : List Stretch) → NoneIn is_of log xs → NoneIn is_of log ys → NoneIn is_of log (xs ++ ys)
  none_append log xs ys none none' i e is some =
      let sum = times-append i xs ys in
      ⊎_elim (λ (h : 0 < times i xs). none i e is h) (λ (h : 0 < times i ys). none' i e is h) (some_of (times i xs) (times i ys) (omega (arith, sum, some)))

  pub none_rest : (log : List E) (xs ys : List Stretch) → NoneIn is_of log (xs ++ ys) → NoneIn is_of log xs × NoneIn is_of log ys
  none_rest log xs ys none =
      (λ i e is some. none i e is (let sum = times-append i xs ys in omega (arith, sum, some)), λ i e is some. none i e is (let sum = times-append i xs ys in omega (arith, sum, some)))

module _ {E O : Type 0} (is_of : E → Bool) (v : View E O) (pass : IsPass v) where
  pub none_took : (log : List E) → StartsWith log v.seen → NoneIn is_of v.seen (stretches_of v) → NoneIn is_of log (stretches_of (took_view log v))
  none_took log grown none = none_longer is_of log v.seen (stretches_of v) grown (pass_within v pass) none

  pub none_left : (log added : List E) → log ≡ v.seen ++ added → ((k : ℕ) (e : E) → slice_get added k ≡ Some e → is_of e ≡ false) → NoneIn is_of v.seen (stretches_of v) → NoneIn is_of log (stretches_of (left_view log v))
  none_left log added is other none =
      let before = none_rest is_of log v.turns v.joined (none_longer is_of log v.seen (stretches_of v) (added, is) (pass_within v pass) none) in
      none_append is_of log (v.turns ++ stretch (length v.seen) (length log) ∷ []) v.joined
      (none_append is_of log v.turns (stretch (length v.seen) (length log) ∷ []) before.0 (none_added is_of log v.seen added is other)) before.1

  pub none_both : (w : View E O) → IsPass w → StartsWith (longer v.seen w.seen) v.seen → StartsWith (longer v.seen w.seen) w.seen
      → NoneIn is_of v.seen (stretches_of v) → NoneIn is_of w.seen (stretches_of w) → NoneIn is_of (longer v.seen w.seen) (stretches_of (both_views v w))
  none_both w its grown grown' none none' =
      let whole = longer v.seen w.seen in
      let mine = none_rest is_of whole v.turns v.joined (none_longer is_of whole v.seen (stretches_of v) grown (pass_within v pass) none) in
      let other = none_longer is_of whole w.seen (stretches_of w) grown' (pass_within w its) none' in
      none_append is_of whole v.turns (v.joined ++ stretches_of w) mine.0 (none_append is_of whole v.joined (stretches_of w) mine.1 other)

module _ {E O : Type 0} (v : View E O) (pass : IsPass v) where
  -- what it logged itself is the same in each later log
  pub logged-longer : (log : List E) → StartsWith log v.seen → entries_in log v.turns ≡ logged_by v
  logged-longer log grown = entries_in-longer log v.seen (length v.opened) v.turns grown pass.ascends

  pub logged-took : (log : List E) → StartsWith log v.seen → logged_by (took_view log v) ≡ logged_by v
  logged-took log grown = logged-longer log grown

  pub logged-left : (log added : List E) → log ≡ v.seen ++ added → logged_by (left_view log v) ≡ logged_by v ++ added
  logged-left log added is =
      entries_in-snoc log v.turns (length v.seen) (length log)
      ∙ (λ i. logged-longer log (added, is) i ++ stretch_rest log v.seen added is i)

  pub logged-both : (w : View E O) → StartsWith (longer v.seen w.seen) v.seen → logged_by (both_views v w) ≡ logged_by v
  logged-both w grown = logged-longer (longer v.seen w.seen) grown

  -- its own stretches ascend in each later log too
  pub turns_ascend : (log : List E) → StartsWith log v.seen → StretchesAscend (length v.opened) v.turns (length log)
  turns_ascend log grown = ascends_longer (length v.opened) v.turns (length v.seen) (length log) (starts_length log v.seen grown) pass.ascends

-- The entries of a job that the passes carry, after each call
module _ {E O : Type 0} (is_of : E → Bool) where
  -- a pass that logged no entry of the job, as a new one
  pub carries_none : (v : View E O) → length v.opened ≤ length v.seen → NoneIn is_of v.seen (stretches_of v) → Carries is_of v []
  carries_none v since none = record { own = []; others = stretches_of v; ascends = since; parted = λ i. omega arith; foreign = none; picked = refl }

  pub carries_first : (log : List E) (origin : O) → Carries is_of (first_view log origin) []
  carries_first log origin = carries_none (first_view log origin) (omega arith) (λ i e is some. absurd (omega (arith, some)))

  pub carries_new : (v : View E O) → IsPass v → (n : ℕ) → Carries is_of (new_view n v) []
  carries_new v pass n = carries_none (new_view n v) (ascends_bounds (length v.opened) v.turns (length v.seen) pass.ascends) (λ i e is some. absurd (omega (arith, some)))

  pub carries_cut : (v : View E O) (n : ℕ) (entries : List E) → Carries is_of v entries → Carries is_of (cut_view n v) entries
  carries_cut v n entries c = record { own = c.own; others = c.others; ascends = c.ascends; parted = c.parted; foreign = c.foreign; picked = c.picked }

module _ {E O : Type 0} (is_of : E → Bool) (v : View E O) (pass : IsPass v) (entries : List E) (c : Carries is_of v entries) where
  others_within : (i : ℕ) → 0 < times i c.others → i < length v.seen
  others_within i some = pass_within v pass i (let sum = c.parted i in omega (arith, sum, some))

  carries_longer : (w : View E O) → StartsWith w.seen v.seen → w.opened ≡ v.opened → (others : List Stretch) → ((i : ℕ) → times i (stretches_of w) ≡ times i (stretches_of v) + times i others) → NoneIn is_of w.seen others → Carries is_of w entries
  carries_longer w grown same others parted foreign = record {
    own = c.own;
    others = c.others ++ others;
    ascends = subst (λ (k : List E). StretchesAscend (length k) c.own (length w.seen)) (sym same) (ascends_longer (length v.opened) c.own (length v.seen) (length w.seen) (starts_length w.seen v.seen grown) c.ascends);
    parted = λ i. let all = parted i in let before = c.parted i in let sum = times-append i c.others others in omega (arith, all, before, sum);
    foreign = none_append is_of w.seen c.others others (none_longer is_of w.seen v.seen c.others grown others_within c.foreign) foreign;
    picked = ap (filter is_of) (entries_in-longer w.seen v.seen (length v.opened) c.own grown c.ascends) ∙ c.picked;
  }

  pub carries_took : (log : List E) → StartsWith log v.seen → Carries is_of (took_view log v) entries
  carries_took log grown = carries_longer (took_view log v) grown refl [] (λ i. omega arith) (λ i e is some. absurd (omega (arith, some)))

  -- a turn adds the job's entries among those that it logged
  pub carries_left : (log added : List E) → log ≡ v.seen ++ added → Carries is_of (left_view log v) (entries ++ filter is_of added)
  carries_left log added is =
      let new = stretch (length v.seen) (length log) in
      let more = starts_length log v.seen (added, is) in record {
        own = c.own ++ new ∷ [];
        others = c.others;
        ascends = ascends_snoc (length v.opened) c.own (length v.seen) (length log) more c.ascends;
        parted = λ i.
            let all = left-times v log i in
            let before = c.parted i in
            let own = times-append i c.own (new ∷ []) in
            omega (arith, all, before, own);
        foreign = none_longer is_of log v.seen c.others (added, is) others_within c.foreign;
        picked =
            ap (filter is_of) (entries_in-snoc log c.own (length v.seen) (length log)
            ∙ (λ i. entries_in-longer log v.seen (length v.opened) c.own (added, is) c.ascends i ++ stretch_rest log v.seen added is i))
            ∙ (filter-append is_of (entries_in v.seen c.own) added ∙ ap (λ w. w ++ filter is_of added) c.picked);
      }

  -- the pass takes in one that logged none of the job's
  pub carries_both : (w : View E O) → IsPass w → StartsWith (longer v.seen w.seen) v.seen → StartsWith (longer v.seen w.seen) w.seen → NoneIn is_of w.seen (stretches_of w) → Carries is_of (both_views v w) entries
  carries_both w its grown grown' none =
      carries_longer (both_views v w) grown refl (stretches_of w) (both-times v w) (none_longer is_of (longer v.seen w.seen) w.seen (stretches_of w) grown' (pass_within w its) none)

  -- one that logged none of the job's takes in the pass
  pub carries_other : (u : View E O) → IsPass u → StartsWith (longer u.seen v.seen) u.seen → StartsWith (longer u.seen v.seen) v.seen → v.opened ≡ u.opened → NoneIn is_of u.seen (stretches_of u) → Carries is_of (both_views u v) entries
  carries_other u its grown grown' same none =
      carries_longer (both_views u v) grown' (sym same) (stretches_of u) (λ i. let both = both-times u v i in omega (arith, both)) (none_longer is_of (longer u.seen v.seen) u.seen (stretches_of u) grown (pass_within u its) none)

-- The law: where each position since the opening log stands in just one stretch, a job's entries
-- are just those that the passes carry
pub entries_are_carried : {E O : Type 0} (v : View E O) (log : List E) → log ≡ v.seen → StartsWith log v.opened → IsOnceEach v.opened log (stretches_of v) → EntriesAreCarried v log
entries_are_carried v log seen begins once is_of entries c =
    let start = length v.opened in
    let rest : drop start log ≡ begins.0 = ap (drop start) begins.1 ∙ drop-append_seam v.opened begins.0 in
    let picked : Picked is_of log start c.own = λ i e le is none.
    let inside = slice_get_within log i e is in
    let here = between_in i start (length log) le inside in
    let whole = once i in
    let parts = c.parted i in
    c.foreign i e (ap (λ w. slice_get w i) (sym seen) ∙ is) (omega (arith, here, whole, parts, none)) in
    let ascends = subst (λ (k : List _). StretchesAscend start c.own (length k)) (sym seen) c.ascends in
    let later = filter-drop is_of log start c.own ascends picked in
    ap (filter is_of) begins.1
    ∙ (filter-append is_of v.opened begins.0
    ∙ ap (λ w. filter is_of v.opened ++ w) (ap (filter is_of) (sym rest) ∙ (later ∙ (ap (λ w. filter is_of (entries_in w c.own)) seen ∙ c.picked))))
