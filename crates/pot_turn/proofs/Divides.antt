-- A pass is split, and two passes become one: both keep the rule.
use Rattle.std.proofs.Common.{◌≡◌, ◌≢◌, ℕ, ◌+◌, ◌<◌, ◌≤◌, false, true≢false, List, [], ◌∷◌, ◌++◌, length, set, sym, refl, ap, ◌∙◌, subst, ⊎_elim, arith, slice_index, length-append}
use Rattle.std.specs.Prelude.{Option}
use mathlib.Core.Option.{some}
use lib.ListN.{get_elem?}
use Rattle.atomic_table.specs.Table.{Me, keeps, Allows, Splits, Joins}
use Rattle.atomic_table.proofs.Lists.{at_set, at_snoc, set_else}
use Rattle.pot_turn.specs.declared.view.Sight.{Sight}
use Rattle.pot_turn.specs.Logs.{StartsWith, longer, shorter}
use Rattle.pot_turn.specs.Stretches.{LieIn}
use Rattle.pot_turn.specs.Views.{stretches_of}
use Rattle.pot_turn.specs.Rules.{total, holding, made_by, parts_of, times_in, turns_of, FitsLog, Ruled, LookedAt, cut_sight, new_sight, both_sights, spent_sight}
use Rattle.pot_turn.proofs.LogLemmas.{starts_trans, starts_length, longer_starts, longer_covers}
use Rattle.pot_turn.proofs.StretchLemmas.{between_most, lies_longer, lies_append, lies_front, lies_rest}
use Rattle.pot_turn.proofs.PassLemmas.{both-times}
use Rattle.pot_turn.proofs.Sums.{sum_stays, total_at}
use Rattle.pot_turn.proofs.Seats.{bit, IsIdle}
use Rattle.pot_turn.proofs.Enters.{same_state}

module _ {T E O : Type 0} (log : T → List E) (origin : T → O) (opened : T) where
  -- a new pass takes some parts of the old one
  pub splits : (id : ℕ) (v : Sight E O) (n : ℕ) → v.view.holds ≡ false → 0 < n → n < v.view.parts → Splits (Ruled log origin opened) id v (cut_sight n v) (new_sight n v)
  splits id v n idle some_parts fewer s r at =
      let left : Sight E O = cut_sight n v in
      let right : Sight E O = new_sight n v in
      let mine = r.each id v at in
      let same = (sum_stays holding s.views).to_new id v left right at (omega arith) in
      let made = (sum_stays made_by s.views).to_new id v left right at (omega arith) in
      let parts = (sum_stays parts_of s.views).to_new id v left right at (omega (arith, fewer)) in
      let turns = (sum_stays turns_of s.views).to_new id v left right at (omega arith) in
      let start = starts_length v.view.seen v.view.opened mine.since in
      let one = r.one in
      record {
        whole = r.whole;
        sleepers = r.sleepers;
        words = r.words ∙ ap (λ k. k ∷ length r.whole ∷ r.sleepers ∷ []) (sym same);
        one = omega (arith, same, one);
        begins = r.begins;
        made = ap (λ k. k + length (log opened)) made ∙ r.made;
        parts = parts ∙ r.parts;
        once = λ i. (sum_stays (times_in i) s.views).to_new id v left right at (omega arith) ∙ r.once i;
        each = λ k u e. ⊎_elim
            (λ (old : get_elem? (set s.views id left) k ≡ some u). ⊎_elim
            (λ (x : (k ≡ id) × (left ≡ u)). subst (FitsLog log origin opened r.whole) x.1 (record {
              begins = mine.begins;
              agrees = mine.agrees;
              holder = mine.holder;
              spent = λ p. absurd (omega (arith, p, fewer));
              since = mine.since;
              lies = mine.lies;
              named = λ p. mine.named (omega (arith, some_parts, fewer));
            }))
            (λ (x : (k ≢ id) × (get_elem? s.views k ≡ some u)). r.each k u x.1)
            (at_set s.views id k left u old))
            (λ (new : right ≡ u). subst (FitsLog log origin opened r.whole) new (record {
              begins = mine.begins;
              agrees = ((v.view.seen, refl), refl, refl);
              holder = λ p. absurd (true≢false (sym p));
              spent = λ p. absurd (omega (arith, p, some_parts));
              since = mine.since;
              lies = start;
              named = λ p. mine.named (omega (arith, some_parts, fewer));
            }))
            (at_snoc (set s.views id left) right u k e);
        home = λ p. let home = r.home (sym same ∙ p) in (home.0, home.1, home.2, home.3, λ none. home.4 (sym turns ∙ none));
        away = λ p. r.away (sym same ∙ p);
      }

  both_times : (i : ℕ) (v w : Sight E O) → times_in i (both_sights v w) + times_in i (spent_sight {E = E} {O = O}) ≡ times_in i v + times_in i w
  both_times i v w = let both = both-times v.view w.view i in omega (arith, both)

  both_turns : (v w : Sight E O) → turns_of (both_sights v w) + turns_of (spent_sight {E = E} {O = O}) ≡ turns_of v + turns_of w
  both_turns v w =
      let own = length-append v.view.turns v.view.joined in
      let its = length-append v.view.joined (stretches_of w.view) in
      let all = length-append v.view.turns (v.view.joined ++ stretches_of w.view) in
      omega (arith, own, its, all)

  both_lie : (v w : Sight E O) → v.view.opened ≡ w.view.opened → StartsWith (longer v.view.seen w.view.seen) v.view.seen → StartsWith (longer v.view.seen w.view.seen) w.view.seen
      → LieIn (length v.view.opened) (stretches_of v.view) (length v.view.seen) → LieIn (length w.view.opened) (stretches_of w.view) (length w.view.seen)
      → LieIn (length v.view.opened) (stretches_of (both_sights v w).view) (length (longer v.view.seen w.view.seen))
  both_lie v w same grown grown' lies lies' =
      let whole = longer v.view.seen w.view.seen in
      let at = length v.view.opened in
      let upto = length whole in
      let mine = lies_longer at (stretches_of v.view) (length v.view.seen) upto (starts_length whole v.view.seen grown) lies in
      let its : LieIn at (stretches_of w.view) upto =
      subst (λ k. LieIn k (stretches_of w.view) upto) (ap length (sym same))
      (lies_longer (length w.view.opened) (stretches_of w.view) (length w.view.seen) upto (starts_length whole w.view.seen grown') lies') in
      lies_append at v.view.turns (v.view.joined ++ stretches_of w.view) upto (lies_front at v.view.turns v.view.joined upto mine)
      (lies_append at v.view.joined (stretches_of w.view) upto (lies_rest at v.view.turns v.view.joined upto mine) its)

  -- the pass v takes in the pass w
  pub joins : (id : ℕ) (v : Sight E O) (other : ℕ) (w : Sight E O) → v.view.holds ≡ false → 0 < v.view.parts → w.view.holds ≡ false → 0 < w.view.parts
      → Joins (Ruled log origin opened) id v other w (both_sights v w) spent_sight
  joins id v other w idle some_parts idle' some_parts' s r at apart there =
      let both : Sight E O = both_sights v w in
      let views1 = set s.views id both in
      let there0 : get_elem? s.views other ≡ some w = sym (set_else s.views id other both apart) ∙ there in
      let mine = r.each id v at in
      let its = r.each other w there0 in
      let bit_v : holding v ≡ 0 = ap bit idle in
      let bit_w : holding w ≡ 0 = ap bit idle' in
      let same = (sum_stays holding s.views).to_another id other v w both spent_sight at there (omega (arith, bit_v, bit_w)) in
      let made = (sum_stays made_by s.views).to_another id other v w both spent_sight at there (omega arith) in
      let parts = (sum_stays parts_of s.views).to_another id other v w both spent_sight at there (omega arith) in
      let turns = (sum_stays turns_of s.views).to_another id other v w both spent_sight at there (both_turns v w) in
      let one = r.one in
      let logs = longer_starts v.view.seen w.view.seen r.whole mine.begins its.begins in
      let grown = longer_covers v.view.seen w.view.seen logs.1 in
      let opening : v.view.opened ≡ w.view.opened = (mine.named some_parts).0 ∙ sym (its.named some_parts').0 in
      record {
        whole = r.whole;
        sleepers = r.sleepers;
        words = r.words ∙ ap (λ k. k ∷ length r.whole ∷ r.sleepers ∷ []) (sym same);
        one = omega (arith, same, one);
        begins = r.begins;
        made = ap (λ k. k + length (log opened)) made ∙ r.made;
        parts = parts ∙ r.parts;
        once = λ i. (sum_stays (times_in i) s.views).to_another id other v w both spent_sight at there (both_times i v w) ∙ r.once i;
        each = λ k u e. ⊎_elim
            (λ (x : (k ≡ other) × (spent_sight ≡ u)). subst (FitsLog log origin opened r.whole) x.1 (record {
              begins = (r.whole, refl);
              agrees = (([], refl), refl, refl);
              holder = λ p. absurd (true≢false (sym p));
              spent = λ _. refl;
              since = ([], refl);
              lies = omega arith;
              named = λ p. absurd (omega (arith, p));
            }))
            (λ (y : (k ≢ other) × (get_elem? views1 k ≡ some u)). ⊎_elim
            (λ (x : (k ≡ id) × (both ≡ u)). subst (FitsLog log origin opened r.whole) x.1 (record {
              begins = logs.0;
              agrees = (logs.1, sym opening, (its.named some_parts').1 ∙ sym (mine.named some_parts).1);
              holder = λ p. absurd (true≢false (sym p ∙ idle));
              spent = λ p. absurd (omega (arith, p, some_parts));
              since = starts_trans (longer v.view.seen w.view.seen) v.view.seen v.view.opened grown.0 mine.since;
              lies = both_lie v w opening grown.0 grown.1 mine.lies its.lies;
              named = λ _. mine.named some_parts;
            }))
            (λ (x : (k ≢ id) × (get_elem? s.views k ≡ some u)). r.each k u x.1)
            (at_set s.views id k both u y.1))
            (at_set views1 other k spent_sight u e);
        home = λ p. let home = r.home (sym same ∙ p) in (home.0, home.1, home.2, home.3, λ none. home.4 (sym turns ∙ none));
        away = λ p. r.away (sym same ∙ p);
      }

  -- a pass may look at any time
  looks : (id : ℕ) (v : Sight E O) → Allows (Ruled log origin opened) 1 id (v, []) 0 (λ n. n) (λ _. LookedAt (v, []))
  looks id v s r slots at small =
      let first : slice_index s.words 0 ≡ total holding s.views = ap (λ ws. slice_index ws 0) r.words in
      let mine = r.each id v at in
      let most : (i : ℕ) → times_in i v ≤ 1 = λ i.
      let own = total_at (times_in i) s.views id v at in
      let all = r.once i in
      let once = between_most i (length (log opened)) (length r.whole) in
      omega (arith, own, all, once) in
      (v, keeps, tt, same_state log origin opened s r id v at (slice_index s.words 0) (sym first), (refl, mine.agrees, mine.lies, most))

  pub looks_it : (id : ℕ) (m : Me (Option T) (Sight E O)) → m.1 ≡ [] → Allows (Ruled log origin opened) 1 id m 0 (λ n. n) (λ _. LookedAt m)
  looks_it id m out =
      subst (λ (c : List (ℕ × Option T)). Allows (Ruled log origin opened) 1 id (m.0, c) 0 (λ n. n) (λ _. LookedAt (m.0, c))) (sym out)
      (looks id m.0)

module _ {T E O : Type 0} (m m' m'' : Me (Option T) (Sight E O)) (w : Sight E O) where
  -- the pass m took in w, and is m'' after its look
  pub joined_is : IsIdle m → m' ≡ (both_sights m.0 w, m.1) → LookedAt m' m'' → m'' ≡ (both_sights m.0 w, [])
  joined_is idle joined looked = looked.0 ∙ (joined ∙ ap (λ (c : List (ℕ × Option T)). (both_sights m.0 w, c)) idle.2)

  -- which tells that its log begins with both logs, and that the stretches of both lie in it
  pub joined_tells : m' ≡ (both_sights m.0 w, m.1) → LookedAt m' m''
      → StartsWith (longer m.0.view.seen w.view.seen) m.0.view.seen × StartsWith (longer m.0.view.seen w.view.seen) w.view.seen
      × LieIn (length m.0.view.opened) (stretches_of (both_sights m.0 w).view) (length (longer m.0.view.seen w.view.seen))
  joined_tells joined looked =
      let begins : StartsWith (longer m.0.view.seen w.view.seen) (shorter m.0.view.seen w.view.seen) = subst (λ (k : Me (Option T) (Sight E O)). StartsWith k.0.view.seen k.0.told.seen) joined looked.1.0 in
      let both = longer_covers m.0.view.seen w.view.seen begins in (
        both.0,
        both.1,
        subst (λ (k : Me (Option T) (Sight E O)). LieIn (length k.0.view.opened) (stretches_of k.0.view) (length k.0.view.seen)) joined looked.2,
      )
