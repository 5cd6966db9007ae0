-- The table of a new turn meets the rule, and the last pass closes it.
use Rattle.std.proofs.Common.{◌≡◌, ◌≢◌, ℕ, zero, suc, map, ◌+◌, ◌^◌, ◌<◌, false, true≢false, List, [], ◌∷◌, length, set, sym, refl, ap, ◌∙◌, subst, ⊎_elim, arith}
use Rattle.std.specs.Prelude.{Option, Some}
use mathlib.Core.Option.{some, some-injective, some-ne-none}
use lib.ListN.{get_elem?}
use Rattle.atomic_table.specs.Table.{State, opening, Final, Seen}
use Rattle.atomic_table.proofs.Lists.{at_set}
use Rattle.std.proofs.lemmas.Option.{same_Some}
use Rattle.pot_turn.specs.declared.view.Sight.{Sight}
use Rattle.pot_turn.specs.Logs.{StartsWith}
use Rattle.pot_turn.specs.Stretches.{between, IsOnceEach}
use Rattle.pot_turn.specs.Views.{stretches_of}
use Rattle.pot_turn.specs.Rules.{total, holding, made_by, parts_of, times_in, turns_of, FitsLog, Ruled, first_sight, spent_sight}
use Rattle.pot_turn.proofs.LogLemmas.{starts_self, starts_length, starts_all}
use Rattle.pot_turn.proofs.StretchLemmas.{between-empty, between_least, times_behind}
use Rattle.pot_turn.proofs.Sums.{total-set, total_at, total_none}
use Rattle.pot_turn.proofs.Seats.{bit}

only : {V : Type 0} (v u : V) (k : ℕ) → get_elem? (v ∷ []) k ≡ some u → v ≡ u
only v u zero e = some-injective v u e
only v u (suc k) e = absurd (some-ne-none u (sym e))

module _ {T E O : Type 0} (log : T → List E) (origin : T → O) (opened : T) where
  -- the table of a new turn
  pub opens : (n : ℕ) → n ≡ length (log opened) → (items : List (Option T)) → items ≡ Some opened ∷ []
      → Ruled log origin opened (opening (0 ∷ n ∷ 0 ∷ []) items (first_sight (log opened) (origin opened)))
  opens n is items one =
      let v : Sight E O = first_sight (log opened) (origin opened) in
      record {
        whole = log opened;
        sleepers = 0;
        words = ap (λ k. 0 ∷ k ∷ 0 ∷ []) is;
        one = omega arith;
        begins = starts_self (log opened);
        made = omega arith;
        parts = omega arith;
        once = λ i. let none = between-empty i (length (log opened)) in omega (arith, none);
        each = λ k u e. subst (FitsLog log origin opened (log opened)) (only v u k e) (record {
          begins = starts_self (log opened);
          agrees = ((log opened, refl), refl, refl);
          holder = λ p. absurd (true≢false (sym p));
          spent = λ p. absurd (omega (arith, p));
          since = starts_self (log opened);
          lies = omega arith;
          named = λ _. (refl, refl);
        });
        home = λ _. (opened, ap (λ h. map some h) one, refl, refl, λ _. refl);
        away = λ p. absurd (omega (arith, p));
      }

  -- where one pass has all parts, and does not hold the value, the value is at home, the pass has
  -- seen its log, and its stretches have each entry that was logged
  pub record Ended (s : Sight E O) (x : T) : Type 0 where
    pub seen : log x ≡ s.view.seen
    pub since : StartsWith (log x) s.view.opened
    pub named : Some (origin x) ≡ s.view.origin
    pub made : length (log x) ≡ length s.view.opened + s.view.made
    pub once : IsOnceEach s.view.opened (log x) (stretches_of s.view)
    pub untouched : stretches_of s.view ≡ [] → x ≡ opened

  ends : (id : ℕ) (v : Sight E O) → v.view.holds ≡ false → v.view.parts ≡ 2 ^ 62 → (s : State (Option T) (Sight E O)) → Ruled log origin opened s → get_elem? s.views id ≡ some v
      → (x : T) × (s.homes ≡ some (Some x) ∷ []) × Ended v x
  ends id v idle all s r at =
      let others = set s.views id spent_sight in
      let held = total-set holding s.views id v spent_sight at in
      let made = total-set made_by s.views id v spent_sight at in
      let parts = total-set parts_of s.views id v spent_sight at in
      let whole_parts = r.parts in
      let whole_made = r.made in
      let turns = total-set turns_of s.views id v spent_sight at in
      let bit_v : holding v ≡ 0 = ap bit idle in
      let no_parts : total parts_of others ≡ 0 = omega (arith, parts, whole_parts, all) in
      let spent : (k : ℕ) (u : Sight E O) → get_elem? others k ≡ some u → u ≡ spent_sight =
      λ k u e. ⊎_elim
      (λ (x : (k ≡ id) × (spent_sight ≡ u)). sym x.1)
      (λ (x : (k ≢ id) × (get_elem? s.views k ≡ some u)). let few = total_at parts_of others k u e in (r.each k u x.1).spent (omega (arith, few, no_parts)))
      (at_set s.views id k spent_sight u e) in
      let none_made = total_none made_by others (λ k u e. ap made_by (spent k u e)) in
      let none_held = total_none holding others (λ k u e. ap holding (spent k u e)) in
      let none_turned = total_none turns_of others (λ k u e. ap turns_of (spent k u e)) in
      let free : total holding s.views ≡ 0 = omega (arith, held, bit_v, none_held) in
      let home = r.home free in
      let mine = r.each id v at in
      let some_parts : 0 < v.view.parts = omega (arith, all) in
      let names = mine.named some_parts in
      let start : length v.view.opened ≡ length (log opened) = ap length names.0 in
      let once : IsOnceEach v.view.opened r.whole (stretches_of v.view) = λ i.
      let changed = total-set (times_in i) s.views id v spent_sight at in
      let none = total_none (times_in i) others (λ k u e. ap (times_in i) (spent k u e)) in
      let whole = r.once i in
      let same : between i (length v.view.opened) (length r.whole) ≡ between i (length (log opened)) (length r.whole) = ap (λ k. between i k (length r.whole)) start in
      omega (arith, changed, none, whole, same) in
      let last = length v.view.seen in
      let behind = times_behind (length v.view.opened) (stretches_of v.view) last last mine.lies (omega arith) in
      let seen_all = between_least last (length v.view.opened) (length r.whole) (sym (once last) ∙ behind) (starts_length v.view.seen v.view.opened mine.since) in
      let seen : r.whole ≡ v.view.seen = starts_all r.whole v.view.seen mine.begins seen_all in
      let long : length (log home.0) ≡ length r.whole = ap length home.2 in (
        home.0,
        home.1,
        record {
          seen = home.2 ∙ seen;
          since = subst (λ l. StartsWith l v.view.opened) (sym (home.2 ∙ seen)) mine.since;
          named = ap Some home.3 ∙ sym names.1;
          made = omega (arith, long, made, whole_made, none_made, start);
          once = subst (λ l. IsOnceEach v.view.opened l (stretches_of v.view)) (sym home.2) once;
          untouched = λ none. home.4 (let mine_none : turns_of v ≡ 0 = ap length none in omega (arith, turns, none_turned, mine_none));
        },
      )

  -- the same of what the closed table has in its slot
  pub closes : (id : ℕ) (v : Sight E O) → v.view.holds ≡ false → v.view.parts ≡ 2 ^ 62 → (words : List ℕ) (items : List (Option T)) (slot : Option T)
      → Final (Seen (Ruled log origin opened) id v) words items → get_elem? items 0 ≡ some slot → (x : T) × (slot ≡ Some x) × Ended v x
  closes id v idle all words items slot final there =
      let it = ends id v idle all final.0 final.1.0 final.1.1 in
      let here = final.4 0 (Some it.0) (ap (λ h. get_elem? h 0) it.1) in
      (it.0, some-injective slot (Some it.0) (sym there ∙ here), it.2)

  -- the same of the value that the slot turned out to have
  pub closes_with : (id : ℕ) (v : Sight E O) → v.view.holds ≡ false → v.view.parts ≡ 2 ^ 62 → (words : List ℕ) (items : List (Option T)) (slot : Option T)
      → Final (Seen (Ruled log origin opened) id v) words items → get_elem? items 0 ≡ some slot → (y : T) → slot ≡ Some y → Ended v y
  closes_with id v idle all words items slot final there y is =
      let it = closes id v idle all words items slot final there in
      subst (Ended v) (same_Some it.0 y (sym it.1 ∙ is)) it.2
