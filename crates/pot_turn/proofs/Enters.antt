-- The step that takes the value keeps the rule.
use Rattle.std.proofs.Common.{◌≡◌, ◌≢◌, ℕ, zero, suc, ◌<◌, ◌≤◌, ◌==◌, false, List, [], ◌∷◌, length, set, sym, refl, ap, ◌∙◌, subst, ⊎_elim, arith, slice_index}
use Rattle.std.specs.Prelude.{Option, Some, None}
use mathlib.Core.Option.{some, none}
use prog.Atomic.{either}
use lib.ListN.{get_elem?}
use Rattle.atomic_table.specs.Table.{State, Me, Act, keeps, takes, Valid, stepped, carried_after, rest, Allows}
use Rattle.atomic_table.proofs.Lists.{at_set, set_again}
use Rattle.pot_turn.specs.declared.view.Sight.{Sight}
use Rattle.pot_turn.specs.Logs.{StartsWith}
use Rattle.pot_turn.specs.Views.{stretches_of}
use Rattle.pot_turn.specs.Rules.{total, holding, made_by, parts_of, times_in, FitsLog, Ruled, TookTurn, took_sight}
use Rattle.pot_turn.proofs.LogLemmas.{starts_self, starts_trans, starts_length}
use Rattle.pot_turn.proofs.StretchLemmas.{lies_longer}
use Rattle.pot_turn.proofs.Sums.{total-set, total-same}
use Rattle.pot_turn.proofs.Seats.{bit, IsIdle}

module _ {T E O : Type 0} (log : T → List E) (origin : T → O) (opened : T) where
  -- where neither a view nor a word changes, the rule is kept
  pub same_state : (s : State (Option T) (Sight E O)) → Ruled log origin opened s → (id : ℕ) (v : Sight E O) → get_elem? s.views id ≡ some v → (n : ℕ) → total holding s.views ≡ n
      → Ruled log origin opened (stepped s 0 n id [] v keeps)
  same_state s r id v at n held =
      let views_same : set s.views id v ≡ s.views = set_again s.views id v at in
      let words_same : set s.words 0 n ≡ s.words = ap (λ ws. set ws 0 n) r.words ∙ ap (λ k. k ∷ length r.whole ∷ r.sleepers ∷ []) (sym held) ∙ sym r.words in
      subst (λ (x : List ℕ × List (Sight E O)). Ruled log origin opened (record { words = x.0; homes = s.homes; views = x.1 })) (λ i. (sym words_same i, sym views_same i)) r

  -- the word of sleepers may become any number
  pub sleeps : (id : ℕ) (m : Me (Option T) (Sight E O)) (f : ℕ → ℕ) → Allows (Ruled log origin opened) 1 id m 2 f (λ _ m'. m' ≡ m)
  sleeps id m f s r slots at small =
      let n = f (slice_index s.words 2) in
      let after : Ruled log origin opened (record { words = set s.words 2 n; homes = s.homes; views = s.views }) = record {
        whole = r.whole;
        sleepers = n;
        words = ap (λ ws. set ws 2 n) r.words;
        one = r.one;
        begins = r.begins;
        made = r.made;
        parts = r.parts;
        once = r.once;
        each = r.each;
        home = r.home;
        away = r.away;
      } in
      let same : set s.views id m.0 ≡ s.views = set_again s.views id m.0 at in
      (m.0, keeps, tt, subst (λ (x : List (Sight E O)). Ruled log origin opened (record { words = set s.words 2 n; homes = s.homes; views = x })) (sym same) after, refl)

  abbrev Goes : State (Option T) (Sight E O) → ℕ → Sight E O → ℕ → Type 0
  Goes s id v n = (w : Sight E O) × (a : Act (Option T)) × Valid s.homes [] a × Ruled log origin opened (stepped s 0 (either (n == 0) 1 n) id [] w a) × TookTurn log origin (v, []) n (w, carried_after [] a)

  -- the lock is free, and the caller's
  free : (s : State (Option T) (Sight E O)) → Ruled log origin opened s → (id : ℕ) (v : Sight E O) → get_elem? s.views id ≡ some v → v.view.holds ≡ false → 0 < v.view.parts → total holding s.views ≡ 0 → Goes s id v 0
  free s r id v at idle some_parts none_hold =
      let home = r.home none_hold in
      let value : T = home.0 in
      let w : Sight E O = took_sight (log value) v in
      let views' = set s.views id w in
      let held = total-set holding s.views id v w at in
      let zero_held : holding v ≡ 0 = ap bit idle in
      let one_held : total holding views' ≡ 1 = omega (arith, held, none_hold, zero_held) in
      let made = total-same made_by s.views id v w at refl in
      let parts = total-same parts_of s.views id v w at refl in
      let mine = r.each id v at in
      let begins : StartsWith (log value) v.view.seen = subst (λ l. StartsWith l v.view.seen) (sym home.2) mine.begins in
      let more = starts_length (log value) v.view.seen begins in (
        w,
        takes 0 (Some value),
        ap (λ h. get_elem? h 0) home.1,
        record {
          whole = r.whole;
          sleepers = r.sleepers;
          words = ap (λ ws. set ws 0 1) r.words ∙ ap (λ k. k ∷ length r.whole ∷ r.sleepers ∷ []) (sym one_held);
          one = omega (arith, one_held);
          begins = r.begins;
          made = omega (arith, made, r.made);
          parts = omega (arith, parts, r.parts);
          once = λ i. total-same (times_in i) s.views id v w at refl ∙ r.once i;
          each = λ k u e. ⊎_elim
              (λ (x : (k ≡ id) × (w ≡ u)). subst (FitsLog log origin opened r.whole) x.1 (record {
                begins = subst (λ l. StartsWith r.whole l) (sym home.2) (starts_self r.whole);
                agrees = (starts_trans (log value) v.view.seen v.told.seen begins mine.agrees.0, mine.agrees.1, mine.agrees.2);
                holder = λ _. home.2;
                spent = λ p. absurd (omega (arith, p, some_parts));
                since = starts_trans (log value) v.view.seen v.view.opened begins mine.since;
                lies = lies_longer (length v.view.opened) (stretches_of v.view) (length v.view.seen) (length (log value)) more mine.lies;
                named = mine.named;
              }))
              (λ (x : (k ≢ id) × (get_elem? s.views k ≡ some u)). r.each k u x.1)
              (at_set s.views id k w u e);
          home = λ p. absurd (omega (arith, one_held, p));
          away = λ _. ap (λ h. set h 0 none) home.1;
        },
        (value, refl, begins, refl, ap Some home.3 ∙ sym (mine.named some_parts).1),
      )

  -- the lock is another's
  busy : (s : State (Option T) (Sight E O)) → Ruled log origin opened s → (id : ℕ) (v : Sight E O) → get_elem? s.views id ≡ some v → total holding s.views ≡ 1 → Goes s id v 1
  busy s r id v at held = (v, keeps, tt, same_state s r id v at 1 held, refl)

  either_way : (s : State (Option T) (Sight E O)) → Ruled log origin opened s → (id : ℕ) (v : Sight E O) → get_elem? s.views id ≡ some v → v.view.holds ≡ false → 0 < v.view.parts → (n : ℕ) → n ≤ 1 → total holding s.views ≡ n → Goes s id v n
  either_way s r id v at idle some_parts zero h e = free s r id v at idle some_parts e
  either_way s r id v at idle some_parts (suc n) h e =
      let one : 1 ≡ suc n = omega arith in
      subst (Goes s id v) one (busy s r id v at (e ∙ sym one))

  takes_turn : (id : ℕ) (v : Sight E O) → v.view.holds ≡ false → 0 < v.view.parts → Allows (Ruled log origin opened) 1 id (v, []) 0 (λ n. either (n == 0) 1 n) (TookTurn log origin (v, []))
  takes_turn id v idle some_parts s r slots at small =
      let first : slice_index s.words 0 ≡ total holding s.views = ap (λ ws. slice_index ws 0) r.words in
      let one = r.one in
      either_way s r id v at idle some_parts (slice_index s.words 0) (omega arith) (sym first)

  pub takes_it : (id : ℕ) (m : Me (Option T) (Sight E O)) → IsIdle m → Allows (Ruled log origin opened) 1 id m 0 (λ n. either (n == 0) 1 n) (TookTurn log origin m)
  takes_it id m idle =
      subst (λ (c : List (ℕ × Option T)). Allows (Ruled log origin opened) 1 id (m.0, c) 0 (λ n. either (n == 0) 1 n) (TookTurn log origin (m.0, c))) (sym idle.2)
      (takes_turn id m.0 idle.0 idle.1)

module _ {T E O : Type 0} (log : T → List E) (origin : T → O) where
  -- the value that was taken lies in the slot
  pub taken : (m m' : Me (Option T) (Sight E O)) (n : ℕ) → n ≡ 0 → TookTurn log origin m n m' → (x : Option T) × (m'.1 ≡ (0, x) ∷ rest m'.1)
  taken m m' n is took =
      let it : TookTurn log origin m 0 m' = subst (λ (k : ℕ). TookTurn log origin m k m') is took in
      (Some it.0, it.1 ∙ ap (λ c. (0, Some it.0) ∷ c) (sym (ap rest it.1)))

  -- the caller has the value, and its slot is empty
  pub took_is : (m m' m'' : Me (Option T) (Sight E O)) (n : ℕ) → n ≡ 0 → IsIdle m → TookTurn log origin m n m' → m'' ≡ (m'.0, (0, None) ∷ rest m'.1)
      → (v : T) × (m'' ≡ (took_sight (log v) m.0, (0, None) ∷ [])) × StartsWith (log v) m.0.view.seen
  took_is m m' m'' n is idle took out =
      let it : TookTurn log origin m 0 m' = subst (λ (k : ℕ). TookTurn log origin m k m') is took in
      let slots : rest m'.1 ≡ [] = ap rest it.1 ∙ idle.2 in
      let sight : m'.0 ≡ took_sight (log it.0) m.0 = it.3 in
      (it.0, out ∙ (λ i. (sight i, (0, None) ∷ slots i)), it.2)
