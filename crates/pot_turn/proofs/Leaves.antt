-- The two steps that count what was logged and give the value back keep the rule.
use Rattle.std.proofs.Common.{◌≡◌, ◌≢◌, ℕ, ◌<◌, ◌≤◌, true, true≢false, List, [], ◌∷◌, ◌++◌, length, set, sym, refl, ap, ◌∙◌, subst, ⊎_elim, arith, length-append}
use Rattle.std.specs.Prelude.{Option, Some}
use mathlib.Core.Option.{some}
use lib.ListN.{get_elem?}
use Rattle.atomic_table.specs.Table.{Me, keeps, gives, rest, Allows}
use Rattle.atomic_table.proofs.Lists.{at_set}
use Rattle.std.proofs.lemmas.Option.{same_Some}
use Rattle.pot_turn.specs.declared.view.Sight.{Sight}
use Rattle.pot_turn.specs.Logs.{StartsWith}
use Rattle.pot_turn.specs.Stretches.{stretch, between, LieIn}
use Rattle.pot_turn.specs.Views.{stretches_of}
use Rattle.pot_turn.specs.Rules.{total, holding, made_by, parts_of, times_in, turns_of, FitsLog, Ruled, Raised, Freed, raised_sight, freed_sight}
use Rattle.pot_turn.proofs.LogLemmas.{starts_self, starts_trans, starts_length}
use Rattle.pot_turn.proofs.StretchLemmas.{between-split, lies_longer, lies_append, lies_rest, lies_front}
use Rattle.pot_turn.proofs.PassLemmas.{left-times}
use Rattle.pot_turn.proofs.Sums.{total-set, total-same, total_at, total_two}
use Rattle.pot_turn.proofs.Seats.{bit, IsHolder}

-- the value of the first slot that a seat holds
abbrev value_of : {S : Type 0} → S → List (ℕ × S) → S
value_of y [] = y
value_of y (x ∷ xs) = x.1

module _ {T E O : Type 0} (log : T → List E) (origin : T → O) (opened : T) where
  raised_lies : (v : Sight E O) (l : List E) → StartsWith v.view.seen v.view.opened → length v.view.seen ≤ length l → LieIn (length v.view.opened) (stretches_of v.view) (length v.view.seen)
      → LieIn (length v.view.opened) (stretches_of (raised_sight l v).view) (length l)
  raised_lies v l since more lies =
      let at = length v.view.opened in
      let upto = length l in
      let start = starts_length v.view.seen v.view.opened since in
      let own = lies_longer at v.view.turns (length v.view.seen) upto more (lies_front at v.view.turns v.view.joined (length v.view.seen) lies) in
      let others = lies_longer at v.view.joined (length v.view.seen) upto more (lies_rest at v.view.turns v.view.joined (length v.view.seen) lies) in
      let new : LieIn at (stretch (length v.view.seen) upto ∷ []) upto = (start, omega arith, omega (arith, start, more)) in
      lies_append at (v.view.turns ++ stretch (length v.view.seen) upto ∷ []) v.view.joined upto (lies_append at v.view.turns (stretch (length v.view.seen) upto ∷ []) upto own new) others

  -- a turn that is counted has a stretch, be it empty
  raised_turns : (v : Sight E O) (l : List E) → 0 < turns_of (raised_sight l v)
  raised_turns v l =
      let one = length-append v.view.turns (stretch (length v.view.seen) (length l) ∷ []) in
      let all = length-append (v.view.turns ++ stretch (length v.view.seen) (length l) ∷ []) v.view.joined in
      omega (arith, one, all)

  -- the holder counts what its value's log has gained
  raises : (id : ℕ) (v : Sight E O) (x : T) → v.view.holds ≡ true → 0 < v.view.parts → StartsWith (log x) v.view.seen
      → Allows (Ruled log origin opened) 1 id (v, (0, Some x) ∷ []) 1 (λ _. length (log x)) (λ _. Raised log (v, (0, Some x) ∷ []))
  raises id v x held some_parts grown s r slots at small =
      let w : Sight E O = raised_sight (log x) v in
      let views' = set s.views id w in
      let mine = r.each id v at in
      let all : v.view.seen ≡ r.whole = mine.holder held in
      let longer : StartsWith (log x) r.whole = subst (λ l. StartsWith (log x) l) all grown in
      let bit_v : holding v ≡ 1 = ap bit held in
      let still = total-same holding s.views id v w at refl in
      let least = total_at holding s.views id v at in
      let one = r.one in
      let some_holds : total holding s.views ≡ 1 = omega (arith, least, bit_v, one) in
      let made1 = total-set made_by s.views id v w at in
      let parts = total-same parts_of s.views id v w at refl in
      let old_length : length v.view.seen ≡ length r.whole = ap length all in
      let fits_length = starts_length (log x) v.view.seen grown in
      let start_length = starts_length r.whole (log opened) r.begins in
      let made = r.made in (
        w,
        keeps,
        tt,
        record {
          whole = log x;
          sleepers = r.sleepers;
          words = ap (λ ws. set ws 1 (length (log x))) r.words ∙ ap (λ k. k ∷ length (log x) ∷ r.sleepers ∷ []) (sym still);
          one = omega (arith, still, one);
          begins = starts_trans (log x) r.whole (log opened) longer r.begins;
          made = omega (arith, made1, made, old_length, fits_length);
          parts = parts ∙ r.parts;
          once = λ i.
              let set1 = total-set (times_in i) s.views id v w at in
              let new = left-times v.view (log x) i in
              let before = r.once i in
              let parted = between-split i (length (log opened)) (length v.view.seen) (length (log x)) (omega (arith, start_length, old_length)) fits_length in
              let same : between i (length (log opened)) (length r.whole) ≡ between i (length (log opened)) (length v.view.seen) = ap (between i (length (log opened))) (sym old_length) in
              omega (arith, set1, new, before, parted, same);
          each = λ k u e. ⊎_elim
              (λ (y : (k ≡ id) × (w ≡ u)). subst (FitsLog log origin opened (log x)) y.1 (record {
                begins = starts_self (log x);
                agrees = (starts_trans (log x) v.view.seen v.told.seen grown mine.agrees.0, mine.agrees.1, mine.agrees.2);
                holder = λ _. refl;
                spent = λ p. absurd (omega (arith, p, some_parts));
                since = starts_trans (log x) v.view.seen v.view.opened grown mine.since;
                lies = raised_lies v (log x) mine.since fits_length mine.lies;
                named = mine.named;
              }))
              (λ (y : (k ≢ id) × (get_elem? s.views k ≡ some u)).
              let other = r.each k u y.1 in
              let both = total_two holding s.views k id u v y.0 y.1 at in
              record {
                begins = starts_trans (log x) r.whole u.view.seen longer other.begins;
                agrees = other.agrees;
                holder = λ h. let bit_u : holding u ≡ 1 = ap bit h in absurd (omega (arith, both, bit_u, bit_v, one));
                spent = other.spent;
                since = other.since;
                lies = other.lies;
                named = other.named;
              })
              (at_set s.views id k w u e);
          home = λ p. absurd (omega (arith, p, still, some_holds));
          away = λ p. r.away some_holds;
        },
        λ y e. let same : x ≡ y = same_Some x y (ap (λ c. value_of (Some x) c) e) in ap (λ z. (raised_sight (log z) v, (0, Some x) ∷ [])) same,
      )

  raises_it : (id : ℕ) (m : Me (Option T) (Sight E O)) (x : T) → m.0.view.holds ≡ true → 0 < m.0.view.parts → m.1 ≡ (0, Some x) ∷ [] → StartsWith (log x) m.0.view.seen
      → (n : ℕ) → n ≡ length (log x) → Allows (Ruled log origin opened) 1 id m 1 (λ _. n) (λ _. Raised log m)
  raises_it id m x held some_parts out grown n is =
      subst (λ (c : List (ℕ × Option T)). Allows (Ruled log origin opened) 1 id (m.0, c) 1 (λ _. n) (λ _. Raised log (m.0, c))) (sym out)
      (subst (λ (k : ℕ). Allows (Ruled log origin opened) 1 id (m.0, (0, Some x) ∷ []) 1 (λ _. k) (λ _. Raised log (m.0, (0, Some x) ∷ []))) (sym is)
      (raises id m.0 x held some_parts grown))

  -- the holder gives the value back
  frees : (id : ℕ) (v : Sight E O) (x : T) → v.view.holds ≡ true → 0 < v.view.parts → v.view.seen ≡ log x → Some (origin x) ≡ v.view.origin → 0 < turns_of v
      → Allows (Ruled log origin opened) 1 id (v, (0, Some x) ∷ []) 0 (λ _. 0) (λ _. Freed (v, (0, Some x) ∷ []))
  frees id v x held some_parts seen named turned s r slots at small =
      let w : Sight E O = freed_sight v in
      let views' = set s.views id w in
      let mine = r.each id v at in
      let all : v.view.seen ≡ r.whole = mine.holder held in
      let bit_v : holding v ≡ 1 = ap bit held in
      let holds1 = total-set holding s.views id v w at in
      let least = total_at holding s.views id v at in
      let one = r.one in
      let some_holds : total holding s.views ≡ 1 = omega (arith, least, bit_v, one) in
      let none_holds : total holding views' ≡ 0 = omega (arith, holds1, bit_v, some_holds) in
      let made = total-same made_by s.views id v w at refl in
      let turns = total-same turns_of s.views id v w at refl in
      let mine_turned = total_at turns_of s.views id v at in
      let whole_made = r.made in (
        w,
        gives,
        tt,
        record {
          whole = r.whole;
          sleepers = r.sleepers;
          words = ap (λ ws. set ws 0 0) r.words ∙ ap (λ k. k ∷ length r.whole ∷ r.sleepers ∷ []) (sym none_holds);
          one = omega (arith, none_holds);
          begins = r.begins;
          made = omega (arith, made, whole_made);
          parts = total-same parts_of s.views id v w at refl ∙ r.parts;
          once = λ i. total-same (times_in i) s.views id v w at refl ∙ r.once i;
          each = λ k u e. ⊎_elim
              (λ (y : (k ≡ id) × (w ≡ u)). subst (FitsLog log origin opened r.whole) y.1 (record {
                begins = mine.begins;
                agrees = mine.agrees;
                holder = λ h. absurd (true≢false (sym h));
                spent = λ p. absurd (omega (arith, p, some_parts));
                since = mine.since;
                lies = mine.lies;
                named = mine.named;
              }))
              (λ (y : (k ≢ id) × (get_elem? s.views k ≡ some u)). r.each k u y.1)
              (at_set s.views id k w u e);
          home = λ _. (x, ap (λ h. set h 0 (some (Some x))) (r.away some_holds), sym seen ∙ all, same_Some (origin x) (origin opened) (named ∙ (mine.named some_parts).1), λ none. absurd (omega (arith, none, turns, mine_turned, turned)));
          away = λ p. absurd (omega (arith, p, none_holds));
        },
        refl,
      )

  frees_it : (id : ℕ) (m : Me (Option T) (Sight E O)) (x : T) → m.0.view.holds ≡ true → 0 < m.0.view.parts → m.1 ≡ (0, Some x) ∷ [] → m.0.view.seen ≡ log x → Some (origin x) ≡ m.0.view.origin → 0 < turns_of m.0
      → Allows (Ruled log origin opened) 1 id m 0 (λ _. 0) (λ _. Freed m)
  frees_it id m x held some_parts out seen named turned =
      subst (λ (c : List (ℕ × Option T)). Allows (Ruled log origin opened) 1 id (m.0, c) 0 (λ _. 0) (λ _. Freed (m.0, c))) (sym out)
      (frees id m.0 x held some_parts seen named turned)

  -- the holder m has put the value x into its slot, and is m' now
  pub puts : (id : ℕ) (m m' : Me (Option T) (Sight E O)) (x : T) → IsHolder m → m' ≡ (m.0, (0, Some x) ∷ rest m.1) → StartsWith (log x) m.0.view.seen
      → (n : ℕ) → n ≡ length (log x) → Allows (Ruled log origin opened) 1 id m' 1 (λ _. n) (λ _. Raised log m')
  puts id m m' x had put grown n is =
      subst (λ (k : Me (Option T) (Sight E O)). Allows (Ruled log origin opened) 1 id k 1 (λ _. n) (λ _. Raised log k)) (sym put)
      (raises_it id (m.0, (0, Some x) ∷ rest m.1) x had.0 had.1 (ap (λ c. (0, Some x) ∷ rest c) had.2) grown n is)

  -- it has counted the log of x too, and is m'' now
  pub raised_is : (m m' m'' : Me (Option T) (Sight E O)) (x : T) → IsHolder m → m' ≡ (m.0, (0, Some x) ∷ rest m.1) → Raised log m' m'' → m'' ≡ (raised_sight (log x) m.0, (0, Some x) ∷ [])
  raised_is m m' m'' x had put raised =
      let slot : m'.1 ≡ (0, Some x) ∷ [] = ap (λ (k : Me (Option T) (Sight E O)). k.1) put ∙ ap (λ c. (0, Some x) ∷ rest c) had.2 in
      let sight : m'.0 ≡ m.0 = ap (λ (k : Me (Option T) (Sight E O)). k.0) put in
      raised x slot ∙ (λ i. (raised_sight (log x) (sight i), slot i))

  pub ends_turn : (id : ℕ) (m m' m'' : Me (Option T) (Sight E O)) (x : T) → IsHolder m → m' ≡ (m.0, (0, Some x) ∷ rest m.1) → Raised log m' m'' → Some (origin x) ≡ m.0.view.origin
      → Allows (Ruled log origin opened) 1 id m'' 0 (λ _. 0) (λ _. Freed m'')
  ends_turn id m m' m'' x had put raised named =
      subst (λ (k : Me (Option T) (Sight E O)). Allows (Ruled log origin opened) 1 id k 0 (λ _. 0) (λ _. Freed k)) (sym (raised_is m m' m'' x had put raised))
      (frees_it id (raised_sight (log x) m.0, (0, Some x) ∷ []) x had.0 had.1 refl refl named (raised_turns m.0 (log x)))
