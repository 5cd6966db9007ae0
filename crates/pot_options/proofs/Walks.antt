-- Clap's walk over all the words against the spelling of options.
use Rattle.std.proofs.Common.{◌≡◌, inl, inr, ◌∙◌, ℕ, Bool, cond, true, false, refl, sym, ap, ap₂, subst, List, [], ◌∷◌, ◌++◌, map, Option, Some, None, append-nil, append_assoc, bytes_eq, true≢false, fold}
use Rattle.std.proofs.lemmas.Bool.{or_parts}
use Rattle.clap.specs.Words.{Row}
use Rattle.clap.specs.Walk.{Text, Held, Walk, walked, idle, option, settled_rows, used, arg_by_long, after_step, after_flag}
use Rattle.clap.specs.Lexer.{name_and_value}
use Rattle.clap.specs.Kinds.{Kinds, or_else}
use Rattle.clap.specs.Faults.{settle_fault, turn_fault, use_fault, walk_fault, step_fault}
use Rattle.pot_options.specs.Options.{is_among, is_used, has_delimiter, dashed, AreNewOptions, AreSpelled}
use Rattle.pot_options.specs.Apps.{row_of_use}
use Rattle.pot_options.proofs.Names.{rule, rules, long_is, row_is}
use Rattle.pot_options.proofs.Built.{shape}
use Rattle.pot_options.proofs.Cuts.{Makes, made}
use Rattle.pot_options.proofs.Steps.{hold, at, both_none, asks_fault, asks_walk, gives_fault, gives_walk, unknown_fault, asked_fault}
use Rattle.pot_options.proofs.Forms.{Form, Bare, Long, Short, Plain, form_of, bare, idle_turn, asked_turn, asked_walk, bundle_is, stray, value_taken}
use Rattle.pot_options.proofs.Uses.{pending_use, IsKnown, IsFresh, after_use, fresh_from, settled_is, use_is_new, used_is}

or_assoc : (a b c : Kinds) → or_else (or_else a b) c ≡ or_else a (or_else b c)
or_assoc [] b c = refl
or_assoc (k ∷ ks) b c = refl

-- the faults of the words from a place of the walk on, and of what is held at their end
abbrev pub fault_from : List Text → Walk → List Text → Kinds
fault_from names w words = or_else (walk_fault (shape names) [] w words) (settle_fault (rules names) false (fold (walked (rules names) []) w words).held)

abbrev settled_of : List Text → Held → List Row
settled_of names h = settled_rows (rules names) h.pending h.rows

abbrev pub rows_from : List Text → Walk → List Text → List Row
rows_from names w words = settled_of names (fold (walked (rules names) []) w words).held

pub fault_more : (names : List Text) (w after : Walk) (word : Text) (rest : List Text) → walked (rules names) [] w word ≡ after
    → fault_from names w (word ∷ rest) ≡ or_else (turn_fault (shape names) [] w word) (fault_from names after rest)
unfolding walk_fault
fault_more names w after word rest is =
    or_assoc (turn_fault (shape names) [] w word) (walk_fault (shape names) [] (walked (rules names) [] w word) rest) _
    ∙ ap (λ (v : Walk). or_else (turn_fault (shape names) [] w word) (fault_from names v rest)) is

pub rows_more : (names : List Text) (w after : Walk) (word : Text) (rest : List Text) → walked (rules names) [] w word ≡ after
    → rows_from names w (word ∷ rest) ≡ rows_from names after rest
rows_more names w after word rest is = ap (λ (v : Walk). rows_from names v rest) is

abbrev pub start : List (Text × Text) → Option (Text × Text) → Walk
start done last = at (map row_of_use done) (pending_use last) idle

abbrev pub asked : List (Text × Text) → Text → Walk
asked done n = at (map row_of_use done) (Some (n, [])) (option n)

-- the words spell uses, and the walk ends with their rows
abbrev pub Reads : List Text → List (Text × Text) → Option (Text × Text) → List Text → Type 0
Reads names done last words = IsFresh done last × (uses : List (Text × Text)) × AreSpelled uses words × AreNewOptions names (after_use done last) uses
    × (rows_from names (start done last) words ≡ map row_of_use (after_use done last ++ uses))

abbrev pub Forward : List Text → List Text → Type 0
Forward names words = (done : List (Text × Text)) (last : Option (Text × Text)) → IsKnown names last → has_delimiter words ≡ false
    → fault_from names (start done last) words ≡ [] → Reads names done last words

abbrev Asked : List Text → List Text → Type 0
Asked names words = (done : List (Text × Text)) (n : Text) → is_among names n ≡ true → has_delimiter words ≡ false → fault_from names (asked done n) words ≡ []
    → (v : Text) × (left : List Text) × (words ≡ v ∷ left) × Reads names done (Some (n, v)) left
    × (rows_from names (asked done n) words ≡ rows_from names (start done (Some (n, v))) left)

some_fault : (k : Rattle.clap.specs.declared.error.kind.ErrorKind.ErrorKind) (a b : Kinds) → a ≡ k ∷ [] → a ≡ [] → ⊥
some_fault k a b e none = let bad : k ∷ [] ≡ [] = sym e ∙ none in cc

first_none : (a b whole : Kinds) → whole ≡ or_else a b → whole ≡ [] → (a ≡ []) × (b ≡ [])
first_none a b whole is none = both_none a b (sym is ∙ none)

module _ (names : List Text) where
  forward_nil : Forward names []
  unfolding walk_fault
  forward_nil done last known bares none =
      let fresh = fresh_from names done last known none in
      (fresh, [], refl, tt, settled_is names done last known fresh ∙ ap (map row_of_use) (sym (append-nil (after_use done last))))

  asked_nil : Asked names []
  unfolding walk_fault
  asked_nil done n known bares none = absurd (some_fault _ _ [] (asked_fault names (map row_of_use done) n known) none)

  pub here : (m : Text) (b : Bool) → is_among names m ≡ b → arg_by_long (rules names) m ≡ cond b (Some (rule m)) None
  here m b e = long_is names m ∙ ap (λ (t : Bool). cond t (Some (rule m)) None) e

  -- `--..` is no value of an option that waits for one
  long_refused : (done : List (Text × Text)) (n : Text) → is_among names n ≡ true → (y : ℕ) (ys : Text) → turn_fault (shape names) [] (asked done n) (45 ∷ 45 ∷ y ∷ ys) ≡ [] → ⊥
  long_refused done n known y ys none = go (name_and_value (y ∷ ys)) refl
    where
      go : (q : Text × Option Text) → name_and_value (y ∷ ys) ≡ q → ⊥
      go (m, x) cut = by (is_among names m) x refl cut
        where
          by : (b : Bool) (x : Option Text) → is_among names m ≡ b → name_and_value (y ∷ ys) ≡ (m, x) → ⊥
          by false x e cut = some_fault _ _ [] (unknown_fault names (map row_of_use done) (Some (n, [])) y ys m x cut (here m false e) (option n)) none
          by true None e cut = some_fault _ _ [] (asks_fault names (map row_of_use done) (Some (n, [])) y ys m cut (here m true e) (option n) ∙ asked_fault names (map row_of_use done) n known) none
          by true (Some v) e cut =
              let parts = first_none _ _ _ (gives_fault names (map row_of_use done) (Some (n, [])) y ys m v cut (here m true e) (option n)) none in
              some_fault _ _ [] (asked_fault names (map row_of_use done) n known) parts.0

  -- a word at which a value is waited for, and which clap does not refuse, is the value
  taken : (done : List (Text × Text)) (n v : Text) → is_among names n ≡ true → Form v → bytes_eq v bare ≡ false
      → turn_fault (shape names) [] (asked done n) v ≡ [] → walked (rules names) [] (asked done n) v ≡ start done (Some (n, v))
  taken done n v known (Bare b) bares none = absurd (true≢false (sym b ∙ bares))
  taken done n v known (Plain b l s) bares none =
      asked_walk names (map row_of_use done) (Some (n, [])) v n None b l s
      ∙ ap (λ (q : Held × Rattle.clap.specs.Walk.Step). after_step (rules names) v (asked done n) q.0 q.1) (value_taken names (map row_of_use done) n v known)
  taken done n v known (Short y ys b l s) bares none =
      let parts = first_none _ _ _ (asked_turn names (map row_of_use done) (Some (n, [])) v n (Some (y ∷ ys)) b l s) none in
      elim (bundle_is names (map row_of_use done) (Some (n, [])) v y ys) [
        | inl bad ↦ absurd (some_fault _ _ [] bad parts.0)
        | inr good ↦
            asked_walk names (map row_of_use done) (Some (n, [])) v n (Some (y ∷ ys)) b l s
            ∙ ap (λ (q : Held × Rattle.clap.specs.Walk.Outcome). after_step (rules names) v (asked done n) (after_flag (rules names) (option n) v q.0 q.1).0 (after_flag (rules names) (option n) v q.0 q.1).1) good.1
            ∙ ap (λ (q : Held × Rattle.clap.specs.Walk.Step). after_step (rules names) v (asked done n) q.0 q.1) (value_taken names (map row_of_use done) n v known)
      ]
  taken done n v known (Long y ys is) bares none = absurd (long_refused done n known y ys (ap (turn_fault (shape names) [] (asked done n)) (sym is) ∙ none))

  asked_cons : (v : Text) (left : List Text) → Forward names left → Asked names (v ∷ left)
  asked_cons v left further done n known bares none =
      let words_are = or_parts _ _ bares in
      let parts = first_none _ _ _ (fault_more names (asked done n) (walked (rules names) [] (asked done n) v) v left refl) none in
      let on = taken done n v known (form_of v) words_are.0 parts.0 in
      let rest = further done (Some (n, v)) known words_are.1 (ap (λ (w : Walk). fault_from names w left) (sym on) ∙ parts.1) in
      (v, left, refl, rest, rows_more names (asked done n) (start done (Some (n, v))) v left on)

  -- where no value is waited for, a word that clap does not refuse is `--..`
  only_long : (done : List (Text × Text)) (last : Option (Text × Text)) (word : Text) → Form word → bytes_eq word bare ≡ false
      → turn_fault (shape names) [] (start done last) word ≡ [] → (y : ℕ) × (ys : Text) × (word ≡ 45 ∷ 45 ∷ y ∷ ys)
  only_long done last word (Bare b) bares none = absurd (true≢false (sym b ∙ bares))
  only_long done last word (Long y ys is) bares none = (y, ys, is)
  only_long done last word (Plain b l s) bares none =
      absurd (some_fault _ _ [] (stray names (hold (map row_of_use done) (pending_use last))) (sym (idle_turn names (map row_of_use done) (pending_use last) word None b l s) ∙ none))
  only_long done last word (Short y ys b l s) bares none =
      let parts = first_none _ _ _ (idle_turn names (map row_of_use done) (pending_use last) word (Some (y ∷ ys)) b l s) none in
      elim (bundle_is names (map row_of_use done) (pending_use last) word y ys) [
        | inl bad ↦ absurd (some_fault _ _ [] bad parts.0)
        | inr good ↦ absurd (some_fault _ _ [] (
            ap (λ (q : Held × Rattle.clap.specs.Walk.Outcome). step_fault (shape names) 1 (after_flag (rules names) idle word q.0 q.1).0 (after_flag (rules names) idle word q.0 q.1).1) good.1
            ∙ stray names (hold (map row_of_use done) (pending_use last))) parts.1)
      ]

  module _ (done : List (Text × Text)) (last : Option (Text × Text)) (y : ℕ) (ys : Text) (rest : List Text) where
    abbrev long_word : Text
    long_word = 45 ∷ 45 ∷ y ∷ ys

    abbrev end : List (Text × Text)
    end = after_use done last

    -- `--name`, and the value is the next word
    asks_on : (n : Text) → IsKnown names last → name_and_value (y ∷ ys) ≡ (n, None) → is_among names n ≡ true → Asked names rest → has_delimiter rest ≡ false
        → turn_fault (shape names) [] (start done last) long_word ≡ [] → fault_from names (walked (rules names) [] (start done last) long_word) rest ≡ []
        → Reads names done last (long_word ∷ rest)
    asks_on n known_last cut known further bares turn_none rest_none =
        let fresh = fresh_from names done last known_last (sym (asks_fault names (map row_of_use done) (pending_use last) y ys n cut (here n true known) idle) ∙ turn_none) in
        let on : walked (rules names) [] (start done last) long_word ≡ asked end n =
        asks_walk names (map row_of_use done) (pending_use last) y ys n cut (here n true known)
        ∙ ap (λ (rs : List Row). at rs (Some (n, [])) (option n)) (settled_is names done last known_last fresh) in
        let a = further end n known bares (ap (λ (w : Walk). fault_from names w rest) (sym on) ∙ rest_none) in
        let text : y ∷ ys ≡ n = subst (Makes (y ∷ ys)) cut (made (y ∷ ys)) in
        let spelled : AreSpelled ((n, a.0) ∷ a.3.1) (long_word ∷ rest) = (a.1, a.3.2, inl (ap₂ (λ (t : Text) (r : List Text). dashed t ∷ r) text a.2)) in (
          fresh,
          (n, a.0) ∷ a.3.1,
          spelled,
          (known, a.3.0, a.3.3),
          rows_more names (start done last) (asked end n) long_word rest on ∙ a.4 ∙ a.3.4 ∙ ap (map row_of_use) (append_assoc end ((n, a.0) ∷ []) a.3.1),
        )

    -- `--name=value`
    gives_on : (n v : Text) → IsKnown names last → name_and_value (y ∷ ys) ≡ (n, Some v) → is_among names n ≡ true → Forward names rest → has_delimiter rest ≡ false
        → turn_fault (shape names) [] (start done last) long_word ≡ [] → fault_from names (walked (rules names) [] (start done last) long_word) rest ≡ []
        → Reads names done last (long_word ∷ rest)
    gives_on n v known_last cut known further bares turn_none rest_none =
        let parts = first_none _ _ _ (gives_fault names (map row_of_use done) (pending_use last) y ys n v cut (here n true known) idle) turn_none in
        let fresh = fresh_from names done last known_last parts.0 in
        let settled = settled_is names done last known_last fresh in
        let new : is_used end n ≡ false = sym (row_is end n) ∙ use_is_new n v (map row_of_use end) (ap (use_fault false (rule n) (v ∷ [])) (sym settled) ∙ parts.1) in
        let on : walked (rules names) [] (start done last) long_word ≡ start (end ++ (n, v) ∷ []) None =
        gives_walk names (map row_of_use done) (pending_use last) y ys n v cut (here n true known)
        ∙ ap (λ (rs : List Row). at (used (rule n) (v ∷ []) rs) None idle) settled ∙ ap (λ (rs : List Row). at rs None idle) (used_is (n, v) end new) in
        let a = further (end ++ (n, v) ∷ []) None tt bares (ap (λ (w : Walk). fault_from names w rest) (sym on) ∙ rest_none) in
        let text : y ∷ ys ≡ n ++ 61 ∷ v = subst (Makes (y ∷ ys)) cut (made (y ∷ ys)) in
        let spelled : AreSpelled ((n, v) ∷ a.1) (long_word ∷ rest) = (rest, a.2, inr (ap (λ (t : Text). dashed t ∷ rest) text)) in (
          fresh,
          (n, v) ∷ a.1,
          spelled,
          (known, new, a.3),
          rows_more names (start done last) (start (end ++ (n, v) ∷ []) None) long_word rest on ∙ a.4 ∙ ap (map row_of_use) (append_assoc end ((n, v) ∷ []) a.1),
        )

    goes_on : IsKnown names last → Forward names rest → Asked names rest → has_delimiter rest ≡ false
        → turn_fault (shape names) [] (start done last) long_word ≡ [] → fault_from names (walked (rules names) [] (start done last) long_word) rest ≡ []
        → Reads names done last (long_word ∷ rest)
    goes_on known_last further further_asked bares turn_none rest_none = go (name_and_value (y ∷ ys)) refl
      where
        go : (q : Text × Option Text) → name_and_value (y ∷ ys) ≡ q → Reads names done last (long_word ∷ rest)
        go (n, x) cut = by (is_among names n) x refl cut
          where
            by : (b : Bool) (x : Option Text) → is_among names n ≡ b → name_and_value (y ∷ ys) ≡ (n, x) → Reads names done last (long_word ∷ rest)
            by false x e cut = absurd (some_fault _ _ [] (unknown_fault names (map row_of_use done) (pending_use last) y ys n x cut (here n false e) idle) turn_none)
            by true None e cut = asks_on n known_last cut e further_asked bares turn_none rest_none
            by true (Some v) e cut = gives_on n v known_last cut e further bares turn_none rest_none

  forward_cons : (word : Text) (rest : List Text) → Forward names rest → Asked names rest → Forward names (word ∷ rest)
  forward_cons word rest further further_asked done last known bares none =
      let words_are = or_parts _ _ bares in
      let parts = first_none _ _ _ (fault_more names (start done last) (walked (rules names) [] (start done last) word) word rest refl) none in
      let long = only_long done last word (form_of word) words_are.0 parts.0 in
      subst (λ (t : Text). Reads names done last (t ∷ rest)) (sym long.2)
      (goes_on done last long.0 long.1 rest known further further_asked words_are.1
      (ap (turn_fault (shape names) [] (start done last)) (sym long.2) ∙ parts.0)
      (ap (λ (t : Text). fault_from names (walked (rules names) [] (start done last) t) rest) (sym long.2) ∙ parts.1))

  -- words that clap does not refuse, and of which none is `--`, spell uses
  pub forward : (words : List Text) → Forward names words
  forward [] = forward_nil
  forward (word ∷ []) = forward_cons word [] forward_nil asked_nil
  forward (word ∷ v ∷ left) = forward_cons word (v ∷ left) (forward (v ∷ left)) (asked_cons v left (forward left))
