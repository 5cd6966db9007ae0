-- Words that spell options are taken by clap.
use Rattle.std.proofs.Common.{◌≡◌, inl, inr, ◌∙◌, Bool, true, false, not, refl, sym, ap, ap₂, subst, List, [], ◌∷◌, ◌++◌, map, Option, Some, None, append-nil, append_assoc, bytes_eq, true≢false, ◌||◌}
use Rattle.std.proofs.lemmas.Slice.Eq.{bytes_eq-Decides}
use Rattle.clap.specs.Words.{Row}
use Rattle.clap.specs.Walk.{Text, Held, Step, walked, idle, option, used, after_step}
use Rattle.clap.specs.Lexer.{name_and_value, has_byte, long_of, short_of}
use Rattle.clap.specs.Kinds.{Kinds, or_else}
use Rattle.clap.specs.Faults.{turn_fault, step_fault, use_fault, walk_fault}
use Rattle.pot_options.specs.Options.{is_among, is_used, dashed, AreNewOptions, AreSpelled, AreUnhyphened, AreOptionNames, IsUnhyphened, IsOptionName}
use Rattle.pot_options.specs.Apps.{row_of_use}
use Rattle.pot_options.proofs.Names.{rule, rules, row_is}
use Rattle.pot_options.proofs.Built.{shape}
use Rattle.pot_options.proofs.Cuts.{no_value, with_value}
use Rattle.pot_options.proofs.Steps.{at, asks_fault, asks_walk, gives_fault, gives_walk}
use Rattle.pot_options.proofs.Forms.{bare, unhyphened_form, asked_turn, asked_walk, value_taken}
use Rattle.pot_options.proofs.Uses.{pending_use, IsKnown, IsFresh, after_use, settles, settled_is, use_passes, used_is}
use Rattle.pot_options.proofs.Walks.{fault_from, rows_from, start, asked, here, fault_more, rows_more}

no_equals : (text : Text) → not (has_byte 61 text) ≡ true → has_byte 61 text ≡ false
no_equals text e = go (has_byte 61 text) e
  where
    go : (b : Bool) → not b ≡ true → b ≡ false
    go true e = absurd (true≢false (sym e))
    go false e = refl

pub known_name : (names : List Text) (n : Text) → AreOptionNames names → is_among names n ≡ true → IsOptionName n
known_name [] n are known = absurd (true≢false (sym known))
known_name (m ∷ ms) n are known = go (bytes_eq m n) refl known (known_name ms n are.1)
  where
    go : (b : Bool) → bytes_eq m n ≡ b → (b || is_among ms n) ≡ true → (is_among ms n ≡ true → IsOptionName n) → IsOptionName n
    go true e k h = subst IsOptionName ((bytes_eq-Decides m n).0 e) are.0
    go false e k h = h k

pub unhyphened_word : (v : Text) → IsUnhyphened v → (bytes_eq v bare ≡ false) × (long_of v ≡ None) × (short_of v ≡ None)
unhyphened_word [] unhyphened = (refl, refl, refl)
unhyphened_word (x ∷ xs) unhyphened = unhyphened_form x xs unhyphened

none_after : (a b whole : Kinds) → whole ≡ or_else a b → a ≡ [] → b ≡ [] → whole ≡ []
none_after a b whole is first second = is ∙ ap₂ or_else first second

abbrev pub Takes : List Text → List (Text × Text) → Option (Text × Text) → List (Text × Text) → List Text → Type 0
Takes names done last uses words = (fault_from names (start done last) words ≡ [])
    × (rows_from names (start done last) words ≡ map row_of_use (after_use done last ++ uses))

module _ (names : List Text) (done : List (Text × Text)) (last : Option (Text × Text)) (known_last : IsKnown names last) (fresh : IsFresh done last) where
  abbrev end : List (Text × Text)
  end = after_use done last

  takes_none : Takes names done last [] []
  unfolding walk_fault
  takes_none = (settles names done last known_last fresh, settled_is names done last known_last fresh ∙ ap (map row_of_use) (sym (append-nil end)))

  takes_next : (n v : Text) (others : List (Text × Text)) (left : List Text) → IsOptionName n → is_among names n ≡ true → IsUnhyphened v
      → Takes names end (Some (n, v)) others left → Takes names done last ((n, v) ∷ others) (dashed n ∷ v ∷ left)
  takes_next [] v others left name known unhyphened further = absurd name
  takes_next (y ∷ ys) v others left name known unhyphened further =
      let n : Text = y ∷ ys in
      let cut : name_and_value (y ∷ ys) ≡ (n, None) = no_value (y ∷ ys) (no_equals (y ∷ ys) name) in
      let on : walked (rules names) [] (start done last) (dashed n) ≡ asked end n =
      asks_walk names (map row_of_use done) (pending_use last) y ys n cut (here names n true known)
      ∙ ap (λ (rs : List Row). at rs (Some (n, [])) (option n)) (settled_is names done last known_last fresh) in
      let turn : turn_fault (shape names) [] (start done last) (dashed n) ≡ [] =
      asks_fault names (map row_of_use done) (pending_use last) y ys n cut (here names n true known) idle ∙ settles names done last known_last fresh in
      let t = unhyphened_word v unhyphened in
      let taken = value_taken names (map row_of_use end) n v known in
      let on_value : walked (rules names) [] (asked end n) v ≡ start end (Some (n, v)) =
      asked_walk names (map row_of_use end) (Some (n, [])) v n None t.0 t.1 t.2
      ∙ ap (λ (q : Held × Step). after_step (rules names) v (asked end n) q.0 q.1) taken in
      let turn_value : turn_fault (shape names) [] (asked end n) v ≡ [] =
      asked_turn names (map row_of_use end) (Some (n, [])) v n None t.0 t.1 t.2
      ∙ ap (λ (q : Held × Step). step_fault (shape names) 1 q.0 q.1) taken in
      let value_passes = none_after _ _ _ (fault_more names (asked end n) (start end (Some (n, v))) v left on_value) turn_value further.0 in (
        none_after _ _ _ (fault_more names (start done last) (asked end n) (dashed n) (v ∷ left) on) turn value_passes,
        rows_more names (start done last) (asked end n) (dashed n) (v ∷ left) on ∙ rows_more names (asked end n) (start end (Some (n, v))) v left on_value
            ∙ further.1 ∙ ap (map row_of_use) (append_assoc end ((n, v) ∷ []) others),
      )

  takes_joined : (n v : Text) (others : List (Text × Text)) (left : List Text) → IsOptionName n → is_among names n ≡ true → is_used end n ≡ false
      → Takes names (end ++ (n, v) ∷ []) None others left → Takes names done last ((n, v) ∷ others) ((dashed n ++ 61 ∷ v) ∷ left)
  takes_joined [] v others left name known new further = absurd name
  takes_joined (y ∷ ys) v others left name known new further =
      let n : Text = y ∷ ys in
      let cut : name_and_value (y ∷ (ys ++ 61 ∷ v)) ≡ (n, Some v) = with_value (y ∷ ys) v (no_equals (y ∷ ys) name) in
      let settled = settled_is names done last known_last fresh in
      let on : walked (rules names) [] (start done last) (dashed n ++ 61 ∷ v) ≡ start (end ++ (n, v) ∷ []) None =
      gives_walk names (map row_of_use done) (pending_use last) y (ys ++ 61 ∷ v) n v cut (here names n true known)
      ∙ ap (λ (rs : List Row). at (used (rule n) (v ∷ []) rs) None idle) settled ∙ ap (λ (rs : List Row). at rs None idle) (used_is (n, v) end new) in
      let turn : turn_fault (shape names) [] (start done last) (dashed n ++ 61 ∷ v) ≡ [] =
      none_after _ _ _ (gives_fault names (map row_of_use done) (pending_use last) y (ys ++ 61 ∷ v) n v cut (here names n true known) idle)
      (settles names done last known_last fresh) (ap (use_fault false (rule n) (v ∷ [])) settled ∙ use_passes n v (map row_of_use end) (row_is end n ∙ new)) in (
        none_after _ _ _ (fault_more names (start done last) (start (end ++ (n, v) ∷ []) None) (dashed n ++ 61 ∷ v) left on) turn further.0,
        rows_more names (start done last) (start (end ++ (n, v) ∷ []) None) (dashed n ++ 61 ∷ v) left on ∙ further.1 ∙ ap (map row_of_use) (append_assoc end ((n, v) ∷ []) others),
      )

-- words that spell uses are taken, and the walk ends with their rows
pub backward : (names : List Text) → AreOptionNames names → (uses : List (Text × Text)) (words : List Text) → AreSpelled uses words → AreUnhyphened uses
    → (done : List (Text × Text)) (last : Option (Text × Text)) → IsKnown names last → IsFresh done last → AreNewOptions names (after_use done last) uses → Takes names done last uses words
backward names are [] words spelled unhyphened done last known fresh new = subst (Takes names done last []) (sym spelled) (takes_none names done last known fresh)
backward names are (u ∷ others) words (left, rest, inl is) unhyphened done last known fresh new =
    subst (Takes names done last (u ∷ others)) (sym is)
    (takes_next names done last known fresh u.0 u.1 others left (known_name names u.0 are new.0) new.0 unhyphened.0
    (backward names are others left rest unhyphened.1 (after_use done last) (Some u) new.0 new.1 new.2))
backward names are (u ∷ others) words (left, rest, inr is) unhyphened done last known fresh new =
    subst (Takes names done last (u ∷ others)) (sym is)
    (takes_joined names done last known fresh u.0 u.1 others left (known_name names u.0 are new.0) new.0 new.1
    (backward names are others left rest unhyphened.1 (after_use done last ++ u ∷ []) None tt tt new.2))
