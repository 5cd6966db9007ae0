-- Where a reservation ended, entry by entry.
use Rattle.std.proofs.Common.{◌≡◌, ◌+◌, ◌<◌, ℕ, List, [], ◌∷◌, ◌++◌, length, get_or, take, Option, Some, None, refl, sym, ap, subst, ◌∙◌, inl, inr, ◌⊎◌, append_assoc, arith, length-append, length-take-le, ◌≤◌}
use Rattle.std.specs.Prelude.{All, Any, MatchOption}
use Rattle.std.proofs.lemmas.List.{take_more, take_all}
use Rattle.std.proofs.lemmas.List.Elements.{All-push, All-nil}
use Rattle.pot_index.specs.declared.entry.IndexEntry.{IndexEntry}
use Rattle.pot_index.specs.Entries.{IsReserving, IsEnding}
use Rattle.pot_index.specs.Ending.{EndsAt, IsNameHeld, StepsEnd}

module _ (job : ℕ) (name : List ℕ) where
  abbrev NotReserving : IndexEntry → Type 0
  NotReserving e = IsReserving job name e → ⊥

  abbrev NotEnding : IndexEntry → Type 0
  NotEnding e = IsEnding job name e → ⊥

  -- what a front of a log says of the end: nothing, where the job has not reserved the name in it
  abbrev pub SoFar : List IndexEntry → Option ℕ → Type 0
  SoFar es None = All (λ e. IsReserving job name e → ⊥) es ⊎ IsNameHeld job name es
  SoFar es (Some at) = All (λ e. IsReserving job name e → ⊥) es ⊎ EndsAt job name es at

  made_here : (es : List IndexEntry) (e : IndexEntry) → IsReserving job name e → IsNameHeld job name (es ++ e ∷ [])
  made_here es e makes = record { before = es; made = e; behind = []; parts = refl; makes = makes; kept = All-nil NotEnding; last = All-nil NotReserving }

  held_more : (es : List IndexEntry) (e : IndexEntry) → NotReserving e → NotEnding e → IsNameHeld job name es → IsNameHeld job name (es ++ e ∷ [])
  held_more es e quiet kept h = record {
    before = h.before;
    made = h.made;
    behind = h.behind ++ e ∷ [];
    parts = ap (λ (t : List IndexEntry). t ++ e ∷ []) h.parts ∙ append_assoc h.before (h.made ∷ h.behind) (e ∷ []);
    makes = h.makes;
    kept = All-push NotEnding h.behind e h.kept kept;
    last = All-push NotReserving h.behind e h.last quiet;
  }

  ends_here : (es : List IndexEntry) (e : IndexEntry) → NotReserving e → IsEnding job name e → IsNameHeld job name es → EndsAt job name (es ++ e ∷ []) (length es)
  ends_here es e quiet ends h = record {
    before = h.before;
    made = h.made;
    between = h.behind;
    ended = e;
    behind = [];
    parts = ap (λ (t : List IndexEntry). t ++ e ∷ []) h.parts ∙ append_assoc h.before (h.made ∷ h.behind) (e ∷ []);
    place = omega (arith, ap length h.parts, length-append h.before (h.made ∷ h.behind));
    makes = h.makes;
    ends = ends;
    first = h.kept;
    last = All-push NotReserving h.behind e h.last quiet;
  }

  ended_more : (es : List IndexEntry) (e : IndexEntry) (at : ℕ) → NotReserving e → EndsAt job name es at → EndsAt job name (es ++ e ∷ []) at
  ended_more es e at quiet h =
      let tail : (h.between ++ h.ended ∷ h.behind) ++ e ∷ [] ≡ h.between ++ h.ended ∷ (h.behind ++ e ∷ []) = append_assoc h.between (h.ended ∷ h.behind) (e ∷ []) in
      record {
        before = h.before;
        made = h.made;
        between = h.between;
        ended = h.ended;
        behind = h.behind ++ e ∷ [];
        parts = ap (λ (t : List IndexEntry). t ++ e ∷ []) h.parts ∙ append_assoc h.before (h.made ∷ (h.between ++ h.ended ∷ h.behind)) (e ∷ []) ∙ ap (λ (t : List IndexEntry). h.before ++ h.made ∷ t) tail;
        place = h.place;
        makes = h.makes;
        ends = h.ends;
        first = h.first;
        last = subst (All NotReserving) tail (All-push NotReserving (h.between ++ h.ended ∷ h.behind) e h.last quiet);
      }

  stays : (es : List IndexEntry) (e : IndexEntry) (ended : Option ℕ) → NotReserving e → (ended ≡ None → NotEnding e) → SoFar es ended → SoFar (es ++ e ∷ []) ended
  stays es e None quiet kept (inl none) = inl (All-push NotReserving es e none quiet)
  stays es e None quiet kept (inr held) = inr (held_more es e quiet (kept refl) held)
  stays es e (Some at) quiet kept (inl none) = inl (All-push NotReserving es e none quiet)
  stays es e (Some at) quiet kept (inr ends) = inr (ended_more es e at quiet ends)

  ends_now : (es : List IndexEntry) (e : IndexEntry) → NotReserving e → IsEnding job name e → SoFar es None → SoFar (es ++ e ∷ []) (Some (length es))
  ends_now es e quiet ends (inl none) = inl (All-push NotReserving es e none quiet)
  ends_now es e quiet ends (inr held) = inr (ends_here es e quiet ends held)

  one_more : (es : List IndexEntry) (e : IndexEntry) (ended result : Option ℕ) → SoFar es ended → StepsEnd job name e (length es) ended result → SoFar (es ++ e ∷ []) result
  one_more es e ended result h (inl (makes, is)) = subst (SoFar (es ++ e ∷ [])) (sym is) (inr (made_here es e makes))
  one_more es e ended result h (inr (inl (quiet, ends, none, is))) = subst (SoFar (es ++ e ∷ [])) (sym is) (ends_now es e quiet ends (subst (SoFar es) none h))
  one_more es e ended result h (inr (inr (quiet, kept, is))) = subst (SoFar (es ++ e ∷ [])) (sym is) (stays es e ended quiet kept h)

  -- a step of the loop over a log
  pub loop_step : (log : List IndexEntry) (i : ℕ) (d : IndexEntry) (ended result : Option ℕ) → i < length log → SoFar (take i log) ended → StepsEnd job name (get_or log i d) i ended result → SoFar (take (i + 1) log) result
  loop_step log i d ended result lt h step =
      subst (λ es. SoFar es result) (sym (take_more log i d lt))
      (one_more (take i log) (get_or log i d) ended result h (subst (λ k. StepsEnd job name (get_or log i d) k ended result) (sym (length-take-le i log (omega arith))) step))

  -- and its end, where the job has reserved the name
  pub at_end : (log : List IndexEntry) (i : ℕ) (ended : Option ℕ) → length log ≤ i → Any (IsReserving job name) log → SoFar (take i log) ended → MatchOption ended (IsNameHeld job name log) (EndsAt job name log)
  at_end log i ended le made h = by ended (subst (λ es. SoFar es ended) (take_all i log le) h)
    where
      contradicts : All (λ e. IsReserving job name e → ⊥) log → ⊥
      contradicts none = none made.0 made.1 made.2 (subst (IsReserving job name) (sym made.3) made.4)

      by : (o : Option ℕ) → SoFar log o → MatchOption o (IsNameHeld job name log) (EndsAt job name log)
      by None (inl none) = absurd (contradicts none)
      by None (inr held) = held
      by (Some at) (inl none) = absurd (contradicts none)
      by (Some at) (inr ends) = ends
