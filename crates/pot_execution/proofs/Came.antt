-- The archives that calls brought, over the calls that follow.
use Rattle.std.proofs.Common.{◌≡◌, ◌⊎◌, inl, inr, ℕ, zero, suc, List, [], ◌∷◌, ◌++◌, sym, ap, ◌∙◌, subst, arith}
use Rattle.std.specs.Prelude.{Contains}
use Rattle.std.proofs.lemmas.Bool.{cases_eq}
use Rattle.std.proofs.lemmas.List.Elements.{Contains-append_cases, Contains-append_left, Contains-append_right}
use Rattle.pot_outside.specs.Archives.{Meaning}
use Rattle.pot_machine.specs.declared.entry.Entry.{Entry}
use Rattle.pot_machine.specs.declared.entry.Entry.TheVariants as entry
use Rattle.pot_machine.specs.Table.{archives_in}
use Rattle.pot_group.specs.Arrivals.{arrivals}
use Rattle.pot_group.specs.Calls.{Grows}
use Rattle.pot_group.specs.Group.{GroupView}
use Rattle.pot_group.proofs.Arriving.{arrivals-append}
use Rattle.pot_execution.specs.Execution.{Call, AllCame, CameAs, had}
use Rattle.pot_execution.specs.Execution as call

-- a number stands among these or does not
pub among : (ns : List ℕ) (n : ℕ) → Contains ns n ⊎ (Contains ns n → ⊥)
among [] n = inr (λ h. absurd (omega (arith, h.1)))
among (m ∷ ns) n = elim (cases_eq m n) [
  | inl e ↦ inl (0, omega arith, e)
  | inr ne ↦ elim (among ns n) [ inl h ↦ inl (Contains-append_right (m ∷ []) ns n h) | inr none ↦ inr (λ h. elim (split h) [ inl e ↦ ne e | inr k ↦ none k ]) ]
]
  where
    split : Contains (m ∷ ns) n → (m ≡ n) ⊎ Contains ns n
    split (zero, lt, e) = inl e
    split (suc i, lt, e) = inr (i, omega arith, e)

came_stays : (ns ms : List ℕ) (a b : ℕ → Meaning) (c : Call) → ((n : ℕ) → Contains ns n → Contains ms n) → ((n : ℕ) → Contains ns n → b n ≡ a n) → CameAs ns a c → CameAs ms b c
came_stays ns ms a b call.Open more same h = tt
came_stays ns ms a b (call.Put job block answer) more same h = tt
came_stays ns ms a b (call.Look job s c answer) more same h = tt
came_stays ns ms a b (call.Count job) more same h = tt
came_stays ns ms a b (call.Mend job s c blind answer) more same h = tt
came_stays ns ms a b (call.MoveBegin job c to held heard) more same h =
    (more to h.0, (λ slot. h.1 slot ∙ sym (ap (λ (m : Meaning). m.held slot) (same to h.0))), h.2 ∙ sym (ap (λ (m : Meaning). m.heard) (same to h.0)))
came_stays ns ms a b (call.MoveOne job c answer) more same h = tt
came_stays ns ms a b (call.Swap job c to held heard) more same h =
    (more to h.0, (λ slot. h.1 slot ∙ sym (ap (λ (m : Meaning). m.held slot) (same to h.0))), h.2 ∙ sym (ap (λ (m : Meaning). m.heard) (same to h.0)))

pub all_came_stay : (cs : List Call) (ns ms : List ℕ) (a b : ℕ → Meaning) → ((n : ℕ) → Contains ns n → Contains ms n) → ((n : ℕ) → Contains ns n → b n ≡ a n) → AllCame ns a cs → AllCame ms b cs
all_came_stay [] ns ms a b more same h = tt
all_came_stay (c ∷ cs) ns ms a b more same h = (came_stays ns ms a b c more same h.0, all_came_stay cs ns ms a b more same h.1)

-- one more
pub came_more : (cs : List Call) (c : Call) (ns : List ℕ) (a : ℕ → Meaning) → AllCame ns a cs → CameAs ns a c → AllCame ns a (cs ++ c ∷ [])
came_more [] c ns a h one = (one, tt)
came_more (x ∷ cs) c ns a h one = (h.0, came_more cs c ns a h.1 one)

-- an archive that a group had it has when it has grown
pub had_more : (old new : GroupView) (entries : List Entry) → Grows old new entries → (n : ℕ) → Contains (had old) n → Contains (had new) n
had_more old new entries grows n h =
    subst (λ f. Contains (archives_in f ++ arrivals new.log) n) (sym grows.first)
    (subst (λ l. Contains (archives_in old.first ++ l) n) (sym (ap arrivals grows.log ∙ arrivals-append old.log entries)) (elim (Contains-append_cases (archives_in old.first) (arrivals old.log) n h) [
      | inl x ↦ Contains-append_left (archives_in old.first) (arrivals old.log ++ arrivals entries) n x
      | inr x ↦ Contains-append_right (archives_in old.first) (arrivals old.log ++ arrivals entries) n (Contains-append_left (arrivals old.log) (arrivals entries) n x)
    ]))

-- and one that an entry brings
pub had_brought : (old new : GroupView) (e : Entry) (n : ℕ) → new.log ≡ old.log ++ e ∷ [] → Contains (arrivals (e ∷ [])) n → Contains (had new) n
had_brought old new e n log h =
    Contains-append_right (archives_in new.first) (arrivals new.log) n
    (subst (λ l. Contains l n) (sym (ap arrivals log ∙ arrivals-append old.log (e ∷ []))) (Contains-append_right (arrivals old.log) (arrivals (e ∷ [])) n h))
