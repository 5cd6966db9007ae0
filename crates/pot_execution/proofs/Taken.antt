-- What archives meant at their taking, and their marks, over a call.
use Rattle.std.proofs.Common.{◌≡◌, ◌<◌, true, ℕ, List, Some, None, inl, inr, sym, ap, ◌∙◌, subst}
use Rattle.std.specs.Prelude.{Contains}
use Rattle.std.proofs.lemmas.Bool.{cases_eq}
use Rattle.std.proofs.lemmas.List.Elements.{Contains-append_left}
use Rattle.pot_outside.specs.Archives.{IsCoherent, Meaning}
use Rattle.pot_outside.specs.Counts.{Rose}
use Rattle.pot_machine.specs.declared.entry.Entry.{Entry}
use Rattle.pot_machine.specs.Table.{Table, width, archives_in, serving_at}
use Rattle.pot_steps.specs.Stripe.{Sound}
use Rattle.pot_steps.specs.Holdings.{stripe_of}
use Rattle.pot_steps.specs.GroupStep.{GroupState, StartStep}
use Rattle.pot_shelves.specs.Shelves.{Brings, Keeps, Shelves}
use Rattle.pot_group.specs.Arrivals.{HasArrived, arrivals}
use Rattle.pot_group.specs.Calls.{Grows}
use Rattle.pot_group.specs.Group.{GroupView}
use Rattle.pot_execution.specs.Execution.{FailedInOpening, GoneOrFailed, IsUnopened}
use Rattle.pot_execution.proofs.Came.{among}

-- each archive was coherent when it was taken
abbrev pub AreCoherent : Shelves → Type 0
AreCoherent s = (n : ℕ) → IsCoherent (s.taken n)

pub coherent_keeps : (old new : Shelves) → Keeps old new → AreCoherent old → AreCoherent new
coherent_keeps old new keeps all n = subst IsCoherent (sym (keeps.taken n)) (all n)

pub coherent_brings : (told : Type 0) (number : ℕ) (m : Meaning) (old new : Shelves) → Brings told number m old new → told → AreCoherent old → AreCoherent new
coherent_brings told number m old new brings tells all n = elim (cases_eq n number) [
  | inl e ↦ subst IsCoherent (sym (ap new.taken e ∙ brings.taken)) (brings.coherent tells)
  | inr ne ↦ subst IsCoherent (sym (brings.same_taken n ne)) (all n)
]

-- an archive that holds a block before an opening is one of those of the table
pub served_first : (first : Table) (taken : ℕ → Meaning) (start : GroupState) → IsUnopened first taken start → (n slot : ℕ) (b : List ℕ) → start.held n slot ≡ Some b → Contains (archives_in first) n
served_first first taken start unopened n slot b held = elim (among (archives_in first) n) [ inl h ↦ h | inr none ↦ absurd (no (sym held ∙ unopened.none n slot none)) ]
  where
    no : {x : List ℕ} → Some x ≡ None → ⊥
    no e = cc

-- the marks of the archives of the first table stay
marks_stay : (old new : GroupView) (entries : List Entry) → HasArrived old.first old.log old.shelves.numbers → Grows old new entries → (n : ℕ) → Contains (archives_in old.first) n
    → FailedInOpening old.shelves n → FailedInOpening new.shelves n
marks_stay old new entries arrived grows n h rose =
    let stands = subst (λ ns. Contains ns n) (sym arrived) (Contains-append_left (archives_in old.first) (arrivals old.log) n h) in
    subst (λ x. Rose x (new.shelves.faults_opened n)) (sym (grows.faults_taken n stands)) (subst (λ y. Rose (old.shelves.faults_taken n) y) (sym (grows.faults_opened n stands)) rose)

-- and what an opening found gone
abbrev pub Finds : Shelves → (start opened : GroupState) → StartStep start opened → Table → Type 0
Finds s start opened opening t =
    (k c : ℕ) → k < t.stripes → c < width t → opening.gone k c ≡ true → Sound (stripe_of t opened.held k) c → FailedInOpening s (serving_at t k c)

pub finds_stay : (old new : GroupView) (entries : List Entry) (start opened : GroupState) (opening : StartStep start opened) → HasArrived old.first old.log old.shelves.numbers → Grows old new entries
    → IsUnopened old.first old.shelves.taken start → GoneOrFailed old start opened opening → GoneOrFailed new start opened opening
finds_stay old new entries start opened opening arrived grows unopened finds =
    subst (Finds new.shelves start opened opening) (sym grows.first)
    (λ k c lk lc gone sound. marks_stay old new entries arrived grows (serving_at old.first k c)
    (served_first old.first old.shelves.taken start unopened (serving_at old.first k c) k sound.0 (opening.loses (serving_at old.first k c) k sound.0 sound.1.held)) (finds k c lk lc gone sound))
