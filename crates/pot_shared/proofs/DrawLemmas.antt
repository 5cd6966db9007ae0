-- The blinds of entries, and the stretches of a stream that they are.
use Rattle.std.proofs.Common.{◌≡◌, ℕ, zero, suc, Bool, true, false, List, [], ◌∷◌, ◌++◌, ◌+◌, refl, ap, sym, ◌∙◌, append_assoc, arith}
use Rattle.std.specs.Prelude.{Option, None, Some, filter, ◌==◌}
use Rattle.std.proofs.lemmas.Bool.{eq-eqb}
use Rattle.pot_machine.specs.declared.entry.Entry.{Entry}
use Rattle.pot_machine.specs.declared.entry.Entry.TheVariants.{Begin}
use Rattle.pot_machine.specs.Logs.{own}
use Rattle.pot_pads.specs.Pads.{Pads, moved, next_bytes}
use Rattle.pot_worked.specs.WroteOnlyFor.{added}
use Rattle.pot_worked.proofs.WroteOnlyForLemmas.{own_in_parts}
use Rattle.pot_rows.specs.Rows.{view_at}
use Rattle.pot_rows.specs.Works.{RowWroteOnlyFor}
use Rattle.pot_shared.specs.declared.member.Logged.{Logged}
use Rattle.pot_shared.specs.Members.{entries_of}
use Rattle.pot_shared.specs.Ready.{GroupPasses}
use Rattle.pot_shared.specs.MendCalls.{blind_at, drawn, stretches}
use Rattle.pot_shared.specs.Works.{blind_with, blinds_in, blinds_by, gained, of_job}
use Rattle.pot_shared.specs.Blinds.{Draw, behind, blinds_for, dropped, given_to, is_begin}
use Rattle.pot_shared.proofs.WorkLemmas.{own_entries}

-- BLINDS OF ENTRIES

pub blinds_append : (xs ys : List Logged) → blinds_in (xs ++ ys) ≡ blinds_in xs ++ blinds_in ys
blinds_append [] ys = refl
blinds_append (x ∷ xs) ys = ap (λ bs. blind_with x.blind x.entry ++ bs) (blinds_append xs ys) ∙ sym (append_assoc (blind_with x.blind x.entry) (blinds_in xs) (blinds_in ys))

no_begin : (o : Option (List ℕ)) (e : Entry) → is_begin e ≡ false → blind_with o e ≡ []
no_begin None e not = refl
no_begin (Some b) (Begin job s c) not = absurd (cc not)
no_begin (Some b) e not = refl

none_at : (b : Bool) (x : Logged) (xs : List Logged) → is_begin x.entry ≡ b → filter is_begin (entries_of (x ∷ xs)) ≡ [] → (filter is_begin (entries_of xs) ≡ [] → blinds_in xs ≡ [])
    → blinds_in (x ∷ xs) ≡ []
none_at true x xs is none more =
    let first : filter is_begin (entries_of (x ∷ xs)) ≡ x.entry ∷ filter is_begin (entries_of xs) = rw is refl in
    let some : x.entry ∷ filter is_begin (entries_of xs) ≡ [] = sym first ∙ none in
    absurd (cc some)
none_at false x xs is none more =
    let first : filter is_begin (entries_of (x ∷ xs)) ≡ filter is_begin (entries_of xs) = rw is refl in
    ap (λ bs. bs ++ blinds_in xs) (no_begin x.blind x.entry is) ∙ more (sym first ∙ none)

-- entries of which none is a Begin have none
pub no_blinds : (xs : List Logged) → filter is_begin (entries_of xs) ≡ [] → blinds_in xs ≡ []
no_blinds [] none = refl
no_blinds (x ∷ xs) none = none_at (is_begin x.entry) x xs refl none (no_blinds xs)

-- BLINDS OF A JOB

module _ (job : ℕ) where
  -- part after part
  pub by_more : (u v w : GroupPasses) → RowWroteOnlyFor (of_job job) u v → RowWroteOnlyFor (of_job job) v w → (g : ℕ) → blinds_by job u w g ≡ blinds_by job u v g ++ blinds_by job v w g
  by_more u v w p q g =
      ap blinds_in (own_in_parts (of_job job) (view_at u g) (view_at v g) (view_at w g) (p g) (q g))
      ∙ blinds_append (filter (of_job job) (added (view_at u g) (view_at v g))) (filter (of_job job) (added (view_at v g) (view_at w g)))

  -- where no relay began
  pub by_none : (old new : GroupPasses) (g : ℕ) → filter is_begin (own job (gained old new g)) ≡ [] → blinds_by job old new g ≡ []
  by_none old new g none =
      let its = added (view_at old g) (view_at new g) in
      no_blinds (filter (of_job job) its) (ap (filter is_begin) (sym (own_entries job its)) ∙ none)

-- STRETCHES

pub drawn_on : (pads : Pads) (n : ℕ) → drawn (moved pads 1024) n ≡ drawn pads (suc n)
drawn_on pads zero = refl
drawn_on pads (suc n) = ap (λ p. moved p 1024) (drawn_on pads n)

-- one more
pub stretches_more : (pads : Pads) (n : ℕ) → stretches pads (suc n) ≡ stretches pads n ++ blind_at pads n ∷ []
stretches_more pads zero = refl
stretches_more pads (suc n) = ap (λ bs. next_bytes pads 1024 ∷ bs)
    (stretches_more (moved pads 1024) n ∙ ap (λ p. stretches (moved pads 1024) n ++ next_bytes p 1024 ∷ []) (drawn_on pads n))

-- DRAWS

module _ (g : ℕ) where
  pub for_append : (pads : Pads) (xs ys : List Draw) → blinds_for g pads (xs ++ ys) ≡ blinds_for g pads xs ++ blinds_for g (behind pads xs) ys
  for_append pads [] ys = refl
  for_append pads (x ∷ xs) ys = ap (λ bs. given_to g x (next_bytes pads 1024) ++ bs) (for_append (moved pads 1024) xs ys)
      ∙ sym (append_assoc (given_to g x (next_bytes pads 1024)) (blinds_for g (moved pads 1024) xs) (blinds_for g (behind (moved pads 1024) xs) ys))

pub behind_append : (pads : Pads) (xs ys : List Draw) → behind pads (xs ++ ys) ≡ behind (behind pads xs) ys
behind_append pads [] ys = refl
behind_append pads (x ∷ xs) ys = behind_append (moved pads 1024) xs ys

pub dropped_append : (xs ys : List Draw) → dropped (xs ++ ys) ≡ dropped xs + dropped ys
dropped_append [] ys = omega arith
dropped_append (None ∷ xs) ys = (let more = dropped_append xs ys in omega (arith, more))
dropped_append (Some g ∷ xs) ys = dropped_append xs ys

-- so many for one group, and one that is dropped
abbrev pub draws_of : ℕ → ℕ → List Draw
draws_of group zero = None ∷ []
draws_of group (suc n) = Some group ∷ draws_of group n

pub dropped_draws : (group n : ℕ) → dropped (draws_of group n) ≡ 1
dropped_draws group zero = refl
dropped_draws group (suc n) = dropped_draws group n

pub behind_draws : (group : ℕ) (pads : Pads) (n : ℕ) → behind pads (draws_of group n) ≡ drawn pads (suc n)
behind_draws group pads zero = refl
behind_draws group pads (suc n) = behind_draws group (moved pads 1024) n ∙ drawn_on pads (suc n)

pub for_group : (group : ℕ) (pads : Pads) (n : ℕ) → blinds_for group pads (draws_of group n) ≡ stretches pads n
for_group group pads zero = refl
for_group group pads (suc n) = rw (eq-eqb group group refl) (ap (λ bs. next_bytes pads 1024 ∷ bs) (for_group group (moved pads 1024) n))

pub for_other : (group g : ℕ) (pads : Pads) (n : ℕ) → (group == g) ≡ false → blinds_for g pads (draws_of group n) ≡ []
for_other group g pads zero ne = refl
for_other group g pads (suc n) ne = rw ne (for_other group g (moved pads 1024) n ne)
