-- The images that a disk ever stood for.
use Rattle.std.proofs.Common.{◌≡◌, ◌⊎◌, ℕ, zero, suc, true, List, [], ◌∷◌, ◌++◌, drop, Option, Some, None, Result, IsErr, refl, sym, ◌∙◌, ap, subst, inl, inr}
use Rattle.std.specs.Prelude.{Contains}
use Rattle.std.specs.Cmp.Lexicographic.{same_text}
use Rattle.std.proofs.lemmas.Bool.{cases_Bool}
use Rattle.std.proofs.lemmas.Cmp.{nat_list_eq_equiv}
use Rattle.std.proofs.lemmas.List.Elements.{Contains-append_left, Contains-push}
use Rattle.std.proofs.lemmas.Map.Views.{Contains-from_any, list_any-from_Contains}
use Rattle.pot_outside.specs.Desks.{HadItsImage, MayCome}
use Rattle.pot_outside.specs.Disks.{DiskCall, Synced, seen, LeavesOnly}
use Rattle.pot_outside.specs.declared.faults.Failed.{Failed}
use Rattle.pot_safe_desk.specs.Layout.{standing, stands_for}
use Rattle.pot_safe_desk.specs.Desks.{StandsForEither, StartsOrStops, SurvivesCrashes, held_by, image_read, images_read, is_among, with_image}
use Rattle.pot_safe_desk.specs.declared.survey.Found.{Found}
use Rattle.pot_safe_desk.specs.Steps.{Surveys}
use Rattle.pot_safe_desk.proofs.DiskLemmas.{image_as_read, seen_synced}

among : (past : List (List ℕ)) (b : List ℕ) → Contains past b → is_among past b ≡ true
among past b has = list_any-from_Contains nat_list_eq_equiv b past has

from_among : (past : List (List ℕ)) (b : List ℕ) → is_among past b ≡ true → Contains past b
from_among past b e = Contains-from_any (λ x y e. same_text x y (sym e)) b past e

-- ONE MORE MOMENT

-- the image that a disk stands for is one that it ever stood for
came_with : (past : List (List ℕ)) (b : List ℕ) → Contains (with_image past (Some b)) b
came_with past b = elim (cases_Bool (is_among past b)) [
  | inl there ↦ rw there (from_among past b there)
  | inr absent ↦ rw absent (Contains-push past b)
]

may_come_with : (past : List (List ℕ)) (b : List ℕ) → MayCome past b (with_image past (Some b))
may_come_with past b = elim (cases_Bool (is_among past b)) [
  | inl there ↦ rw there (inl refl)
  | inr absent ↦ rw absent (inr refl)
]

-- one that it stood for before comes no second time
stays_with : (past : List (List ℕ)) (now : Option (List ℕ)) → ((b : List ℕ) → now ≡ Some b → Contains past b) → with_image past now ≡ past
stays_with past None had = refl
stays_with past (Some b) had = rw (among past b (had b refl)) refl

-- a moment of a replacing
comes_with : (past so_far : List (List ℕ)) (image : List ℕ) (was now : Option (List ℕ)) → ((b : List ℕ) → was ≡ Some b → Contains past b) → MayCome past image so_far
    → (now ≡ was) ⊎ (now ≡ Some image) → MayCome past image (with_image so_far now)
comes_with past so_far image was now had (inl same) (inl e) =
    inl (ap (λ n. with_image so_far n) e ∙ (stays_with so_far was (λ b is. subst (λ l. Contains l b) (sym same) (had b is)) ∙ same))
comes_with past so_far image was now had (inr came) (inl e) =
    inr (ap (λ n. with_image so_far n) e ∙ (stays_with so_far was (λ b is. subst (λ l. Contains l b) (sym came) (Contains-append_left past (image ∷ []) b (had b is))) ∙ came))
comes_with past so_far image was now had (inl same) (inr e) =
    subst (λ n. MayCome past image (with_image so_far n)) (sym e) (subst (λ l. MayCome past image (with_image l (Some image))) (sym same) (may_come_with past image))
comes_with past so_far image was now had (inr came) (inr e) =
    inr (ap (λ n. with_image so_far n) e ∙ (stays_with so_far (Some image) (λ b is. subst (λ l. Contains l b) (sym came) (subst (λ c. Contains (past ++ image ∷ []) c) (let h : image ≡ b = cc in h) (Contains-push past image))) ∙ came))

-- ALL MOMENTS

-- a disk to which nothing was written stands for no image
blank : stands_for (λ _. 0) ≡ None
unfolding stands_for standing
blank = refl

nothing_seen : seen [] ≡ (λ _. 0)
unfolding seen
nothing_seen = refl

pub had : (calls : List DiskCall) → HadItsImage (held_by calls)
unfolding images_read
had [] b e = absurd (let h : Some b ≡ None = sym e ∙ (ap stands_for nothing_seen ∙ blank) in cc)
had (call ∷ older) b e = subst (λ o. Contains (with_image (images_read older) o) b) (sym e) (came_with (images_read older) b)

-- a sync changes nothing of it
read_on : (old : List DiskCall) → image_read (Synced ∷ old) ≡ image_read old
read_on old = ap stands_for (seen_synced old)

images_on : (old : List DiskCall) → images_read (Synced ∷ old) ≡ images_read old
unfolding images_read
images_on old = ap (λ n. with_image (images_read old) n) (read_on old) ∙ stays_with (images_read old) (image_read old) (had old)

held_on : (old : List DiskCall) → held_by (Synced ∷ old) ≡ held_by old
held_on old = λ i. record { now = read_on old i; past = images_on old i }

pub held_kept : (old new : List DiskCall) (s : Result Found Failed) → Surveys old new s → held_by new ≡ held_by old
held_kept old new s surveys = elim surveys.calls [ inl stops ↦ ap held_by stops.0 | inr synced ↦ ap held_by synced ∙ held_on old ]

-- where each moment has what was there before or the new image, no other came
each_comes : (image : List ℕ) (old since : List DiskCall) → ((unmade : ℕ) → (image_read (drop unmade since ++ old) ≡ image_read old) ⊎ (image_read (drop unmade since ++ old) ≡ Some image))
    → MayCome (images_read old) image (images_read (since ++ old))
unfolding images_read
each_comes image old [] each = inl refl
each_comes image old (call ∷ since) each =
    comes_with (images_read old) (images_read (since ++ old)) image (image_read old) (image_read (call ∷ since ++ old)) (had old) (each_comes image old since (λ n. each (suc n))) (each zero)

starts_come : (image : List ℕ) (old new : List DiskCall) → LeavesOnly (StandsForEither (image_read old) image) (Synced ∷ old) new → MayCome (images_read old) image (images_read new)
starts_come image old new starts =
    subst (λ l. MayCome (images_read old) image (images_read l)) (sym starts.calls)
    (subst (λ past. MayCome past image (images_read (starts.since ++ Synced ∷ old))) (images_on old)
    (each_comes image (Synced ∷ old) starts.since (λ n. elim (starts.each n (seen (drop n starts.since ++ Synced ∷ old)) (image_as_read _)) [
      | inl e ↦ inl (e ∙ sym (read_on old))
      | inr e ↦ inr e
    ])))

pub comes : (image : List ℕ) (old new : List DiskCall) (r : Result (Unit {0}) Failed) → SurvivesCrashes image old new r → MayCome (images_read old) image (images_read new)
comes image old new r s = left r s.found
  where
    left : (r : Result (Unit {0}) Failed) → StartsOrStops old new image (IsErr r) → MayCome (images_read old) image (images_read new)
    left r (inl stops) = inl (ap images_read stops.0)
    left r (inr starts) = starts_come image old new starts
