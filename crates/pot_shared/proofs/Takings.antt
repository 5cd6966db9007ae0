-- What archives meant when their groups took them, as plain lists.
use Rattle.std.proofs.Common.{◌≡◌, ◌⊎◌, ◌<◌, ◌^◌, ℕ, zero, suc, inl, inr, List, [], ◌∷◌, ◌++◌, length, Option, Some, refl, sym, ap, ◌∙◌, subst, arith}
use Rattle.std.specs.Prelude.{slice_get}
use Rattle.std.proofs.lemmas.Option.{same_Some}
use Rattle.pot_bytes.proofs.Basis.{last_or}
use Rattle.pot_outside.specs.Archives.{HeldBlocks, Meaning, IsMeant}
use Rattle.pot_shelves.specs.Shelves.{Shelves}
use Rattle.pot_shared.specs.declared.member.Taking.{Taking}
use Rattle.pot_shared.specs.Coming.{first_blocks, blocks_of, taking_of}
use Rattle.pot_shared.specs.Members.{taking_at}

abbrev made : ℕ → ℕ → List (Option (List ℕ)) → List (List ℕ) → List (ℕ × List ℕ) → Taking
made f l b h s = record { marks = record { faults = f; losses = l }; blocks = b; history = h; heard = s }

-- what means the same was taken the same
pub taking_same : (m a : Meaning) → IsMeant m a → taking_of a ≡ taking_of m
taking_same m a is =
    ap (λ f. made f a.losses (blocks_of a.held) a.history a.heard) is.faulted
    ∙ ap (λ l. made m.faults l (blocks_of a.held) a.history a.heard) is.lost
    ∙ ap (λ h. made m.faults m.losses (blocks_of h) a.history a.heard) (λ i k. is.blocks k i)
    ∙ ap (λ h. made m.faults m.losses (blocks_of m.held) h a.heard) is.past
    ∙ ap (λ s. made m.faults m.losses (blocks_of m.held) m.history s) is.sums

-- an archive that was taken as it means, with its counts as marks
pub taking_is : (s : Shelves) (n : ℕ) (a : Meaning) → s.faults_taken n ≡ a.faults → s.losses_taken n ≡ a.losses → s.taken n ≡ a → taking_at s n ≡ taking_of a
taking_is s n a f l t =
    ap (λ f. made f (s.losses_taken n) (blocks_of (s.taken n).held) (s.taken n).history (s.taken n).heard) f
    ∙ ap (λ l. made a.faults l (blocks_of (s.taken n).held) (s.taken n).history (s.taken n).heard) l
    ∙ ap (λ (m : Meaning). made a.faults a.losses (blocks_of m.held) m.history m.heard) t

-- marks and meanings that stay
pub taking_stays : (old new : Shelves) (n : ℕ) → new.faults_taken n ≡ old.faults_taken n → new.losses_taken n ≡ old.losses_taken n → new.taken n ≡ old.taken n → taking_at new n ≡ taking_at old n
taking_stays old new n f l t =
    ap (λ f. made f (new.losses_taken n) (blocks_of (new.taken n).held) (new.taken n).history (new.taken n).heard) f
    ∙ ap (λ l. made (old.faults_taken n) l (blocks_of (new.taken n).held) (new.taken n).history (new.taken n).heard) l
    ∙ ap (λ (m : Meaning). made (old.faults_taken n) (old.losses_taken n) (blocks_of m.held) m.history m.heard) t

-- a block by its slot
first_long : (n : ℕ) (f : HeldBlocks) → length (first_blocks n f) ≡ n
unfolding first_blocks
first_long zero f = refl
first_long (suc n) f = length_push (first_blocks n f) (f n) ∙ ap suc (first_long n f)
  where
    length_push : (xs : List (Option (List ℕ))) (x : Option (List ℕ)) → length (xs ++ x ∷ []) ≡ suc (length xs)
    length_push [] x = refl
    length_push (y ∷ xs) x = ap suc (length_push xs x)

get_front : (xs : List (Option (List ℕ))) (x : Option (List ℕ)) (k : ℕ) → k < length xs → slice_get (xs ++ x ∷ []) k ≡ slice_get xs k
get_front [] x k l = absurd (omega (arith, l))
get_front (y ∷ xs) x zero l = refl
get_front (y ∷ xs) x (suc k) l = get_front xs x k (omega (arith, l))

get_last : (xs : List (Option (List ℕ))) (x : Option (List ℕ)) → slice_get (xs ++ x ∷ []) (length xs) ≡ Some x
get_last [] x = refl
get_last (y ∷ xs) x = get_last xs x

first_at : (n : ℕ) (f : HeldBlocks) (k : ℕ) → k < n → slice_get (first_blocks n f) k ≡ Some (f k)
unfolding first_blocks
first_at zero f k l = absurd (omega (arith, l))
first_at (suc n) f k l = elim (last_or k n l) [
  | inl e ↦ subst (λ j. slice_get (first_blocks n f ++ f n ∷ []) j ≡ Some (f j)) (sym e)
      (ap (λ j. slice_get (first_blocks n f ++ f n ∷ []) j) (sym (first_long n f)) ∙ get_last (first_blocks n f) (f n))
  | inr lt ↦ get_front (first_blocks n f) (f n) k (subst (λ j. k < j) (sym (first_long n f)) lt) ∙ first_at n f k lt
]

-- the blocks of a slot that two archives were taken with
pub blocks_same : (f h : HeldBlocks) → blocks_of f ≡ blocks_of h → (k : ℕ) → k < 2 ^ 32 → f k ≡ h k
blocks_same f h e k l = same_Some (f k) (h k) (sym (first_at (2 ^ 32) f k l) ∙ ap (λ bs. slice_get bs k) e ∙ first_at (2 ^ 32) h k l)
