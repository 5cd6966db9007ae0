-- Losses, and the blocks that were ever held.
use Rattle.std.proofs.Common.{◌≡◌, ◌<◌, ◌+◌, ◌^◌, ℕ, Bool, true, false, List, [], ◌∷◌, ◌++◌, refl, ap, sym, ◌∙◌, arith, cond, inl, inr, subst}
use Rattle.std.specs.Prelude.{Some, None, nat_eq, ◌==◌, ◌&&◌, ◌||◌}
use Rattle.std.specs.Cmp.{unsigned_tied}
use Rattle.std.specs.Ordering.{nat_cmp}
use Rattle.std.specs.BTreeMap.{BTreeMap, get, is_at}
use Rattle.std.specs.Cmp.Lexicographic.{pointwise}
use Rattle.std.proofs.lemmas.Bool.Decides.{eqb_tells, nat_tests}
use Rattle.std.proofs.lemmas.Cmp.{nat_list_eq_equiv}
use Rattle.std.proofs.lemmas.List.Folds.{list_any-append}
use Rattle.std.proofs.lemmas.List.Sums.{sum_by-cons}
use Rattle.std.proofs.lemmas.Map.Views.{Contains-from_any}
use Rattle.pot_outside.specs.Archives.{HeldBlocks, OnlyLoses, at_slot, IsRemembered}
use Rattle.pot_doubles.specs.Losses.{goes_missing, losses_at, without, raised_by}
use Rattle.pot_doubles.specs.Kept.{AreBlocksKept, AreSlotsLow, is_among}
use Rattle.pot_doubles.specs.declared.losses.Loss.{Loss}

-- where no loss is listed for a call, no slot's block goes missing
pub none_missing : (losses : List Loss) (call slot : ℕ) → losses_at losses call ≡ 0 → goes_missing losses call slot ≡ false
none_missing [] call slot e = refl
none_missing (l ∷ losses) call slot e = at (l.call == call) (l.slot == slot) (losses_at losses call) (goes_missing losses call slot) (none_missing losses call slot)
    (sym (sum_by-cons (λ (x : Loss). cond (x.call == call) 1 0) l losses) ∙ e)
  where
    at : (here there : Bool) (n : ℕ) (rest : Bool) → (n ≡ 0 → rest ≡ false) → cond here 1 0 + n ≡ 0 → (here && there || rest) ≡ false
    at true there n rest f z = absurd (omega arith)
    at false there n rest f z = f (omega arith)

-- the losses that are listed lose blocks and are counted
pub loses_listed : (losses : List Loss) (call : ℕ) (old new : HeldBlocks) (before now : ℕ) → before < 2 ^ 64
    → ((k : ℕ) → new k ≡ without losses call old k) → now ≡ raised_by (losses_at losses call) before → OnlyLoses old new before now
loses_listed losses call old new before now fits gone count = record {
  later = omega arith;
  keeps = (λ k b h. was (goes_missing losses call k) k b (sym (gone k) ∙ h));
  same = (λ k q l. gone k ∙ ap (λ t. cond t None (old k)) (none_missing losses call k (omega arith)));
}
  where
    was : (t : Bool) (k : ℕ) (b : List ℕ) → cond t None (old k) ≡ Some b → old k ≡ Some b
    was true k b h = absurd (cc)
    was false k b h = h

-- a slot that keeps what it holds
pub at_same : (a : HeldBlocks) (slot : ℕ) (k : ℕ) → at_slot a slot (a slot) k ≡ a k
at_same a slot k = elim (eqb_tells k slot) [ inl e ↦ rw e.0 (ap a (sym e.1)) | inr e ↦ rw e.0 ]

pub loses_at_same : (a b : HeldBlocks) (slot before now : ℕ) → OnlyLoses a b before now → OnlyLoses (at_slot a slot (a slot)) b before now
loses_at_same a b slot before now o = record {
  later = o.later;
  keeps = (λ k x h. at_same a slot k ∙ o.keeps k x h);
  same = (λ k q l. o.same k q l ∙ sym (at_same a slot k));
}

same_list : (x y : List ℕ) → pointwise nat_eq x y ≡ true → x ≡ y
same_list [] [] e = refl
same_list [] (b ∷ y) e = absurd (cc)
same_list (a ∷ x) [] e = absurd (cc)
same_list (a ∷ x) (b ∷ y) e = grind (arith, nat_tests, same_list x y)

-- the blocks that are held are among those that were ever held
pub remembered : (blocks : BTreeMap ℕ (List ℕ)) (past : List (List ℕ)) → AreBlocksKept blocks past → IsRemembered (get nat_cmp blocks) past
remembered blocks past kept = λ k b h. Contains-from_any same_list b past (kept k b h)

-- a block that is remembered and then written keeps that so
pub kept_written : (m n : BTreeMap ℕ (List ℕ)) (past : List (List ℕ)) (slot : ℕ) (block : List ℕ) → AreBlocksKept m past
    → ((q : ℕ) → get nat_cmp n q ≡ cond (is_at (nat_cmp slot) q) (Some block) (get nat_cmp m q)) → AreBlocksKept n (past ++ block ∷ [])
kept_written m n past slot block kept after = λ k b h. at (is_at (nat_cmp slot) k) k b (sym (after k) ∙ h)
  where
    at : (t : Bool) (k : ℕ) (b : List ℕ) → cond t (Some block) (get nat_cmp m k) ≡ Some b → is_among (past ++ block ∷ []) b ≡ true
    at true k b h =
        let e : block ≡ b = cc in
        let r : pointwise nat_eq b block ≡ true = rw e (nat_list_eq_equiv.refl b) in
        grind (arith, list_any-append)
    at false k b h =
        let r : is_among past b ≡ true = kept k b h in
        grind (arith, list_any-append)

-- and none is held from slot 2^32 on, where none was and the slot is below it
pub low_written : (m n : BTreeMap ℕ (List ℕ)) (slot : ℕ) (block : List ℕ) → slot < 2 ^ 32 → AreSlotsLow m
    → ((q : ℕ) → get nat_cmp n q ≡ cond (is_at (nat_cmp slot) q) (Some block) (get nat_cmp m q)) → AreSlotsLow n
low_written m n slot block fits low after = λ k b h. elim (eqb_tells slot k) [
  | inl e ↦ subst (λ j. j < 2 ^ 32) e.1 fits
  | inr e ↦ low k b (sym (after k ∙ ap (λ t. cond t (Some block) (get nat_cmp m k)) (unsigned_tied slot k ∙ e.0)) ∙ h)
]
