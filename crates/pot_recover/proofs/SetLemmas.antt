-- The pointers of the shards that some pointers mean.
use Rattle.std.proofs.Common.{◌≡◌, ◌↔◌, ◌⊎◌, inl, inr, ℕ, zero, suc, ◌+◌, ◌<◌, List, [], ◌∷◌, ◌++◌, map, length, Some, refl, sym, ap, ◌∙◌, subst, take, get_or, add-one}
use Rattle.std.specs.Prelude.{slice_get}
use Rattle.std.specs.List.{Contains}
use Rattle.std.proofs.lemmas.Option.{same_Some}
use Rattle.pot_pointer.specs.Pointers.{blur, IsCandidate}
use Rattle.pot_pointer.specs.declared.Named.{Named}
use Rattle.pot_chains.specs.Listed.{IsIn}
use Rattle.pot_chains.proofs.ListedLemmas.{in_append, in_left, in_right, in_take_more, in_from_contains, contains_from_in}
use Rattle.pot_recover.specs.Reached.{name_of, IsHit, IsNextPointer}
use Rattle.pot_recover.specs.declared.held.Held.{Held}

pub in_pushed : (old new : List ℕ) (q : ℕ) → new ≡ old ++ q ∷ [] → (p : ℕ) → IsIn new p ↔ (IsIn old p ⊎ (q ≡ p))
in_pushed old new q e p = (
  λ h. elim (in_append old (q ∷ []) p (subst (λ l. IsIn l p) e h)) [ inl a ↦ inl a | inr b ↦ elim b [ inl same ↦ inr same | inr none ↦ absurd none ] ],
  λ h. subst (λ l. IsIn l p) (sym e) (elim h [ inl a ↦ in_left old (q ∷ []) p a | inr same ↦ in_right old (q ∷ []) p (inl same) ]),
)

pub hits_more : (there : List Held) (share : List ℕ) (cands : List Named) (i : ℕ) (d : Named) (shown : Held) (old found new : List ℕ) → i < length cands
    → slice_get there (get_or cands i d).position ≡ Some shown
    → ((p : ℕ) → IsIn found p ↔ (IsIn old p ⊎ IsHit there share (take i cands) p))
    → ((p : ℕ) → IsIn new p ↔ (IsIn found p ⊎ ((shown.share.now ≡ share) × (shown.pointer ≡ p))))
    → (p : ℕ) → IsIn new p ↔ (IsIn old p ⊎ IsHit there share (take (i + 1) cands) p)
hits_more there share cands i d shown old found new inside at before step p =
    subst (λ k. IsIn new p ↔ (IsIn old p ⊎ IsHit there share (take k cands) p)) (sym (add-one i)) (
      λ h. elim ((step p).0 h) [
        | inl was ↦ elim ((before p).0 was) [
          | inl first ↦ inl first
          | inr hit ↦ inr (hit.0, (in_take_more i cands d hit.0 inside).1 (inl hit.1), hit.2)
        ]
        | inr both ↦ inr (get_or cands i d, (in_take_more i cands d (get_or cands i d) inside).1 (inr refl), (shown, at, both.0, both.1))
      ],
      λ h. elim h [
        | inl first ↦ (step p).1 (inl ((before p).1 (inl first)))
        | inr hit ↦ elim ((in_take_more i cands d hit.0 inside).0 hit.1) [
          | inl front ↦ (step p).1 (inl ((before p).1 (inr (hit.0, front, hit.2))))
          | inr is ↦
              let same : shown ≡ hit.2.0 = same_Some shown hit.2.0 (sym at ∙ (ap (λ (e : Named). slice_get there e.position) is ∙ hit.2.1)) in
              (step p).1 (inr (subst (λ (s : Held). (s.share.now ≡ share) × (s.pointer ≡ p)) (sym same) (hit.2.2, hit.2.3)))
        ]
      ],
    )

named_there : (there : List Held) (q : ℕ) (t : Held) → slice_get there q ≡ Some t → slice_get (map name_of there) q ≡ Some t.name
named_there [] q t e = absurd (cc)
named_there (s ∷ there) zero t e = ap (λ (x : Held). Some x.name) (same_Some s t e)
named_there (s ∷ there) (suc q) t e = named_there there q t e

pub pointers_more : (pointers : List ℕ) (there : List Held) (names : List ℕ) (bits : ℕ) (share : List ℕ) (cands : List Named) (i : ℕ) (found new : List ℕ)
    → i < length pointers → names ≡ map name_of there
    → ((e : Named) → Contains cands e ↔ IsCandidate names (get_or pointers i 0) bits e)
    → ((p : ℕ) → IsIn found p ↔ IsNextPointer (take i pointers) there bits share p)
    → ((p : ℕ) → IsIn new p ↔ (IsIn found p ⊎ IsHit there share cands p))
    → (p : ℕ) → IsIn new p ↔ IsNextPointer (take (i + 1) pointers) there bits share p
pointers_more pointers there names bits share cands i found new inside indexed exact before step p =
    subst (λ k. IsIn new p ↔ IsNextPointer (take k pointers) there bits share p) (sym (add-one i)) (
      λ h. elim ((step p).0 h) [
        | inl was ↦
            let w = (before p).0 was in
            (w.0, w.1, w.2, (in_take_more i pointers 0 (blur w.1.name bits) inside).1 (inl w.3), w.4, w.5)
        | inr hit ↦
            let candidate = (exact hit.0).0 (contains_from_in cands hit.0 hit.1) in
            let t = hit.2.0 in
            let named = named_there there hit.0.position t hit.2.1 in
            let name : hit.0.name ≡ t.name = same_Some hit.0.name t.name (sym candidate.0 ∙ (ap (λ l. slice_get l hit.0.position) indexed ∙ named)) in (
              hit.0.position,
              t,
              hit.2.1,
              (in_take_more i pointers 0 (blur t.name bits) inside).1 (inr (sym candidate.1 ∙ ap (λ n. blur n bits) name)),
              hit.2.2,
              hit.2.3,
            )
      ],
      λ w. elim ((in_take_more i pointers 0 (blur w.1.name bits) inside).0 w.3) [
        | inl front ↦ (step p).1 (inl ((before p).1 (w.0, w.1, w.2, front, w.4, w.5)))
        | inr is ↦
            let e : Named = record { name = w.1.name; position = w.0 } in
            let candidate : IsCandidate names (get_or pointers i 0) bits e = (ap (λ l. slice_get l w.0) indexed ∙ named_there there w.0 w.1 w.2, sym is) in
            (step p).1 (inr (e, in_from_contains cands e ((exact e).1 candidate), (w.1, w.2, w.4, w.5)))
      ],
    )

pub none_yet : (pointers : List ℕ) (there : List Held) (bits : ℕ) (share : List ℕ) (p : ℕ) → IsIn [] p ↔ IsNextPointer (take 0 pointers) there bits share p
none_yet pointers there bits share p = (λ h. absurd h, λ w. absurd w.3)
