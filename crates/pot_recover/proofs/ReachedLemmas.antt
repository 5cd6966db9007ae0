-- The sets past a chain, by the pointers of their shards.
use Rattle.std.proofs.Common.{◌↔◌, inl, inr, ℕ, zero, suc, ◌+◌, ◌≤◌, List, [], ◌∷◌, length, refl, sym, ap, ◌∙◌, subst, arith}
use Rattle.pot_chains.specs.Paths.{last_of, AreLinked, IsReached}
use Rattle.pot_pointer.specs.Pointers.{blur}
use Rattle.pot_shard.specs.LinkedRings.{IsLinked}
use Rattle.pot_shard.specs.declared.shard.Shard.{Shard}
use Rattle.pot_recover.specs.Sets.{FitsChain, IsPointed, PointerLaws, IsNextShard}
use Rattle.pot_recover.specs.Groups.{IsAt}
use Rattle.pot_recover.specs.Held.{IsHeld}

-- the last of a chain
pub last_at : (m n bits : ℕ) (s : Shard) (rest : List Shard) → IsAt m n bits s.x s → AreLinked IsLinked s rest → s.x + length rest ≤ n
    → IsAt m n bits (s.x + length rest) (last_of s rest)
last_at m n bits s [] is linked few = record { need = is.need; count = is.count; bits_are = is.bits_are; point = omega arith }
last_at m n bits s (t ∷ rest) is (link, linked) few =
    elim link.next [
      | inl on ↦
          let here : IsAt m n bits t.x t = record { need = link.needed ∙ is.need; count = link.count ∙ is.count; bits_are = link.bits ∙ is.bits_are; point = refl } in
          let r = last_at m n bits t rest here linked (omega (arith, on.1, few)) in
          record { need = r.need; count = r.count; bits_are = r.bits_are; point = omega (arith, r.point, on.1) }
      | inr turned ↦ absurd (omega (arith, turned.0, is.count, few))
    ]

module _ (held : Shard → Type 0) (chain : List Shard) (m n bits : ℕ) (last : Shard) (start : IsAt m n bits m last) where
  -- what is reached in k steps stands at the point m + k
  pub reached_at : (k : ℕ) (t : Shard) → m + k ≤ n → IsReached IsLinked (FitsChain held chain) last k t → IsAt m n bits (m + k) t
  reached_at zero t few h =
      let r = subst (λ (x : Shard). IsAt m n bits m x) (sym h) start in
      record { need = r.need; count = r.count; bits_are = r.bits_are; point = omega (arith, r.point) }
  reached_at (suc k) t few (s, before, link, fit) =
      let is = reached_at k s (omega (arith, few)) before in
      elim link.next [
        | inl on ↦ record { need = link.needed ∙ is.need; count = link.count ∙ is.count; bits_are = link.bits ∙ is.bits_are; point = omega (arith, on.1, is.point) }
        | inr turned ↦ absurd (omega (arith, turned.0, is.point, is.count, few))
      ]

  -- The pointers of the next set are those of the shards at the next point that hold the fixed
  -- share and whose name a pointer of this set means.
  pub next_set : (k : ℕ) (old new : ℕ → Type 0) → m + suc k ≤ n
      → ((p : ℕ) → old p ↔ IsPointed held chain last k p)
      → ((p : ℕ) → new p ↔ IsNextShard held chain m n bits (m + suc k) old p)
      → (p : ℕ) → new p ↔ IsPointed held chain last (suc k) p
  next_set k old new few before step p = (
    λ h.
        let w = (step p).0 h in
        let t = w.0 in
        let r = (before (blur t.name bits)).0 w.5 in
        let s = r.0 in
        let is = reached_at k s (omega (arith, few)) r.1 in (
          t,
          (
            s,
            r.1,
            record {
              needed = w.2.0 ∙ sym is.need;
              count = w.2.1 ∙ sym is.count;
              bits = w.2.2 ∙ sym is.bits_are;
              next = inl (omega (arith, is.point, is.count, few), omega (arith, w.3, is.point));
              pointer = r.2 ∙ ap (blur t.name) (sym w.2.2);
            },
            (w.1, w.4),
          ),
          w.6,
        ),
    λ w.
        let t = w.0 in
        let reached = w.1 in
        let at = reached_at (suc k) t few reached in
        let s = reached.0 in
        (step p).1 (
          t,
          reached.3.0,
          (at.need, at.count, at.bits_are),
          at.point,
          reached.3.1,
          (before (blur t.name bits)).1 (s, reached.1, reached.2.pointer ∙ ap (blur t.name) at.bits_are),
          w.2,
        ),
  )

pub pointer_laws : PointerLaws
pointer_laws = record {
  first = λ blocks bits s rest one linked few blur p. (λ h. (last_of s rest, refl, h), λ w. ap (λ (t : Shard). t.pointer) (sym w.1) ∙ w.2);
  next = λ blocks bits s rest one linked long few blur k pointers found less before step p.
      next_set (IsHeld blocks bits) (s ∷ rest) s.m s.n bits (last_of s rest)
      (let r = last_at s.m s.n bits s rest (record { need = refl; count = refl; bits_are = blur; point = refl }) linked (omega (arith, one, long, few)) in
      record { need = r.need; count = r.count; bits_are = r.bits_are; point = omega (arith, r.point, one, long) })
      k _ _ less before step p;
}
