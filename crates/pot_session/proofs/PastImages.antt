-- The images that a desk ever had.
use Rattle.std.proofs.Common.{◌≡◌, ◌+◌, ℕ, zero, suc, List, ◌∷◌, ◌++◌, replicate, sym, ◌∙◌, ap, subst, arith, inl, inr, append_assoc, append-nil}
use Rattle.std.specs.Prelude.{Contains}
use Rattle.std.proofs.lemmas.List.Elements.{Contains-append_left}
use Rattle.pot_outside.specs.Desks.{MayCome}
use Rattle.pot_session.specs.Desks.{CameToDesk}

-- none came
pub came_none : (before : List (List ℕ)) (image : List ℕ) → CameToDesk before image before
came_none before image = (0, sym (append-nil before))

pub came_once : (before : List (List ℕ)) (image : List ℕ) (after : List (List ℕ)) → MayCome before image after → CameToDesk before image after
came_once before image after (inl e) = (0, e ∙ sym (append-nil before))
came_once before image after (inr e) = (1, e)

replicate_more : (m n : ℕ) (x : List ℕ) → replicate m x ++ replicate n x ≡ replicate (m + n) x
replicate_more zero n x = ap (λ k. replicate k x) (let e : n ≡ 0 + n = omega arith in e)
replicate_more (suc m) n x = ap (λ l. x ∷ l) (replicate_more m n x) ∙ ap (λ k. replicate k x) (let e : suc (m + n) ≡ suc m + n = omega arith in e)

pub came_more : (before : List (List ℕ)) (image : List ℕ) (between after : List (List ℕ)) → CameToDesk before image between → CameToDesk between image after → CameToDesk before image after
came_more before image between after (m, e) (n, f) = (
  m + n,
  f ∙ (ap (λ l. l ++ replicate n image) e ∙ (append_assoc before (replicate m image) (replicate n image) ∙ ap (λ l. before ++ l) (replicate_more m n image))),
)

-- what was there before is there still
pub came_keeps : (before : List (List ℕ)) (image : List ℕ) (after : List (List ℕ)) (b : List ℕ) → CameToDesk before image after → Contains before b → Contains after b
came_keeps before image after b (n, e) has = subst (λ l. Contains l b) (sym e) (Contains-append_left before (replicate n image) b has)
