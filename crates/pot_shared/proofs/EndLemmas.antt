-- How a vault ends.
use Rattle.std.proofs.Common.{◌≡◌, List, [], ◌∷◌, ◌++◌, length, ap, sym, ◌∙◌, subst, arith}
use Rattle.std.proofs.lemmas.List.{length-append}
use Rattle.std.specs.Prelude.{Some, slice_get}
use Rattle.pot_bytes.specs.declared.rack.Rack.{Rack}
use Rattle.pot_turn.specs.declared.name.TurnName.{TurnName}
use Rattle.pot_rows.specs.Ends.{Closed}
use Rattle.pot_rows.specs.Rows.{view_at}
use Rattle.pot_shared.specs.Catalogs.{CatalogView, IndexPasses, IsIndexReady, IsIndexOf, origin_of}

-- what the origin says of the index that was handed out
pub index_is : (rack : Rack) (names turn : List TurnName) (row : IndexPasses) (c : CatalogView) → IsIndexReady rack names turn row
    → Closed c.index.log (origin_of c) (view_at row 0) → (c.index.rack ≡ rack) × (c.kept.names ≡ names)
index_is rack names turn row c ready closed = subst (λ o. IsIndexOf rack names o) (sym closed.named) ready.origin

-- the index that was handed out is that of the rack, over groups under these turns
pub index_closed : (rack : Rack) (names turn : List TurnName) (row : IndexPasses) (c : CatalogView) → IsIndexReady rack names turn row
    → Closed c.index.log (origin_of c) (view_at row 0) → Closed c.index.log (record { rack = rack; read = c.index.read; names = names }) (view_at row 0)
index_closed rack names turn row c ready closed =
    let is = index_is rack names turn row c ready closed in
    subst (λ r. Closed c.index.log (record { rack = r; read = c.index.read; names = names }) (view_at row 0)) is.0
    (subst (λ ns. Closed c.index.log (record { rack = c.index.rack; read = c.index.read; names = ns }) (view_at row 0)) is.1 closed)

-- the last of a list of one is its first
pub last_alone : {X : Type 0} (ys xs : List X) (x : X) → ys ≡ xs ++ x ∷ [] → length ys ≡ 1 → slice_get ys 0 ≡ Some x
last_alone ys [] x is long = ap (λ l. slice_get l 0) is
last_alone ys (z ∷ xs) x is long = absurd (let l = length-append xs (x ∷ []) in let m = ap length is in omega (arith, long, l, m))

-- and what was put into an empty list is that one
pub only_one : {X : Type 0} (ys zs xs : List X) (x y : X) → zs ≡ [] → ys ≡ zs ++ x ∷ [] → ys ≡ xs ++ y ∷ [] → y ≡ x
only_one ys zs xs x y none is at =
    let one : ys ≡ x ∷ [] = is ∙ ap (λ l. l ++ x ∷ []) none in
    same_some y x (sym (last_alone ys xs y at (ap length one)) ∙ ap (λ l. slice_get l 0) one)
  where
    same_some : {Y : Type 0} (a b : Y) → Some a ≡ Some b → a ≡ b
    same_some a b e = cc
