use Rattle.std.proofs.Common.{◌≡◌, ◌<◌, ◌++◌, ◌∷◌, [], length, take, drop, ap, ap₂, sym, ◌∙◌, arith, length-drop, ℕ, List, Some}
use Rattle.std.proofs.lemmas.List.{take_all}
use Rattle.pot_actors.specs.Joins.{Shared, with_point}
use Rattle.pot_actors.proofs.JoinLemmas.{under}
use Rattle.pot_actors.proofs.joining.Shares.keep.Goals as goal

pub returns-in-Some : goal.returns-in-Some
returns-in-Some c =
    let s = c.args.self.now in
    let points = c.push_reserved.ensures.items ∙ ap (λ (v : Shared). v.points ++ c.args.point ∷ []) c.self.view_is in
    let long : length (drop 32 c.in-Some.block) ≡ 992 = omega (arith, length-drop {A = ℕ} 32 c.in-Some.block, c.bytes.ensures.len) in
    let part = ap (λ xs. take 992 (drop 32 xs)) c.bytes.ensures.value ∙ take_all 992 (drop 32 c.in-Some.block) (omega (arith, long)) in
    let rows = c.append.ensures.items ∙ ap₂ (λ (v : Shared) (xs : List ℕ). v.rows ++ xs) c.self.view_is part in
    (λ i. record { points = points i; rows = rows i })
    ∙ sym (ap₂ (λ t o. with_point t c.args.point o s) (under (length s.points) c.args.need (omega (arith, c.if-len-from.false, c.from.ensures, c.len.ensures, ap (λ (v : Shared). length v.points) c.self.view_is, c.self.inside.points.ok))) c.in-Some.is)
