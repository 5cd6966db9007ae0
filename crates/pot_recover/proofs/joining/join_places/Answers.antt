use Rattle.std.proofs.Common.{◌≡◌, ◌<◌, ◌+◌, ◌-◌, ◌*◌, ◌∙◌, ℕ, List, length, map, get_or, nat_eq, refl, arith, ap, sym, subst}
use Rattle.std.specs.List.{All, flat_map, IsDistinct}
use Rattle.pot_split.specs.Secrecy.{rows_of}
use Rattle.pot_split.specs.Threshold.{column}
use Rattle.std.proofs.lemmas.List.{length-map}
use Rattle.pot_joins.specs.Joins.{IsJoinAt}
use Rattle.pot_recover.specs.HeldShards.{piece_of, point_of, bytes_held}
use Rattle.pot_recover.specs.declared.held.Held.{Held}
use Rattle.pot_recover.proofs.JoinLemmas.{length-pieces, bytes_in_pieces, joined_at}
use Rattle.pot_recover.proofs.joining.join_places.Goals as goal

-- the rows that are joined
rows_are : (now items : List ℕ) (chain : List Held) (start size end : ℕ) → now ≡ items → items ≡ flat_map (piece_of start (end - start)) chain → end ≡ start + size
    → now ≡ flat_map (piece_of start size) chain
rows_are now items chain start size end e f g =
    e ∙ (f ∙ ap (λ n. flat_map (piece_of start n) chain) (let s : end - start ≡ size = omega (arith, g) in s))

as_many : (points : List ℕ) (chain : List Held) → points ≡ map point_of chain → length points ≡ length chain
as_many points chain e = ap length e ∙ length-map chain point_of

-- the points that are joined at
points_are : (now items : List ℕ) (chain : List Held) → now ≡ items → items ≡ map point_of chain → now ≡ map point_of chain
points_are now items chain e f = e ∙ f

pub share_join-requires-clause-rows : goal.share_join-requires-clause-rows
share_join-requires-clause-rows c =
    let chain = c.args.chain.now in
    let size = length c.args.out.now in
    let points = points_are c.deref.result.now c.in_ok-points.points.items chain c.deref.ensures.value c.in_ok-points.ensures in
    ap length (rows_are c.deref-2.result.now c.in_ok-rows.rows.items chain c.args.start size (c.args.start + size) c.deref-2.ensures.value c.in_ok-rows.ensures refl)
    ∙ (length-pieces c.args.start size chain c.requires.whole c.requires.places ∙ ap (λ n. n * size) (sym (as_many c.deref.result.now chain points)))

pub share_join-requires-clause-distinct : goal.share_join-requires-clause-distinct
share_join-requires-clause-distinct c =
    subst (IsDistinct nat_eq) (sym (points_are c.deref.result.now c.in_ok-points.points.items c.args.chain.now c.deref.ensures.value c.in_ok-points.ensures)) c.requires.points.distinct

pub share_join-requires-clause-not_zero : goal.share_join-requires-clause-not_zero
share_join-requires-clause-not_zero c =
    subst (All (λ x. 0 < x)) (sym (points_are c.deref.result.now c.in_ok-points.points.items c.args.chain.now c.deref.ensures.value c.in_ok-points.ensures)) c.requires.points.not_zero

pub returns : goal.returns
returns c = λ k less.
    let chain = c.args.chain.now in
    let size = length c.args.out.now in
    let wide : length c.share_join.new.out ≡ size = c.share_join.auto.out in
    let inside : k < size = omega (arith, less, wide) in
    let points = points_are c.deref.result.now c.in_ok-points.points.items chain c.deref.ensures.value c.in_ok-points.ensures in
    subst (λ (p : List ℕ). IsJoinAt p (bytes_held (c.args.start + k) chain) 0 (get_or c.share_join.new.out k 0)) points
    (joined_at c.deref.result.now (bytes_held (c.args.start + k) chain) c.deref-2.result.now c.share_join.new.out (length chain) size k
    (as_many c.deref.result.now chain points) wide c.share_join.ensures inside
    (ap (λ (r : List ℕ). column k (rows_of (length chain) size r))
    (rows_are c.deref-2.result.now c.in_ok-rows.rows.items chain c.args.start size (c.args.start + size) c.deref-2.ensures.value c.in_ok-rows.ensures refl)
    ∙ bytes_in_pieces c.args.start size k chain c.requires.whole c.requires.places inside))
