use Rattle.std.proofs.Common.{◌≡◌, ◌<◌, ◌≤◌, ℕ, ◌∙◌, length, sym, ap, subst, arith, nat_eq}
use Rattle.std.specs.List.{All, IsDistinct}
use Rattle.pot_split.specs.Threshold.{IsJoin}
use Rattle.pot_actors.specs.Joins.{Shared}
use Rattle.pot_actors.proofs.JoinLemmas.{fragment_joined, not_gathered, points_distinct, points_few, points_not_zero}
use Rattle.pot_actors.proofs.joining.join_fragment.Goals as goal

pub returns-then-count-from : goal.returns-then-count-from
returns-then-count-from c =
    let e = ap (λ (s : Shared). length s.points) c.see_fragment.ensures in
    not_gathered c.args.kept.now c.args.gathered.now c.args.piece c.args.fragment (omega (arith, e, c.if-count-from.true, c.from.ensures, c.count.ensures))

pub join-requires-clause-few : goal.join-requires-clause-few
join-requires-clause-few c =
    let e = ap (λ (s : Shared). length s.points) c.see_fragment.ensures in
    let few = points_few c.args.kept.now c.args.gathered.now c.args.piece c.args.fragment in
    let need = c.requires.readable.geometry.need in
    let shards = c.requires.readable.geometry.shards in
    omega (arith, e, few, need.1, shards)

pub join-requires-clause-distinct : goal.join-requires-clause-distinct
join-requires-clause-distinct c =
    subst (λ (s : Shared). IsDistinct nat_eq s.points) (sym c.see_fragment.ensures) (points_distinct c.args.kept.now c.args.gathered.now c.args.piece c.args.fragment)

pub join-requires-clause-not_zero : goal.join-requires-clause-not_zero
join-requires-clause-not_zero c =
    subst (λ (s : Shared). All (λ x. 0 < x) s.points) (sym c.see_fragment.ensures) (points_not_zero c.args.kept.now c.args.gathered.now c.args.piece c.args.fragment)

pub returns : goal.returns
returns c =
    let e = ap (λ (s : Shared). length s.points) c.see_fragment.ensures in
    fragment_joined c.args.kept.now c.args.gathered.now c.args.piece c.args.fragment c.join.new.content
    (omega (arith, e, c.if-count-from.false, c.from.ensures, c.count.ensures)) c.join.array_long
    (subst (λ (s : Shared). IsJoin s.points s.rows c.join.new.content) c.see_fragment.ensures c.join.ensures)
