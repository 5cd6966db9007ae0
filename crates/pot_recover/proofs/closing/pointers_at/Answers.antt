use Rattle.std.proofs.Common.{◌+◌, ◌∙◌, List, length, map, arith, ap, sym, subst}
use Rattle.std.specs.Borrow.{Bor}
use Rattle.std.proofs.lemmas.List.FromFn.{length-range_with_len}
use Rattle.std.proofs.lemmas.Result.{IfOk-weaker}
use Rattle.pot_chains.specs.Listed.{IsIn, IsListed}
use Rattle.pot_chains.specs.declared.levels.Level.{Level}
use Rattle.pot_recover.specs.Groups.{IsAt, shards_in}
use Rattle.pot_recover.specs.HeldShards.{shard_of}
use Rattle.pot_recover.specs.Reached.{name_of}
use Rattle.pot_recover.specs.declared.held.Held.{Held}
use Rattle.pot_recover.proofs.JoinLemmas.{points_distinct}
use Rattle.pot_recover.proofs.NextLemmas.{next_is}
use Rattle.pot_recover.proofs.ClosingLemmas.{chain_few, points_apart, rows_long, fixed_is, index_is, shards_are, levels_within}
use Rattle.pot_recover.proofs.closing.pointers_at.Goals as goal

pub share_at-requires-clause-few : goal.share_at-requires-clause-few
share_at-requires-clause-few c =
    let g = c.args.group.now in
    omega (arith, ap length c.first_points.ensures, length-range_with_len 1 (length c.args.chain.now), chain_few (shards_in g) g.need (length g.parts.items) g.bits c.args.chain.now c.requires.chain)

pub share_at-requires-clause-distinct : goal.share_at-requires-clause-distinct
share_at-requires-clause-distinct c = points_distinct c.first_points.result.now (length c.args.chain.now) c.first_points.ensures

pub share_at-requires-clause-apart : goal.share_at-requires-clause-apart
share_at-requires-clause-apart c =
    let g = c.args.group.now in
    points_apart (shards_in g) g.need (length g.parts.items) g.bits c.args.chain.now c.requires.chain c.first_points.result.now c.args.place c.first_points.ensures c.requires.behind

pub share_at-requires-clause-rows : goal.share_at-requires-clause-rows
share_at-requires-clause-rows c =
    let g = c.args.group.now in
    rows_long (shards_in g) g.need (length g.parts.items) g.bits c.args.chain.now c.requires.chain c.first_points.result.now c.args.rows.now c.first_points.ensures c.requires.rows

pub index-requires-2 : goal.index-requires-2
index-requires-2 c =
    let g = c.args.group.now in
    let long = levels_within g c.requires.group in
    omega (arith, long, c.requires.within, g.levels.ok.0)

pub next_pointers-requires-clause-indexed : goal.next_pointers-requires-clause-indexed
next_pointers-requires-clause-indexed c =
    let g = c.args.group.now in
    ap (λ (l : Level). l.index) c.index-2.ensures
    ∙ (index_is g c.requires.group c.args.place c.requires.within c.index.result.now c.index-2.result.now
    ∙ ap (λ (part : Bor (List Held)). map name_of part.now) (sym c.index.ensures))

pub returns : goal.returns
returns c =
    let g = c.args.group.now in
    let chain = c.args.chain.now in
    let listed = subst (λ (part : Bor (List Held)).
    IsListed (λ s. IsIn (shards_in g) s × IsAt g.need (length g.parts.items) g.bits (c.args.place + 1) s) (map (shard_of g.bits) part.now))
    (sym c.index.ensures) (shards_are g c.requires.group c.args.place c.requires.within c.index.result.now) in
    let fixed = fixed_is (shards_in g) g.need (length g.parts.items) g.bits chain c.requires.chain c.first_points.result.now c.args.rows.now c.share_at.new.out (c.args.place + 1)
    c.share_at.auto.out c.first_points.ensures c.requires.rows c.share_at.ensures in
    IfOk-weaker c.next_pointers.result _ _
    (λ found is p.
    let next = next_is (shards_in g) g.need (length g.parts.items) g.bits (c.args.place + 1) (map (shard_of g.bits) chain) c.index.result.now.now c.args.pointers.now c.share_at.new.out
    c.requires.chain listed fixed c.share_at.auto.out p in
    (λ h. next.0 ((is p).0 h), λ w. (is p).1 (next.1 w)))
    c.next_pointers.ensures
