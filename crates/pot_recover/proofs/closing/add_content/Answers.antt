use Rattle.std.proofs.Common.{inl, inr, length, map}
use Rattle.std.proofs.lemmas.Result.{on_ok_weaker}
use Rattle.pot_recover.specs.Groups.{shards_in}
use Rattle.pot_recover.proofs.ClosingLemmas.{chain_whole, chain_bytes, chain_few, chain_point, closes_is, closes_not, content_some, content_none}
use Rattle.pot_recover.proofs.JoinLemmas.{first_points_are}
use Rattle.pot_recover.specs.HeldShards.{point_of}
use Rattle.pot_recover.proofs.closing.add_content.Goals as goal

pub content_of-requires-clause-whole : goal.content_of-requires-clause-whole
content_of-requires-clause-whole c =
    let g = c.args.group.now in
    chain_whole (shards_in g) g.need (length g.parts.items) g.bits c.args.chain.now c.requires.chain

pub content_of-requires-clause-bytes : goal.content_of-requires-clause-bytes
content_of-requires-clause-bytes c =
    let g = c.args.group.now in
    chain_bytes (shards_in g) g.need (length g.parts.items) g.bits c.args.chain.now c.requires.chain

pub content_of-requires-clause-points : goal.content_of-requires-clause-points
content_of-requires-clause-points c =
    let g = c.args.group.now in
    first_points_are (map point_of c.args.chain.now) (length c.args.chain.now)
    (chain_point (shards_in g) g.need (length g.parts.items) g.bits c.args.chain.now c.requires.chain)
    (chain_few (shards_in g) g.need (length g.parts.items) g.bits c.args.chain.now c.requires.chain)

pub returns-in-Some : goal.returns-in-Some
returns-in-Some c =
    let g = c.args.group.now in
    let is = content_some c.args.chain.now c.in_ok-content.field-0 c.in-Some.content c.in-Some.is c.in_ok-content.ensures in
    on_ok_weaker c.add_where_closed.result
    (λ step x.
    let same = closes_is (shards_in g) g.need (length g.parts.items) g.bits c.args.chain.now c.in-Some.content c.requires.chain is.0 is.1 x in (
      λ h. elim ((step x).0 h) [ inl old ↦ inl old | inr new ↦ inr (same.0 new) ],
      λ w. elim w [ inl old ↦ (step x).1 (inl old) | inr new ↦ (step x).1 (inr (same.1 new)) ],
    ))
    c.add_where_closed.ensures

pub returns-in-None : goal.returns-in-None
returns-in-None c = λ x.
    let g = c.args.group.now in
    let none = content_none c.args.chain.now c.in_ok-content.field-0 c.in-None.is c.in_ok-content.ensures in (
      λ h. inl h,
      λ w. elim w [ inl old ↦ old | inr new ↦ absurd (closes_not (shards_in g) g.bits c.args.chain.now none x new) ],
    )
