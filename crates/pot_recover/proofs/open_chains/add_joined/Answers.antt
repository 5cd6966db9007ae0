use Rattle.std.proofs.Common.{inl, inr}
use Rattle.std.proofs.lemmas.Result.{on_ok_weaker}
use Rattle.pot_recover.proofs.ClosingLemmas.{content_some, content_none}
use Rattle.pot_recover.proofs.OpenClosing.{open_some, open_few, open_whole, open_bytes, open_points, gives_one, gives_none}
use Rattle.pot_recover.proofs.open_chains.add_joined.Goals as goal

pub content_of-requires-clause-some : goal.content_of-requires-clause-some
content_of-requires-clause-some c = open_some c.args.bits c.args.chain.now c.requires.chain

pub content_of-requires-clause-few : goal.content_of-requires-clause-few
content_of-requires-clause-few c = open_few c.args.bits c.args.chain.now c.requires.chain

pub content_of-requires-clause-whole : goal.content_of-requires-clause-whole
content_of-requires-clause-whole c = open_whole c.args.bits c.args.chain.now c.requires.chain

pub content_of-requires-clause-bytes : goal.content_of-requires-clause-bytes
content_of-requires-clause-bytes c = open_bytes c.args.bits c.args.chain.now c.requires.chain

pub content_of-requires-clause-points : goal.content_of-requires-clause-points
content_of-requires-clause-points c = open_points c.args.bits c.args.chain.now c.requires.chain

pub returns-in-Some : goal.returns-in-Some
returns-in-Some c =
    let is = content_some c.args.chain.now c.in_ok-content.field-0 c.in-Some.content c.in-Some.is c.in_ok-content.ensures in
    let gives = gives_one c.args.bits c.args.chain.now c.requires.chain c.in-Some.content is.0 is.1 in
    on_ok_weaker c.push_distinct.result
    (λ step x. (
      λ h. elim ((step x).0 h) [ inl old ↦ inl old | inr new ↦ inr ((gives x).0 new) ],
      λ w. elim w [ inl old ↦ (step x).1 (inl old) | inr new ↦ (step x).1 (inr ((gives x).1 new)) ],
    ))
    c.push_distinct.ensures

pub returns-in-None : goal.returns-in-None
returns-in-None c = λ x.
    let none = content_none c.args.chain.now c.in_ok-content.field-0 c.in-None.is c.in_ok-content.ensures in (
      λ h. inl h,
      λ w. elim w [ inl old ↦ old | inr new ↦ absurd (gives_none c.args.bits c.args.chain.now c.requires.chain none x new) ],
    )
