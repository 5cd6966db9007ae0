use Rattle.std.proofs.Common.{inl, inr, refl}
use Rattle.std.proofs.lemmas.Result.{on_ok_weaker}
use Rattle.pot_recover.proofs.LongClosing.{long_whole, long_bytes, long_few, long_enough, long_point, closes_with, closes_not}
use Rattle.pot_recover.proofs.robust_closing.add_ring.Goals as goal

pub robust_content-requires-clause-whole : goal.robust_content-requires-clause-whole
robust_content-requires-clause-whole c = let w = c.requires.chain in long_whole w.0 c.args.need w.1 c.args.bits c.args.chain.now w.2

pub robust_content-requires-clause-bytes : goal.robust_content-requires-clause-bytes
robust_content-requires-clause-bytes c = let w = c.requires.chain in long_bytes w.0 c.args.need w.1 c.args.bits c.args.chain.now w.2

pub robust_content-requires-clause-few : goal.robust_content-requires-clause-few
robust_content-requires-clause-few c = let w = c.requires.chain in long_few w.0 c.args.need w.1 c.args.bits c.args.chain.now w.2

pub robust_content-requires-clause-enough : goal.robust_content-requires-clause-enough
robust_content-requires-clause-enough c = let w = c.requires.chain in long_enough w.0 c.args.need w.1 c.args.bits c.args.chain.now w.2

pub robust_content-requires-clause-points : goal.robust_content-requires-clause-points
robust_content-requires-clause-points c = let w = c.requires.chain in long_point w.0 c.args.need w.1 c.args.bits c.args.chain.now w.2

pub returns-in-Some : goal.returns-in-Some
returns-in-Some c =
    let w = c.requires.chain in
    let is = c.in-Some.ensures.found in
    let closes = closes_with w.0 c.args.need w.1 c.args.bits c.args.chain.now w.2 c.in-Some.content (c.if-not-is_ring.ensures.0 refl) is.0 is.1 in
    on_ok_weaker c.push_distinct.result
    (λ step x. (
      λ h. elim ((step x).0 h) [ inl old ↦ inl old | inr new ↦ inr ((closes x).0 new) ],
      λ v. elim v [ inl old ↦ (step x).1 (inl old) | inr new ↦ (step x).1 (inr ((closes x).1 new)) ],
    ))
    c.push_distinct.ensures

pub returns-in-None : goal.returns-in-None
returns-in-None c = λ x.
    let w = c.requires.chain in (
      λ h. inl h,
      λ v. elim v [ inl old ↦ old | inr new ↦ absurd (closes_not w.0 c.args.need w.1 c.args.bits c.args.chain.now w.2 (c.in-None.ensures.none refl) x new) ],
    )
