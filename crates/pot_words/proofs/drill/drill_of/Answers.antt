use Rattle.std.proofs.Common.{subst, codes}
use Rattle.pot_bytes.specs.declared.rack.Geometry.{Geometry}
use Rattle.pot_options.specs.Options.{given}
use Rattle.pot_words.specs.Lists.{HasPoints}
use Rattle.pot_words.specs.Values.{HasNumber}
use Rattle.pot_words.proofs.drill.drill_of.Goals as goal

pub returns-in_err-seen : goal.returns-in_err-seen
returns-in_err-seen c = rw c.from_residual-in_err-seen.ensures (λ d has.
    let same = c.in_ok-geometry.ensures.1 d.geometry has.0 in
    c.in_err-seen.ensures d.seen (subst (λ (g : Geometry). HasPoints (given c.args.options.now) (codes "seen") g.shards d.seen.items) same has.2))

pub returns : goal.returns
returns c = (
  (c.in_ok-geometry.ensures.0, c.in_ok-hidden.ensures.0, c.in_ok-seen.ensures.0, c.in_ok-seed.ensures.0),
  λ d has.
      let same = c.in_ok-geometry.ensures.1 d.geometry has.0 in
      let hidden = c.in_ok-hidden.ensures.1 d.hidden (subst (λ (g : Geometry). HasNumber (given c.args.options.now) (codes "hidden") 1 g.fragments d.hidden) same has.1) in
      let seen = c.in_ok-seen.ensures.1 d.seen (subst (λ (g : Geometry). HasPoints (given c.args.options.now) (codes "seen") g.shards d.seen.items) same has.2) in
      let seed = c.in_ok-seed.ensures.1 d.seed has.3 in
      λ i. record { geometry = same i; hidden = hidden i; seen = seen i; seed = seed i },
)
