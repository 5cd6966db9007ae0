use Rattle.std.proofs.Common.{nat_cmp, rules}
use Rattle.std.specs.Cmp.Lexicographic.{slice_cmp}
use Rattle.pot_recover.specs.HeldShards.{place_of}
use Rattle.pot_recover.proofs.PartLemmas.{compares_rise}
use Rattle.pot_recover.proofs.parts.part_at.Goals as goal

pub returns : goal.returns
returns c =
    c.equal_range.ensures (λ shard. slice_cmp nat_cmp (place_of shard) c.args.place) (λ item o answers. search rules)
    (compares_rise place_of c.args.place c.args.held.now c.requires)
