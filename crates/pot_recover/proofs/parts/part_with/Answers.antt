use Rattle.std.proofs.Common.{nat_cmp, rules}
use Rattle.std.specs.Cmp.Lexicographic.{slice_cmp}
use Rattle.pot_recover.specs.Contents.{head_of}
use Rattle.pot_recover.proofs.PartLemmas.{compares_rise}
use Rattle.pot_recover.proofs.parts.part_with.Goals as goal

pub returns : goal.returns
returns c =
    c.equal_range.ensures (λ content. slice_cmp nat_cmp (head_of content) c.args.head) (λ item o answers. search rules)
    (compares_rise head_of c.args.head c.args.contents.now c.requires)
