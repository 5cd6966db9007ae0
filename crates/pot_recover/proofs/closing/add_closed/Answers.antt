use Rattle.std.proofs.Common.{◌↔◌, ◌⊎◌, ◌∙◌, List, map, ap, subst}
use Rattle.std.proofs.lemmas.Result.{on_ok_weaker}
use Rattle.pot_chains.specs.Listed.{IsIn}
use Rattle.pot_recover.specs.Groups.{shards_in}
use Rattle.pot_recover.specs.HeldShards.{shard_of}
use Rattle.pot_recover.specs.Sets.{ClosesWith}
use Rattle.pot_shard.specs.declared.shard.Shard.{Shard}
use Rattle.pot_recover.proofs.closing.add_closed.Goals as goal

pub returns : goal.returns
returns c =
    let g = c.args.group.now in
    on_ok_weaker c.add_content.result
    (λ step x. subst (λ (chain : List Shard). IsIn c.add_content.new.found.items x ↔ (IsIn c.args.found.now.items x ⊎ ClosesWith (IsIn (shards_in g)) chain x))
    (ap (map (shard_of g.bits)) c.deref.ensures.value ∙ c.in_ok-chain.ensures) (step x))
    c.add_content.ensures
