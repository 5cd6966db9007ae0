use Rattle.std.proofs.Common.{◌↔◌, ◌⊎◌, ◌∙◌, List, map, ap, subst, sym}
use Rattle.std.proofs.lemmas.Result.{on_ok_weaker}
use Rattle.pot_chains.specs.Listed.{IsIn}
use Rattle.pot_recover.specs.HeldShards.{shard_of}
use Rattle.pot_recover.specs.OpenScopes.{IsJoinable}
use Rattle.pot_recover.specs.Rings.{ClosesRing}
use Rattle.pot_shard.specs.declared.shard.Shard.{Shard}
use Rattle.pot_recover.proofs.open_chains.add_open.Goals as goal

pub add_joined-requires : goal.add_joined-requires
add_joined-requires c = record {
  chain = subst IsJoinable (sym (ap (map (shard_of c.args.window.now.bits)) c.deref.ensures.value ∙ c.in_ok-chain.ensures)) c.requires.chain;
}

pub returns : goal.returns
returns c =
    on_ok_weaker c.add_joined.result
    (λ step x. subst (λ (chain : List Shard). IsIn c.add_joined.new.found.items x ↔ (IsIn c.args.found.now.items x ⊎ ClosesRing chain x))
    (ap (map (shard_of c.args.window.now.bits)) c.deref.ensures.value ∙ c.in_ok-chain.ensures) (step x))
    c.add_joined.ensures
