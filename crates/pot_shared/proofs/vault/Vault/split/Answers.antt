use Rattle.std.proofs.Common.{ap}
use Rattle.pot_rows.specs.Rows.{view_at}
use Rattle.pot_shared.specs.Ready.{GroupPasses}
use Rattle.pot_shared.proofs.SharingLemmas.{back_again, cut_ready, new_ready, new_index_ready}
use Rattle.pot_shared.proofs.vault.Vault.split.Goals as goal

pub returns-in-Ok-clause-given_ready : goal.returns-in-Ok-clause-given_ready
returns-in-Ok-clause-given_ready g c =
    let ready = rw (← c.self.view_is, ← c.passes.view_is) at c.requires.ready in
    let index = rw (← c.self.view_is, ← c.passes.view_is) at c.requires.index in
    rw (← c.self.view_is) (
      new_ready c.self.inside.rack c.self.inside.groups.names c.args.parts c.passes.inside.groups c.in-Ok.groups ready c.in-Ok.ensures.given.0 c.in-Ok.ensures.given.1,
      new_index_ready c.self.inside.rack c.self.inside.groups.names c.self.inside.index.names c.args.parts c.passes.inside.index c.in_ok-index.index index c.in_ok-index.ensures.given.0
          c.in_ok-index.ensures.given.1,
    )

pub returns-in-Ok-clause-ready : goal.returns-in-Ok-clause-ready
returns-in-Ok-clause-ready g c =
    let ready = rw (← c.self.view_is, ← c.passes.view_is) at c.requires.ready in
    rw (← c.self.view_is) (cut_ready c.self.inside.rack c.self.inside.groups.names c.args.parts c.passes.inside.groups c.split-2.new.passes ready c.in-Ok.ensures.own c.in-Ok.ensures.left)

pub returns-in-Err-clause-refused : goal.returns-in-Err-clause-refused
returns-in-Err-clause-refused g c =
    let index = rw (← c.self.view_is, ← c.passes.view_is) at c.requires.index in
    let parts = rw (← c.passes.view_is) at c.requires.parts in
    rw (← c.passes.view_is) (
      λ at. ap (λ (r : GroupPasses). view_at r at) c.in-Err.ensures.refused,
      back_again c.args.parts c.self.inside.index.names c.passes.inside.index c.split.new.passes c.in_ok-index.index c.join.new.passes index.of c.split.ensures.own c.in_ok-index.ensures.given.0 c.join.ensures.own
          c.in_ok-index.ensures.left c.in_ok-index.ensures.given.1 c.join.ensures.joined parts.1,
    )
