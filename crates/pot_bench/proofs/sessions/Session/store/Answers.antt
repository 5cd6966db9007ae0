use Rattle.std.proofs.Common.{◌∙◌, sym, subst}
use Rattle.pot_index.specs.Entries as index
use Rattle.pot_shared.proofs.SharingLemmas.{more_parts}
use Rattle.pot_shared.specs.Callers.{CanCall}
use Rattle.pot_shared.specs.Connections.{Bound, knows}
use Rattle.pot_shared.specs.Works.{Known, JobWroteOnly, of_job}
use Rattle.pot_bench.proofs.Parts.{still_but_kept, still_all}
use Rattle.pot_bench.proofs.sessions.Session.store.Goals as goal

pub connection-connection-requires-clause-parts : goal.connection-connection-requires-clause-parts
connection-connection-requires-clause-parts g c = more_parts _ c.args.self.now.parts.0

pub invariant_of-self : goal.invariant_of-self
invariant_of-self g c =
    let s = c.args.self.now in
    let its = c.connection-connection.ensures in
    let did = c.store_file-stored.ensures.worked in
    let can = subst (λ (x : Bound). CanCall x.vault c.end.result) (did.same ∙ its.bound) c.end.ensures.can in
    let worked =
    subst (λ (k : Known). JobWroteOnly c.args.job s.passes k) (sym c.end.ensures.passes)
    (subst (λ (k : Known). JobWroteOnly c.args.job k (knows c.store_file-stored.new.connection)) its.passes
    (subst (λ (x : Bound). JobWroteOnly x.job (knows c.connection-connection.result) (knows c.store_file-stored.new.connection)) its.bound did.worked)) in
    record {
      rack = s.rack;
      parity = s.parity;
      count = s.count;
      ready = can.ready;
      index = can.index_ready;
      parts = (
        still_but_kept (of_job c.args.job) _ _ _ s.ready.of can.ready.of worked.groups s.parts.0,
        still_all (index.is_of c.args.job) _ _ _ s.index.of can.index_ready.of worked.index s.parts.1,
      );
      room = s.room;
    }
