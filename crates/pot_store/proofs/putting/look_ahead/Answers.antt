use Rattle.std.proofs.Common.{◌<◌, ◌∙◌, length, sym, subst}
use Rattle.pot_shared.specs.Connections.{Bound}
use Rattle.pot_shared.proofs.WorkLemmas.{saw_more}
use Rattle.pot_store.proofs.SawLemmas.{standing_saw}
use Rattle.pot_store.proofs.putting.look_ahead.Goals as goal

pub returns-clause-saw : goal.returns-clause-saw
returns-clause-saw g c =
    let one = c.standing-first.ensures in
    let two = c.standing-second.ensures in record {
      same = two.same ∙ one.same;
      index = two.index ∙ one.index;
      is = saw_more (standing_saw c.standing-first.result c.args.connection.now.ready c.requires.first one.is)
          (standing_saw c.standing-second.result c.standing-first.new.self.ready (subst (λ (b : Bound). c.args.groups.1 < length b.vault.groups) (sym one.same) c.requires.second) two.is);
    }
