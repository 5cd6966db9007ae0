use Rattle.std.proofs.Common.{Option, subst, sym, ◌∙◌, map}
use Rattle.pot_group.specs.declared.uses.HomeAt.{HomeAt}
use Rattle.pot_group.specs.Group.{GroupParts, view_of}
use Rattle.pot_group.specs.Uses.{IsHomeAt}
use Rattle.pot_group.proofs.Used.{home_is, no_home_at_all}
use Rattle.pot_group.proofs.group.Group.trace.Goals as goal
use Rattle.pot_group.proofs.group.Group.trace.Goals.{in-Some, in-None}

pub returns : goal.returns
returns g c =
    let a = c.self.inside in
    let v : GroupParts _ = record { number = a.number; first = a.first; table = a.table; log = a.log.items; flights = a.flights.items; blinds = map (λ s. s.value) a.blinds.items; tried = a.tried; shelves = a.archives } in
    record {
      home = subst (λ (w : GroupParts _). IsHomeAt (view_of g.A.Archive.account.meaning w) c.args.from c.match-holder_of.home) c.self.view_is (elim c.match-holder_of.branch [
        | in-Some w ↦ subst (λ (o : Option HomeAt). IsHomeAt (view_of g.A.Archive.account.meaning v) c.args.from o) (sym (w.home-is ∙ w.home_of-home.ensures))
            (home_is (view_of g.A.Archive.account.meaning v) c.args.from w.in-Some.column c.self.invariant.0.table (sym c.holder_of.ensures ∙ w.in-Some.is))
        | in-None w ↦ subst (λ (o : Option HomeAt). IsHomeAt (view_of g.A.Archive.account.meaning v) c.args.from o) (sym w.home-is)
            (no_home_at_all v.table c.args.from (sym c.holder_of.ensures ∙ w.in-None.is))
      ]);
      used = c.use_of.result;
      is_use = c.use_of.ensures;
      taken = c.is_some.ensures;
    }
