use Rattle.std.proofs.Common.{Some, refl, subst, sym, ◌∙◌, map}
use Rattle.pot_group.specs.declared.uses.Role.{Role}
use Rattle.pot_group.specs.Group.{GroupParts, view_of}
use Rattle.pot_group.specs.Uses.{IsRole, IsUse}
use Rattle.pot_group.proofs.Used.{role_is}
use Rattle.pot_group.proofs.group.Group.use_of.Goals as goal

pub returns-in-Some : goal.returns-in-Some
returns-in-Some g c =
    let a = c.self.inside in
    let v : GroupParts _ = record { number = a.number; first = a.first; table = a.table; log = a.log.items; flights = a.flights.items; blinds = map (λ s. s.value) a.blinds.items; tried = a.tried; shelves = a.archives } in
    subst (λ (w : GroupParts _). IsUse (view_of g.A.Archive.account.meaning w) c.args.number (Some (record { group = a.number; column = c.in-Some.column; role = c.role_in.result }))) c.self.view_is (
      refl,
      subst (λ (r : Role). IsRole (view_of g.A.Archive.account.meaning v) c.args.number c.in-Some.column r) (sym c.role_in.ensures)
          (role_is (view_of g.A.Archive.account.meaning v) c.args.number c.in-Some.column (sym c.holder_of.ensures ∙ c.in-Some.is)),
    )
