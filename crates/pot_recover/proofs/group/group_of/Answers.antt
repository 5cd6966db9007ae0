use Rattle.std.proofs.Common.{List, subst, refl}
use Rattle.std.specs.Borrow.{Bor}
use Rattle.pot_recover.specs.Groups.{parts_of, AreLevelsOf}
use Rattle.pot_recover.specs.declared.held.Held.{Held}
use Rattle.pot_recover.proofs.MemberLemmas.{part_short, group_length, group_is, group_members}
use Rattle.pot_recover.proofs.group.group_of.Goals as goal

pub levels_of-requires : goal.levels_of-requires
levels_of-requires c = record {
  short = λ part there.
      part_short c.args.need c.args.count c.args.held.now c.in_ok-parts.parts.items c.in_ok-parts.ensures c.requires.short part
      (subst (λ (l : List (Bor (List Held))). Rattle.pot_chains.specs.Listed.IsIn l part) c.deref.ensures.value there);
}

pub returns-clause-group : goal.returns-clause-group
returns-clause-group c =
    group_is c.args.bits c.args.need c.args.count c.args.held.now c.in_ok-parts.parts.items c.in_ok-levels.levels.items _ c.in_ok-parts.ensures
    (subst (λ (l : List (Bor (List Held))). AreLevelsOf (parts_of c.args.bits l) c.in_ok-levels.levels.items) c.deref.ensures.value (c.in_ok-levels.ensures c.args.bits))
    c.requires.once c.requires.shards c.requires.some c.requires.need c.requires.few c.requires.bits refl refl refl refl

pub returns-clause-same : goal.returns-clause-same
returns-clause-same c = (refl, group_length c.args.need c.args.count c.args.held.now c.in_ok-parts.parts.items c.in_ok-parts.ensures, refl)

pub returns-clause-members : goal.returns-clause-members
returns-clause-members c =
    group_members c.args.bits c.args.need c.args.count c.args.held.now c.in_ok-parts.parts.items c.in_ok-parts.ensures c.requires.once c.requires.shards
