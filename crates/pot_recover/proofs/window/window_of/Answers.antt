use Rattle.std.proofs.Common.{List, subst, refl}
use Rattle.std.specs.Borrow.{Bor}
use Rattle.pot_chains.specs.Listed.{IsIn}
use Rattle.pot_recover.specs.Groups.{parts_of, AreLevelsOf}
use Rattle.pot_recover.specs.OpenScopes.{points_from}
use Rattle.pot_recover.specs.declared.held.Held.{Held}
use Rattle.pot_recover.proofs.OpenLemmas.{window_short, window_is}
use Rattle.pot_recover.proofs.window.window_of.Goals as goal

pub levels_of-requires : goal.levels_of-requires
levels_of-requires c =
    let start = c.args.start in
    record {
      short = λ part there.
          window_short start.need start.shards c.args.held.now c.in_ok-parts.parts.items (points_from start.shards start.first start.need) c.in_ok-parts.ensures c.requires.short part
          (subst (λ (l : List (Bor (List Held))). IsIn l part) c.deref.ensures.value there);
    }

pub returns-clause-window : goal.returns-clause-window
returns-clause-window c =
    let start = c.args.start in
    let is = c.requires.start in
    window_is c.args.bits start.need start.shards start.first c.args.held.now _ c.in_ok-parts.ensures
    (subst (λ (l : List (Bor (List Held))). AreLevelsOf (parts_of c.args.bits l) c.in_ok-levels.levels.items) c.deref.ensures.value (c.in_ok-levels.ensures c.args.bits))
    c.requires.once c.requires.shards is.some is.few is.small is.first is.last refl
