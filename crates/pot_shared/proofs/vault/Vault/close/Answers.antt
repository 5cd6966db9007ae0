use Rattle.std.proofs.Common.{◌≡◌, ◌∙◌, ap, length, subst, sym}
use Rattle.std.specs.Prelude.{Some, slice_get}
use Rattle.pot_index.specs.Index.{IsIndex}
use Rattle.pot_rows.specs.Ends.{Closed}
use Rattle.pot_rows.specs.Rows.{view_at}
use Rattle.pot_shared.specs.Catalogs.{CatalogView}
use Rattle.pot_shared.proofs.EndLemmas.{index_is, index_closed, last_alone}
use Rattle.pot_shared.proofs.vault.Vault.close.Goals as goal

pub returns : goal.returns
returns g c =
    let index = rw (← c.self.view_is, ← c.passes.view_is) at c.requires.index in
    let here : slice_get c.close.new.values.items 0 ≡ Some c.in-Some.catalog =
    last_alone c.close.new.values.items c.pop.new.self.items c.in-Some.catalog c.in-Some.ensures.items (c.close.ensures.closed.count ∙ (ap length index.of.0 ∙ index.one)) in
    let closed = c.close.ensures.closed.each 0 c.in-Some.catalog here in
    let is = index_is c.self.inside.rack c.self.inside.groups.names c.self.inside.index.names c.passes.inside.index c.in-Some.catalog index closed in
    let one = index_closed c.self.inside.rack c.self.inside.groups.names c.self.inside.index.names c.passes.inside.index c.in-Some.catalog index closed in
    rw (← c.self.view_is, ← c.passes.view_is) (record {
      kept = c.catalog.inside.kept;
      kept_names = ap (λ (v : CatalogView). v.kept.names) c.catalog.view_is ∙ is.1;
      are_kept = c.catalog.invariant.kept;
      whole = c.join.new.passes;
      whole_of = c.join.ensures.own;
      joined = c.join.ensures.joined;
      closed = c.close-2.ensures.closed;
      seen = c.catalog.invariant.seen;
      once = c.catalog.invariant.once;
      is_index = subst (λ (v : CatalogView). IsIndex v.index) (sym c.catalog.view_is) c.rules.ensures;
      index_rack = ap (λ (v : CatalogView). v.index.rack) c.catalog.view_is ∙ is.0;
      index_closed = subst (λ (v : CatalogView). Closed v.index.log (record { rack = c.self.inside.rack; read = v.index.read; names = c.self.inside.groups.names }) (view_at c.passes.inside.index 0)) (sym c.catalog.view_is) one;
    })
