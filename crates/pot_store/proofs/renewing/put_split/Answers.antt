use Rattle.std.proofs.Common.{List, sym, subst}
use Rattle.std.specs.Prelude.{Err}
use Rattle.pot_bytes.specs.declared.rack.Place.{Place}
use Rattle.pot_shared.specs.Connections.{bound, knows}
use Rattle.pot_store.specs.Drawing.{Drawn, all_blocks}
use Rattle.pot_store.specs.Puts.{PutsEnd}
use Rattle.pot_store.specs.Renewals.{IsFileSplit, PutsSplit}
use Rattle.pot_store.specs.declared.renewing.RenewFileFault.{RenewFileFault}
use Rattle.pot_store.proofs.RenewLemmas.{is_split, stopped_is}
use Rattle.pot_store.proofs.renewing.put_split.Goals as goal

pub returns-in-Ok-put_all-clause-puts : goal.returns-in-Ok-put_all-clause-puts
returns-in-Ok-put_all-clause-puts g c =
    let b = bound c.args.connection.now in
    let old = (knows c.args.connection.now).groups in
    let new = (knows c.put_all.new.connection).groups in
    let plan = c.in-Ok.plan in
    let put = c.in-Ok-put_all.ensures.put in
    subst (λ (places : List Place). IsFileSplit b.vault.rack c.args.geometry.now b.job c.args.file.now c.args.pads (record { pieces = plan.pieces; shards = plan.shards })
    (record { geometry = c.args.geometry.now; places = places }) old new) (sym c.from_vec.ensures)
    (is_split b.vault.rack c.args.geometry.now b.job c.args.file.now c.args.pads plan.pieces plan.shards plan.drawing plan.places.items c.put_all.new.places.items
    old new c.requires.geometry (λ i. (c.type_inv.file i).fits) c.in-Ok.ensures.planned put.0 put.1)

pub returns-clause-puts : goal.returns-clause-puts
returns-clause-puts g c =
    let b = bound c.args.connection.now in
    let old = (knows c.args.connection.now).groups in
    let new = (knows c.put_all.new.connection).groups in
    subst (λ (e : RenewFileFault). PutsSplit b.vault.rack c.args.geometry.now b.job c.args.file.now c.args.pads (Err e) old new) (sym c.of_put.ensures)
    (stopped_is b.vault.rack c.args.geometry.now b.job c.args.file.now c.args.pads c.in-Err.stopped.group c.in-Err.stopped.cause old new
    (λ here. subst (λ (d : Drawn). PutsEnd b.vault.rack c.args.geometry.now b.job (all_blocks d) c.in-Err.stopped.group c.in-Err.stopped.cause old new)
    c.in-Ok.ensures.planned.drawing (c.in-Err.ensures.ends here)))
