use Rattle.std.proofs.Common.{◌+◌, arith, ap, sym, subst}
use Rattle.pot_looks.specs.Looks.{IsLooked, ArchiveSight}
use Rattle.pot_looks.proofs.LookLemmas.{few, one_more}
use Rattle.pot_looks.specs.declared.looking.Looked.{Looked}
use Rattle.pot_looks.proofs.looking.look.Goals as goal

pub loop-stripe-preserved : goal.loop-stripe-preserved
loop-stripe-preserved c =
    let v : ArchiveSight = record { table = c.args.table.now; column = c.args.column; archive = c.args.archive; bytes = c.args.bytes.now } in
    let r = c.loop-stripe.looked in
    let seen = c.see.result in
    let is = c.with-looked.ensures in
    let more = few r seen in
    let i = c.loop-stripe.invariant in
    record {
      looked = subst (λ (z : Looked). IsLooked v (c.loop-stripe.stripe + 1) z) (sym is) (one_more v c.loop-stripe.stripe r seen i.looked c.see.ensures);
      compared = omega (arith, ap (λ (z : Looked). z.compared) is, more.0, i.compared);
      damaged = omega (arith, ap (λ (z : Looked). z.damaged) is, more.1, i.damaged);
      missing = omega (arith, ap (λ (z : Looked). z.missing) is, more.2, i.missing);
    }
