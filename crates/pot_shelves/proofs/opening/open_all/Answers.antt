use Rattle.std.proofs.Common.{◌≡◌, IsTrue, add-one, ap, subst, arith}
use Rattle.pot_machine.specs.Table.{Table}
use Rattle.pot_shelves.specs.Shelves.{plain}
use Rattle.pot_shelves.specs.Opening.{Opens}
use Rattle.pot_shelves.proofs.OpeningAll.{opens_none, opens_more, later_none, later_more, opens_archives}
use Rattle.pot_shelves.proofs.opening.open_all.Goals as goal

pub loop-stripe-init : goal.loop-stripe-init
loop-stripe-init g c = record {
  opens = rw c.requires.log (opens_none (IsTrue g.A.Archive.account.tells) c.args.table.now (plain g.A.Archive.account.meaning c.args.archives.now));
  later = later_none c.args.table.now;
  bound = rw c.requires.log (omega arith);
  capacity = c.requires.room;
}

pub open_stripe-requires-clause-stripe : goal.open_stripe-requires-clause-stripe
open_stripe-requires-clause-stripe g c =
    let stripes : c.loop-stripe.table.stripes ≡ c.args.table.now.stripes = ap {A = Table} (λ x. x.stripes) c.loop-stripe.invariant.later.shape in
    omega arith

pub open_stripe-requires-clause-room : goal.open_stripe-requires-clause-room
open_stripe-requires-clause-room g c = omega (arith, c.stripes-stripe-end.ensures.rules.size.stripes)

pub open_stripe-requires-clause-archives : goal.open_stripe-requires-clause-archives
open_stripe-requires-clause-archives g c = opens_archives _ _ _ _ _ _ _ c.loop-stripe.invariant.later c.loop-stripe.invariant.opens c.requires.archives

pub loop-stripe-preserved : goal.loop-stripe-preserved
loop-stripe-preserved g c = record {
  opens = rw add-one (opens_more _ _ _ _ _ _ _ _ _ _ c.loop-stripe.invariant.later c.loop-stripe.invariant.opens c.open_stripe.ensures.opens);
  later = rw add-one (later_more _ _ _ _ c.loop-stripe.invariant.later c.open_stripe.ensures.opens.changes);
  bound = omega arith;
  capacity = omega arith;
}

pub returns-clause-opens : goal.returns-clause-opens
returns-clause-opens g c =
    let all : c.loop-stripe.stripe ≡ c.args.table.now.stripes = omega arith in
    subst (λ n. Opens (IsTrue g.A.Archive.account.tells) n c.args.table.now c.loop-stripe.table c.loop-stripe.log.items (plain g.A.Archive.account.meaning c.args.archives.now) (plain g.A.Archive.account.meaning c.loop-stripe.archives)) all c.loop-stripe.invariant.opens

pub returns-clause-room : goal.returns-clause-room
returns-clause-room g c = c.loop-stripe.invariant.capacity

pub returns-clause-bound : goal.returns-clause-bound
returns-clause-bound g c = omega (arith, c.stripes-stripe-end.ensures.rules.size.stripes)
