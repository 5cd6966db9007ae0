use Rattle.std.proofs.Common.{rules, ◌+◌, ◌≡◌, List, length, take, arith, sym, subst}
use Rattle.std.specs.Prelude.{Contains}
use Rattle.std.proofs.Math.Seq.{take-length}
use Rattle.pot_outside.specs.Archives.{IsCoherent}
use Rattle.pot_outside.specs.declared.archive.Marks.{Marks}
use Rattle.pot_outside.specs.declared.archive.Shelf.{Shelf}
use Rattle.pot_shelves.proofs.TouchLemmas.{all_more, told_more}
use Rattle.pot_shelves.proofs.archives.mark_all.Goals as goal

pub loop-shelf-preserved : goal.loop-shelf-preserved
loop-shelf-preserved g c = record {
  count = search rules;
  room = search rules;
  faults = told_more (λ (m : Marks). m.faults) (λ (s : Shelf g.row.A.Denot). (g.A.Archive.account.meaning s.archive).faults) c.loop-shelf.marks.items c.push_reserved.new.self.items c.marks.result c.args.shelves.now
      (c.loop-shelf.shelf-index + 1) c.loop-shelf.shelf-index c.shelf-item.result (omega arith) c.loop-shelf-test.true c.shelf-item.is c.push_reserved.ensures.items c.loop-shelf.invariant.faults c.marks.ensures.marks.faults;
  losses = λ t. told_more (λ (m : Marks). m.losses) (λ (s : Shelf g.row.A.Denot). (g.A.Archive.account.meaning s.archive).losses) c.loop-shelf.marks.items c.push_reserved.new.self.items c.marks.result c.args.shelves.now
      (c.loop-shelf.shelf-index + 1) c.loop-shelf.shelf-index c.shelf-item.result (omega arith) c.loop-shelf-test.true c.shelf-item.is c.push_reserved.ensures.items (c.loop-shelf.invariant.losses t) (c.marks.ensures.marks.losses t);
  coherent = λ t. all_more (λ (s : Shelf g.row.A.Denot). IsCoherent (g.A.Archive.account.meaning s.archive)) c.args.shelves.now (c.loop-shelf.shelf-index + 1) c.loop-shelf.shelf-index c.shelf-item.result (omega arith) c.loop-shelf-test.true c.shelf-item.is
      (c.loop-shelf.invariant.coherent t) (record { past = c.marks.ensures.marks.past t; low = c.marks.ensures.marks.low t });
}

pub returns-clause-coherent : goal.returns-clause-coherent
returns-clause-coherent g c =
    let whole : take c.loop-shelf.shelf-index c.args.shelves.now ≡ c.args.shelves.now =
    let e : c.loop-shelf.shelf-index ≡ length c.args.shelves.now = omega arith in rw e (take-length c.args.shelves.now)
    in λ t s h. c.loop-shelf.invariant.coherent t s (subst (λ (xs : List (Shelf g.row.A.Denot)). Contains xs s) (sym whole) h)
