use Rattle.std.proofs.Common.{IsTrue, ap, subst, ◌∙◌, ◌+◌, arith}
use Rattle.std.specs.Prelude.{Some, None}
use Rattle.std.proofs.lemmas.Bool.{false≢true}
use Rattle.pot_machine.specs.Slot.{is_live}
use Rattle.pot_shelves.specs.Shelves.{plain}
use Rattle.pot_group.specs.Finding.{IsPlace}
use Rattle.pot_group.specs.Group.{GroupParts, with_archives}
use Rattle.pot_group.specs.Lanes.{ReadsLane, lanes_of}
use Rattle.pot_group.proofs.LaneReads.{gathered_all, gathered_end, gathered_last, gathering_more}
use Rattle.pot_group.proofs.group.Group.gather.Goals as goal

pub reads-preserved : goal.reads-preserved
reads-preserved g c =
    let told = IsTrue g.A.Archive.account.tells in
    let m = g.A.Archive.account.meaning in
    record {
      same = c.read_lane-lane.ensures.same ∙ ap (λ (w : GroupParts _). with_archives w c.read_lane-lane.new.self.shelves) c.reads.invariant.same;
      count = c.put.ensures.count ∙ ap (λ k. k + 1) c.reads.invariant.count;
      gathering = gathering_more told c.args.self.now.number c.args.self.now.table c.args.stripe c.args.column c.reads.counter c.reads.stripe c.reads.column (lanes_of c.reads.lanes)
          (plain m c.args.self.now.shelves) (plain m c.reads.self.shelves) c.reads.invariant.gathering c.read_lane-lane.result c.in-Some.place (plain m c.read_lane-lane.new.self.shelves) (lanes_of c.put.new.self)
          (subst (λ (w : GroupParts _). IsPlace w.number w.table is_live c.reads.stripe c.reads.column (Some c.in-Some.place)) c.reads.invariant.same c.in-Some.ensures) c.read_lane-lane.ensures.place
          (subst (λ (w : GroupParts _). ReadsLane told c.read_lane-lane.result w.table (plain m c.reads.self.shelves) (plain m c.read_lane-lane.new.self.shelves)) c.reads.invariant.same c.read_lane-lane.ensures.reads)
          c.put.ensures.lanes (λ e. false≢true (c.if-is_err.ensures.value ∙ e));
    }

pub returns-after-reads-clause-gathers : goal.returns-after-reads-clause-gathers
returns-after-reads-clause-gathers g c =
    gathered_all (IsTrue g.A.Archive.account.tells) c.args.self.now.number c.args.self.now.table c.args.stripe c.args.column c.reads.counter c.reads.stripe c.reads.column (lanes_of c.reads.lanes)
    (plain g.A.Archive.account.meaning c.args.self.now.shelves) (plain g.A.Archive.account.meaning c.reads.self.shelves) c.reads.invariant.gathering c.args.most (omega (arith, c.reads-test.false, c.reads.auto.counter-end)) c.requires.some

pub returns-in_default-clause-gathers : goal.returns-in_default-clause-gathers
returns-in_default-clause-gathers g c =
    gathered_end (IsTrue g.A.Archive.account.tells) c.args.self.now.number c.args.self.now.table c.args.stripe c.args.column c.reads.counter c.reads.stripe c.reads.column (lanes_of c.reads.lanes)
    (plain g.A.Archive.account.meaning c.args.self.now.shelves) (plain g.A.Archive.account.meaning c.reads.self.shelves) c.reads.invariant.gathering c.args.most c.reads-test.true
    (subst (λ (w : GroupParts _). IsPlace w.number w.table is_live c.reads.stripe c.reads.column None) c.reads.invariant.same c.in_default.ensures)

pub returns-then-is_err-clause-gathers : goal.returns-then-is_err-clause-gathers
returns-then-is_err-clause-gathers g c =
    let told = IsTrue g.A.Archive.account.tells in
    let m = g.A.Archive.account.meaning in
    gathered_last told c.args.self.now.number c.args.self.now.table c.args.stripe c.args.column c.reads.counter c.reads.stripe c.reads.column (lanes_of c.reads.lanes)
    (plain m c.args.self.now.shelves) (plain m c.reads.self.shelves) c.reads.invariant.gathering c.read_lane-lane.result c.in-Some.place (plain m c.read_lane-lane.new.self.shelves) (lanes_of c.put.new.self)
    (subst (λ (w : GroupParts _). IsPlace w.number w.table is_live c.reads.stripe c.reads.column (Some c.in-Some.place)) c.reads.invariant.same c.in-Some.ensures) c.read_lane-lane.ensures.place
    (subst (λ (w : GroupParts _). ReadsLane told c.read_lane-lane.result w.table (plain m c.reads.self.shelves) (plain m c.read_lane-lane.new.self.shelves)) c.reads.invariant.same c.read_lane-lane.ensures.reads)
    c.put.ensures.lanes c.args.most c.reads-test.true
