use Rattle.std.proofs.Common.{◌≡◌, ◌≤◌, ◌<◌, IsTrue, refl, subst, arith, length}
use Rattle.pot_group.specs.Group.{GroupParts, view_of}
use Rattle.pot_group.proofs.Placed.{at_once_made, at_once_step, full_made, full_step, log_full_made, log_full_step, faulted_made, faulted_step, here_made, here_step}
use Rattle.pot_group.proofs.Keeping.{find_keeps, here_keeps}
use Rattle.pot_group.proofs.Rows.{put_made}
use Rattle.pot_shelves.proofs.ShelfLemmas.{keeps_refl}
use Rattle.pot_group.proofs.group.Group.put.Goals as goal

pub returns-then-len-ge-LOG_BOUND : goal.returns-then-len-ge-LOG_BOUND
returns-then-len-ge-LOG_BOUND g c =
    let old = view_of g.A.Archive.account.meaning c.args.self.now in
    let full : length old.log ≡ 262144 = subst (λ (v : GroupParts _). length v.log ≡ 262144) c.self.view_is (omega (arith, c.self.invariant.0.bound)) in
    record {
      puts = put_made (IsTrue g.A.Archive.account.tells) c.args.job c.args.block.now _ old old (at_once_made c.args.job c.args.block.now old full)
          (λ e. (refl, refl)) (keeps_refl old.shelves) (λ t. at_once_step c.args.job c.args.block.now old full);
    }

pub returns-in-Here : goal.returns-in-Here
returns-in-Here g c =
    let told = IsTrue g.A.Archive.account.tells in
    let old = view_of g.A.Archive.account.meaning c.args.self.now in
    let mid = view_of g.A.Archive.account.meaning c.find_stripe-stop.new.self in
    let new = view_of g.A.Archive.account.meaning c.put_block.new.self in
    let p = c.find_stripe-stop.new.parity.first in
    let q = c.find_stripe-stop.new.parity.second in
    let room : length old.log < 262144 = subst (λ (v : GroupParts _). length v.log < 262144) c.self.view_is (omega (arith, c.len.ensures, c.if-len-ge-LOG_BOUND.false)) in
    let some = subst (λ (v : GroupParts _). 1 ≤ v.table.parity) c.self.view_is c.self.invariant.0.table.size.parity.0 in
    record {
      puts = put_made told c.args.job c.args.block.now c.put_block.result old new
          (here_made told c.args.job p q c.args.block.now old mid new c.in-Here.ensures some c.put_block.result c.put_block.ensures)
          (λ e. absurd (omega (arith, e, room)))
          (here_keeps told c.args.job p q c.args.block.now old mid new c.in-Here.ensures c.put_block.result c.put_block.ensures)
          (here_step told c.args.job p q c.args.block.now old mid new c.in-Here.ensures c.put_block.result c.put_block.ensures);
    }

pub returns-in-Full : goal.returns-in-Full
returns-in-Full g c =
    let told = IsTrue g.A.Archive.account.tells in
    let old = view_of g.A.Archive.account.meaning c.args.self.now in
    let mid = view_of g.A.Archive.account.meaning c.find_stripe-stop.new.self in
    let p = c.find_stripe-stop.new.parity.first in
    let q = c.find_stripe-stop.new.parity.second in
    let room : length old.log < 262144 = subst (λ (v : GroupParts _). length v.log < 262144) c.self.view_is (omega (arith, c.len.ensures, c.if-len-ge-LOG_BOUND.false)) in
    record {
      puts = put_made told c.args.job c.args.block.now _ old mid (full_made told c.args.job p q c.args.block.now old mid c.in-Full.ensures)
          (λ e. absurd (omega (arith, e, room))) (find_keeps told c.args.job p q _ old mid c.in-Full.ensures)
          (full_step told c.args.job p q c.args.block.now old mid c.in-Full.ensures c.logged-entries.ensures.settled.bound);
    }

pub returns-in-LogFull : goal.returns-in-LogFull
returns-in-LogFull g c =
    let told = IsTrue g.A.Archive.account.tells in
    let old = view_of g.A.Archive.account.meaning c.args.self.now in
    let mid = view_of g.A.Archive.account.meaning c.find_stripe-stop.new.self in
    let p = c.find_stripe-stop.new.parity.first in
    let q = c.find_stripe-stop.new.parity.second in
    let room : length old.log < 262144 = subst (λ (v : GroupParts _). length v.log < 262144) c.self.view_is (omega (arith, c.len.ensures, c.if-len-ge-LOG_BOUND.false)) in
    record {
      puts = put_made told c.args.job c.args.block.now _ old mid (log_full_made told c.args.job p q c.args.block.now old mid c.in-LogFull.ensures)
          (λ e. absurd (omega (arith, e, room))) (find_keeps told c.args.job p q _ old mid c.in-LogFull.ensures)
          (log_full_step told c.args.job p q c.args.block.now old mid c.in-LogFull.ensures);
    }

pub returns-in-Faulted : goal.returns-in-Faulted
returns-in-Faulted g c =
    let told = IsTrue g.A.Archive.account.tells in
    let old = view_of g.A.Archive.account.meaning c.args.self.now in
    let mid = view_of g.A.Archive.account.meaning c.find_stripe-stop.new.self in
    let p = c.find_stripe-stop.new.parity.first in
    let q = c.find_stripe-stop.new.parity.second in
    let room : length old.log < 262144 = subst (λ (v : GroupParts _). length v.log < 262144) c.self.view_is (omega (arith, c.len.ensures, c.if-len-ge-LOG_BOUND.false)) in
    record {
      puts = put_made told c.args.job c.args.block.now _ old mid (faulted_made told c.args.job p q c.args.block.now old mid c.in-Faulted.column c.in-Faulted.ensures)
          (λ e. absurd (omega (arith, e, room))) (find_keeps told c.args.job p q _ old mid c.in-Faulted.ensures)
          (faulted_step told c.args.job p q c.args.block.now old mid c.in-Faulted.column c.in-Faulted.ensures c.logged-entries.ensures.settled.bound);
    }
