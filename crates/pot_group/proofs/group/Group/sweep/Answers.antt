use Rattle.std.proofs.Common.{◌≡◌, ◌+◌, ◌<◌, ◌≤◌, IsTrue, List, ap, arith, drop, refl, slice_index_or, subst, sym}
use Rattle.pot_bytes.specs.Digests.{digest_of}
use Rattle.pot_shelves.specs.Shelves.{plain}
use Rattle.pot_group.specs.declared.lanes.Lane.{Lane}
use Rattle.pot_group.specs.declared.sweeping.Swept.{Swept}
use Rattle.pot_group.specs.Group.{GroupParts, noted, view_of}
use Rattle.pot_group.specs.Lanes.{lanes_of}
use Rattle.pot_group.proofs.LaneReads.{left_of, none_left}
use Rattle.pot_group.proofs.LaneNotes.{Noted, note_few, note_legal, note_quiet, noted_all, noted_more, noted_none, over}
use Rattle.pot_group.proofs.group.Group.sweep.Goals as goal

pub loop-at-init : goal.loop-at-init
loop-at-init g c =
    let told = IsTrue g.A.Archive.account.tells in
    let m = g.A.Archive.account.meaning in
    let old = view_of m c.args.self.now in
    let now = plain m c.gather-lanes.new.self.shelves in
    let lanes = lanes_of c.gather-lanes.result in
    subst (λ (w : GroupParts _). Noted told c.args.job c.args.stripe c.args.column 0 c.nothing-swept.result lanes old (view_of m w)) (sym c.gather-lanes.ensures.same)
    (subst (λ (x : Swept). Noted told c.args.job c.args.stripe c.args.column 0 x lanes old (over old now)) (sym c.nothing-swept.ensures)
    (noted_none told c.args.job c.args.stripe c.args.column c.looks_left-most.result lanes old now c.logged-settled.ensures.settled c.gather-lanes.ensures.gathers c.looks_left-most.ensures.room))

pub note-requires-clause-legal : goal.note-requires-clause-legal
note-requires-clause-legal g c =
    let told = IsTrue g.A.Archive.account.tells in
    let old = view_of g.A.Archive.account.meaning c.args.self.now in
    let now = view_of g.A.Archive.account.meaning c.loop-at.self in
    let x = c.gather-lanes.result in
    let lane = slice_index_or x.lanes c.loop-at.at c.index-lanes-at.result in
    let rest = drop (c.loop-at.at + 1) (lanes_of x) in
    let few : c.loop-at.at < 4 = omega (arith, c.loop-at-test.true, c.gather-lanes.ensures.count, c.gather-lanes.ensures.gathers.few, c.looks_left-most.ensures.few) in
    let left = left_of x c.loop-at.at lane c.gather-lanes.ensures.count c.loop-at-test.true (ap (λ (l : Lane). slice_index_or x.lanes c.loop-at.at l) c.index-lanes-at.is) in
    let noted_so = subst (λ (ls : List Lane). Noted told c.args.job c.args.stripe c.args.column c.loop-at.at c.loop-at.swept ls old now) left c.loop-at.invariant in
    let right = c.digests_of-digests.ensures c.loop-at.at c.index-lanes-at.result _ c.loop-at-test.true in
    note_legal told c.args.job c.args.stripe c.args.column c.loop-at.at c.loop-at.swept lane rest old now few _ right c.found-found.result c.found-found.ensures c.entry_of.result c.entry_of.ensures noted_so

pub note-requires-clause-quiet : goal.note-requires-clause-quiet
note-requires-clause-quiet g c =
    let told = IsTrue g.A.Archive.account.tells in
    let old = view_of g.A.Archive.account.meaning c.args.self.now in
    let now = view_of g.A.Archive.account.meaning c.loop-at.self in
    let x = c.gather-lanes.result in
    let lane = slice_index_or x.lanes c.loop-at.at c.index-lanes-at.result in
    let rest = drop (c.loop-at.at + 1) (lanes_of x) in
    let few : c.loop-at.at < 4 = omega (arith, c.loop-at-test.true, c.gather-lanes.ensures.count, c.gather-lanes.ensures.gathers.few, c.looks_left-most.ensures.few) in
    let left = left_of x c.loop-at.at lane c.gather-lanes.ensures.count c.loop-at-test.true (ap (λ (l : Lane). slice_index_or x.lanes c.loop-at.at l) c.index-lanes-at.is) in
    let noted_so = subst (λ (ls : List Lane). Noted told c.args.job c.args.stripe c.args.column c.loop-at.at c.loop-at.swept ls old now) left c.loop-at.invariant in
    let right = c.digests_of-digests.ensures c.loop-at.at c.index-lanes-at.result _ c.loop-at-test.true in
    note_quiet told c.args.job c.args.stripe c.args.column c.loop-at.at c.loop-at.swept lane rest old now few _ right c.found-found.result c.found-found.ensures c.entry_of.result c.entry_of.ensures noted_so

pub with-swept-requires-clause-seen : goal.with-swept-requires-clause-seen
with-swept-requires-clause-seen g c =
    let told = IsTrue g.A.Archive.account.tells in
    let old = view_of g.A.Archive.account.meaning c.args.self.now in
    let now = view_of g.A.Archive.account.meaning c.loop-at.self in
    let x = c.gather-lanes.result in
    let lane = slice_index_or x.lanes c.loop-at.at c.index-lanes-at.result in
    let rest = drop (c.loop-at.at + 1) (lanes_of x) in
    let few : c.loop-at.at < 4 = omega (arith, c.loop-at-test.true, c.gather-lanes.ensures.count, c.gather-lanes.ensures.gathers.few, c.looks_left-most.ensures.few) in
    let left = left_of x c.loop-at.at lane c.gather-lanes.ensures.count c.loop-at-test.true (ap (λ (l : Lane). slice_index_or x.lanes c.loop-at.at l) c.index-lanes-at.is) in
    let noted_so = subst (λ (ls : List Lane). Noted told c.args.job c.args.stripe c.args.column c.loop-at.at c.loop-at.swept ls old now) left c.loop-at.invariant in
    (note_few told c.args.job c.args.stripe c.args.column c.loop-at.at c.loop-at.swept lane rest old now few (digest_of lane.block) refl noted_so).0

pub with-swept-requires-clause-gone : goal.with-swept-requires-clause-gone
with-swept-requires-clause-gone g c =
    let told = IsTrue g.A.Archive.account.tells in
    let old = view_of g.A.Archive.account.meaning c.args.self.now in
    let now = view_of g.A.Archive.account.meaning c.loop-at.self in
    let x = c.gather-lanes.result in
    let lane = slice_index_or x.lanes c.loop-at.at c.index-lanes-at.result in
    let rest = drop (c.loop-at.at + 1) (lanes_of x) in
    let few : c.loop-at.at < 4 = omega (arith, c.loop-at-test.true, c.gather-lanes.ensures.count, c.gather-lanes.ensures.gathers.few, c.looks_left-most.ensures.few) in
    let left = left_of x c.loop-at.at lane c.gather-lanes.ensures.count c.loop-at-test.true (ap (λ (l : Lane). slice_index_or x.lanes c.loop-at.at l) c.index-lanes-at.is) in
    let noted_so = subst (λ (ls : List Lane). Noted told c.args.job c.args.stripe c.args.column c.loop-at.at c.loop-at.swept ls old now) left c.loop-at.invariant in
    (note_few told c.args.job c.args.stripe c.args.column c.loop-at.at c.loop-at.swept lane rest old now few (digest_of lane.block) refl noted_so).1

pub loop-at-preserved : goal.loop-at-preserved
loop-at-preserved g c =
    let told = IsTrue g.A.Archive.account.tells in
    let old = view_of g.A.Archive.account.meaning c.args.self.now in
    let now = view_of g.A.Archive.account.meaning c.loop-at.self in
    let x = c.gather-lanes.result in
    let lane = slice_index_or x.lanes c.loop-at.at c.index-lanes-at.result in
    let rest = drop (c.loop-at.at + 1) (lanes_of x) in
    let few : c.loop-at.at < 4 = omega (arith, c.loop-at-test.true, c.gather-lanes.ensures.count, c.gather-lanes.ensures.gathers.few, c.looks_left-most.ensures.few) in
    let left = left_of x c.loop-at.at lane c.gather-lanes.ensures.count c.loop-at-test.true (ap (λ (l : Lane). slice_index_or x.lanes c.loop-at.at l) c.index-lanes-at.is) in
    let noted_so = subst (λ (ls : List Lane). Noted told c.args.job c.args.stripe c.args.column c.loop-at.at c.loop-at.swept ls old now) left c.loop-at.invariant in
    let right = c.digests_of-digests.ensures c.loop-at.at c.index-lanes-at.result _ c.loop-at-test.true in
    let m = g.A.Archive.account.meaning in
    let logs : view_of m c.note.new.self ≡ view_of m (noted c.loop-at.self c.entry_of.result) = ap (λ (w : GroupParts _). view_of m w) {y = noted c.loop-at.self c.entry_of.result} c.note.ensures in
    noted_more told c.args.job c.args.stripe c.args.column c.loop-at.at c.loop-at.swept lane rest old now few _ right c.found-found.result c.found-found.ensures c.entry_of.result c.entry_of.ensures c.with-swept.result
    (view_of m c.note.new.self) c.with-swept.ensures logs noted_so

pub returns : goal.returns
returns g c =
    let told = IsTrue g.A.Archive.account.tells in
    let m = g.A.Archive.account.meaning in
    let x = c.gather-lanes.result in
    let long = c.gather-lanes.ensures.count in
    let all : x.count ≤ c.loop-at.at = omega (arith, c.loop-at-test.false) in
    let few : c.loop-at.at ≤ 4 = omega (arith, c.loop-at.auto.at-end, long, c.gather-lanes.ensures.gathers.few, c.looks_left-most.ensures.few) in
    record {
      sweeps = noted_all told c.args.job c.args.stripe c.args.column c.loop-at.at c.loop-at.swept (view_of m c.args.self.now) (view_of m c.loop-at.self) few
          (λ e. c.gather-lanes.ensures.gathers.none (none_left x 0 long (omega (arith, all, e))))
          (subst (λ (ls : List Lane). Noted told c.args.job c.args.stripe c.args.column c.loop-at.at c.loop-at.swept ls (view_of m c.args.self.now) (view_of m c.loop-at.self)) (none_left x c.loop-at.at long all) c.loop-at.invariant);
    }
