use Rattle.std.proofs.Common.{◌≡◌, length, ap, IsTrue, arith}
use Rattle.pot_shared.proofs.TakenIn.{all_alone, all_unworked, rooms, taken_alone, written_back}
use Rattle.pot_shared.proofs.group_start.start_groups.Goals as goal

pub take_in-requires-clause-room : goal.take_in-requires-clause-room
take_in-requires-clause-room g c =
    let given = c.give_out.ensures.given.1 in
    let left = written_back (IsTrue g.A.Archive.account.tells) g.A.Archive.account.meaning given.first c.give_out.new.starts.items _ _ _ given.can c.as_mut_slice.ensures.value c.give_out.new.starts.ok.0 c.start_all.ensures.left in
    let room = rooms (IsTrue g.A.Archive.account.tells) g.A.Archive.account.meaning _ _ _ _ _ _ given left in
    omega (arith, room.0, c.requires.space, c.give_out.ensures.space)

pub take_in-requires-clause-places : goal.take_in-requires-clause-places
take_in-requires-clause-places g c =
    let given = c.give_out.ensures.given.1 in
    let left = written_back (IsTrue g.A.Archive.account.tells) g.A.Archive.account.meaning given.first c.give_out.new.starts.items _ _ _ given.can c.as_mut_slice.ensures.value c.give_out.new.starts.ok.0 c.start_all.ensures.left in
    let room = rooms (IsTrue g.A.Archive.account.tells) g.A.Archive.account.meaning _ _ _ _ _ _ given left in
    let none = ap length c.requires.none in omega (arith, room.1, none, c.requires.places)

pub take_in-requires-in-Err-clause-places : goal.take_in-requires-in-Err-clause-places
take_in-requires-in-Err-clause-places g c =
    let given = c.give_out.ensures.given.1 in
    let left = all_unworked (IsTrue g.A.Archive.account.tells) g.A.Archive.account.meaning given.first c.give_out.new.starts.items given.can in
    let room = rooms (IsTrue g.A.Archive.account.tells) g.A.Archive.account.meaning _ _ _ _ _ _ given left in
    let none = ap length c.requires.none in omega (arith, room.1, none, c.requires.places)

pub returns-then-len-count-clause-started : goal.returns-then-len-count-clause-started
returns-then-len-count-clause-started g c =
    let given = c.give_out.ensures.given.1 in
    let left = written_back (IsTrue g.A.Archive.account.tells) g.A.Archive.account.meaning given.first c.give_out.new.starts.items _ _ _ given.can c.as_mut_slice.ensures.value c.give_out.new.starts.ok.0 c.start_all.ensures.left in
    let many : length c.take_in.new.members.items ≡ length c.args.tables.items = omega (arith, c.if-len-count.true, c.len.ensures, c.len-count.ensures, c.take_in.new.members.ok.0, c.args.tables.ok.0) in
    let whole = all_alone (IsTrue g.A.Archive.account.tells) g.A.Archive.account.meaning _ _ _ _ _ _ _ _ _ given left c.take_in.ensures.hand
    c.take_in.ensures.members c.requires.none c.in-Ok-give_out.ensures.all many in
    whole.started

pub returns-then-len-count-clause-empty : goal.returns-then-len-count-clause-empty
returns-then-len-count-clause-empty g c =
    let given = c.give_out.ensures.given.1 in
    let left = written_back (IsTrue g.A.Archive.account.tells) g.A.Archive.account.meaning given.first c.give_out.new.starts.items _ _ _ given.can c.as_mut_slice.ensures.value c.give_out.new.starts.ok.0 c.start_all.ensures.left in
    let many : length c.take_in.new.members.items ≡ length c.args.tables.items = omega (arith, c.if-len-count.true, c.len.ensures, c.len-count.ensures, c.take_in.new.members.ok.0, c.args.tables.ok.0) in
    let whole = all_alone (IsTrue g.A.Archive.account.tells) g.A.Archive.account.meaning _ _ _ _ _ _ _ _ _ given left c.take_in.ensures.hand
    c.take_in.ensures.members c.requires.none c.in-Ok-give_out.ensures.all many in
    whole.empty

pub returns-then-len-count-clause-marked : goal.returns-then-len-count-clause-marked
returns-then-len-count-clause-marked g c =
    let given = c.give_out.ensures.given.1 in
    let left = written_back (IsTrue g.A.Archive.account.tells) g.A.Archive.account.meaning given.first c.give_out.new.starts.items _ _ _ given.can c.as_mut_slice.ensures.value c.give_out.new.starts.ok.0 c.start_all.ensures.left in
    let stands = taken_alone (IsTrue g.A.Archive.account.tells) g.A.Archive.account.meaning _ _ _ _ _ _ _ _ _ given left c.take_in.ensures.hand
    c.take_in.ensures.members c.requires.none in
    stands.marked

pub returns-then-len-count-clause-lost : goal.returns-then-len-count-clause-lost
returns-then-len-count-clause-lost g c =
    let given = c.give_out.ensures.given.1 in
    let left = written_back (IsTrue g.A.Archive.account.tells) g.A.Archive.account.meaning given.first c.give_out.new.starts.items _ _ _ given.can c.as_mut_slice.ensures.value c.give_out.new.starts.ok.0 c.start_all.ensures.left in
    let stands = taken_alone (IsTrue g.A.Archive.account.tells) g.A.Archive.account.meaning _ _ _ _ _ _ _ _ _ given left c.take_in.ensures.hand
    c.take_in.ensures.members c.requires.none in
    stands.lost

pub returns-else-len-count-clause-lost : goal.returns-else-len-count-clause-lost
returns-else-len-count-clause-lost g c =
    let given = c.give_out.ensures.given.1 in
    let left = written_back (IsTrue g.A.Archive.account.tells) g.A.Archive.account.meaning given.first c.give_out.new.starts.items _ _ _ given.can c.as_mut_slice.ensures.value c.give_out.new.starts.ok.0 c.start_all.ensures.left in
    let stands = taken_alone (IsTrue g.A.Archive.account.tells) g.A.Archive.account.meaning _ _ _ _ _ _ _ _ _ given left c.take_in.ensures.hand
    c.take_in.ensures.members c.requires.none in
    stands.lost

pub returns-else-len-count-clause-refused : goal.returns-else-len-count-clause-refused
returns-else-len-count-clause-refused g c =
    let given = c.give_out.ensures.given.1 in
    let left = written_back (IsTrue g.A.Archive.account.tells) g.A.Archive.account.meaning given.first c.give_out.new.starts.items _ _ _ given.can c.as_mut_slice.ensures.value c.give_out.new.starts.ok.0 c.start_all.ensures.left in
    let stands = taken_alone (IsTrue g.A.Archive.account.tells) g.A.Archive.account.meaning _ _ _ _ _ _ _ _ _ given left c.take_in.ensures.hand
    c.take_in.ensures.members c.requires.none in
    stands.refused

pub returns-else-len-count-clause-few : goal.returns-else-len-count-clause-few
returns-else-len-count-clause-few g c =
    let given = c.give_out.ensures.given.1 in
    let left = written_back (IsTrue g.A.Archive.account.tells) g.A.Archive.account.meaning given.first c.give_out.new.starts.items _ _ _ given.can c.as_mut_slice.ensures.value c.give_out.new.starts.ok.0 c.start_all.ensures.left in
    let stands = taken_alone (IsTrue g.A.Archive.account.tells) g.A.Archive.account.meaning _ _ _ _ _ _ _ _ _ given left c.take_in.ensures.hand
    c.take_in.ensures.members c.requires.none in
    stands.few

pub returns-else-len-count-clause-within : goal.returns-else-len-count-clause-within
returns-else-len-count-clause-within g c =
    let given = c.give_out.ensures.given.1 in
    let left = written_back (IsTrue g.A.Archive.account.tells) g.A.Archive.account.meaning given.first c.give_out.new.starts.items _ _ _ given.can c.as_mut_slice.ensures.value c.give_out.new.starts.ok.0 c.start_all.ensures.left in
    let stands = taken_alone (IsTrue g.A.Archive.account.tells) g.A.Archive.account.meaning _ _ _ _ _ _ _ _ _ given left c.take_in.ensures.hand
    c.take_in.ensures.members c.requires.none in
    omega (arith, stands.within, c.requires.space)

pub returns-in-Err-clause-lost : goal.returns-in-Err-clause-lost
returns-in-Err-clause-lost g c =
    let given = c.give_out.ensures.given.1 in
    let left = all_unworked (IsTrue g.A.Archive.account.tells) g.A.Archive.account.meaning given.first c.give_out.new.starts.items given.can in
    let stands = taken_alone (IsTrue g.A.Archive.account.tells) g.A.Archive.account.meaning _ _ _ _ _ _ _ _ _ given left c.take_in-in-Err.ensures.hand
    c.take_in-in-Err.ensures.members c.requires.none in
    stands.lost

pub returns-in-Err-clause-refused : goal.returns-in-Err-clause-refused
returns-in-Err-clause-refused g c =
    let given = c.give_out.ensures.given.1 in
    let left = all_unworked (IsTrue g.A.Archive.account.tells) g.A.Archive.account.meaning given.first c.give_out.new.starts.items given.can in
    let stands = taken_alone (IsTrue g.A.Archive.account.tells) g.A.Archive.account.meaning _ _ _ _ _ _ _ _ _ given left c.take_in-in-Err.ensures.hand
    c.take_in-in-Err.ensures.members c.requires.none in
    stands.refused

pub returns-in-Err-clause-few : goal.returns-in-Err-clause-few
returns-in-Err-clause-few g c =
    let given = c.give_out.ensures.given.1 in
    let left = all_unworked (IsTrue g.A.Archive.account.tells) g.A.Archive.account.meaning given.first c.give_out.new.starts.items given.can in
    let stands = taken_alone (IsTrue g.A.Archive.account.tells) g.A.Archive.account.meaning _ _ _ _ _ _ _ _ _ given left c.take_in-in-Err.ensures.hand
    c.take_in-in-Err.ensures.members c.requires.none in
    stands.few

pub returns-in-Err-clause-within : goal.returns-in-Err-clause-within
returns-in-Err-clause-within g c =
    let given = c.give_out.ensures.given.1 in
    let left = all_unworked (IsTrue g.A.Archive.account.tells) g.A.Archive.account.meaning given.first c.give_out.new.starts.items given.can in
    let stands = taken_alone (IsTrue g.A.Archive.account.tells) g.A.Archive.account.meaning _ _ _ _ _ _ _ _ _ given left c.take_in-in-Err.ensures.hand
    c.take_in-in-Err.ensures.members c.requires.none in
    omega (arith, stands.within, c.requires.space)
