use Rattle.std.proofs.Common.{rules, refl, ◌≡◌, ◌++◌, IsTrue, List, length, sym, ap, subst, ◌∙◌, arith}
use Rattle.std.specs.Prelude.{flat_map}
use Rattle.std.specs.List.{AllByRecursion}
use Rattle.pot_bytes.specs.declared.rack.Rack.{Rack}
use Rattle.pot_outside.specs.Accounts.{whole_transition}
use Rattle.pot_outside.specs.Archives.{IsMeant}
use Rattle.pot_outside.specs.Rooms.{room_transition}
use Rattle.pot_image.specs.Images.{contents}
use Rattle.pot_image.specs.Spelling.{image_bytes}
use Rattle.pot_machine.specs.Table.{Table, archives_in}
use Rattle.pot_shared.specs.Works.{known}
use Rattle.pot_commands.specs.declared.working.Ending.TheVariants as ending
use Rattle.pot_commands.specs.Failures.{FailsOwn}
use Rattle.pot_commands.specs.Rows.{HasFilled}
use Rattle.pot_commands.specs.Steps.{IsWorkedStep}
use Rattle.pot_commands.specs.Taking.{asked_by}
use Rattle.pot_shared.specs.Remains.{HasSpace}
use Rattle.pot_session.specs.Serving.{IsEnd, Unlent, Unopened}
use Rattle.pot_session.proofs.Counts.{caused_both, caused_fails, caused_second}
use Rattle.pot_session.proofs.FoundLemmas.{came_since}
use Rattle.pot_session.proofs.LeftImage.{had_numbers}
use Rattle.pot_session.proofs.OutLemmas.{out_apart}
use Rattle.pot_session.proofs.PastImages.{came_none}
use Rattle.pot_session.proofs.LendLemmas.{first_used, have_come, home_after, image_low, low_after, marks_before, means_after, none_before_asked, none_first, out_after, still_meant}
use Rattle.pot_session.proofs.WorkLemmas.{are_worked, asked_low}
use Rattle.pot_session.proofs.ServeLemmas.{but_kept_parts, all_parts, has_filled, same_read, same_records, still_but_kept, still_all, serves_closed, end_by_kept, sink_by_kept, room_by_kept, desk_by_kept}
use Rattle.pot_session.proofs.session.serving.serve.Goals as goal

pub work-ending-requires-clause-parts : goal.work-ending-requires-clause-parts
work-ending-requires-clause-parts g c = λ bounds within. (but_kept_parts _ c.in-Ok.ensures.opened.vault.parts.groups, all_parts _ c.in-Ok.ensures.opened.vault.parts.index)

pub work-ending-requires-clause-can : goal.work-ending-requires-clause-can
work-ending-requires-clause-can g c = λ bounds within. c.in-Ok.ensures.opened.vault.can_call

pub work-ending-requires-clause-filled : goal.work-ending-requires-clause-filled
work-ending-requires-clause-filled g c = λ bounds within.
    subst (λ (r : Rack). HasFilled r (known c.in-Ok.opened.passes.groups c.in-Ok.opened.passes.index)) (sym c.in-Ok.ensures.opened.vault.is_rack)
    (has_filled c.args.staff.now.host.seed.now (contents c.args.image) c.in-Ok.opened.passes.groups c.in-Ok.opened.passes.index c.requires.together c.in-Ok.ensures.opened.vault.first c.in-Ok.ensures.opened.vault.are_tables c.in-Ok.ensures.opened.vault.are_records
    (ap length c.in-Ok.ensures.opened.vault.can_call.ready.of.0 ∙ (c.in-Ok.ensures.opened.vault.can_call.count ∙ ap (λ (r : Rack). r.groups) c.in-Ok.ensures.opened.vault.is_rack)))

pub work-ending-requires-clause-worked : goal.work-ending-requires-clause-worked
work-ending-requires-clause-worked g c = λ bounds within.
    subst (λ (r : Rack). AllByRecursion (IsWorkedStep r.groups) c.args.steps.now) (sym c.in-Ok.ensures.opened.vault.is_rack) (are_worked c.args.image.rack c.args.steps.now c.requires.worked)

pub work-ending-requires-clause-used : goal.work-ending-requires-clause-used
work-ending-requires-clause-used g c = λ bounds within.
    first_used (g.R.Room.meaning c.open_session.new.room) (contents c.args.image) c.in-Ok.opened.passes.groups c.in-Ok.opened.passes.index c.requires.together c.in-Ok.ensures.opened.vault.first c.in-Ok.ensures.opened.vault.are_tables c.in-Ok.ensures.out

pub close_session-closed-requires-after_bounds : goal.close_session-closed-requires-after_bounds
close_session-closed-requires-after_bounds g c = λ bounds within. record {
  old = known c.in-Ok.opened.passes.groups c.in-Ok.opened.passes.index;
  numbers = (flat_map archives_in c.args.image.tables.items) ++ c.work-ending.ensures.took.taken;
  served = record { opened = c.in-Ok.ensures.opened.vault.first; went = c.work-ending.ensures.went; stays = c.work-ending.ensures.stays };
  come = have_come (IsTrue g.R.A.Archive.account.tells) _ (asked_by c.args.steps.now) (g.R.Room.meaning c.open_session.new.room) (g.R.Room.meaning c.work-ending.new.room) (known c.in-Ok.opened.passes.groups c.in-Ok.opened.passes.index) (known c.work-ending.new.passes.groups c.work-ending.new.passes.index) c.work-ending.ensures.took.taken c.work-ending.ensures.took.takes c.work-ending.ensures.took.come (flat_map archives_in c.args.image.tables.items) c.in-Ok.ensures.out
      (ap (flat_map archives_in) (same_read _ _ _ _ c.in-Ok.ensures.opened.vault.can_call.ready c.work-ending.ensures.can.ready c.work-ending.ensures.stays.groups ∙ c.in-Ok.ensures.opened.vault.are_tables));
  out = out_after (IsTrue g.R.A.Archive.account.tells) _ (asked_by c.args.steps.now) (g.R.Room.meaning c.open_session.new.room) (g.R.Room.meaning c.work-ending.new.room) (known c.in-Ok.opened.passes.groups c.in-Ok.opened.passes.index) (known c.work-ending.new.passes.groups c.work-ending.new.passes.index) c.work-ending.ensures.took.taken c.work-ending.ensures.took.takes c.work-ending.ensures.took.come (flat_map archives_in c.args.image.tables.items) c.in-Ok.ensures.out;
  low = low_after (IsTrue g.R.A.Archive.account.tells) _ (asked_by c.args.steps.now) (g.R.Room.meaning c.open_session.new.room) (g.R.Room.meaning c.work-ending.new.room) (known c.in-Ok.opened.passes.groups c.in-Ok.opened.passes.index) (known c.work-ending.new.passes.groups c.work-ending.new.passes.index) c.work-ending.ensures.took.taken c.work-ending.ensures.took.takes c.work-ending.ensures.took.come (flat_map archives_in c.args.image.tables.items) c.in-Ok.ensures.out (image_low (contents c.args.image) c.requires.together) (asked_low c.args.image.rack c.args.steps.now c.requires.worked);
  vault = record {
    can_call = c.work-ending.ensures.can;
    parts = record {
      groups = still_but_kept _ _ c.work-ending.ensures.stays.groups c.in-Ok.ensures.opened.vault.parts.groups;
      index = still_all _ _ c.work-ending.ensures.stays.index c.in-Ok.ensures.opened.vault.parts.index;
    };
    fits = c.in-Ok.ensures.opened.places;
  };
  bare = c.in-Ok.ensures.opened.bare;
  space = subst (λ (ts : List Table). HasSpace (length ts) 512 c.in-Ok.opened.remains)
      (sym (same_read _ _ _ _ c.in-Ok.ensures.opened.vault.can_call.ready c.work-ending.ensures.can.ready c.work-ending.ensures.stays.groups ∙ c.in-Ok.ensures.opened.vault.are_tables)) c.in-Ok.ensures.opened.space;
  rack = c.in-Ok.ensures.opened.rack ∙ sym c.in-Ok.ensures.opened.vault.is_rack;
}

pub returns-clause-untouched : goal.returns-clause-untouched
returns-clause-untouched g c n none =
    c.close_session-closed.ensures.untouched n (home_after (IsTrue g.R.A.Archive.account.tells) _ (asked_by c.args.steps.now) (g.R.Room.meaning c.open_session.new.room) (g.R.Room.meaning c.work-ending.new.room) (known c.in-Ok.opened.passes.groups c.in-Ok.opened.passes.index) (known c.work-ending.new.passes.groups c.work-ending.new.passes.index) c.work-ending.ensures.took.taken c.work-ending.ensures.took.takes c.work-ending.ensures.took.come (flat_map archives_in c.args.image.tables.items) c.in-Ok.ensures.out n none)
    ∙ (means_after (IsTrue g.R.A.Archive.account.tells) _ (asked_by c.args.steps.now) (g.R.Room.meaning c.open_session.new.room) (g.R.Room.meaning c.work-ending.new.room) (known c.in-Ok.opened.passes.groups c.in-Ok.opened.passes.index) (known c.work-ending.new.passes.groups c.work-ending.new.passes.index) c.work-ending.ensures.took.taken c.work-ending.ensures.took.takes c.work-ending.ensures.took.come (flat_map archives_in c.args.image.tables.items) c.in-Ok.ensures.out n none
    ∙ c.open_session.ensures.untouched n (none_first (IsTrue g.R.A.Archive.account.tells) _ (asked_by c.args.steps.now) (g.R.Room.meaning c.open_session.new.room) (g.R.Room.meaning c.work-ending.new.room) (known c.in-Ok.opened.passes.groups c.in-Ok.opened.passes.index) (known c.work-ending.new.passes.groups c.work-ending.new.passes.index) c.work-ending.ensures.took.taken c.work-ending.ensures.took.takes c.work-ending.ensures.took.come (flat_map archives_in c.args.image.tables.items) c.in-Ok.ensures.out n none))

pub returns-clause-serves : goal.returns-clause-serves
returns-clause-serves g c =
    let closes = c.close_session-closed.ensures.closes (record { old = known c.in-Ok.opened.passes.groups c.in-Ok.opened.passes.index; first = contents c.args.image; room = g.R.Room.meaning c.args.room.now }) (record {
      served = record {
        served = record { opened = c.in-Ok.ensures.opened.vault.first; went = c.work-ending.ensures.went; stays = c.work-ending.ensures.stays };
        taken = c.in-Ok.ensures.taken;
        marked = marks_before (IsTrue g.R.A.Archive.account.tells) _ (asked_by c.args.steps.now) (g.R.Room.meaning c.open_session.new.room) (g.R.Room.meaning c.work-ending.new.room) (known c.in-Ok.opened.passes.groups c.in-Ok.opened.passes.index) (known c.work-ending.new.passes.groups c.work-ending.new.passes.index) c.work-ending.ensures.took.taken c.work-ending.ensures.took.takes c.work-ending.ensures.took.come (flat_map archives_in c.args.image.tables.items) c.in-Ok.ensures.out (g.R.Room.meaning c.args.room.now) c.open_session.ensures.untouched;
      };
      begun = record {
        is_session = sym c.in-Ok.ensures.opened.session;
        is_rack = sym c.in-Ok.ensures.opened.rack;
        are_tables = sym (same_read _ _ _ _ c.in-Ok.ensures.opened.vault.can_call.ready c.work-ending.ensures.can.ready c.work-ending.ensures.stays.groups ∙ c.in-Ok.ensures.opened.vault.are_tables);
        are_records = sym (same_records _ _ c.work-ending.ensures.stays.index ∙ c.in-Ok.ensures.opened.vault.are_records);
      };
    }) in
    let names : length c.in-Ok.opened.passes.groups.names ≡ c.args.image.rack.groups =
    ap length c.in-Ok.ensures.opened.vault.can_call.ready.of.0 ∙ (c.in-Ok.ensures.opened.vault.can_call.count ∙ ap (λ (r : Rack). r.groups) c.in-Ok.ensures.opened.vault.is_rack) in
    let long : length closes.last.group_logs ≡ length c.in-Ok.opened.passes.groups.names = closes.leaves.groups.count_logs ∙ (c.requires.together.tables.count ∙ sym names) in
    let numbers = (flat_map archives_in c.args.image.tables.items) ++ c.work-ending.ensures.took.taken in
    let same = same_read _ _ _ _ c.in-Ok.ensures.opened.vault.can_call.ready c.work-ending.ensures.can.ready c.work-ending.ensures.stays.groups ∙ c.in-Ok.ensures.opened.vault.are_tables in
    let come = have_come (IsTrue g.R.A.Archive.account.tells) _ (asked_by c.args.steps.now) (g.R.Room.meaning c.open_session.new.room) (g.R.Room.meaning c.work-ending.new.room) (known c.in-Ok.opened.passes.groups c.in-Ok.opened.passes.index) (known c.work-ending.new.passes.groups c.work-ending.new.passes.index) c.work-ending.ensures.took.taken c.work-ending.ensures.took.takes c.work-ending.ensures.took.come (flat_map archives_in c.args.image.tables.items) c.in-Ok.ensures.out (ap (flat_map archives_in) same) in
    let outs = out_after (IsTrue g.R.A.Archive.account.tells) _ (asked_by c.args.steps.now) (g.R.Room.meaning c.open_session.new.room) (g.R.Room.meaning c.work-ending.new.room) (known c.in-Ok.opened.passes.groups c.in-Ok.opened.passes.index) (known c.work-ending.new.passes.groups c.work-ending.new.passes.index) c.work-ending.ensures.took.taken c.work-ending.ensures.took.takes c.work-ending.ensures.took.come (flat_map archives_in c.args.image.tables.items) c.in-Ok.ensures.out in
    let lows = low_after (IsTrue g.R.A.Archive.account.tells) _ (asked_by c.args.steps.now) (g.R.Room.meaning c.open_session.new.room) (g.R.Room.meaning c.work-ending.new.room) (known c.in-Ok.opened.passes.groups c.in-Ok.opened.passes.index) (known c.work-ending.new.passes.groups c.work-ending.new.passes.index) c.work-ending.ensures.took.taken c.work-ending.ensures.took.takes c.work-ending.ensures.took.come (flat_map archives_in c.args.image.tables.items) c.in-Ok.ensures.out (image_low (contents c.args.image) c.requires.together) (asked_low c.args.image.rack c.args.steps.now c.requires.worked) in
    let came = came_since (known c.in-Ok.opened.passes.groups c.in-Ok.opened.passes.index) (known c.work-ending.new.passes.groups c.work-ending.new.passes.index) closes.last.group_logs c.in-Ok.ensures.opened.vault.first closes.leaves.logs long in
    let had = had_numbers (known c.in-Ok.opened.passes.groups c.in-Ok.opened.passes.index) (known c.work-ending.new.passes.groups c.work-ending.new.passes.index) numbers (contents c.args.image).tables closes.last.group_logs come closes.sole same came in
    serves_closed c.args.staff.now.host.seed.now c.args.staff.now.careful (contents c.args.image) c.args.steps.now
    (room_transition g.R.A.Archive.account g.R.Room.meaning c.args.room.now c.close_session-closed.new.room) _
    (whole_transition g.D.Desk.account c.args.desk.now c.close_session-closed.new.desk) _ _ (known c.in-Ok.opened.passes.groups c.in-Ok.opened.passes.index) (known c.work-ending.new.passes.groups c.work-ending.new.passes.index) c.work-ending.result
    (g.R.Room.meaning c.work-ending.new.room).failures c.close_session-closed.result.kept c.close_session-closed.result.first _ c.in-Ok.ensures.opened.vault.first c.in-Ok.ensures.opened.vault.are_tables c.in-Ok.ensures.opened.vault.are_records c.in-Ok.ensures.opened.vault.is_rack c.in-Ok.ensures.opened.session c.work-ending.ensures.ends
    (subst (λ k. FailsOwn k (g.R.Room.meaning c.work-ending.new.room).failures (c.work-ending.result ≡ ending.RoomFailed)) c.in-Ok.ensures.sound c.work-ending.ensures.own) closes c.requires.kept
    (λ told well n none unbrought. (let still = still_meant (IsTrue g.R.A.Archive.account.tells) _ (asked_by c.args.steps.now) (g.R.Room.meaning c.open_session.new.room) (g.R.Room.meaning c.work-ending.new.room) (known c.in-Ok.opened.passes.groups c.in-Ok.opened.passes.index) (known c.work-ending.new.passes.groups c.work-ending.new.passes.index) c.work-ending.ensures.took.taken c.work-ending.ensures.took.takes c.work-ending.ensures.took.come (flat_map archives_in c.args.image.tables.items) c.in-Ok.ensures.out
    told well closes.sole n none (sym (came_since (known c.in-Ok.opened.passes.groups c.in-Ok.opened.passes.index) (known c.work-ending.new.passes.groups c.work-ending.new.passes.index) closes.last.group_logs c.in-Ok.ensures.opened.vault.first closes.leaves.logs long n) ∙ unbrought) in
    subst (λ m. IsMeant m ((g.R.Room.meaning c.close_session-closed.new.room).means n)) (c.open_session.ensures.untouched n none)
    (subst (λ m. IsMeant ((g.R.Room.meaning c.open_session.new.room).means n) m) (sym (c.close_session-closed.ensures.untouched n still.0)) still.1)))
    c.status_by.ensures c.requires.together c.requires.space
    (λ n. (let e = had n in let one = out_apart (g.R.Room.meaning c.work-ending.new.room) numbers outs n in omega (arith, e, one))) (λ n lt. had n ∙ lows n lt) c.work-ending.ensures.blinds

pub returns-clause-which : goal.returns-clause-which
returns-clause-which g c = subst IsEnd (sym c.status_by.ensures) (end_by_kept c.args.staff.now.careful c.work-ending.result c.close_session-closed.result.kept c.close_session-closed.result.first c.close_session-closed.ensures.which_kept c.close_session-closed.ensures.which)

pub returns-clause-sink : goal.returns-clause-sink
returns-clause-sink g c = record {
  later = c.work-ending.ensures.sink.later;
  rose = λ e. c.work-ending.ensures.sink.rose (sink_by_kept c.args.staff.now.careful c.work-ending.result c.close_session-closed.result.kept c.close_session-closed.result.first c.close_session-closed.ensures.which_kept c.close_session-closed.ensures.which (sym c.status_by.ensures ∙ e));
}

pub returns-clause-room : goal.returns-clause-room
returns-clause-room g c =
    caused_second _ _ _ c.open_session.ensures.cause (caused_both _ _ _ c.work-ending.ensures.room c.close_session-closed.ensures.room (λ h. h))
    (λ e. room_by_kept c.args.staff.now.careful c.work-ending.result c.close_session-closed.result.kept c.close_session-closed.result.first c.close_session-closed.ensures.which_kept c.close_session-closed.ensures.which (sym c.status_by.ensures ∙ e))

pub returns-clause-own : goal.returns-clause-own
returns-clause-own g c =
    caused_second _ _ _ c.open_session.ensures.own (caused_both _ _ _ (caused_fails _ _ c.work-ending.ensures.own) c.close_session-closed.ensures.own (λ h. h))
    (λ e. room_by_kept c.args.staff.now.careful c.work-ending.result c.close_session-closed.result.kept c.close_session-closed.result.first c.close_session-closed.ensures.which_kept c.close_session-closed.ensures.which (sym c.status_by.ensures ∙ e))

pub returns-clause-desk : goal.returns-clause-desk
returns-clause-desk g c = record {
  later = c.close_session-closed.ensures.desk.later;
  rose = λ e. c.close_session-closed.ensures.desk.rose (desk_by_kept c.args.staff.now.careful c.work-ending.result c.close_session-closed.result.kept c.close_session-closed.result.first c.close_session-closed.ensures.which_kept c.close_session-closed.ensures.which c.close_session-closed.ensures.first (sym c.status_by.ensures ∙ e));
}

pub returns-in-Err-Failed-clause-untouched : goal.returns-in-Err-Failed-clause-untouched
returns-in-Err-Failed-clause-untouched g c n none =
    c.open_session.ensures.untouched n (none_before_asked n (flat_map archives_in c.args.image.tables.items) (asked_by c.args.steps.now) none)

pub returns-in-Err-NoMemory-clause-untouched : goal.returns-in-Err-NoMemory-clause-untouched
returns-in-Err-NoMemory-clause-untouched g c n none =
    c.open_session.ensures.untouched n (none_before_asked n (flat_map archives_in c.args.image.tables.items) (asked_by c.args.steps.now) none)

pub returns-in-Err-Failed-clause-serves : goal.returns-in-Err-Failed-clause-serves
returns-in-Err-Failed-clause-serves g c =
    Unlent (search rules) (λ told. refl) (λ told. ((c.requires.kept told).0, came_none (g.D.Desk.account.meaning c.args.desk.now).held.past (image_bytes (contents c.args.image)))) (search rules) c.open_session.ensures.untouched

pub returns-in-Err-NoMemory-clause-serves : goal.returns-in-Err-NoMemory-clause-serves
returns-in-Err-NoMemory-clause-serves g c =
    Unopened (search rules) (λ told. refl) (λ told. ((c.requires.kept told).0, came_none (g.D.Desk.account.meaning c.args.desk.now).held.past (image_bytes (contents c.args.image)))) (search rules, c.open_session.ensures.untouched)
