-- What passes know after steps, and how a session ends.
use Rattle.std.proofs.Common.{◌≡◌, ◌<◌, ◌≤◌, ◌+◌, ◌++◌, ◌⊎◌, inl, inr, ℕ, zero, suc, Bool, true, false, cond, List, [], ◌∷◌, length, refl, sym, ap, subst, ◌∙◌, arith}
use Rattle.std.specs.Prelude.{All, Contains, IsTrue, Option, Some, IfSome, Result, Ok, Err, IfErr, IsErrOf, slice_index_or, flat_map}
use Rattle.pot_bytes.specs.Rack.{log_bound}
use Rattle.pot_bytes.specs.declared.rack.Rack.{Rack}
use Rattle.pot_bytes.specs.declared.rack.Place.{Place}
use Rattle.pot_outside.specs.Accounts.{Content, Transition}
use Rattle.pot_outside.specs.Desks.{Images}
use Rattle.pot_outside.specs.Rooms.{RoomState}
use Rattle.pot_index.specs.declared.record.Record.{Record}
use Rattle.pot_index.specs.declared.record.Split.{Split}
use Rattle.pot_index.specs.Records.{current_of, splits_of}
use Rattle.pot_image.specs.Rules.{FitsTable, FitsTogether, IsFilled, IsRecordOver}
use Rattle.std.proofs.lemmas.List.Elements.{All-contains, Contains-append_right}
use Rattle.std.proofs.lemmas.Option.{slice_get_within}
use Rattle.pot_machine.specs.Slot.{is_void}
use Rattle.pot_machine.specs.Table.{Table, slot_at}
use Rattle.pot_machine.specs.Making.{empty_table}
use Rattle.pot_script.specs.declared.grouping.Step.{Step}
use Rattle.pot_image.specs.Images.{Contents}
use Rattle.pot_turn.specs.declared.name.TurnName.{TurnName}
use Rattle.pot_turn.specs.Views.{spent_view}
use Rattle.pot_rows.specs.Rows.{HasMoreParts, PassRow, view_at}
use Rattle.pot_rows.specs.Ends.{HasAllParts}
use Rattle.pot_shared.specs.declared.member.GroupOrigin.{GroupOrigin}
use Rattle.pot_shared.specs.Ready.{GroupPass, GroupPasses, AreReady}
use Rattle.pot_shared.specs.Catalogs.{IndexPass, IndexPasses, records_in}
use Rattle.pot_shared.specs.Sharing.{HasAllButKept}
use Rattle.pot_pads.specs.Pads.{pads_of}
use Rattle.pot_shared.specs.Blinds.{AreDrawn}
use Rattle.pot_shared.specs.Works.{Known, known, blinds_by, section_of}
use Rattle.pot_commands.specs.declared.working.Ending.{Ending}
use Rattle.pot_commands.specs.declared.working.Ending.TheVariants as ending
use Rattle.pot_commands.specs.Rows.{HasFilled, IsSessionSetting}
use Rattle.pot_commands.specs.Ends.{Ends}
use Rattle.pot_commands.specs.Failures.{FailsOwn}
use Rattle.pot_shared.specs.Going.{AllOnlyWriters, PassesStay}
use Rattle.pot_commands.proofs.Judging.{ends_over}
use Rattle.pot_session.specs.declared.ending.status.Status.{Status}
use Rattle.pot_session.specs.declared.ending.status.Status.TheVariants as status
use Rattle.pot_session.specs.declared.ending.stop.Stop.{Stop}
use Rattle.pot_session.specs.declared.ending.stop.Stop.TheVariants as stop
use Rattle.pot_shared.specs.Hands.{AreApart}
use Rattle.pot_session.specs.Losses.{all_had}
use Rattle.pot_shared.specs.Groups.{AreFirstPasses, AreLow, IsFirstTable, table_read, tables_read, records_read}
use Rattle.pot_shared.proofs.Lists.{at_same}
use Rattle.pot_session.proofs.CloseImages.{if_written}
use Rattle.pot_session.proofs.LeftImage.{left_image, share_none}
use Rattle.pot_session.proofs.LossLemmas.{lost_where_few}
use Rattle.pot_session.specs.Desks.{IsKeepStop}
use Rattle.pot_session.specs.Serving.{HoldsBegin, Serves, Closed, Closes, IsCloseStop, IsEnd, OtherArchivesStay, setting_of, status_after, status_by}

-- THE TABLES

-- a group can begin with each table of an image
pub first_tables : (rack : Rack) (ts : List Table) → All (FitsTable rack) ts → All (IsFirstTable rack) ts
first_tables rack ts fits = λ k d l. (let f = fits k d l in record { of_rack = (f.data_columns, f.parity, f.stripes); relays = f.relays })

-- WHAT STAYS

reads : (vs ws : List GroupPass) → length ws ≡ length vs → ((n : ℕ) → (slice_index_or ws n spent_view).origin ≡ (slice_index_or vs n spent_view).origin)
    → flat_map (λ (v : GroupPass). table_read v.origin) ws ≡ flat_map (λ (v : GroupPass). table_read v.origin) vs
reads [] [] long e = refl
reads [] (w ∷ ws) long e = absurd (omega (arith, long))
reads (v ∷ vs) [] long e = absurd (omega (arith, long))
reads (v ∷ vs) (w ∷ ws) long e =
    ap (λ o. table_read o ++ flat_map (λ (x : GroupPass). table_read x.origin) ws) (e 0) ∙ ap (λ l. table_read v.origin ++ l) (reads vs ws (omega (arith, long)) (λ n. e (suc n)))

pub same_read : (rack : Rack) (names : List TurnName) (old new : GroupPasses) → AreReady rack names old → AreReady rack names new → PassesStay old new → tables_read new ≡ tables_read old
same_read rack names old new a b s = reads old.views new.views (b.of.1 ∙ sym a.of.1) s.origin

pub same_records : (old new : IndexPasses) → PassesStay old new → records_read new ≡ records_read old
same_records old new s = ap records_in (s.origin 0)

pub still_but_kept : (old new : GroupPasses) → PassesStay old new → HasAllButKept old → HasAllButKept new
still_but_kept old new s h g l = (let p = h g (let n = ap length s.names in omega (arith, n, l)) in let q = s.parts g in omega (arith, p, q))

pub still_all : {E O : Type 0} (old new : PassRow E O) → PassesStay old new → HasAllParts old → HasAllParts new
still_all old new s h at l = s.parts at ∙ h at (let n = ap length s.names in omega (arith, n, l))

-- THE SETTING

-- the group at each place began with the table of that place
reads_at : (vs : List GroupPass) (d : Table) → ((n : ℕ) → n < length vs → (o : GroupOrigin) × ((slice_index_or vs n spent_view).origin ≡ Some o))
    → (g : ℕ) (o : GroupOrigin) → g < length vs → (slice_index_or vs g spent_view).origin ≡ Some o → slice_index_or (flat_map (λ (v : GroupPass). table_read v.origin) vs) g d ≡ o.first
reads_at [] d each g o l e = absurd (omega (arith, l))
reads_at (v ∷ vs) d each zero o l e = ap (λ x. slice_index_or (table_read x ++ flat_map (λ (w : GroupPass). table_read w.origin) vs) 0 d) e
reads_at (v ∷ vs) d each (suc g) o l e =
    ap (λ x. slice_index_or (table_read x ++ flat_map (λ (w : GroupPass). table_read w.origin) vs) (suc g) d) (each 0 (omega arith)).1
    ∙ reads_at vs d (λ n k. each (suc n) (omega (arith, k))) g o (omega (arith, l)) e

-- each place of a record has a block in the table of its group
filled_in : (first : Contents) → FitsTogether first → (r : Record) (p : Place) → Contains first.records r → Contains r.places p → IsFilled first.tables p
filled_in first fits r p read has =
    let over : IsRecordOver first.tables r = All-contains (IsRecordOver first.tables) first.records r fits.records.each read in
    let current : All (IsFilled first.tables) r.places =
    All-contains (λ (s : Split). All (IsFilled first.tables) s.places) (splits_of r) (current_of r) over.filled (Contains-append_right r.older (current_of r ∷ []) (current_of r) (0, omega arith, refl)) in
    All-contains (IsFilled first.tables) r.places p current has

-- what the first passes read is the setting of the session
pub session_setting : (seed : List ℕ) (first : Contents) (groups : GroupPasses) (index : IndexPasses) → FitsTogether first → AreFirstPasses groups index → tables_read groups ≡ first.tables → records_read index ≡ first.records
    → IsSessionSetting (setting_of seed first) first.rack seed first.session (known groups index)
session_setting seed first groups index fits f et er = record {
  setting = record {
    rack_is = refl;
    first = λ g l. if_some (view_at groups g).origin (λ o. slice_index_or first.tables g (empty_table first.rack g) ≡ o.first) (origin_of g l).0 (origin_of g l).1
        (ap (λ ts. slice_index_or ts g (empty_table first.rack g)) (sym et)
        ∙ reads_at groups.views (empty_table first.rack g) (λ n k. origin_of n (let a = f.count in omega (arith, a, k))) g (origin_of g l).0 (let a = f.count in omega (arith, a, l)) (origin_of g l).1);
    read = if_some (view_at index 0).origin (λ o. first.records ≡ o.read) f.index_origin (ap (λ (v : IndexPass). v.origin) f.index_first)
        (sym er ∙ ap records_in (ap (λ (v : IndexPass). v.origin) f.index_first));
  };
  drawn = λ geometry job file. refl;
  mends = refl;
  filled = λ r p read has. (let x = filled_in first fits r p read has in ap (λ t. is_void (slot_at t p.stripe p.column)) (at_same first.tables p.group (empty_table first.rack p.group) x.table x.group) ∙ x.slot);
}
  where
    if_some : {X : Type 0} (x : Option X) (P : X → Type 0) (o : X) → x ≡ Some o → P o → IfSome x P
    if_some x P o e p = subst (λ y. IfSome y P) (sym e) p

    origin_of : (n : ℕ) → n < length groups.names → (o : GroupOrigin) × ((view_at groups n).origin ≡ Some o)
    origin_of n l = (let p = f.each n l in (p.origin, ap (λ (v : GroupPass). v.origin) p.is))

-- all settings that the first passes give are filled
pub has_filled : (seed : List ℕ) (first : Contents) (groups : GroupPasses) (index : IndexPasses) → FitsTogether first → AreFirstPasses groups index → tables_read groups ≡ first.tables → records_read index ≡ first.records
    → length groups.names ≡ first.rack.groups → HasFilled first.rack (known groups index)
has_filled seed first groups index fits f et er count s is r p read has =
    let mine = session_setting seed first groups index fits f et er in
    let o = ap (λ (v : IndexPass). v.origin) f.index_first in
    let records : s.read ≡ first.records = of_some (view_at index 0).origin (λ x. s.read ≡ x.read) f.index_origin o is.read ∙ sym (of_some (view_at index 0).origin (λ x. first.records ≡ x.read) f.index_origin o mine.setting.read) in
    let x = filled_in first fits r p (subst (λ rs. Contains rs r) records read) has in
    let within : p.group < length groups.names = (let a = slice_get_within first.tables p.group x.table x.group in let b = fits.tables.count in omega (arith, a, b, count)) in
    let g = f.each p.group within in
    let at = ap (λ (v : GroupPass). v.origin) g.is in
    let same : s.first p.group ≡ (setting_of seed first).first p.group =
    of_some (view_at groups p.group).origin (λ y. s.first p.group ≡ y.first) g.origin at (is.first p.group within)
    ∙ sym (of_some (view_at groups p.group).origin (λ y. (setting_of seed first).first p.group ≡ y.first) g.origin at (mine.setting.first p.group within)) in
    ap (λ t. is_void (slot_at t p.stripe p.column)) same ∙ mine.filled r p (subst (λ rs. Contains rs r) records read) has
  where
    of_some : {X : Type 0} (y : Option X) (P : X → Type 0) (o : X) → y ≡ Some o → IfSome y P → P o
    of_some y P o e h = subst (λ z. IfSome z P) e h

-- THE PARTS OF THE PASSES

-- passes that have all parts but those of the kept ones have enough for a batch
pub but_kept_parts : (row : GroupPasses) → HasAllButKept row → HasMoreParts 2048 row
but_kept_parts row h at l = (let p = h at l in omega (arith, p))

pub all_parts : (row : IndexPasses) → HasAllParts row → HasMoreParts 2048 row
all_parts row h at l = (let p = h at l in omega (arith, p))

-- THE END

-- a session that worked its steps and closed
pub serves_closed : (seed : List ℕ) (careful : Bool) (first : Contents) (steps : List Step) (room : Transition RoomState) (sink : Transition (List ℕ)) (desk : Transition (Content Images)) (rack : Rack) (session : ℕ) (old new : Known)
    (e : Ending) (worked : ℕ) (kept closed : Result (Unit {0}) Stop) (answer : Status) → AreFirstPasses old.groups old.index → tables_read old.groups ≡ first.tables → records_read old.index ≡ first.records → rack ≡ first.rack
    → session ≡ first.session → Ends rack seed session sink steps old new e → FailsOwn room.before.failures worked (e ≡ ending.RoomFailed) → (closes : Closes old new room worked desk first kept closed)
    → (IsTrue desk.tells → HoldsBegin desk.before.held first) → (IsTrue room.tells → (e ≡ ending.RoomFailed → ⊥) → OtherArchivesStay first.tables closes.last.group_logs room.before.means room.after.means)
    → answer ≡ status_by careful e kept closed → FitsTogether first → length first.records + log_bound ≤ 4000000000
    → AreApart (all_had first.tables closes.last.group_logs) → AreLow (all_had first.tables closes.last.group_logs)
    → (AllOnlyWriters old new → (job : ℕ) → AreDrawn (pads_of seed session job) (blinds_by job old.groups new.groups)) → Serves seed careful first steps room sink desk answer
serves_closed seed careful first steps room sink desk rack session old new e worked kept closed answer opened tables records same number ends fails closes begins others status fits space apart low blinds = Closed (record {
  last = closes.last;
  story = section_of old new;
  ending = e;
  ends = ends_over rack seed session sink steps old new e ends closes.sole (setting_of seed first)
      (subst (λ r. IsSessionSetting (setting_of seed first) r seed session old) (sym same) (subst (λ n. IsSessionSetting (setting_of seed first) first.rack seed n old) (sym number)
      (session_setting seed first old.groups old.index fits opened tables records)));
  worked = worked;
  fails = fails;
  missing = closes.missing;
  failed_at = closes.failed_at;
  leaves = closes.leaves;
  apart = share_none room closes.missing first closes.last (section_of old new) closes.leaves fits apart;
  blinded = λ job some. (blinds_by job old.groups new.groups, closes.blinds job some, subst (λ n. AreDrawn (pads_of seed n job) (blinds_by job old.groups new.groups)) number (blinds closes.sole job));
  others = others;
  lost = λ told back none. lost_where_few (IsTrue room.tells) seed first closes.last room.before.means room.after.means closes.missing told fits closes.leaves.groups back none;
  kept = kept;
  keeps = closes.keeps begins;
  image = if_written kept (λ whole. left_image room closes.missing first closes.last (section_of old new) closes.leaves fits apart low whole space) closes.whole;
  status = status ∙ ap (λ r. status_by careful e kept r) closes.is;
})

end_by : (refused : Bool) → IsEnd (cond refused status.Refusals status.Good)
end_by true = tt
end_by false = tt

pub end_of : (e : Ending) (closed : Result (Unit {0}) Stop) → IsCloseStop closed → IsEnd (status_after e closed)
end_of ending.SinkFailed closed is = tt
end_of ending.RoomFailed closed is = tt
end_of ending.NoMemory closed is = tt
end_of (ending.Done refused) (Ok u) is = end_by refused
end_of (ending.Done refused) (Err stop.RoomFault) is = tt
end_of (ending.Done refused) (Err stop.DeskFault) is = tt
end_of (ending.Done refused) (Err stop.NoMemory) is = tt
end_of (ending.Done refused) (Err _) is = absurd is

-- which failure a status tells of
sink_by : (refused : Bool) → cond refused status.Refusals status.Good ≡ status.SinkFault → ⊥
sink_by true e = cc
sink_by false e = cc

room_by : (refused : Bool) → cond refused status.Refusals status.Good ≡ status.RoomFault → ⊥
room_by true e = cc
room_by false e = cc

desk_by : (refused : Bool) → cond refused status.Refusals status.Good ≡ status.DeskFault → ⊥
desk_by true e = cc
desk_by false e = cc

pub sink_failed : (e : Ending) (closed : Result (Unit {0}) Stop) → IsCloseStop closed → status_after e closed ≡ status.SinkFault → e ≡ ending.SinkFailed
sink_failed ending.SinkFailed closed is q = refl
sink_failed ending.RoomFailed closed is q = absurd (cc)
sink_failed ending.NoMemory closed is q = absurd (cc)
sink_failed (ending.Done refused) (Ok u) is q = absurd (sink_by refused q)
sink_failed (ending.Done refused) (Err stop.RoomFault) is q = absurd (cc)
sink_failed (ending.Done refused) (Err stop.DeskFault) is q = absurd (cc)
sink_failed (ending.Done refused) (Err stop.NoMemory) is q = absurd (cc)
sink_failed (ending.Done refused) (Err _) is q = absurd is

pub room_failed : (e : Ending) (closed : Result (Unit {0}) Stop) → IsCloseStop closed → status_after e closed ≡ status.RoomFault → (e ≡ ending.RoomFailed) ⊎ IsErrOf closed stop.RoomFault
room_failed ending.SinkFailed closed is q = absurd (cc)
room_failed ending.RoomFailed closed is q = inl refl
room_failed ending.NoMemory closed is q = absurd (cc)
room_failed (ending.Done refused) (Ok u) is q = absurd (room_by refused q)
room_failed (ending.Done refused) (Err stop.RoomFault) is q = inr refl
room_failed (ending.Done refused) (Err stop.DeskFault) is q = absurd (cc)
room_failed (ending.Done refused) (Err stop.NoMemory) is q = absurd (cc)
room_failed (ending.Done refused) (Err _) is q = absurd is

pub desk_failed : (e : Ending) (closed : Result (Unit {0}) Stop) → IsCloseStop closed → status_after e closed ≡ status.DeskFault → IsErrOf closed stop.DeskFault
desk_failed ending.SinkFailed closed is q = absurd (cc)
desk_failed ending.RoomFailed closed is q = absurd (cc)
desk_failed ending.NoMemory closed is q = absurd (cc)
desk_failed (ending.Done refused) (Ok u) is q = absurd (desk_by refused q)
desk_failed (ending.Done refused) (Err stop.RoomFault) is q = absurd (cc)
desk_failed (ending.Done refused) (Err stop.DeskFault) is q = refl
desk_failed (ending.Done refused) (Err stop.NoMemory) is q = absurd (cc)
desk_failed (ending.Done refused) (Err _) is q = absurd is

-- the same, where a careful session tells that its image was not kept
pub end_by_kept : (careful : Bool) (e : Ending) (kept closed : Result (Unit {0}) Stop) → IfErr kept IsKeepStop → IsCloseStop closed → IsEnd (status_by careful e kept closed)
end_by_kept true e (Ok u) closed k is = end_of e closed is
end_by_kept true e (Err stop.DeskFault) closed k is = tt
end_by_kept true e (Err stop.NoMemory) closed k is = tt
end_by_kept true e (Err _) closed k is = absurd k
end_by_kept false e kept closed k is = end_of e closed is

pub sink_by_kept : (careful : Bool) (e : Ending) (kept closed : Result (Unit {0}) Stop) → IfErr kept IsKeepStop → IsCloseStop closed → status_by careful e kept closed ≡ status.SinkFault → e ≡ ending.SinkFailed
sink_by_kept true e (Ok u) closed k is q = sink_failed e closed is q
sink_by_kept true e (Err stop.DeskFault) closed k is q = absurd (cc)
sink_by_kept true e (Err stop.NoMemory) closed k is q = absurd (cc)
sink_by_kept true e (Err _) closed k is q = absurd k
sink_by_kept false e kept closed k is q = sink_failed e closed is q

pub room_by_kept : (careful : Bool) (e : Ending) (kept closed : Result (Unit {0}) Stop) → IfErr kept IsKeepStop → IsCloseStop closed → status_by careful e kept closed ≡ status.RoomFault
    → (e ≡ ending.RoomFailed) ⊎ IsErrOf closed stop.RoomFault
room_by_kept true e (Ok u) closed k is q = room_failed e closed is q
room_by_kept true e (Err stop.DeskFault) closed k is q = absurd (cc)
room_by_kept true e (Err stop.NoMemory) closed k is q = absurd (cc)
room_by_kept true e (Err _) closed k is q = absurd k
room_by_kept false e kept closed k is q = room_failed e closed is q

pub desk_by_kept : (careful : Bool) (e : Ending) (kept closed : Result (Unit {0}) Stop) → IfErr kept IsKeepStop → IsCloseStop closed → (IsErrOf closed stop.DeskFault → IsErrOf kept stop.DeskFault)
    → status_by careful e kept closed ≡ status.DeskFault → IsErrOf kept stop.DeskFault
desk_by_kept true e (Ok u) closed k is first q = first (desk_failed e closed is q)
desk_by_kept true e (Err stop.DeskFault) closed k is first q = refl
desk_by_kept true e (Err stop.NoMemory) closed k is first q = absurd (cc)
desk_by_kept true e (Err _) closed k is first q = absurd k
desk_by_kept false e kept closed k is first q = first (desk_failed e closed is q)
