-- The image of a close.
use Rattle.std.proofs.Common.{◌≡◌, ◌⊎◌, ◌<◌, ◌≤◌, ◌^◌, ◌+◌, ◌-◌, ◌++◌, inl, inr, ℕ, List, [], ◌∷◌, length, map, refl, sym, ap, subst, ◌∙◌, arith}
use Rattle.std.proofs.lemmas.List.Elements.{All-cons, All-head, All-nil, All-tail}
use Rattle.std.specs.Prelude.{All, Some, Result, Ok, Err, IfErr, IsErr, IsErrOf, IsTrue, flat_map}
use Rattle.std.proofs.lemmas.Bool.{cases_lt}
use Rattle.byteorder.specs.Endian.{big_bytes}
use Rattle.pot_bytes.specs.Digests.{digest_bytes}
use Rattle.pot_bytes.specs.declared.rack.Rack.{Rack}
use Rattle.pot_outside.specs.Accounts.{Account, Content, Transition, transition_by, since}
use Rattle.pot_outside.specs.Archives.{Meaning, IsMeant}
use Rattle.pot_outside.specs.Counts.{Caused, Rose}
use Rattle.pot_outside.specs.Desks.{HadItsImage, Images, MayCome, image_met}
use Rattle.pot_outside.specs.Rooms.{RoomState}
use Rattle.pot_outside.specs.declared.archive.Shelf.{Shelf}
use Rattle.pot_outside.specs.declared.faults.Failed.{Failed}
use Rattle.pot_machine.specs.declared.entry.Entry.{Entry}
use Rattle.pot_machine.specs.Table.{Table}
use Rattle.pot_index.specs.Records.{record_bytes}
use Rattle.pot_shelves.specs.Shelves.{Shelves}
use Rattle.pot_image.specs.Images.{Contents, magic}
use Rattle.pot_image.specs.Rules.{HaveDigests, IsImageWhole}
use Rattle.pot_image.specs.Spelling.{table_bytes, head_bytes, counted_bytes, entry_bytes, index_entry_bytes, field_bytes, text_bytes, image_bytes}
use Rattle.pot_session.specs.declared.ending.stop.Stop.{Stop}
use Rattle.pot_session.specs.declared.ending.stop.Stop.TheVariants as stop
use Rattle.pot_session.specs.Desks.{CameToDesk, IfWritten, DeskKeeps, IsKeepStop}
use Rattle.pot_rows.specs.Rows.{view_at}
use Rattle.pot_rows.proofs.RowLemmas.{at_past}
use Rattle.pot_replies.specs.Sessions.{ByNobody}
use Rattle.pot_shared.specs.Members.{entries_of}
use Rattle.pot_shared.specs.Ready.{GroupPass}
use Rattle.pot_shared.specs.Catalogs.{IndexPass}
use Rattle.pot_shared.specs.Blinded.{HaveBlinds}
use Rattle.pot_shared.specs.Works.{Known, blinds_by, section_of}
use Rattle.pot_shared.proofs.LeavingWords.{opened_as}
use Rattle.pot_session.specs.Giving.{AnswersFor, GivesArchivesBack}
use Rattle.pot_shared.specs.Groups.{AreFirstPasses, MarksRose, MarksRoseOften, records_read}
use Rattle.pot_shared.specs.Hands.{times}
use Rattle.pot_shared.specs.Coming.{marks_of}
use Rattle.pot_shared.specs.Leaving.{still, AreOpened, RoseInHand, RoseOftenInHand, Shows, IsInHand, LeaveGroups, LeavesRecords, LeavesLogs}
use Rattle.pot_session.specs.Opened.{IsSessionBegun}
use Rattle.pot_session.proofs.PastImages.{came_keeps, came_none, came_once}
use Rattle.pot_session.specs.Serving.{RoseInRoom, RoseOftenInRoom, IsInRoom, Leaves, IsCloseStop, Closes, close_answer, first_failure}

-- RELAYS ARE NOT WRITTEN

same_tables : (ts : List Table) → flat_map table_bytes (map still ts) ≡ flat_map table_bytes ts
unfolding table_bytes
same_tables [] = refl
same_tables (t ∷ ts) = ap (λ l. table_bytes t ++ l) (same_tables ts)

same_fields : (v : Contents) → field_bytes (record v { tables = map still v.tables }) ≡ field_bytes v
unfolding field_bytes
same_fields v =
    ap (λ x. head_bytes v.session v.rack ++ x ++ counted_bytes record_bytes v.records ++ flat_map (counted_bytes entry_bytes) v.group_logs ++ counted_bytes index_entry_bytes v.index_log) (same_tables v.tables)

same_text : (v : Contents) → text_bytes (record v { tables = map still v.tables }) ≡ text_bytes v
unfolding text_bytes
same_text v = ap (λ f. magic ++ big_bytes 4 2 ++ big_bytes 8 (48 + length f) ++ f) (same_fields v)

pub same_image : (v : Contents) → image_bytes (record v { tables = map still v.tables }) ≡ image_bytes v
unfolding image_bytes
same_image v = ap (λ t. t ++ digest_bytes t) (same_text v)

-- nor do their values change
still_digests : (ts : List Table) → All HaveDigests ts → All HaveDigests (map still ts)
still_digests [] all = All-nil HaveDigests
still_digests (t ∷ ts) all = All-cons HaveDigests (still t) (map still ts) (All-head HaveDigests t ts all) (still_digests ts (All-tail HaveDigests t ts all))

still_whole : (v : Contents) → IsImageWhole v → IsImageWhole (record v { tables = map still v.tables })
still_whole v w = record {
  values = record {
    session = w.values.session;
    digests = still_digests v.tables w.values.digests;
    records = w.values.records;
    group_logs = w.values.group_logs;
    index_log = w.values.index_log;
  };
  short = subst (λ b. length b < 2 ^ 64) (sym (same_image v)) w.short;
}

-- what follows for an image follows if it was written
pub if_written : {P Q : Type 0} (kept : Result (Unit {0}) Stop) → (P → Q) → IfWritten kept P → IfWritten kept Q
if_written (Ok u) f p = f p
if_written (Err stop.NoMemory) f p = tt
if_written (Err stop.DeskFault) f p = f p
if_written (Err stop.Words) f p = f p
if_written (Err stop.SourceFault) f p = f p
if_written (Err (stop.BadLine number)) f p = f p
if_written (Err stop.NoImage) f p = f p
if_written (Err stop.Cut) f p = f p
if_written (Err (stop.Trailer kept computed)) f p = f p
if_written (Err (stop.Form place)) f p = f p
if_written (Err stop.Spent) f p = f p
if_written (Err stop.Exists) f p = f p
if_written (Err stop.RoomFault) f p = f p
if_written (Err stop.TooWide) f p = f p

-- THE ROOM

-- archives that were in the hand are in the room, where it took them back
in_room : {A : Type 0} (archives : Account A Meaning) (hand : List (Shelf A)) (old new : RoomState) (given : Result (Unit {0}) Failed) (b : GivesArchivesBack archives hand old new given)
    → (s : Shelves) (n : ℕ) → IsInHand archives.meaning hand s n → IsInRoom (IsTrue archives.tells) new.means b.missing s n
in_room archives hand old new given b s n (x, has, e, shows) t back =
    let is : IsMeant (new.means x.number) (archives.meaning x.archive) = b.back t x has (subst (λ k. times k b.missing ≡ 0) (sym e) back) in
    subst (λ k. Shows s n (new.means k)) e (record {
      blocks = λ slot. shows.blocks slot ∙ is.blocks slot;
      sums = shows.sums ∙ is.sums;
      history = shows.history ∙ is.past;
      faults = shows.faults ∙ is.faulted;
      losses = shows.losses ∙ is.lost;
    })

-- a count that rose at an archive in the hand rose in the room, where it took that archive back
rose_in_room : {A : Type 0} (archives : Account A Meaning) (hand : List (Shelf A)) (meant : ℕ → Meaning) (old new : RoomState) (given : Result (Unit {0}) Failed)
    (b : GivesArchivesBack archives hand old new given) → IsTrue archives.tells → (n : ℕ) → RoseInHand archives.meaning hand meant n → RoseInRoom meant new.means b.missing n
rose_in_room archives hand meant old new given b t n (x, has, e, rose) back =
    let is : IsMeant (new.means x.number) (archives.meaning x.archive) = b.back t x has (subst (λ k. times k b.missing ≡ 0) (sym e) back) in
    subst (λ k. MarksRose (marks_of (meant n)) (marks_of (new.means k))) e (moved is rose)
  where
    moved : IsMeant (new.means x.number) (archives.meaning x.archive) → MarksRose (marks_of (meant n)) (marks_of (archives.meaning x.archive)) → MarksRose (marks_of (meant n)) (marks_of (new.means x.number))
    moved is (inl r) = inl (subst (λ y. Rose (meant n).faults y) is.faulted r)
    moved is (inr r) = inr (subst (λ y. Rose (meant n).losses y) is.lost r)

-- and as often as it did
often_in_room : {A : Type 0} (archives : Account A Meaning) (hand : List (Shelf A)) (meant : ℕ → Meaning) (old new : RoomState) (given : Result (Unit {0}) Failed)
    (b : GivesArchivesBack archives hand old new given) → IsTrue archives.tells → (n k : ℕ) → RoseOftenInHand archives.meaning hand meant n k → RoseOftenInRoom meant new.means b.missing n k
often_in_room archives hand meant old new given b t n k (x, has, e, rose) back =
    let is : IsMeant (new.means x.number) (archives.meaning x.archive) = b.back t x has (subst (λ j. times j b.missing ≡ 0) (sym e) back) in
    subst (λ j. MarksRoseOften k (marks_of (meant n)) (marks_of (new.means j))) e (moved is rose)
  where
    moved : IsMeant (new.means x.number) (archives.meaning x.archive) → MarksRoseOften k (marks_of (meant n)) (marks_of (archives.meaning x.archive))
        → MarksRoseOften k (marks_of (meant n)) (marks_of (new.means x.number))
    moved is (inl r) = inl (subst (λ y. ((meant n).faults + k ≤ y) ⊎ (2 ^ 64 - 1 ≤ y)) is.faulted r)
    moved is (inr r) = inr (subst (λ y. Rose (meant n).losses y) is.lost r)

-- THE ANSWER

failure_is : (missing : List ℕ) (given : Result (Unit {0}) Failed) (kept : Result (Unit {0}) Stop) → AnswersFor missing given → first_failure given kept ≡ close_answer missing kept
failure_is missing (Ok u) kept none = sym (ap (λ m. close_answer m kept) none)
failure_is [] (Err f) kept some = absurd (omega (arith, some))
failure_is (n ∷ missing) (Err f) kept some = refl

-- what was seen at the start of a session: what the openings logged, which is of no job, and
-- nothing of the index
opened_by : (old : Known) → AreFirstPasses old.groups old.index → (g : ℕ) → ByNobody (entries_of (view_at old.groups g).seen)
opened_by old first g = elim (cases_lt g (length old.groups.names)) [
  | inl l ↦ (let p = first.each g l in subst (λ (v : GroupPass). ByNobody (entries_of v.seen)) (sym p.is) p.nobody)
  | inr l ↦ subst (λ (v : GroupPass). ByNobody (entries_of v.seen)) (sym (at_past old.groups.names old.groups g (refl, first.count) l)) of_none
]
  where
    of_none : ByNobody []
    of_none [] y e q = absurd (cc q)
    of_none (x ∷ xs) y e q = absurd (cc q)

-- what the image of a close is, from its parts
leaves_of : (read : List Table) (old new : Known) (room : Transition RoomState) (missing : List ℕ) (first last : Contents) → AreFirstPasses old.groups old.index → IsSessionBegun first last.session last.rack read (records_read new.index)
    → LeaveGroups (IsTrue room.tells) room.before.means (IsInRoom (IsTrue room.tells) room.after.means missing) first.tables last.group_logs (map still last.tables) → LeavesLogs old new last.rack last.group_logs last.index_log last.records
    → (IsTrue room.tells → AreOpened room.before.means (RoseInRoom room.before.means room.after.means missing) (RoseOftenInRoom room.before.means room.after.means missing) first.tables (section_of old new))
    → Leaves room missing first (record last { tables = map still last.tables }) (section_of old new)
leaves_of read old new room missing first last opened b groups left found = record {
  session = sym b.is_session;
  rack = sym b.is_rack;
  groups = groups;
  records = subst (λ r. LeavesRecords r first.records (section_of old new).index_added last.index_log last.records) (sym b.is_rack)
      (subst (λ rs. LeavesRecords last.rack rs (section_of old new).index_added last.index_log last.records) (sym b.are_records) left.records);
  logs = left.are_logs;
  opened = opened_by old opened;
  found = found;
  index_opened = ap (λ (v : IndexPass). v.seen) opened.index_first;
  few = left.few;
  put = left.put;
}

pub close_stop : (given : Result (Unit {0}) Failed) (kept : Result (Unit {0}) Stop) → IfErr kept IsKeepStop → IsCloseStop (first_failure given kept)
close_stop (Err f) kept w = tt
close_stop (Ok u) (Ok v) w = tt
close_stop (Ok u) (Err stop.DeskFault) w = tt
close_stop (Ok u) (Err stop.NoMemory) w = tt
close_stop (Ok u) (Err _) w = absurd w

pub room_failure : (given : Result (Unit {0}) Failed) (kept : Result (Unit {0}) Stop) → IfErr kept IsKeepStop → IsErrOf (first_failure given kept) stop.RoomFault → IsErr given
room_failure (Err f) kept w e = refl
room_failure (Ok u) (Ok v) w e = absurd (cc)
room_failure (Ok u) (Err stop.DeskFault) w e = absurd (cc)
room_failure (Ok u) (Err stop.NoMemory) w e = absurd (cc)
room_failure (Ok u) (Err _) w e = absurd w

pub desk_failure : (given : Result (Unit {0}) Failed) (kept : Result (Unit {0}) Stop) → IsErrOf (first_failure given kept) stop.DeskFault → IsErrOf kept stop.DeskFault
desk_failure (Err f) kept e = absurd (cc)
desk_failure (Ok u) kept e = e

-- what groups leave, by what the room means after it, and the blinds that the passes saw
abbrev Left : {A : Type 0} → Account A Meaning → RoomState → RoomState → Known → Known → Contents → List ℕ → List Table → Type 0
Left archives meant means old new last missing read =
    (left : LeaveGroups (IsTrue archives.tells) meant.means (IsInRoom (IsTrue archives.tells) means.means missing) read last.group_logs (map still last.tables))
    × ((job : ℕ) → 0 < job → HaveBlinds left job (blinds_by job old.groups new.groups))

-- the groups that were left, by another fact of their archives; the views are the same
abbrev same_views : (told : Type 0) (meant : ℕ → Meaning) (Has Is : Shelves → ℕ → Type 0) (read : List Table) (logs : List (List Entry)) (written : List Table) → ((s : Shelves) (n : ℕ) → Has s n → Is s n)
    → LeaveGroups told meant Has read logs written → LeaveGroups told meant Is read logs written
same_views told meant Has Is read logs written is l = record {
  count = l.count;
  count_logs = l.count_logs;
  each = λ g t u log et eu el. record {
    view = (l.each g t u log et eu el).view;
    first = (l.each g t u log et eu el).first;
    is_log = (l.each g t u log et eu el).is_log;
    is = (l.each g t u log et eu el).is;
    settled = (l.each g t u log et eu el).settled;
    execution = (l.each g t u log et eu el).execution;
    marked = (l.each g t u log et eu el).marked;
    taken = (l.each g t u log et eu el).taken;
    within = (l.each g t u log et eu el).within;
    archives = λ n has. is (l.each g t u log et eu el).view.shelves n ((l.each g t u log et eu el).archives n has);
  };
}

-- A close leaves the image of what its vault left. `meant` is what the room meant when the session
-- was opened, `worked` what it meant before the close, and `means` what it means after it.
pub closes : {A : Type 0} (archives : Account A Meaning) (hand : List (Shelf A)) (meant worked means : RoomState) (read : List Table) (old new : Known) (rack : Rack) (desk : Transition (Content Images)) (first last : Contents)
    (given : Result (Unit {0}) Failed) (kept closed : Result (Unit {0}) Stop) → (IsTrue desk.tells → DeskKeeps (image_met desk) (image_bytes last) kept)
    → (IsTrue desk.tells → MayCome desk.before.held.past (image_bytes last) desk.after.held.past) → (IsTrue desk.tells → HadItsImage desk.before.held → HadItsImage desk.after.held) → IfErr kept IsKeepStop → Caused desk.before.faults desk.after.faults (kept ≡ Err stop.DeskFault)
    → GivesArchivesBack archives hand worked means given → AreFirstPasses old.groups old.index
    → IsSessionBegun first last.session last.rack read (records_read new.index) → last.rack ≡ rack
    → (left : LeaveGroups (IsTrue archives.tells) meant.means (IsInHand archives.meaning hand) read last.group_logs (map still last.tables)) × ((job : ℕ) → 0 < job → HaveBlinds left job (blinds_by job old.groups new.groups))
    → LeavesLogs old new rack last.group_logs last.index_log last.records
    → (IsTrue archives.tells → AreOpened meant.means (RoseInHand archives.meaning hand meant.means) (RoseOftenInHand archives.meaning hand meant.means) first.tables (section_of old new))
    → closed ≡ first_failure given kept → IfWritten kept (IsImageWhole last) → Closes old new (transition_by archives.tells meant means) worked.failures desk first kept closed
unfolding leaves_of
closes archives hand meant worked means read old new rack desk first last given kept closed k comes stays which cause back opened b same groups left found is whole =
    let moved : Left archives meant means old new last back.missing first.tables = subst (Left archives meant means old new last back.missing) (sym b.are_tables) (
      same_views (IsTrue archives.tells) meant.means (IsInHand archives.meaning hand) (IsInRoom (IsTrue archives.tells) means.means back.missing) read last.group_logs (map still last.tables)
          (in_room archives hand worked means given back) groups.0,
      λ job some. record { are = (groups.1 job some).are; none = (groups.1 job some).none },
    ) in
    record {
      last = record last { tables = map still last.tables };
      sole = left.sole;
      missing = back.missing;
      failed_at = back.failed_at;
      leaves = leaves_of read old new (transition_by archives.tells meant means) back.missing first last opened b moved.0
          (subst (λ r. LeavesLogs old new r last.group_logs last.index_log last.records) (sym same) left)
          (λ t g u q. opened_as meant.means (RoseInHand archives.meaning hand meant.means) (RoseInRoom meant.means means.means back.missing)
          (RoseOftenInHand archives.meaning hand meant.means) (RoseOftenInRoom meant.means means.means back.missing) u ((section_of old new).before g)
          (rose_in_room archives hand meant.means worked means given back t) (often_in_room archives hand meant.means worked means given back t) (found t g u q));
      blinds = moved.1;
      whole = if_written kept (still_whole last) whole;
      keeps = λ held. record {
        holds = λ t. subst (λ b. DeskKeeps (since (image_met desk) (Some (image_bytes first))) b kept) (sym (same_image last)) (subst (λ h. DeskKeeps (since (image_met desk) h) (image_bytes last) kept) (held t).0 (k t));
        past = λ t. (
          desk.before.held.past,
          came_none desk.before.held.past (image_bytes first),
          subst (λ b. CameToDesk desk.before.held.past b desk.after.held.past) (sym (same_image last)) (came_once desk.before.held.past (image_bytes last) desk.after.held.past (comes t)),
        );
        began = λ t. came_keeps desk.before.held.past (image_bytes last) desk.after.held.past (image_bytes first) (came_once desk.before.held.past (image_bytes last) desk.after.held.past (comes t)) ((held t).1 (image_bytes first) (held t).0);
        had = λ t. stays t (held t).1;
        which = which;
        cause = cause;
      };
      is = is ∙ failure_is back.missing given kept back.answers;
    }
