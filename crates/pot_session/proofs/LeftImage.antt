-- The image that a session leaves keeps the rules of images.
use Rattle.std.proofs.Common.{◌≡◌, ◌≤◌, ◌+◌, ℕ, List, length, sym, ap, subst, ◌∙◌, arith}
use Rattle.std.specs.Prelude.{All, Contains, IsTrue, Some, slice_get, flat_map}
use Rattle.std.proofs.lemmas.List.Elements.{Contains-append_right}
use Rattle.std.proofs.lemmas.Option.{slice_get_within}
use Rattle.pot_bytes.specs.Rack.{IsRack, log_bound}
use Rattle.pot_bytes.specs.declared.rack.Rack.{Rack}
use Rattle.pot_bytes.proofs.Elements.{element_at}
use Rattle.pot_outside.specs.Accounts.{Transition}
use Rattle.pot_outside.specs.Rooms.{RoomState}
use Rattle.pot_machine.specs.declared.entry.Entry.{Entry}
use Rattle.pot_machine.specs.Machine.{Replays}
use Rattle.pot_machine.specs.Table.{Table, archives_in}
use Rattle.pot_group.specs.Arrivals.{arrivals}
use Rattle.pot_image.specs.Images.{Contents}
use Rattle.pot_image.specs.Rules.{AreRecords, AreTables, FitsEntry, FitsTable, FitsTogether, IsImage, IsLog, IsImageWhole, IsWholeEntry}
use Rattle.pot_replies.specs.Sections.{Section}
use Rattle.pot_shared.specs.Coming.{came_in}
use Rattle.pot_shared.specs.Going.{AllOnlyWriters}
use Rattle.pot_shared.specs.Groups.{AreLow, HaveCome, tables_read}
use Rattle.pot_shared.specs.Hands.{times, AreApart}
use Rattle.pot_shared.specs.Works.{Known, gained}
use Rattle.pot_shared.proofs.Lists.{all_at_place, flat_contains}
use Rattle.pot_shared.proofs.Times.{times-append}
use Rattle.pot_session.specs.Losses.{all_had}
use Rattle.pot_session.specs.Serving.{Leaves, ShareNone, came_by}
use Rattle.pot_session.proofs.LeftArchives.{archives_of, low_number, tables_left}
use Rattle.pot_session.proofs.LeftEntries.{entries_fit, still_fits}
use Rattle.pot_session.proofs.LeftRecords.{each_of, records_left}

-- the archives that a session had are those that were out at its close
pub had_numbers : (old new : Known) (numbers : List ℕ) (read : List Table) (logs : List (List Entry)) → HaveCome old new numbers → AllOnlyWriters old new → tables_read new.groups ≡ read
    → ((n : ℕ) → times n (came_by logs) ≡ times n (came_in (length old.groups.names) (gained old.groups new.groups))) → (n : ℕ) → times n (all_had read logs) ≡ times n numbers
had_numbers old new numbers read logs come sole tables came n =
    (let a = times-append n (flat_map archives_in read) (flat_map arrivals logs) in let b = ap (λ ts. times n (flat_map archives_in ts)) tables in let c = came n in let d = come sole n in
    omega (arith, a, b, c, d))

-- no two columns share an archive
pub share_none : (room : Transition RoomState) (missing : List ℕ) (first last : Contents) (w : Section) → Leaves room missing first last w → FitsTogether first → AreApart (all_had first.tables last.group_logs) → ShareNone first last
share_none room missing first last w leaves fits apart = record {
  had = apart;
  left = λ n.
      (let l = tables_left (IsTrue room.tells) room.before.means _ first.tables last.tables last.group_logs leaves.groups
      (λ g t q. (all_at_place (FitsTable first.rack) first.tables g t fits.tables.fits q).rules.size.columns) n in
      let a = apart n in omega (arith, l, a));
}

module _ (room : Transition RoomState) (missing : List ℕ) (first last : Contents) (w : Section) (leaves : Leaves room missing first last w) (fits : FitsTogether first)
    (apart : AreApart (all_had first.tables last.group_logs)) (low : AreLow (all_had first.tables last.group_logs)) (whole : IsImageWhole last) where
  of : (g : ℕ) (t : Table) → slice_get first.tables g ≡ Some t → FitsTable first.rack t
  of g t q = all_at_place (FitsTable first.rack) first.tables g t fits.tables.fits q

  tables : AreTables first.rack last.tables
  tables = record {
    count = leaves.groups.count ∙ fits.tables.count;
    fits = each_of (FitsTable first.rack) last.tables (λ g u q.
        (let within = slice_get_within last.tables g u q in let many = leaves.groups.count in let logs = leaves.groups.count_logs in
        let t = element_at first.tables g (omega (arith, within, many)) in let log = element_at last.group_logs g (omega (arith, within, many, logs)) in
        let left = leaves.groups.each g t.0 u log.0 t.1 q log.1 in let sizes = left.settled.sizes in
        subst (FitsTable first.rack) (sym left.is)
        (still_fits first.rack left.view.first left.view.table (subst (FitsTable first.rack) (sym left.first) (of g t.0 t.1)) left.settled.table sizes.0 sizes.1 sizes.2)));
    archives = archives_of (flat_map archives_in last.tables) (all_had first.tables last.group_logs)
        (tables_left (IsTrue room.tells) room.before.means _ first.tables last.tables last.group_logs leaves.groups (λ g t q. (of g t q).rules.size.columns)) apart low;
  }

  logs : All (IsLog (FitsEntry first.rack)) last.group_logs
  logs = each_of (IsLog (FitsEntry first.rack)) last.group_logs (λ g log q.
      (let within = slice_get_within last.group_logs g log q in let many = leaves.groups.count in let long = leaves.groups.count_logs in
      let t = element_at first.tables g (omega (arith, within, long)) in let u = element_at last.tables g (omega (arith, within, many, long)) in
      let left = leaves.groups.each g t.0 u.0 log t.1 u.1 q in let fit = of g t.0 t.1 in
      record {
        count = subst (λ l. length l ≤ log_bound) left.is_log left.settled.bound;
        fits = entries_fit first.rack t.0 log left.view.table fit.rules fit.data_columns fit.parity fit.stripes
            (subst (λ l. Replays t.0 l left.view.table) left.is_log (subst (λ (f : Table). Replays f left.view.log left.view.table) left.first left.settled.replay))
            (all_at_place (All IsWholeEntry) last.group_logs g log whole.values.group_logs q)
            (λ n has. low_number (all_had first.tables last.group_logs) low n
            (Contains-append_right (flat_map archives_in first.tables) (flat_map arrivals last.group_logs) n (flat_contains arrivals last.group_logs g log n q has)));
      }))

  pub left_image : length first.records + log_bound ≤ 4000000000 → IsImage last
  left_image space =
      let same : first.rack ≡ last.rack = sym leaves.rack in
      record {
        session = whole.values.session;
        together = record {
          rack = subst IsRack same fits.rack;
          tables = subst (λ (r : Rack). AreTables r last.tables) same tables;
          records = subst (λ (r : Rack). AreRecords r last.tables last.records) same
              (records_left (IsTrue room.tells) room.before.means _ first.rack first.tables last.tables last.group_logs leaves.groups fits.tables.fits first.records w.index_added last.index_log last.records fits.rack
              fits.records leaves.records leaves.put leaves.few space whole.values.records);
          logs = leaves.groups.count_logs ∙ (fits.tables.count ∙ ap (λ (r : Rack). r.groups) same);
        };
        digests = whole.values.digests;
        group_logs = subst (λ (r : Rack). All (IsLog (FitsEntry r)) last.group_logs) same logs;
        index_log = record { count = leaves.few; fits = whole.values.index_log };
        short = whole.short;
      }
