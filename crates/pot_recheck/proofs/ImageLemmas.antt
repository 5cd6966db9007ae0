-- An image of which some slots are made Live keeps the rules of images.
use Rattle.std.proofs.Common.{◌≡◌, ◌+◌, ◌++◌, ℕ, List, length, get_or, flat_map, sym, ap, subst, ◌∙◌, arith, All}
use Rattle.std.specs.Prelude.{Some, slice_get}
use Rattle.std.proofs.lemmas.List.{length-append}
use Rattle.std.proofs.lemmas.List.Elements.{All-weaker, All-get_or}
use Rattle.std.proofs.lemmas.Option.{slice_get_within, slice_get-get_or, get_or_from_slice_get}
use Rattle.pot_bytes.specs.declared.rack.Place.{Place}
use Rattle.pot_bytes.specs.declared.rack.Rack.{Rack}
use Rattle.pot_bytes.proofs.Elements.{element_at}
use Rattle.pot_machine.specs.Slot.{is_void}
use Rattle.pot_machine.specs.Table.{Table, archives_in, slot_at}
use Rattle.pot_machine.specs.Rules.{IsTable}
use Rattle.pot_index.specs.declared.record.Record.{Record}
use Rattle.pot_index.specs.Records.{record_bytes, splits_of}
use Rattle.pot_image.specs.Images.{Contents}
use Rattle.pot_image.specs.Spelling.{cursor_bytes, column_bytes, slot_bytes, table_bytes, head_bytes, counted_bytes, entry_bytes, index_entry_bytes, field_bytes, image_bytes}
use Rattle.pot_image.specs.Rules.{AreArchives, AreTables, FitsTable, FitsTogether, HaveDigests, IsFilled, IsImage, IsRecordOver}
use Rattle.pot_image.proofs.ImageBack.{image_long}
use Rattle.pot_recheck.specs.declared.listing.Unsound.{Unsound}
use Rattle.pot_recheck.specs.Finding.{AreFoundTables, IsFound, IsFoundTable}
use Rattle.pot_recheck.proofs.SlotLemmas.{same_digests, voids_same}
use Rattle.pot_recheck.proofs.TableLemmas.{with_slots, still_table, same_size, still_whole}
use Rattle.pot_recheck.proofs.Pairs.{same_flat, same_length}

-- ONE TABLE

module _ (found : List Unsound) (g : ℕ) (t u : Table) (is : IsFoundTable found g t u) where
  pub still_rules : IsTable t → IsTable u
  still_rules rules = subst (λ (x : Table). IsTable x) (sym is.rest) (still_table found g t u.slots rules is.slots)

  still_fits : (rack : Rack) → FitsTable rack t → FitsTable rack u
  still_fits rack fits = record {
    rules = still_rules fits.rules;
    data_columns = ap (λ (x : Table). x.data_columns) is.rest ∙ fits.data_columns;
    parity = ap (λ (x : Table). x.parity) is.rest ∙ fits.parity;
    stripes = ap (λ (x : Table). x.stripes) is.rest ∙ fits.stripes;
    relays = ap (λ (x : Table). x.relays) is.rest;
  }

  same_archives : archives_in u ≡ archives_in t
  same_archives = ap archives_in is.rest

  same_width : (s c : ℕ) → slot_at u s c ≡ slot_at (with_slots t u.slots) s c
  same_width s c = ap (λ (x : Table). slot_at x s c) is.rest

  pub same_void : IsTable t → (s c : ℕ) → is_void (slot_at u s c) ≡ is_void (slot_at t s c)
  same_void rules s c = ap is_void (same_width s c) ∙ voids_same found g t u.slots rules.size is.slots s c

  same_bytes : IsTable t → length (table_bytes u) ≡ length (table_bytes t)
  unfolding table_bytes
  same_bytes rules =
      ap (λ (x : Table). length (cursor_bytes x.cursor ++ flat_map column_bytes x.columns ++ flat_map slot_bytes x.slots)) is.rest
      ∙ length-append (cursor_bytes t.cursor ++ flat_map column_bytes t.columns) (flat_map slot_bytes u.slots)
      ∙ ap (λ n. length (cursor_bytes t.cursor ++ flat_map column_bytes t.columns) + n) (same_size u.slots t.slots (same_digests found g t u.slots rules.size is.slots))
      ∙ sym (length-append (cursor_bytes t.cursor ++ flat_map column_bytes t.columns) (flat_map slot_bytes t.slots))

  still_digests : IsTable t → HaveDigests t → HaveDigests u
  still_digests rules all = still_whole u.slots t.slots (same_digests found g t u.slots rules.size is.slots) all

-- ALL TABLES

module _ (found : List Unsound) (rack : Rack) (ts us : List Table) (fit : All (FitsTable rack) ts) (are : AreFoundTables found ts us) where
  -- the table before, of each table now
  pub before : (g : ℕ) (u : Table) → slice_get us g ≡ Some u → (t : Table) × (slice_get ts g ≡ Some t)
  before g u q = element_at ts g (let l = slice_get_within us g u q in let n = are.count in omega (arith, l, n))

  now : (g : ℕ) (t : Table) → slice_get ts g ≡ Some t → (u : Table) × (slice_get us g ≡ Some u)
  now g t q = element_at us g (let l = slice_get_within ts g t q in let n = are.count in omega (arith, l, n))

  pub fit_at : (g : ℕ) (t : Table) → slice_get ts g ≡ Some t → FitsTable rack t
  fit_at g t q = subst (FitsTable rack) (get_or_from_slice_get ts g t t q) (All-get_or (FitsTable rack) ts g t (slice_get_within ts g t q) fit)

  of_each : (P : Table → Type 0) → ((g : ℕ) (u : Table) → slice_get us g ≡ Some u → P u) → All P us
  of_each P each = λ g d l. each g (get_or us g d) (slice_get-get_or us g d l)

  still_all : All (FitsTable rack) us
  still_all = of_each (FitsTable rack) (λ g u q. (let b = before g u q in still_fits found g b.0 u (are.each g b.0 u b.1 q) rack (fit_at g b.0 b.1)))

  all_archives : flat_map archives_in us ≡ flat_map archives_in ts
  all_archives = same_flat archives_in ts us are.count (λ g t u p q. same_archives found g t u (are.each g t u p q))

  still_tables : AreTables rack ts → AreTables rack us
  still_tables tables = record {
    count = are.count ∙ tables.count;
    fits = still_all;
    archives = subst AreArchives (sym all_archives) tables.archives;
  }

  all_bytes : length (flat_map table_bytes us) ≡ length (flat_map table_bytes ts)
  all_bytes = same_length table_bytes ts us are.count (λ g t u p q. same_bytes found g t u (are.each g t u p q) (fit_at g t p).rules)

  all_digests : All HaveDigests ts → All HaveDigests us
  all_digests all = of_each HaveDigests (λ g u q.
      (let b = before g u q in still_digests found g b.0 u (are.each g b.0 u b.1 q) (fit_at g b.0 b.1).rules
      (subst HaveDigests (get_or_from_slice_get ts g b.0 b.0 b.1) (All-get_or HaveDigests ts g b.0 (slice_get_within ts g b.0 b.1) all))))

  still_filled : (p : Place) → IsFilled ts p → IsFilled us p
  still_filled p is =
      let n = now p.group is.table is.group in
      record {
        table = n.0;
        group = n.1;
        slot = same_void found p.group is.table n.0 (are.each p.group is.table n.0 is.group n.1) (fit_at p.group is.table is.group).rules p.stripe p.column ∙ is.slot;
      }

  still_over : (r : Record) → IsRecordOver ts r → IsRecordOver us r
  still_over r is = record {
    name = is.name;
    digest = is.digest;
    filled = All-weaker (λ s. All (IsFilled ts) s.places) (λ s. All (IsFilled us) s.places) (λ s all. All-weaker (IsFilled ts) (IsFilled us) still_filled s.places all) (splits_of r) is.filled;
  }

-- THE IMAGE

pub still_together : (found : List Unsound) (v w : Contents) → FitsTogether v → IsFound found v w → FitsTogether w
still_together found v w fits is =
    let us = w.tables in
    subst FitsTogether (sym is.rest) (record {
      rack = fits.rack;
      tables = still_tables found v.rack v.tables us fits.tables.fits is.tables fits.tables;
      records = record {
        read = fits.records.read;
        each = All-weaker (IsRecordOver v.tables) (IsRecordOver us) (still_over found v.rack v.tables us fits.tables.fits is.tables) v.records fits.records.each;
      };
      logs = fits.logs;
    })

-- all bytes but those of the tables are as they were
field_size : (v : Contents) (us : List Table) → length (flat_map table_bytes us) ≡ length (flat_map table_bytes v.tables) → length (field_bytes (record v { tables = us })) ≡ length (field_bytes v)
unfolding field_bytes
field_size v us e = sized us ∙ ap (λ n. length (head_bytes v.session v.rack) + n + length (counted_bytes record_bytes v.records) + length (flat_map (counted_bytes entry_bytes) v.group_logs) + length (counted_bytes index_entry_bytes v.index_log)) e ∙ sym (sized v.tables)
  where
    sized : (ts : List Table) → length (head_bytes v.session v.rack ++ flat_map table_bytes ts ++ counted_bytes record_bytes v.records ++ flat_map (counted_bytes entry_bytes) v.group_logs ++ counted_bytes index_entry_bytes v.index_log)
        ≡ length (head_bytes v.session v.rack) + length (flat_map table_bytes ts) + length (counted_bytes record_bytes v.records) + length (flat_map (counted_bytes entry_bytes) v.group_logs) + length (counted_bytes index_entry_bytes v.index_log)
    sized ts =
        let a = head_bytes v.session v.rack in let b = flat_map table_bytes ts in let c = counted_bytes record_bytes v.records in let d = flat_map (counted_bytes entry_bytes) v.group_logs in
        let p = length-append (a ++ b ++ c ++ d) (counted_bytes index_entry_bytes v.index_log) in let q = length-append (a ++ b ++ c) d in let r = length-append (a ++ b) c in let s = length-append a b in
        omega (arith, p, q, r, s)

image_size : (v w : Contents) → length (field_bytes w) ≡ length (field_bytes v) → length (image_bytes w) ≡ length (image_bytes v)
image_size v w e = image_long w ∙ ap (λ n. 48 + n) e ∙ sym (image_long v)

pub still_image : (found : List Unsound) (v w : Contents) → IsFound found v w → IsImage v → IsImage w
still_image found v w is image =
    let us = w.tables in let fit = image.together.tables.fits in
    let size = image_size v (record v { tables = us }) (field_size v us (all_bytes found v.rack v.tables us fit is.tables)) in
    let short = image.short in
    subst IsImage (sym is.rest) (record {
      session = image.session;
      together = subst FitsTogether is.rest (still_together found v w image.together is);
      digests = all_digests found v.rack v.tables us fit is.tables image.digests;
      group_logs = image.group_logs;
      index_log = image.index_log;
      short = omega (arith, size, short);
    })
