-- The records that a session leaves: each place of their splits has a block in the tables that it
-- leaves.
use Rattle.std.proofs.Common.{◌≡◌, ◌≤◌, ◌<◌, ◌+◌, ◌++◌, ◌⊎◌, inl, inr, ℕ, false, List, [], ◌∷◌, length, get_or, refl, sym, ap, subst, ◌∙◌, arith}
use Rattle.std.specs.Prelude.{All, Contains, Option, Some, None, slice_get}
use Rattle.std.proofs.lemmas.List.{length-map}
use Rattle.std.proofs.lemmas.List.Elements.{All-append, All-contains, All-cons, All-nil, Contains-get_or}
use Rattle.std.proofs.lemmas.Option.{slice_get_within}
use Rattle.pot_bytes.specs.Rack.{IsRack, log_bound}
use Rattle.pot_bytes.specs.declared.digest.Digest.{Digest}
use Rattle.pot_bytes.specs.declared.rack.Place.{Place}
use Rattle.pot_bytes.specs.declared.rack.Rack.{Rack}
use Rattle.pot_bytes.proofs.Elements.{contains_later, element_at}
use Rattle.pot_object.specs.Pieces.{pieces_of}
use Rattle.pot_outside.specs.Archives.{Meaning}
use Rattle.pot_machine.specs.declared.entry.Entry.{Entry}
use Rattle.pot_machine.specs.Logs.{Fills, IsKeptPut}
use Rattle.pot_machine.specs.Machine as machine
use Rattle.pot_machine.specs.Slot.{is_void}
use Rattle.pot_machine.specs.Table.{Table, slot_at}
use Rattle.pot_machine.proofs.Filled.{filled_stays, not_void, put_digest}
use Rattle.pot_index.specs.declared.entry.IndexEntry.{IndexEntry}
use Rattle.pot_index.specs.declared.entry.IndexEntry.TheVariants.{Reserve, Taken, Publish, Abandon, Find, Listed, Renew, Often}
use Rattle.pot_index.specs.declared.entry.Logged.{Logged}
use Rattle.pot_index.specs.declared.record.Record.{Record}
use Rattle.pot_index.specs.declared.record.Split.{Split}
use Rattle.pot_index.specs.Entries.{bringing}
use Rattle.pot_index.specs.Fits.{FitsRack, FitsSplit}
use Rattle.pot_index.specs.Index.{AreNames, NamesAscend, LegalEntry, Names, ReplaysIndex, after, after_entry, names_read}
use Rattle.pot_index.specs.Records.{current_of, splits_of}
use Rattle.pot_index.proofs.IndexLemmas.{started_is}
use Rattle.pot_index.proofs.NamesKept.{replay_keeps}
use Rattle.pot_index.proofs.RecordLaws.{few_published}
use Rattle.pot_index.proofs.RecordLemmas.{inserted_from, replaced_from}
use Rattle.pot_shelves.specs.Shelves.{Shelves}
use Rattle.pot_image.specs.Rules.{AreRecords, FitsTable, IsFilled, IsRecordOver, IsWholeRecord}
use Rattle.pot_shared.specs.Catalogs.{AreFirstSplits}
use Rattle.pot_shared.specs.Leaving.{AreRecordsPut, IsPutAt, LeaveGroups, LeavesRecords}
use Rattle.pot_shared.proofs.Lists.{all_at_place, at_same}

-- LISTS

pub each_of : {X : Type 0} (P : X → Type 0) (xs : List X) → ((k : ℕ) (x : X) → slice_get xs k ≡ Some x → P x) → All P xs
each_of P xs each = λ k d l. (let x = element_at xs k l in subst P (sym (at_same xs k d x.0 x.1)) (each k x.0 x.1))

contained_of : {X : Type 0} (P : X → Type 0) (xs : List X) → ((x : X) → Contains xs x → P x) → All P xs
contained_of P xs each = λ k d l. each (get_or xs k d) (Contains-get_or xs k d l)

-- FILLED PLACES

module _ (told : Type 0) (meant : ℕ → Meaning) (Has : Shelves → ℕ → Type 0) (rack : Rack) (ts us : List Table) (logs : List (List Entry)) (leaves : LeaveGroups told meant Has ts logs us)
    (fits : All (FitsTable rack) ts) where
  abbrev AreFilled : Split → Type 0
  AreFilled s = All (IsFilled us) s.places

  abbrev pub HasFilled : Record → Type 0
  HasFilled r = All AreFilled (splits_of r)

  -- a slot that had a block has one still
  filled_later : (p : Place) → p.column < rack.columns → IsFilled ts p → IsFilled us p
  filled_later p lt f =
      let within = slice_get_within ts p.group f.table f.group in
      let u = element_at us p.group (let n = leaves.count in omega (arith, within, n)) in
      let log = element_at logs p.group (let n = leaves.count_logs in omega (arith, within, n)) in
      let left = leaves.each p.group f.table u.0 log.0 f.group u.1 log.1 in
      let of = all_at_place (FitsTable rack) ts p.group f.table fits f.group in
      let column : p.column < f.table.data_columns = (let e = of.data_columns in omega (arith, lt, e)) in
      record {
        table = u.0;
        group = u.1;
        slot = subst (λ (v : Table). is_void (slot_at v p.stripe p.column) ≡ false) (sym left.is)
            (filled_stays f.table left.view.log left.view.table p.stripe p.column of.rules (subst (λ (v : Table). machine.Replays v left.view.log left.view.table) left.first left.settled.replay) column f.slot);
      }

  -- and so has one that was put
  put_later : (p : Place) → IsPutAt logs p → IsFilled us p
  put_later p (log, at, (job, d, e, kept, has)) =
      let within = slice_get_within logs p.group log at in
      let t = element_at ts p.group (let n = leaves.count_logs in omega (arith, within, n)) in
      let u = element_at us p.group (let n = leaves.count in let m = leaves.count_logs in omega (arith, within, n, m)) in
      let left = leaves.each p.group t.0 u.0 log t.1 u.1 at in
      let of = all_at_place (FitsTable rack) ts p.group t.0 fits t.1 in
      record {
        table = u.0;
        group = u.1;
        slot = subst (λ (v : Table). is_void (slot_at v p.stripe p.column) ≡ false) (sym left.is)
            (not_void (slot_at left.view.table p.stripe p.column) d
            (put_digest t.0 left.view.log left.view.table p.stripe p.column d e of.rules (subst (λ (v : Table). machine.Replays v left.view.log left.view.table) left.first left.settled.replay)
            (subst (λ l. Contains l e) (sym left.is_log) has) (fills kept)));
      }
    where
      fills : IsKeptPut job p.stripe p.column d e → Fills p.stripe p.column d e
      fills (inl (q, is)) = subst (Fills p.stripe p.column d) (sym is) (refl, refl, refl)
      fills (inr (q, k, is)) = subst (Fills p.stripe p.column d) (sym is) (refl, refl, refl)

  -- a record that was read
  read_filled : (r : Record) → FitsRack rack r → IsRecordOver ts r → HasFilled r
  read_filled r of over = each_of AreFilled (splits_of r) (λ k s q.
      (let fit = all_at_place (FitsSplit rack (pieces_of r.length)) (splits_of r) k s of.splits q in
      let had = all_at_place (λ (x : Split). All (IsFilled ts) x.places) (splits_of r) k s over.filled q in
      each_of (IsFilled us) s.places (λ b p at. filled_later p (fit.places b p at).column (all_at_place (IsFilled ts) s.places b p had at))))

  -- THE STORY

  abbrev WasPut : Record → Type 0
  WasPut r = (b : ℕ) (p : Place) → slice_get r.places b ≡ Some p → IsPutAt logs p

  current_filled : (r : Record) → WasPut r → AreFilled (current_of r)
  current_filled r put = each_of (IsFilled us) r.places (λ b p at. put_later p (put b p at))

  one_more : (ss : List Split) (s : Split) → All AreFilled ss → AreFilled s → All AreFilled (ss ++ s ∷ [])
  one_more ss s all last = All-append AreFilled ss (s ∷ []) all (All-cons AreFilled s [] last (All-nil AreFilled))

  abbrev AllFilled : Names → Type 0
  AllFilled n = (r : Record) → Contains n.published r → HasFilled r

  published_filled : (n : Names) (r : Record) → AllFilled n → HasFilled r → (o : Record) → (r ≡ o) ⊎ Contains n.published o → HasFilled o
  published_filled n r all mine o (inl same) = subst HasFilled same mine
  published_filled n r all mine o (inr old) = all o old

  entry_filled : (n : Names) (e : IndexEntry) (b : Option Record) → ((r : Record) → b ≡ Some r → WasPut r)
      → ((job : ℕ) (name : List ℕ) (mark : Digest) (r : Record) → e ≡ Publish job name mark → b ≡ Some r → r.older ≡ []) → LegalEntry rack n e b → AllFilled n → AllFilled (after_entry n e b)
  entry_filled n (Reserve job name) None put once legal all = all
  entry_filled n (Taken job name) None put once legal all = all
  entry_filled n (Publish job name mark) (Some r) put once legal all = λ o has.
      published_filled n r all (one_more r.older (current_of r) (subst (All AreFilled) (sym (once job name mark r refl refl)) (All-nil AreFilled)) (current_filled r (put r refl))) o (inserted_from r o n.published has)
  entry_filled n (Abandon job name) None put once legal all = all
  entry_filled n (Find job name found) None put once legal all = all
  entry_filled n (Listed job) None put once legal all = all
  entry_filled n (Renew job name mark) (Some r) put once (marked, of, (o, old, is)) all = λ q has.
      published_filled n r all (one_more r.older (current_of r) (subst (All AreFilled) (sym (ap (λ (x : Record). x.older) is)) (all o old.0)) (current_filled r (put r refl))) q (replaced_from r q n.published has)
  entry_filled n (Often job name) None put once legal all = all
  entry_filled n _ _ put once legal all = absurd legal

  abbrev AllPut : List Logged → Type 0
  AllPut log = (e : IndexEntry) (r : Record) → Contains log (bringing e r) → WasPut r

  story_filled : (n : Names) (log : List Logged) (m : Names) → AllPut log → AreFirstSplits log → ReplaysIndex rack n log m → AllFilled n → AllFilled m
  story_filled n [] m put once same all = subst AllFilled (sym same) all
  story_filled n (x ∷ log) m put once (legal, rest) all =
      story_filled (after n x) log m (λ e r has. put e r (contains_later x (bringing e r) log has)) (λ job name mark r has. once job name mark r (contains_later x (bringing (Publish job name mark) r) log has)) rest
      (entry_filled n x.entry x.brought
      (λ r is. put x.entry r (0, omega arith, here x.entry r refl is))
      (λ job name mark r e is. once job name mark r (0, omega arith, here (Publish job name mark) r e is)) legal all)
    where
      here : (e : IndexEntry) (r : Record) → x.entry ≡ e → x.brought ≡ Some r → x ≡ bringing e r
      here e r p q = ap (λ f. record { entry = f; brought = x.brought }) p ∙ ap (λ b. record { entry = e; brought = b }) q

  -- THE RECORDS

  pub records_left : (rs : List Record) (story : List Logged) (log : List IndexEntry) (left : List Record) → IsRack rack → AreRecords rack ts rs → LeavesRecords rack rs story log left → AreRecordsPut logs story → length log ≤ log_bound
      → length rs + log_bound ≤ 4000000000 → All IsWholeRecord left → AreRecords rack us left
  records_left rs story log left limits read records put few room whole = record {
    read = record {
      few = (let a = few_published rack (names_read rs) records.ended story records.replays in let b = ap length records.is in let c = ap length records.is_log in let d = length-map story (λ x. x.entry) in omega (arith, a, b, c, d, few, room));
      ascends = subst NamesAscend (sym records.is) kept.ascends;
      fits = subst (All (FitsRack rack)) (sym records.is) kept.fits;
    };
    each = each_of (IsRecordOver us) left (λ k r q. record {
      name = (all_at_place IsWholeRecord left k r whole q).0;
      digest = (all_at_place IsWholeRecord left k r whole q).1;
      filled = all_filled r (subst (λ l. Contains l r) records.is (stands left k r q));
    });
  }
    where
      kept : AreNames rack records.ended
      kept = replay_keeps rack (names_read rs) records.ended story (started_is rack rs limits read.read).names records.replays

      stands : (xs : List Record) (k : ℕ) (r : Record) → slice_get xs k ≡ Some r → Contains xs r
      stands xs k r q = (k, slice_get_within xs k r q, at_same xs k r r q)

      all_filled : AllFilled records.ended
      all_filled = story_filled (names_read rs) story records.ended (λ e r has. put.puts r (e, has)) put.once records.replays
          (λ r has. read_filled r (All-contains (FitsRack rack) rs r read.read.fits has) (All-contains (IsRecordOver ts) rs r read.each has))
