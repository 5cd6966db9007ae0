-- The places of a record that was found are filled, from the search on.
use Rattle.std.proofs.Common.{◌≡◌, ◌<◌, ⊎_elim, ℕ, zero, suc, false, List, [], ◌∷◌, ◌++◌, length, ap, sym, ◌∙◌, subst, arith}
use Rattle.std.specs.Prelude.{Some, Ok, IfSome, Contains, slice_index_or}
use Rattle.std.proofs.lemmas.List.Elements.{Contains-append_left}
use Rattle.pot_bytes.specs.declared.digest.Digest.{Digest}
use Rattle.pot_bytes.specs.declared.rack.Place.{Place}
use Rattle.pot_bytes.specs.declared.rack.Rack.{Rack}
use Rattle.pot_machine.specs.declared.entry.Entry.{Entry}
use Rattle.pot_machine.specs.Machine.{Replays}
use Rattle.pot_machine.specs.Rules.{IsTable}
use Rattle.pot_machine.specs.Slot.{is_void}
use Rattle.pot_machine.specs.Table.{Table, slot_at}
use Rattle.pot_machine.proofs.Filled.{filled_stays, not_void}
use Rattle.pot_bytes.specs.Digests.{digest_of}
use Rattle.pot_shard.specs.FileBlocks.{file_blocks}
use Rattle.pot_index.specs.declared.record.Record.{Record}
use Rattle.pot_index.specs.Fits.{FitsRack}
use Rattle.pot_turn.specs.declared.name.TurnName.{TurnName}
use Rattle.pot_rows.specs.Rows.{view_at}
use Rattle.pot_replies.specs.Settings.{Setting}
use Rattle.pot_shared.specs.declared.member.GroupOrigin.{GroupOrigin}
use Rattle.pot_shared.specs.Members.{entries_of}
use Rattle.pot_shared.specs.Ready.{GroupPasses, AreReady, IsOrigin}
use Rattle.pot_machine.specs.Logs.{IsKeptPut}
use Rattle.pot_shared.specs.Seen.{RowKnowsMore}
use Rattle.pot_shared.specs.Catalogs.{IndexPasses, IsIndexReady}
use Rattle.pot_shared.specs.IndexCalls.{IndexCall, FindsRecord}
use Rattle.pot_shared.specs.Works.{known, IsSettingOf}
use Rattle.pot_store.specs.Fetches.{AreFilled}
use Rattle.pot_store.specs.Visits.{place_in}
use Rattle.pot_store.proofs.DigestLemmas.{put_stays}
use Rattle.pot_store.proofs.FitLemmas.{fits_place, has_slot, there_is}
use Rattle.pot_store.proofs.SearchLemmas.{found_fits, met_read}

-- an element by its place in a list
contained : (places : List Place) (p : Place) (has : Contains places p) → place_in places has.0 ≡ p
contained [] p (k, lt, is) = absurd (omega (arith, lt))
contained (q ∷ places) p (zero, lt, is) = is
contained (q ∷ places) p (suc k, lt, is) = contained places p (k, omega (arith, lt), is)

-- A RECORD THAT WAS FOUND

module _ (job : ℕ) (name : List ℕ) (rack : Rack) (names turn : List TurnName) (u v : GroupPasses) (ui wi : IndexPasses) (kept : Record)
    (ready : AreReady rack names u) (count : length names ≡ rack.groups) (index_ready : IsIndexReady rack names turn ui) (knows : RowKnowsMore u v)
    (call : IndexCall (FindsRecord job name (Ok kept) v) ui wi) (s : Setting) (set : IsSettingOf s rack (known u ui)) (filled : AreFilled s) where
  fits : FitsRack rack kept
  fits = found_fits job name rack names turn ui wi v kept index_ready call

  module _ (p : Place) (has : Contains kept.places p) (o : GroupOrigin) (origin : (view_at u p.group).origin ≡ Some o) where
    is_p : place_in kept.places has.0 ≡ p
    is_p = contained kept.places p has

    within : p.group < length u.names
    within =
        let h = (has_slot rack kept fits names has.0 count has.1).0 in
        let same = ap (λ (q : Place). q.group) is_p in
        let n = ap length ready.of.0 in
        omega (arith, h, same, n)

    column : p.column < rack.columns
    column = (let c = (fits_place rack kept fits has.0 has.1).column in let same = ap (λ (q : Place). q.column) is_p in omega (arith, c, same))

    -- the table that the group read is one of the rack
    wide : (s.first p.group).data_columns ≡ rack.columns
    wide =
        let its = subst (IsOrigin rack p.group) origin (ready.origins p.group (let n = ap length ready.of.0 in let w = within in omega (arith, n, w))) in
        let first : s.first p.group ≡ o.first = subst (λ x. IfSome x (λ y. s.first p.group ≡ y.first)) origin (set.first p.group within) in
        ap (λ (t : Table). t.data_columns) first ∙ its.1.0

    -- from the search on its slot is not Void
    pub filled_of : (x : List Entry) (t : Table) → IsTable (s.first p.group) → Replays (s.first p.group) (entries_of (view_at v p.group).seen ++ x) t
        → is_void (slot_at t p.stripe p.column) ≡ false
    filled_of x t is replays = ⊎_elim
        (λ read.
        filled_stays (s.first p.group) (entries_of (view_at v p.group).seen ++ x) t p.stripe p.column is replays (let c = column in let w = wide in omega (arith, c, w))
        (filled kept p (subst (λ rs. Contains rs kept) (sym (met_read job name rack names turn ui wi v (Ok kept) index_ready call s u set)) read) has))
        (λ put.
        let sees = call.turn.call.1 kept put in
        let d : Digest = digest_of (slice_index_or (file_blocks kept.geometry sees.file sees.random) has.0 []) in
        let seen = (sees.puts has.0 (place_in kept.places has.0) (there_is kept.places has.0 has.1)).1 in
        let log : List Entry = entries_of (view_at v p.group).seen ++ x in
        let there : Contains log seen.1 = Contains-append_left (entries_of (view_at v p.group).seen) x seen.1 (subst (λ (q : Place). Contains (entries_of (view_at v q.group).seen) seen.1) is_p seen.3) in
        let its = subst (λ (q : Place). IsKeptPut seen.0 q.stripe q.column d seen.1) is_p seen.2 in
        not_void (slot_at t p.stripe p.column) d
        (put_stays (s.first p.group) log t is replays seen.0 p.stripe p.column d seen.1 its there.0 there.1 there.2))
        (call.turn.call.2 kept call.turn.call.0.1.0)
