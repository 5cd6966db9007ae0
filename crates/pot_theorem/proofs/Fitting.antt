-- Another file fits what a coalition sees of one that a session of a chain stored.
use Rattle.std.proofs.Common.{◌≡◌, ℕ, zero, suc, ◌*◌, ◌<◌, List, [], ◌∷◌, ◌++◌, Option, Some, None, Bool, true, false, refl, sym, ap, ap₂, ◌∙◌, subst, arith, map, length}
use Rattle.std.specs.Prelude.{◌==◌, ◌&&◌, Contains, slice_get, slice_index_or}
use Rattle.std.proofs.lemmas.Bool.{and_from, and_parts, eq-eqb, eqb-true}
use Rattle.std.proofs.lemmas.List.{length-map}
use Rattle.std.proofs.lemmas.Nat.{mod_below}
use Rattle.std.proofs.lemmas.Option.{get_or_from_slice_get, same_Some, slice_get-get_or, slice_get-map, slice_get_within}
use Rattle.std.specs.Prelude.{option_map}
use Rattle.pot_bytes.specs.declared.digest.Digest.{Digest}
use Rattle.pot_bytes.specs.declared.rack.Place.{Place}
use Rattle.pot_bytes.specs.declared.rack.Rack.{Rack}
use Rattle.pot_bytes.specs.Digests.{digest_of}
use Rattle.pot_bytes.specs.Lists.{AreBytes, IsBlock}
use Rattle.pot_bytes.specs.Rack.{IsRack, no_place}
use Rattle.pot_bytes.proofs.Elements.{contains_back, contains_front, element_at, element_of_map}
use Rattle.pot_pointer.proofs.FilterLemmas.{Contains-filter}
use Rattle.pot_object.specs.Pieces.{pieces_of}
use Rattle.pot_machine.specs.declared.entry.Entry.{Entry}
use Rattle.pot_machine.specs.Logs.{Fills, is_of, own}
use Rattle.pot_machine.specs.Slot.{is_void}
use Rattle.pot_machine.specs.Table.{Table, slot_at}
use Rattle.pot_machine.proofs.Empty.{empty_void}
use Rattle.pot_machine.proofs.Filled.{not_void}
use Rattle.pot_machine.proofs.Searches.{least_none, least_some}
use Rattle.pot_shard.specs.FileBlocks.{file_blocks}
use Rattle.pot_shard.specs.Places as shard
use Rattle.pot_shard.proofs.PlaceLemmas.{place_laws}
use Rattle.pot_veil.specs.Veiled.{IsVeiledSplit, is_seen}
use Rattle.pot_index.specs.declared.record.Record.{Record}
use Rattle.pot_index.specs.declared.record.Split.{Split}
use Rattle.pot_index.specs.Fits.{FitsPlace, FitsRack, FitsSplit}
use Rattle.pot_index.specs.Records.{current_of, splits_of}
use Rattle.pot_world.specs.Audit.{Sight, group_in, sight_of}
use Rattle.pot_world.specs.Explains.{Sees}
use Rattle.pot_world.specs.Group.{WorldGroup}
use Rattle.pot_world.specs.Later.{SeesNoParity}
use Rattle.pot_world.specs.Places.{HasPlaced}
use Rattle.pot_world.specs.Reached.{AllGood, Reaches, Site, first_groups, first_site}
use Rattle.pot_world.specs.Remains.{HasPlacedAt}
use Rattle.pot_world.specs.World.{no_group}
use Rattle.pot_world.proofs.Auditing.{first_both, sights_fit}
use Rattle.pot_world.proofs.Reaching.{reached_keeps}
use Rattle.pot_audit.specs.declared.spot.Spot.{Spot}
use Rattle.pot_audit.specs.declared.veil.Veil.{Veil}
use Rattle.pot_audit.specs.Exposure.{has_column}
use Rattle.pot_audit.specs.Hiding.{AreHidden, exposed_columns, hidden_of, other_random, places_of}
use Rattle.pot_audit.specs.Veils.{AreVeils}
use Rattle.pot_audit.proofs.Adding.{all_at, current_at}
use Rattle.pot_audit.proofs.Exposing.{seen_is, sees_exposed}
use Rattle.pot_audit.proofs.HidingLemmas.{veiled}
use Rattle.pot_script.specs.declared.command.Command.TheVariants as commands
use Rattle.pot_script.specs.declared.grouping.Step.{Step}
use Rattle.pot_script.specs.declared.reply.Reply.{Reply}
use Rattle.pot_script.specs.declared.reply.Reply.TheVariants as replies
use Rattle.pot_replies.specs.Digests.{NoTwoAlike}
use Rattle.pot_replies.specs.Stores.{Placed, in_group, place_of}
use Rattle.pot_shared.specs.Leaving.{still}
use Rattle.pot_promises.specs.Answers.{IsAnswered, job_at}
use Rattle.pot_promises.specs.Chains.{IsSession}
use Rattle.pot_promises.specs.Veils.{EachOtherFits, FitsToo, HasStored, IsSameBlock, random_of, stream_blocks}
use Rattle.pot_promises.proofs.Odds.{kept_fills, puts_has}
use Rattle.pot_promises.proofs.Running.{all_lead}
use Rattle.pot_promises.proofs.Veils as promised
use Rattle.pot_promises.proofs.Veils.{kept_fits, numbered}
use Rattle.pot_theorem.specs.Another.{AnotherFile, FitsAnother, block_or, blocks_at, bytes_of, is_place, number_of}
use Rattle.pot_theorem.specs.Sessions.{AllSucceed, AreInARow, ClosedSession, HasReplies, last_session, new_archives}
use Rattle.pot_theorem.specs.Worlds.{IsGroupOf}
use Rattle.pot_theorem.proofs.Another.{SeesAsPut, StandsFor, bytes_blocks, fits_sessions, stands_sessions}
use Rattle.pot_theorem.proofs.Placed.{written_at}
use Rattle.pot_theorem.proofs.Reaching.{Reached}
use Rattle.pot_theorem.proofs.Standing.{has_from, has_own, log_there, places_stand, read_there}
use Rattle.pot_theorem.proofs.Veiling.{stays_veiled}

-- LISTS AND PLACES

contained_at : {X : Type 0} (xs : List X) (k : ℕ) (x : X) → slice_get xs k ≡ Some x → Contains xs x
contained_at xs k x e = (k, slice_get_within xs k x e, get_or_from_slice_get xs k x x e)

same_lists : {X : Type 0} (xs ys : List X) → length xs ≡ length ys → ((b : ℕ) (x y : X) → slice_get xs b ≡ Some x → slice_get ys b ≡ Some y → x ≡ y) → xs ≡ ys
same_lists [] [] long same = refl
same_lists [] (y ∷ ys) long same = absurd (omega (arith, long))
same_lists (x ∷ xs) [] long same = absurd (omega (arith, long))
same_lists (x ∷ xs) (y ∷ ys) long same = ap₂ (λ z zs. z ∷ zs) (same 0 x y refl refl) (same_lists xs ys (omega (arith, long)) (λ b u v e f. same (suc b) u v e f))

place_is : (p : Place) (g s c : ℕ) → is_place p g s c ≡ true → (p.group ≡ g) × (p.stripe ≡ s) × (p.column ≡ c)
place_is p g s c e =
    let a = and_parts (p.group == g) ((p.stripe == s) && (p.column == c)) e in
    let b = and_parts (p.stripe == s) (p.column == c) a.1 in
    (eqb-true p.group g a.0, eqb-true p.stripe s b.0, eqb-true p.column c b.1)

is_itself : (p : Place) → is_place p p.group p.stripe p.column ≡ true
is_itself p =
    and_from (p.group == p.group) ((p.stripe == p.stripe) && (p.column == p.column)) (eq-eqb p.group p.group refl)
    (and_from (p.stripe == p.stripe) (p.column == p.column) (eq-eqb p.stripe p.stripe refl) (eq-eqb p.column p.column refl))

place_made : (g c s : ℕ) → Place
place_made g c s = record { group = g; column = c; stripe = s }

same_place : (p q : Place) → p.group ≡ q.group → p.stripe ≡ q.stripe → p.column ≡ q.column → p ≡ q
unfolding place_made
same_place p q eg es ec =
    ap (λ g. place_made g p.column p.stripe) eg ∙ (ap (λ s. place_made q.group p.column s) es ∙ ap (λ c. place_made q.group c q.stripe) ec)

abbrev test : List Place → ℕ → ℕ → ℕ → ℕ → Bool
test places g s c b = is_place (slice_index_or places b no_place) g s c

-- a number that is found
found_place : (places : List Place) (g s c b : ℕ) → number_of places g s c ≡ Some b → (q : Place) × (slice_get places b ≡ Some q) × (q.group ≡ g) × (q.stripe ≡ s) × (q.column ≡ c)
found_place places g s c b e =
    let l = least_some (length places) (test places g s c) b e in
    let q : Place = slice_index_or places b no_place in
    let is = place_is q g s c l.1 in
    (q, slice_get-get_or places b no_place l.0, is.0, is.1, is.2)

number_is : (places : List Place) → ((a b : ℕ) (p : Place) → slice_get places a ≡ Some p → slice_get places b ≡ Some p → a ≡ b) → (b : ℕ) (q : Place) → slice_get places b ≡ Some q → number_of places q.group q.stripe q.column ≡ Some b
number_is places distinct b q at = by (number_of places q.group q.stripe q.column) refl
  where
    passes : test places q.group q.stripe q.column b ≡ true
    passes = ap (λ p. is_place p q.group q.stripe q.column) (get_or_from_slice_get places b q no_place at) ∙ is_itself q

    by : (o : Option ℕ) → number_of places q.group q.stripe q.column ≡ o → o ≡ Some b
    by None e = absurd (let no = least_none (length places) (test places q.group q.stripe q.column) e b (slice_get_within places b q at) in let yes = passes in cc)
    by (Some a) e =
        let f = found_place places q.group q.stripe q.column a e in
        ap Some (distinct a b q (f.1 ∙ ap Some (same_place f.0 q f.2 f.3 f.4)) at)

-- GROUPS

placed_in : (n s c : ℕ) (block : List ℕ) (gs : List WorldGroup) (h : WorldGroup) → slice_get gs n ≡ Some h → HasPlaced h s c block → HasPlacedAt n s c block gs
unfolding HasPlacedAt
placed_in n s c block [] h e p = absurd (cc)
placed_in zero s c block (g ∷ gs) h e p = subst (λ x. HasPlaced x s c block) (sym (same_Some g h e)) p
placed_in (suc n) s c block (g ∷ gs) h e p = placed_in n s c block gs h e p

-- nothing stands in the first groups
none_first : (rack : Rack) (fits : IsRack rack) (m more n s c : ℕ) (block : List ℕ) → HasPlacedAt n s c block (first_groups rack m more) → ⊥
unfolding HasPlacedAt first_groups
none_first rack fits m zero n s c block h = h
none_first rack fits m (suc more) zero s c block h = cc (sym (ap is_void (empty_void rack m fits s c)) ∙ h.used)
none_first rack fits m (suc more) (suc n) s c block h = none_first rack fits (suc m) more n s c block h

first_good : (rack : Rack) → IsRack rack → AllGood (first_site rack)
unfolding Reaches
first_good rack fits = reached_keeps rack [] (first_site rack) fits refl

-- A CHAIN

-- each session has the rack of the first one
rack_in : (earlier : List ℕ) (c : ClosedSession) (more : List ClosedSession) (d : ClosedSession) → AllSucceed earlier c more → Contains (c ∷ more) d → d.first.rack ≡ c.first.rack
rack_in earlier c more d go (zero, lt, e) = ap (λ (x : ClosedSession). x.first.rack) (sym e)
rack_in earlier c [] d go (suc i, lt, e) = absurd (omega (arith, lt))
rack_in earlier c (y ∷ more) d go (suc i, lt, e) = rack_in (earlier ++ new_archives c) y more d go.2 (i, omega (arith, lt), e) ∙ (go.0.begins.rack ∙ c.leaves.rack)

module _ (c : ClosedSession) (more : List ClosedSession) (chain : AreInARow c more) (r : Reached c more) (d : ClosedSession) (in_chain : Contains (c ∷ more) d)
    (seed : List ℕ) (ss : List Step) (rs : List Reply) (replied : HasReplies seed d.first d.story ss rs) (p i : ℕ) (name file of : List ℕ) (pieces shards : ℕ)
    (answered : IsAnswered d.first.rack ss rs p i (commands.Store name file) (replies.Stored of pieces shards)) where
  abbrev rack : Rack
  rack = c.first.rack

  abbrev z : Site
  z = r.world.site

  abbrev l : ClosedSession
  l = last_session c more

  abbrev job : ℕ
  job = job_at ss p i

  abbrev random : List ℕ
  random = random_of seed d.first job file

  abbrev session : IsSession seed d.first d.last ss rs
  session = record {
    fits = d.fits;
    story = d.story;
    opened = d.leaves.index_opened;
    rack = d.leaves.rack;
    records = d.leaves.records;
    groups = all_lead d.room d.missing d.first d.last d.story d.leaves;
    done = replied.done;
    later = replied.later;
    follows = replied.follows;
    replied = replied.replied;
  }

  -- what its job stored
  pub stored : (its : HasStored seed d.first job name file pieces shards replied.done) × FitsRack d.first.rack its.kept × EachOtherFits (places_of (current_of its.kept)) its.placed file random
  stored =
      let s = promised.stays_veiled seed d.first d.last ss rs session p i name file of pieces shards answered in
      (s.0, kept_fits seed d.first d.last ss rs session p i name file of pieces shards answered, s.1)

  module _ (its : HasStored seed d.first job name file pieces shards replied.done) (d_fits : FitsRack d.first.rack its.kept) where
    abbrev kept : Record
    kept = its.kept

    abbrev split : Split
    split = current_of its.kept

    racks : d.first.rack ≡ rack
    racks = rack_in [] c more d chain.go_on in_chain

    fits : FitsRack rack kept
    fits = subst (λ k. FitsRack k kept) racks d_fits

    fits_split : FitsSplit rack (pieces_of kept.length) split
    fits_split = all_at (FitsSplit rack (pieces_of kept.length)) (splits_of kept) (length kept.older) split fits.splits (current_at kept)

    some_groups : 0 < rack.groups
    some_groups = (let a = c.fits.rack.groups.0 in let b = c.fits.rack.geometry.need.0 in let e = c.fits.rack.geometry.need.1 in omega (arith, a, b, e))

    -- WHERE A BLOCK OF IT STANDS

    module _ (b : ℕ) (q : Place) (at : slice_get kept.places b ≡ Some q) where
      fits_place : FitsPlace rack kept.geometry b q
      fits_place = fits_split.places b q at

      in_groups : q.group < rack.groups
      in_groups = subst (λ n. n < rack.groups) (sym fits_place.group) (mod_below _ rack.groups some_groups)

      its_placed : (x : Placed) × (slice_get its.placed b ≡ Some x) × (place_of x ≡ q)
      its_placed = element_of_map place_of its.placed b q (ap (λ ps. slice_get ps b) (sym its.is_record.places) ∙ at)

      group_at : (h : WorldGroup) × (slice_get z.groups q.group ≡ Some h)
      group_at = element_at z.groups q.group (let lt = in_groups in let a = r.last.count in let e = ap (λ (k : Rack). k.groups) r.reached.same_rack in omega (arith, lt, a, e))

      of_last : (t : Table) × (slice_get l.last.tables q.group ≡ Some t)
      of_last = element_at l.last.tables q.group
          (let lt = in_groups in let a = l.fits.tables.count in let m = l.leaves.groups.count in let e = ap (λ (k : Rack). k.groups) r.reached.same_rack in omega (arith, lt, a, m, e))

      of_its : (t : Table) × (slice_get d.last.tables q.group ≡ Some t)
      of_its = element_at d.last.tables q.group
          (let lt = in_groups in let a = d.fits.tables.count in let m = d.leaves.groups.count in let e = ap (λ (k : Rack). k.groups) racks in omega (arith, lt, a, m, e))

      its_group : IsGroupOf d q.group (read_there d q.group of_its.0 of_its.1).0 of_its.0 (log_there d q.group of_its.0 of_its.1).0
      its_group = record { was = (read_there d q.group of_its.0 of_its.1).1; is = of_its.1; logged = (log_there d q.group of_its.0 of_its.1).1 }

      last_group : IsGroupOf l q.group (read_there l q.group of_last.0 of_last.1).0 of_last.0 (log_there l q.group of_last.0 of_last.1).0
      last_group = record { was = (read_there l q.group of_last.0 of_last.1).1; is = of_last.1; logged = (log_there l q.group of_last.0 of_last.1).1 }

      abbrev its_log : List Entry
      its_log = (log_there d q.group of_its.0 of_its.1).0

      -- its log names it
      entry_at : (e : Entry) × Contains its_log e × Fills q.stripe q.column its_placed.0.digest e
      entry_at =
          let x : Placed = its_placed.0 in
          let g : x.group ≡ q.group = ap (λ (y : Place). y.group) its_placed.2 in
          let here : Contains (in_group q.group its.placed) x = (Contains-filter (λ (y : Placed). y.group == q.group) its.placed x).1 (contained_at its.placed b x its_placed.1, eq-eqb x.group q.group g) in
          let e = puts_has job (in_group q.group its.placed) (own job (replied.done.added q.group)) x (its.puts q.group) here in
          let all : Contains (replied.done.added q.group) e.0 = ((Contains-filter (is_of job) (replied.done.added q.group) e.0).0 e.2).0 in
          let added : Contains (d.story.added q.group) e.0 = subst (λ es. Contains es e.0) (sym (replied.follows.is_added q.group)) (contains_front (replied.done.added q.group) (replied.later.added q.group) e.0 all) in (
            e.0,
            subst (λ es. Contains es e.0) (sym (d.leaves.logs q.group its_log (log_there d q.group of_its.0 of_its.1).1)) (contains_back (d.story.before q.group) (d.story.added q.group) e.0 added),
            subst (λ (y : Place). Fills y.stripe y.column x.digest e.0) its_placed.2 (kept_fills job x.stripe x.column x.digest e.0 e.1),
          )

      abbrev stands : List ℕ
      stands = (group_in z q.group).written q.stripe q.column

      group_is : group_in z q.group ≡ group_at.0
      group_is = get_or_from_slice_get z.groups q.group group_at.0 no_group group_at.1

      stands_digest : digest_of stands ≡ its_placed.0.digest
      stands_digest =
          ap (λ (h : WorldGroup). digest_of (h.written q.stripe q.column)) group_is
          ∙ places_stand rack r.earlier c more z r.reached chain.go_on d in_chain q.group (read_there d q.group of_its.0 of_its.1).0 of_its.0 its_log group_at.0 entry_at.0 q.stripe q.column its_placed.0.digest its_group
          group_at.1 entry_at.1 entry_at.2

      stands_there : HasPlacedAt q.group q.stripe q.column stands z.groups
      stands_there =
          let h : WorldGroup = group_at.0 in
          let own_has = has_own d q.group (read_there d q.group of_its.0 of_its.1).0 of_its.0 its_log entry_at.0 q.stripe q.column its_placed.0.digest its_group entry_at.1 entry_at.2 in
          let has = has_from [] c more d q.group q.stripe q.column its_placed.0.digest chain.go_on in_chain own_has of_last.0 of_last.1 in
          let is : of_last.0 ≡ still h.state.table = (r.last.each q.group (read_there l q.group of_last.0 of_last.1).0 of_last.0 (log_there l q.group of_last.0 of_last.1).0 h last_group group_at.1).is in
          placed_in q.group q.stripe q.column stands z.groups h group_at.1 (record {
            stripe = subst (λ (t : Table). q.stripe < t.stripes) is has.0;
            column = subst (λ (t : Table). q.column < t.data_columns) is has.1;
            used = subst (λ (t : Table). is_void (slot_at t q.stripe q.column) ≡ false) is (not_void (slot_at of_last.0 q.stripe q.column) its_placed.0.digest has.2);
            written = ap (λ (x : WorldGroup). x.written q.stripe q.column) (sym group_is);
          })

    -- THE OTHER FILE

    module _ (exchanges : Bool) (spots : List Spot) (veils : List Veil) (other : List ℕ) (are : AreVeils rack spots kept veils) (hidden : AreHidden veils) (bytes : AreBytes other) (same : length other ≡ length file)
        (all_fit : EachOtherFits (places_of split) its.placed file random) (alike : NoTwoAlike (stream_blocks seed d.first job file ++ blocks_at kept.places z)) where
      abbrev sights : ℕ → Sight
      sights = sight_of rack (has_column spots)

      abbrev explained : List ℕ
      explained = other_random rack spots split file other random

      abbrev blocks : List (List ℕ)
      blocks = file_blocks kept.geometry other explained

      is_veiled : IsVeiledSplit (exposed_columns rack spots) (places_of split) (pieces_of (length file)) (hidden_of rack spots split)
      is_veiled =
          subst (λ n. IsVeiledSplit (exposed_columns rack spots) (places_of split) (pieces_of n) (hidden_of rack spots split)) its.is_record.long
          (veiled rack spots kept veils c.fits.rack fits are hidden (length kept.older) split (current_at kept))

      fit : FitsToo (exposed_columns rack spots) (places_of split) (hidden_of rack spots split) its.placed file random other explained
      fit = all_fit (exposed_columns rack spots) (hidden_of rack spots split) other is_veiled bytes same

      -- as many blocks as places
      many : length blocks ≡ length kept.places
      many =
          place_laws.count kept.geometry other explained
          ∙ (ap (λ n. pieces_of n * (kept.geometry.fragments * kept.geometry.shards)) same
          ∙ (sym (place_laws.count kept.geometry file random)
          ∙ (sym (length-map (file_blocks kept.geometry file random) digest_of)
          ∙ (ap (length {A = Digest}) digests ∙ (length-map its.placed (λ (x : Placed). x.digest) ∙ (sym (length-map its.placed place_of) ∙ ap (length {A = Place}) (sym its.is_record.places)))))))
        where
          digests : map digest_of (file_blocks kept.geometry file random) ≡ map (λ (x : Placed). x.digest) its.placed
          digests = sym (subst (λ g. map (λ (x : Placed). x.digest) its.placed ≡ map digest_of (file_blocks g file random)) (sym its.is_record.geometry) its.of_digests)

      are_blocks : (b : ℕ) (block : List ℕ) → slice_get blocks b ≡ Some block → IsBlock block
      are_blocks b block at =
          let lt : b < length kept.places = (let w = slice_get_within blocks b block at in let m = many in omega (arith, w, m)) in
          let n = numbered rack kept fits b lt in
          let long : kept.length ≡ length other = its.is_record.long ∙ sym same in
          let li : n.piece < pieces_of (length other) = subst (λ k. n.piece < pieces_of k) long n.in_pieces in
          let is : shard.block_in kept.geometry other explained n.piece n.fragment n.point ≡ block =
          same_Some _ block (sym (place_laws.each kept.geometry other explained n.piece n.fragment n.point li n.in_fragments n.in_points) ∙ (ap (slice_get blocks) n.is ∙ at)) in
          subst IsBlock is (place_laws.block kept.geometry other explained n.piece n.fragment n.point fit.store li n.in_fragments n.in_points)

      -- what is seen is the same
      seen_same : (g s k : ℕ) (block : List ℕ) → Sees (sights g) k → HasPlacedAt g s k block z.groups → (b : ℕ) → number_of kept.places g s k ≡ Some b → slice_index_or blocks b block ≡ block
      seen_same g s k block sees here b e =
          let f = found_place kept.places g s k b e in
          let q : Place = f.0 in
          let x : Placed = (its_placed b q f.1).0 in
          let sees' : Sees (sights q.group) q.column = subst (λ n. Sees (sights n) q.column) (sym f.2) (subst (λ n. Sees (sights g) n) (sym f.4) sees) in
          let seen : is_seen (exposed_columns rack spots) (place_of x) ≡ true =
          ap (is_seen (exposed_columns rack spots)) (its_placed b q f.1).2
          ∙ (seen_is rack spots q (in_groups b q f.1) (fits_place b q f.1).column ∙ sees_exposed rack spots q.group q.column sees') in
          let one : IsSameBlock (places_of split) file random other explained b x.digest = fit.blocks b x (its_placed b q f.1).1 seen in
          let there : stands b q f.1 ≡ block =
          ap (λ n. (group_in z n).written q.stripe q.column) f.2
          ∙ (ap (λ n. (group_in z g).written n q.column) f.3 ∙ (ap (λ n. (group_in z g).written s n) f.4 ∙ written_at g s k block z.groups here)) in
          let digests : digest_of one.block ≡ digest_of block = sym one.digest_is ∙ (sym (stands_digest b q f.1) ∙ ap digest_of there) in
          let first : Contains (stream_blocks seed d.first job file ++ blocks_at kept.places z) one.block =
          contains_front (stream_blocks seed d.first job file) (blocks_at kept.places z) one.block
          (contained_at (stream_blocks seed d.first job file) b one.block (subst (λ g. slice_get (file_blocks g file random) b ≡ Some one.block) its.is_record.geometry one.its)) in
          let second : Contains (stream_blocks seed d.first job file ++ blocks_at kept.places z) block =
          contains_back (stream_blocks seed d.first job file) (blocks_at kept.places z) block
          (contained_at (blocks_at kept.places z) b block
          (slice_get-map (λ (p : Place). (group_in z p.group).written p.stripe p.column) kept.places b
          ∙ (ap (option_map (λ (p : Place). (group_in z p.group).written p.stripe p.column)) f.1 ∙ ap Some there))) in
          get_or_from_slice_get blocks b one.block block one.others ∙ alike one.block block first second digests

      as_put : SeesAsPut kept.places blocks sights z
      as_put g s k block sees here = by (number_of kept.places g s k) refl
        where
          by : (o : Option ℕ) → number_of kept.places g s k ≡ o → block_or blocks o block ≡ block
          by None e = refl
          by (Some b) e = seen_same g s k block sees here b e

      abbrev put_bytes : ℕ → ℕ → List ℕ
      put_bytes = bytes_of kept.places blocks (first_site rack) r.world.sessions z r.world.run

      low : SeesNoParity rack sights
      low = sights_fit rack (has_column spots)

      stands_nowhere : StandsFor kept.places blocks sights (first_site rack) (first_site rack)
      stands_nowhere n s k block h = absurd (none_first rack c.fits.rack 0 rack.groups n s k block h)

      -- the blocks of the other file stand at the places
      stand : (y : Site) → StandsFor kept.places blocks sights z y → blocks_at kept.places y ≡ blocks
      stand y stands_for = same_lists (blocks_at kept.places y) blocks (length-map kept.places (λ (p : Place). (group_in y p.group).written p.stripe p.column) ∙ sym many) each
        where
          each : (b : ℕ) (u v : List ℕ) → slice_get (blocks_at kept.places y) b ≡ Some u → slice_get blocks b ≡ Some v → u ≡ v
          each b u v eu ev =
              let e = element_of_map (λ (p : Place). (group_in y p.group).written p.stripe p.column) kept.places b u eu in
              let q : Place = e.0 in
              let was : List ℕ = stands b q e.1 in
              let now = stands_for q.group q.stripe q.column was (stands_there b q e.1) in
              sym e.2
              ∙ (written_at q.group q.stripe q.column (block_or blocks (number_of kept.places q.group q.stripe q.column) was) y.groups now
              ∙ (ap (λ o. block_or blocks o was) (number_is kept.places fits_split.distinct b q e.1) ∙ get_or_from_slice_get blocks b v was ev))

      pub fits_another : FitsAnother c more r.world exchanges spots split file random other explained
      fits_another =
          let site_fits = fits_sessions kept.places blocks sights (first_site rack) r.world.sessions z r.world.run (first_good rack c.fits.rack) as_put in
          let v = stays_veiled c more r.world exchanges (has_column spots) put_bytes (bytes_blocks kept.places blocks are_blocks (first_site rack) r.world.sessions z r.world.run) site_fits in
          record {
            store = fit.store;
            back = fit.back;
            site = v.0;
            run = v.1;
            stand = stand v.0
                (stands_sessions kept.places blocks sights rack exchanges low (first_site rack) (first_site rack) r.world.sessions z v.0 are_blocks (first_both rack exchanges sights c.fits.rack) r.world.run site_fits v.1
                stands_nowhere);
            sees = v.2;
          }

pub another_file : (c : ClosedSession) (more : List ClosedSession) → AreInARow c more → (r : Reached c more) → AnotherFile c more r.world
another_file c more chain r d in_chain seed ss rs replied p i name file of pieces shards answered =
    let s = stored c more chain r d in_chain seed ss rs replied p i name file of pieces shards answered in (
      s.0,
      λ exchanges spots veils other are hidden bytes same alike.
          fits_another c more chain r d in_chain seed ss rs replied p i name file of pieces shards answered s.0 s.1 exchanges spots veils other are hidden bytes same s.2 alike,
    )
