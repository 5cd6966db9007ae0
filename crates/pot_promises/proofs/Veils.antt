-- What a session stored stays veiled.
use Rattle.std.proofs.Common.{◌≡◌, ◌<◌, ◌≤◌, ℕ, ◌*◌, ◌/◌, ◌%◌, ◌+◌, true, List, [], ◌++◌, Some, length, map, refl, ap, sym, ◌∙◌, subst, arith}
use Rattle.std.specs.Prelude.{Contains, slice_get, option_map}
use Rattle.std.proofs.Math.Nat.{div-lt_iff_lt-mul}
use Rattle.std.proofs.lemmas.Nat.{mod_below, div-add-mod'}
use Rattle.std.proofs.lemmas.List.Elements.{Contains-append_left, Contains-append_right}
use Rattle.std.proofs.lemmas.Option.{same_Some, get_or_from_slice_get, slice_get-map, slice_get_within}
use Rattle.pot_bytes.specs.Lists.{AreBytes}
use Rattle.pot_bytes.specs.Rack.{no_place}
use Rattle.pot_bytes.specs.declared.rack.Place.{Place}
use Rattle.pot_bytes.specs.declared.rack.Rack.{Rack}
use Rattle.pot_object.specs.Pieces.{longest, pieces_of}
use Rattle.pot_pads.specs.Pads.{Pads, pads_of}
use Rattle.pot_pads.proofs.PadsLemmas.{length-next_bytes, AreBytes-next_bytes}
use Rattle.pot_bytes.specs.Digests.{digest_of}
use Rattle.pot_machine.specs.Logs.{own}
use Rattle.pot_machine.proofs.Logs.{own_append}
use Rattle.pot_shard.specs.FileBlocks.{file_blocks, random_len}
use Rattle.pot_shard.specs.FileLaws.{IsStore}
use Rattle.pot_shard.specs.Places.{position, place_at}
use Rattle.pot_shard.specs.Places as shard
use Rattle.pot_shard.proofs.PlaceLemmas.{place_laws}
use Rattle.pot_veil.specs.Veiled.{Split, Spot, IsVeiledSplit, IsVeiledStore, explained_split, is_seen}
use Rattle.pot_veil.proofs.Veiling.{veil_laws}
use Rattle.pot_index.specs.declared.entry.IndexEntry.TheVariants.{Publish}
use Rattle.pot_index.specs.declared.entry.Logged.{Logged}
use Rattle.pot_index.specs.declared.record.Record.{Record}
use Rattle.pot_index.specs.Entries.{bringing}
use Rattle.pot_index.specs.Fits.{FitsRack}
use Rattle.pot_index.specs.Records.{current_of, mark_of}
use Rattle.pot_audit.specs.Hiding.{places_of}
use Rattle.pot_script.specs.declared.command.Command.TheVariants as commands
use Rattle.pot_script.specs.declared.grouping.Step.{Step}
use Rattle.pot_script.specs.declared.reply.Reply.{Reply}
use Rattle.pot_script.specs.declared.reply.Reply.TheVariants as replies
use Rattle.pot_image.specs.Images.{Contents}
use Rattle.pot_image.specs.Rules.{FitsTogether}
use Rattle.pot_replies.specs.Sections.{Section, MovesThenRest, mine, work_of}
use Rattle.pot_replies.specs.Stores.{IsStored, Placed, Puts, in_group, place_of}
use Rattle.pot_store.specs.Drawing.{random_from}
use Rattle.pot_store.proofs.FitLemmas.{current_fits, many_places}
use Rattle.pot_session.specs.Serving.{setting_of}
use Rattle.pot_promises.specs.Answers.{IsAnswered, job_at}
use Rattle.pot_promises.specs.Chains.{IsSession}
use Rattle.pot_promises.specs.Veils.{FitsToo, IsSameBlock, StaysVeiled, random_of}
use Rattle.pot_promises.proofs.Giving.{first_names, led, names_of, published_in}
use Rattle.pot_promises.proofs.Keeping.{published_goes}
use Rattle.pot_promises.proofs.Walking.{cut_at, own_at, row_at}

-- A STORE OF A SESSION

-- what a command stored, by the section of its step, and that its record fits the rack
pub record IsKept (seed : List ℕ) (first last : Contents) (ss : List Step) (rs : List Reply) (session : IsSession seed first last ss rs) (p i : ℕ)
    (name file : List ℕ) (pieces shards : ℕ) : Type 0 where
  pub one : Section
  pub there : slice_get session.replied.ones p ≡ Some one
  pub halves : MovesThenRest one
  pub begun : (g : ℕ) → own (job_at ss p i) (halves.begun g) ≡ []
  pub its : IsStored (setting_of seed first) (job_at ss p i) name file pieces shards (mine (job_at ss p i) (work_of one halves))
  pub fits : FitsRack first.rack its.kept

pub kept_at : (seed : List ℕ) (first last : Contents) (ss : List Step) (rs : List Reply) (session : IsSession seed first last ss rs) (p i : ℕ)
    (name file of : List ℕ) (pieces shards : ℕ) → IsAnswered first.rack ss rs p i (commands.Store name file) (replies.Stored of pieces shards)
    → IsKept seed first last ss rs session p i name file pieces shards
kept_at seed first last ss rs session p i name file of pieces shards answered =
    let s = setting_of seed first in
    let put = row_at s ss session.replied.ones rs p i (commands.Store name file) (replies.Stored of pieces shards) session.replied.answers refl answered in
    let its = put.row.1.1 in
    let it = led seed first last ss rs session in
    let cut = cut_at ss 1 session.replied.ones session.done p put.one session.replied.are put.there in
    let entry : Logged = bringing (Publish (job_at ss p i) name (mark_of its.kept)) its.kept in
    let has : Contains session.done.index_added entry =
    subst (λ l. Contains l entry) (sym cut.index_added)
    (Contains-append_right cut.index_earlier (put.one.index_added ++ cut.index_later) entry
    (Contains-append_left put.one.index_added cut.index_later entry
    (published_in s (job_at ss p i) name file pieces shards put.one put.halves its))) in
    let goes = published_goes first.rack (names_of first) it.sofar session.done.index_added (job_at ss p i) name (mark_of its.kept) its.kept
    (first_names first session.fits) it.to has in
    record { one = put.one; there = put.there; halves = put.halves; begun = put.row.0; its = its; fits = goes.4 }

-- all that the logs have of its job is what the section has
stored_in : (seed : List ℕ) (first last : Contents) (ss : List Step) (rs : List Reply) (session : IsSession seed first last ss rs) (p i : ℕ)
    (name file of : List ℕ) (pieces shards : ℕ) → IsAnswered first.rack ss rs p i (commands.Store name file) (replies.Stored of pieces shards)
    → IsKept seed first last ss rs session p i name file pieces shards
    → IsStored (setting_of seed first) (job_at ss p i) name file pieces shards (mine (job_at ss p i) session.done)
stored_in seed first last ss rs session p i name file of pieces shards answered put =
    let j = job_at ss p i in
    let all = own_at ss session.replied.ones session.done p i answered.step (commands.Store name file) put.one session.replied.are
    answered.there answered.command put.there in
    record {
      bytes = put.its.bytes;
      short = put.its.short;
      placed = put.its.placed;
      kept = put.its.kept;
      index = all.1 ∙ put.its.index;
      of_digests = put.its.of_digests;
      spread = put.its.spread;
      puts = λ g. subst (λ es. Puts j (in_group g put.its.placed) es)
          (sym (all.0 g ∙ (ap (own j) (put.halves.parts g)
          ∙ (own_append j (put.halves.begun g) (put.halves.worked g) ∙ ap (λ l. l ++ own j (put.halves.worked g)) (put.begun g)))))
          (put.its.puts g);
      is_record = put.its.is_record;
      pieces_is = put.its.pieces_is;
      shards_is = put.its.shards_is;
    }

-- the stream gives random bytes that a store takes
pub store_of : (first : Contents) → FitsTogether first → (pads : Pads) (file : List ℕ) → length file ≤ longest → AreBytes file
    → IsStore first.rack.geometry file (random_from first.rack.geometry file pads)
store_of first together pads file short bytes = record {
  geometry = together.rack.geometry;
  fits = short;
  taken = length-next_bytes pads (random_len (pieces_of (length file)) first.rack.geometry);
  file_bytes = bytes;
  random_bytes = AreBytes-next_bytes pads (random_len (pieces_of (length file)) first.rack.geometry);
}

-- BLOCKS BY THEIR NUMBERS

-- the piece, the fragment and the point of a block, all from 0
pub record IsNumbered (kept : Record) (b : ℕ) : Type 0 where
  pub piece : ℕ
  pub fragment : ℕ
  pub point : ℕ
  pub in_pieces : piece < pieces_of kept.length
  pub in_fragments : fragment < kept.geometry.fragments
  pub in_points : point < kept.geometry.shards
  pub is : position kept.geometry piece fragment point ≡ b

pub numbered : (rack : Rack) (kept : Record) → FitsRack rack kept → (b : ℕ) → b < length kept.places → IsNumbered kept b
numbered rack kept fits b lt =
    let k = kept.geometry.fragments in
    let n = kept.geometry.shards in
    let limits = (current_fits rack kept fits).geometry.limits in
    let some_k : 0 < k = (let a = limits.fragments.0 in omega (arith, a)) in
    let some_n : 0 < n = (let a = limits.need.0 in let c = limits.need.1 in omega (arith, a, c)) in
    record {
      piece = b / n / k;
      fragment = b / n % k;
      point = b % n;
      in_pieces = (div-lt_iff_lt-mul some_k).1 ((div-lt_iff_lt-mul some_n).1 (subst (λ m. b < m) (many_places rack kept fits) lt));
      in_fragments = mod_below (b / n) k some_k;
      in_points = mod_below b n some_n;
      is = ap (λ q. q * n + b % n) (div-add-mod' (b / n) k) ∙ div-add-mod' b n;
    }

-- the digests of blocks that were put, and the places of their record, by number
pub digest_at : (placed : List Placed) (blocks : List (List ℕ)) (b : ℕ) (x : Placed) (block : List ℕ) → map (λ (y : Placed). y.digest) placed ≡ map digest_of blocks
    → slice_get placed b ≡ Some x → slice_get blocks b ≡ Some block → x.digest ≡ digest_of block
digest_at placed blocks b x block same at there =
    same_Some x.digest (digest_of block)
    (sym (slice_get-map (λ (y : Placed). y.digest) placed b ∙ ap (option_map (λ (y : Placed). y.digest)) at)
    ∙ (ap (λ l. slice_get l b) same ∙ (slice_get-map digest_of blocks b ∙ ap (option_map digest_of) there)))

pub place_of_number : (places : List Place) (placed : List Placed) (b : ℕ) (x : Placed) → places ≡ map place_of placed → slice_get placed b ≡ Some x → slice_get places b ≡ Some (place_of x)
place_of_number places placed b x are at =
    ap (λ l. slice_get l b) are ∙ (slice_get-map place_of placed b ∙ ap (option_map place_of) at)

-- WHAT A COALITION SEES OF IT

module _ (rack : Rack) (kept : Record) (placed : List Placed) (file random other : List ℕ) (coalition : List Spot) (hidden : ℕ → ℕ)
    (fits : FitsRack rack kept) (places : kept.places ≡ map place_of placed) (long : kept.length ≡ length file) (store : IsStore kept.geometry file random)
    (digests : map (λ (x : Placed). x.digest) placed ≡ map digest_of (file_blocks kept.geometry file random))
    (veiled : IsVeiledSplit coalition (places_of (current_of kept)) (pieces_of (length file)) hidden) (bytes : AreBytes other) (same : length other ≡ length file) where
  abbrev split : Split
  split = places_of (current_of kept)

  abbrev explained : List ℕ
  explained = explained_split coalition split hidden file other random

  veiled_store : IsVeiledStore coalition split hidden file other random
  veiled_store = record {
    store = store;
    other_store = record {
      geometry = store.geometry;
      fits = subst (λ (n : ℕ). n ≤ longest) (sym same) store.fits;
      taken = subst (λ (n : ℕ). length random ≡ random_len (pieces_of n) kept.geometry) (sym same) store.taken;
      file_bytes = bytes;
      random_bytes = store.random_bytes;
    };
    same_length = same;
    veiled = veiled;
  }

  same_block : (b : ℕ) (x : Placed) → slice_get placed b ≡ Some x → is_seen coalition (place_of x) ≡ true → IsSameBlock split file random other explained b x.digest
  same_block b x at sees =
      let there = place_of_number kept.places placed b x places at in
      let it = numbered rack kept fits b (slice_get_within kept.places b (place_of x) there) in
      let i : ℕ = it.piece in
      let j : ℕ = it.fragment in
      let p : ℕ = it.point in
      let li : i < pieces_of (length file) = subst (λ (n : ℕ). i < pieces_of n) long it.in_pieces in
      let li' : i < pieces_of (length other) = subst (λ (n : ℕ). i < pieces_of n) (sym same) li in
      let place : place_at kept.geometry kept.places i j p ≡ place_of x =
      get_or_from_slice_get kept.places (position kept.geometry i j p) (place_of x) no_place (ap (slice_get kept.places) it.is ∙ there) in
      let block : List ℕ = shard.block_in kept.geometry file random i j p in
      let here : slice_get (file_blocks kept.geometry file random) b ≡ Some block =
      ap (slice_get (file_blocks kept.geometry file random)) (sym it.is) ∙ place_laws.each kept.geometry file random i j p li it.in_fragments it.in_points in
      record {
        block = block;
        its = here;
        others = ap (slice_get (file_blocks kept.geometry other explained)) (sym it.is)
            ∙ (place_laws.each kept.geometry other explained i j p li' it.in_fragments it.in_points
            ∙ ap Some (veil_laws.blocks coalition split hidden file other random i j p veiled_store li it.in_fragments it.in_points (ap (is_seen coalition) place ∙ sees)));
        digest_is = digest_at placed (file_blocks kept.geometry file random) b x block digests at here;
      }

  fits_too : FitsToo coalition split hidden placed file random other explained
  fits_too = record {
    store = veil_laws.store coalition split hidden file other random veiled_store;
    blocks = same_block;
    back = veil_laws.back coalition split hidden file other random veiled_store;
  }

pub stays_veiled : StaysVeiled
unfolding stored_in
stays_veiled seed first last ss rs session p i name file of pieces shards answered =
    let put = kept_at seed first last ss rs session p i name file of pieces shards answered in
    let random = random_of seed first (job_at ss p i) file in
    let geometry = sym put.its.is_record.geometry in (
      stored_in seed first last ss rs session p i name file of pieces shards answered put,
      λ coalition hidden other veiled more same.
          fits_too first.rack put.its.kept put.its.placed file random other coalition hidden put.fits put.its.is_record.places put.its.is_record.long
          (subst (λ g. IsStore g file random) geometry (store_of first session.fits (pads_of seed first.session (job_at ss p i)) file put.its.short put.its.bytes))
          (subst (λ g. map (λ (x : Placed). x.digest) put.its.placed ≡ map digest_of (file_blocks g file random)) geometry put.its.of_digests)
          veiled more same,
    )

-- its record fits the rack
pub kept_fits : (seed : List ℕ) (first last : Contents) (ss : List Step) (rs : List Reply) (session : IsSession seed first last ss rs) (p i : ℕ)
    (name file of : List ℕ) (pieces shards : ℕ) (answered : IsAnswered first.rack ss rs p i (commands.Store name file) (replies.Stored of pieces shards))
    → FitsRack first.rack (stays_veiled seed first last ss rs session p i name file of pieces shards answered).0.kept
unfolding stays_veiled stored_in
kept_fits seed first last ss rs session p i name file of pieces shards answered = (kept_at seed first last ss rs session p i name file of pieces shards answered).fits
