-- The answers of a fetch that read all blocks it needs, by what its visits logged.
use Rattle.std.proofs.Common.{◌≡◌, ◌≢◌, ◌<◌, ◌≤◌, ⊎_elim, ℕ, ◌+◌, ◌*◌, true, List, length, refl, ap, sym, ◌∙◌, subst, arith}
use Rattle.std.specs.Prelude.{Option, None, is_some, find}
use Rattle.std.proofs.lemmas.Bool.{cases_lt}
use Rattle.pot_bytes.specs.declared.digest.Digest.{Digest}
use Rattle.pot_bytes.specs.declared.rack.Place.{Place}
use Rattle.pot_bytes.specs.declared.rack.Rack.{Rack}
use Rattle.pot_machine.specs.Table.{count}
use Rattle.pot_machine.specs.Logs.{own}
use Rattle.pot_steps.proofs.AheadLemmas.{count_same}
use Rattle.pot_bytes.specs.Digests.{digest_of}
use Rattle.pot_object.specs.Pieces.{pieces_of}
use Rattle.pot_shard.specs.Places.{place_at}
use Rattle.pot_index.specs.declared.record.Record.{Record}
use Rattle.pot_index.specs.Fits.{FitsRack}
use Rattle.pot_replies.specs.Jobs.{is_seen_at}
use Rattle.pot_replies.specs.Sections.{Section, mine}
use Rattle.pot_replies.specs.Settings.{Setting}
use Rattle.pot_replies.specs.Fetches.{Found, FetchEntries, IsFile, IsOdd, SeenAs, has_seen, seen_of}
use Rattle.pot_store.specs.Visits.{Came, Unknown, Seen, Gone, Lost, Failed, Barred, Visit, was_seen, block_in, came_at, place_in, logged_from}
use Rattle.pot_store.specs.Reads.{IsFileIn, content_at}
use Rattle.pot_store.proofs.LookLemmas.{AreVisits, came_past, seen_is, seen_not}
use Rattle.pot_store.proofs.EntryLemmas.{reads_from, mends_from}
use Rattle.pot_store.proofs.FitLemmas.{fragment_within, point_within, apart}
use Rattle.pot_store.proofs.NoteLemmas.{no_block}

block_is : (a : Came) → was_seen a ≡ true → (b : List ℕ) × (a ≡ Seen b)
block_is (Seen block) seen = (block, refl)
block_is Unknown seen = absurd (cc seen)
block_is Gone seen = absurd (cc seen)
block_is Lost seen = absurd (cc seen)
block_is (Failed column) seen = absurd (cc seen)
block_is Barred seen = absurd (cc seen)

module _ (s : Setting) (rack : Rack) (job : ℕ) (name : List ℕ) (kept : Record) (w : Section) (vs : List Visit) (fits : FitsRack rack kept)
    (logs : (g : ℕ) → own job (w.added g) ≡ logged_from kept.places g 0 vs) (room : length vs ≤ length kept.places) (are : AreVisits job kept.places 0 vs) where
  abbrev k : ℕ
  k = kept.geometry.fragments

  abbrev n : ℕ
  n = kept.geometry.shards

  pub entries : FetchEntries kept job w
  entries = record {
    reads = reads_from kept job vs (mine job w).own logs (apart rack kept fits) room are;
    mends = λ g. mends_from job kept.places (length kept.places) vs (apart rack kept fits) room are g (w.added g) (logs g);
  }

  -- a block was seen just where its visit came to that
  pub has_is : (b : ℕ) → b < length kept.places → has_seen (mine job w).own (place_in kept.places b) ≡ was_seen (came_at vs b)
  has_is b lt =
      let p : Place = place_in kept.places b in
      let z : 0 + b ≡ b = omega arith in
      ap (λ es. is_some (find (is_seen_at p.stripe p.column) es)) (logs p.group)
      ∙ subst (λ m. is_some (find (is_seen_at (place_in kept.places m).stripe (place_in kept.places m).column) (logged_from kept.places (place_in kept.places m).group 0 vs)) ≡ was_seen (came_at vs b)) z
      (⊎_elim
      (λ (l : b < length vs). seen_is kept.places job (length kept.places) 0 vs b (apart rack kept fits) are (omega (arith, room)) l)
      (λ (past : length vs ≤ b). seen_not kept.places job (length kept.places) 0 vs b (apart rack kept fits) are (omega (arith, room)) past (omega (arith, lt)) ∙ sym (ap was_seen (came_past vs b past)))
      (cases_lt b (length vs)))

  -- and so many of a fragment
  pub seen_of_is : (i j : ℕ) → i < pieces_of kept.length → j < k → seen_of (mine job w).own kept i j ≡ count n (λ x. was_seen (came_at vs ((i * k + j) * n + x)))
  seen_of_is i j a b =
      count_same n (λ x. has_seen (mine job w).own (place_at kept.geometry kept.places i j x)) (λ x. was_seen (came_at vs ((i * k + j) * n + x)))
      (λ x lt. has_is ((i * k + j) * n + x) (point_within rack kept fits (i * k + j) x (fragment_within rack kept fits i j a b) lt))

  -- A FILE

  module _ (found : Found s job name kept w) (contents : List (List ℕ)) (bytes : List ℕ) (file : IsFileIn kept vs contents bytes) where
    sees : (i j : ℕ) → i < pieces_of kept.length → j < k → seen_of (mine job w).own kept i j ≡ kept.geometry.need
    sees i j a b = seen_of_is i j a b ∙ (file.had.each (i * k + j) (fragment_within rack kept fits i j a b)).enough

    pub file_row : digest_of bytes ≡ kept.digest → IsFile s job name bytes w
    file_row digest = record { kept = kept; found = found; entries = entries; sees = sees; long = file.long; digest = digest }

    -- it is of the record that was found
    pub file_kept : (digest : digest_of bytes ≡ kept.digest) → (file_row digest).kept ≡ kept
    unfolding file_row
    file_kept digest = refl

    abbrev block : ℕ → ℕ → ℕ → Option (List ℕ)
    block i j x = block_in (came_at vs ((i * k + j) * n + x))

    -- past the last place nothing was read
    past_none : (b : ℕ) → length kept.places ≤ b → block_in (came_at vs b) ≡ None
    past_none b le = ap block_in (came_past vs b (omega (arith, room, le)))

    pub odd_row : (wanted got : Digest) → wanted ≡ kept.digest → got ≡ digest_of bytes → got ≢ wanted
        → ((x : ℕ) (b : List ℕ) → came_at vs x ≡ Seen b
        → SeenAs (s.first (place_in kept.places x).group) job (w.before (place_in kept.places x).group) (w.added (place_in kept.places x).group) (place_in kept.places x).stripe (place_in kept.places x).column (digest_of b))
        → IsOdd None s job name wanted got w
    odd_row wanted got wanted_is got_is differs read = record {
      kept = kept;
      found = found;
      entries = entries;
      sees = sees;
      block = block;
      seen = λ i j x a b lt has.
          let at : ℕ = (i * k + j) * n + x in
          let within : at < length kept.places = point_within rack kept fits (i * k + j) x (fragment_within rack kept fits i j a b) lt in
          let it = block_is (came_at vs at) (sym (has_is at within) ∙ has) in
          (it.0, ap block_in it.1, (tt, read at it.0 it.1));
      unseen = λ i j x none. ⊎_elim
          (λ (lt : (i * k + j) * n + x < length kept.places). no_block (came_at vs ((i * k + j) * n + x)) (sym (has_is ((i * k + j) * n + x) lt) ∙ none))
          (λ (le : length kept.places ≤ (i * k + j) * n + x). past_none ((i * k + j) * n + x) le)
          (cases_lt ((i * k + j) * n + x) (length kept.places));
      wanted_is = wanted_is;
      bytes = bytes;
      joined = record {
        contents = λ i j. content_at contents (i * k + j);
        long = λ i j a b. (file.had.each (i * k + j) (fragment_within rack kept fits i j a b)).long;
        joined = λ i j a b. (file.had.each (i * k + j) (fragment_within rack kept fits i j a b)).joined;
        bytes_are = file.are;
      };
      got_is = got_is;
      differs = differs;
    }
