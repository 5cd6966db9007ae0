-- What was read of fragments, one after another.
use Rattle.std.proofs.Common.{◌≡◌, ◌<◌, ◌≤◌, ⊎_elim, ℕ, zero, suc, ◌+◌, ◌-◌, ◌*◌, List, [], ◌∷◌, ◌++◌, length, refl, ap, sym, ◌∙◌, subst, arith, append-nil, append_assoc, length-append, take, drop, length-drop}
use Rattle.std.specs.List.{flat_map, range_with_len}
use Rattle.std.proofs.lemmas.Nat.{mul-add-lt}
use Rattle.std.proofs.lemmas.Bool.{cases_lt}
use Rattle.pot_steps.proofs.AheadLemmas.{count_same}
use Rattle.pot_object.specs.Pieces.{content_size, object_size, pieces_of}
use Rattle.pot_split.specs.Secrecy.{meaning}
use Rattle.pot_split.specs.Threshold.{IsJoin}
use Rattle.pot_shard.specs.FileLaws.{xor_of}
use Rattle.pot_index.specs.declared.record.Record.{Record}
use Rattle.pot_replies.specs.Joined.{Read, point_in, share_in, points_read, shares_read}
use Rattle.pot_shared.specs.Ready.{GroupPasses}
use Rattle.pot_store.specs.declared.fetching.FetchFault.{FetchFault}
use Rattle.pot_store.specs.Visits.{Visit, was_seen, block_in, came_at, seen_in, read_in}
use Rattle.pot_store.specs.Reads.{IsHad, AreHad, IsFetchStopped, IsRefused, content_at, fragments_in, object_at}
use Rattle.pot_store.proofs.LookLemmas.{came_front, came_back}

-- LISTS BY NUMBER

-- what stands at numbers that give the same is the same
pub flat_same : (f g : ℕ → List ℕ) (a n : ℕ) → ((x : ℕ) → a ≤ x → x < a + n → f x ≡ g x) → flat_map f (range_with_len a n) ≡ flat_map g (range_with_len a n)
flat_same f g a zero same = refl
flat_same f g a (suc n) same =
    let rest = flat_same f g (a + 1) n (λ x le lt. same x (omega (arith, le)) (omega (arith, lt))) in
    cc (same a (omega arith) (omega arith), rest)

-- one number more
pub flat_more : (f : ℕ → List ℕ) (a n : ℕ) → flat_map f (range_with_len a (n + 1)) ≡ flat_map f (range_with_len a n) ++ f (a + n)
flat_more f a zero = (let e : a ≡ a + 0 = omega arith in append-nil (f a) ∙ ap f e)
flat_more f a (suc n) =
    let z : suc n + 1 ≡ suc (n + 1) = omega arith in
    let e : (a + 1) + n ≡ a + suc n = omega arith in
    ap (λ m. flat_map f (range_with_len a m)) z
    ∙ (ap (λ l. f a ++ l) (flat_more f (a + 1) n ∙ ap (λ m. flat_map f (range_with_len (a + 1) n) ++ f m) e)
    ∙ sym (append_assoc (f a) (flat_map f (range_with_len (a + 1) n)) (f (a + suc n))))

pub points_same : (n : ℕ) (r s : Read) → ((x : ℕ) → x < n → r x ≡ s x) → points_read n r ≡ points_read n s
points_same n r s same = flat_same (λ x. point_in x (r x)) (λ x. point_in x (s x)) 0 n (λ x le lt. ap (point_in x) (same x (omega (arith, lt))))

pub shares_same : (n : ℕ) (r s : Read) → ((x : ℕ) → x < n → r x ≡ s x) → shares_read n r ≡ shares_read n s
shares_same n r s same = flat_same (λ x. share_in (r x)) (λ x. share_in (s x)) 0 n (λ x le lt. ap share_in (same x (omega (arith, lt))))

pub at_front : (cs ds : List (List ℕ)) (f : ℕ) → f < length cs → content_at (cs ++ ds) f ≡ content_at cs f
at_front [] ds f lt = absurd (omega (arith, lt))
at_front (c ∷ cs) ds zero lt = refl
at_front (c ∷ cs) ds (suc f) lt = at_front cs ds f (omega (arith, lt))

pub at_back : (cs ds : List (List ℕ)) (f : ℕ) → content_at (cs ++ ds) (length cs + f) ≡ content_at ds f
at_back [] ds f = (let e : 0 + f ≡ f = omega arith in ap (content_at ds) e)
at_back (c ∷ cs) ds f = (let e : length (c ∷ cs) + f ≡ suc (length cs + f) = omega arith in ap (content_at (c ∷ (cs ++ ds))) e) ∙ at_back cs ds f

-- A FRAGMENT AMONG OTHERS

-- what was had of a fragment is had where its visits stand elsewhere
pub had_same : (n need : ℕ) (vs ws : List Visit) (f g : ℕ) (c d : List ℕ) → ((x : ℕ) → x < n → came_at vs (f * n + x) ≡ came_at ws (g * n + x)) → c ≡ d
    → IsHad n need vs f c → IsHad n need ws g d
had_same n need vs ws f g c d same is had =
    let reads : (x : ℕ) → x < n → read_in n vs f x ≡ read_in n ws g x = λ x lt. ap block_in (same x lt) in
    record {
      enough = sym (count_same n (λ x. was_seen (came_at vs (f * n + x))) (λ x. was_seen (came_at ws (g * n + x))) (λ x lt. ap was_seen (same x lt))) ∙ had.enough;
      long = ap length (sym is) ∙ had.long;
      joined = subst (λ ps. IsJoin ps (shares_read n (read_in n ws g)) d) (points_same n (read_in n vs f) (read_in n ws g) reads)
          (subst (λ ss. IsJoin (points_read n (read_in n vs f)) ss d) (shares_same n (read_in n vs f) (read_in n ws g) reads)
          (subst (λ e. IsJoin (points_read n (read_in n vs f)) (shares_read n (read_in n vs f)) e) is had.joined));
    }

-- none
pub had_none : (kept : Record) → AreHad kept 0 [] []
had_none kept = record { visited = (omega arith); count = refl; each = λ f lt. absurd (omega (arith, lt)) }

-- one, by its own visits
pub had_one : (kept : Record) (vs : List Visit) (c : List ℕ) → length vs ≡ kept.geometry.shards → seen_in kept.geometry.shards vs ≡ kept.geometry.need → length c ≡ content_size
    → IsJoin (points_read kept.geometry.shards (λ x. block_in (came_at vs x))) (shares_read kept.geometry.shards (λ x. block_in (came_at vs x))) c
    → AreHad kept 1 vs (c ∷ [])
had_one kept vs c visited enough long joined =
    let n = kept.geometry.shards in
    let at : (x : ℕ) → came_at vs x ≡ came_at vs (0 * n + x) = λ x. (let e : x ≡ 0 * n + x = omega arith in ap (came_at vs) e) in
    let reads : (x : ℕ) → x < n → block_in (came_at vs x) ≡ read_in n vs 0 x = λ x lt. ap block_in (at x) in
    let first : IsHad n kept.geometry.need vs 0 c = record {
      enough = sym (count_same n (λ x. was_seen (came_at vs x)) (λ x. was_seen (came_at vs (0 * n + x))) (λ x lt. ap was_seen (at x))) ∙ enough;
      long = long;
      joined = subst (λ ps. IsJoin ps (shares_read n (read_in n vs 0)) c) (points_same n (λ x. block_in (came_at vs x)) (read_in n vs 0) reads)
          (subst (λ ss. IsJoin (points_read n (λ x. block_in (came_at vs x))) ss c) (shares_same n (λ x. block_in (came_at vs x)) (read_in n vs 0) reads) joined);
    } in
    record {
      visited = (omega (arith, visited));
      count = refl;
      each = λ f lt. (let e : 0 ≡ f = omega (arith, lt) in subst (λ m. IsHad n kept.geometry.need vs m (content_at (c ∷ []) m)) e first);
    }

-- some, and some more
pub had_then : (kept : Record) (m k : ℕ) (vs ws : List Visit) (cs ds : List (List ℕ)) → AreHad kept m vs cs → AreHad kept k ws ds → AreHad kept (m + k) (vs ++ ws) (cs ++ ds)
had_then kept m k vs ws cs ds one two =
    let n = kept.geometry.shards in
    let need = kept.geometry.need in
    let long : length vs ≡ m * n = one.visited in
    record {
      visited = (let a = length-append vs ws in let b = two.visited in omega (arith, a, b, long));
      count = (let a = length-append cs ds in let b = one.count in let c = two.count in omega (arith, a, b, c));
      each = λ f lt. ⊎_elim
          (λ (low : f < m).
          had_same n need vs (vs ++ ws) f f (content_at cs f) (content_at (cs ++ ds) f)
          (λ x less. sym (came_front vs ws (f * n + x) (let within : f * n + x < n * m = mul-add-lt f n x m low less in omega (arith, within, long))))
          (sym (at_front cs ds f (let b = one.count in omega (arith, low, b)))) (one.each f low))
          (λ (high : m ≤ f).
          let e : m + (f - m) ≡ f = omega (arith, high) in
          let at : (x : ℕ) → came_at ws ((f - m) * n + x) ≡ came_at (vs ++ ws) (f * n + x) = λ x.
          (let place : length vs + ((f - m) * n + x) ≡ f * n + x = (let p : (m + (f - m)) * n ≡ f * n = ap (λ y. y * n) e in omega (arith, p, long)) in
          sym (came_back vs ws ((f - m) * n + x)) ∙ ap (came_at (vs ++ ws)) place) in
          let content : content_at ds (f - m) ≡ content_at (cs ++ ds) f =
          sym (at_back cs ds (f - m)) ∙ ap (content_at (cs ++ ds)) (let b = one.count in omega (arith, e, b)) in
          had_same n need ws (vs ++ ws) (f - m) f (content_at ds (f - m)) (content_at (cs ++ ds) f) (λ x less. at x) content (two.each (f - m) (omega (arith, lt, high))))
          (cases_lt f m);
    }

-- a stop behind more fragments
pub stopped_then : (kept : Record) (base m : ℕ) (vs ws : List Visit) (cs : List (List ℕ)) (e : FetchFault) (w : GroupPasses)
    → AreHad kept m vs cs → IsFetchStopped kept (base + m) ws e w → IsFetchStopped kept base (vs ++ ws) e w
stopped_then kept base m vs ws cs e w had is = record {
  many = m + is.many;
  done = vs ++ is.done;
  last = is.last;
  contents = cs ++ is.contents;
  are = ap (λ l. vs ++ l) is.are ∙ sym (append_assoc vs is.done is.last);
  had = had_then kept m is.many vs is.done cs is.contents had is.had;
  piece = is.piece;
  fragment = is.fragment;
  at = (let a = is.at in omega (arith, a));
  in_pieces = is.in_pieces;
  in_fragments = is.in_fragments;
  long = is.long;
  refused = is.refused;
}

-- a stop at the very first
pub stopped_first : (kept : Record) (i j : ℕ) (vs : List Visit) (e : FetchFault) (w : GroupPasses) → i < pieces_of kept.length → j < kept.geometry.fragments
    → length vs ≡ kept.geometry.shards → IsRefused kept i j vs e w → IsFetchStopped kept (i * kept.geometry.fragments + j) vs e w
stopped_first kept i j vs e w in_pieces in_fragments long refused = record {
  many = 0;
  done = [];
  last = vs;
  contents = [];
  are = refl;
  had = had_none kept;
  piece = i;
  fragment = j;
  at = (omega arith);
  in_pieces = in_pieces;
  in_fragments = in_fragments;
  long = long;
  refused = refused;
}

-- OBJECTS AND THE FILE

-- the fragments of a piece, one more
pub fragments_more : (cs : List (List ℕ)) (c : List ℕ) (bytes : List ℕ) (j : ℕ) → length cs ≡ j → bytes ≡ fragments_in cs j → bytes ++ drop 64 c ≡ fragments_in (cs ++ c ∷ []) (j + 1)
fragments_more cs c bytes j long is =
    let at : content_at (cs ++ c ∷ []) (0 + j) ≡ c =
    ap (content_at (cs ++ c ∷ [])) (let e : 0 + j ≡ length cs + 0 = omega (arith, long) in e) ∙ at_back cs (c ∷ []) 0 in
    let before : fragments_in cs j ≡ fragments_in (cs ++ c ∷ []) j =
    flat_same (λ f. drop 64 (content_at cs f)) (λ f. drop 64 (content_at (cs ++ c ∷ []) f)) 0 j (λ f le lt. ap (drop 64) (sym (at_front cs (c ∷ []) f (omega (arith, lt, long))))) in
    ap (λ b. b ++ drop 64 c) (is ∙ before)
    ∙ (ap (λ d. fragments_in (cs ++ c ∷ []) j ++ drop 64 d) (sym at) ∙ sym (flat_more (λ f. drop 64 (content_at (cs ++ c ∷ []) f)) 0 j))

-- contents that are the same give the same object
xor_same : (c d : ℕ → List ℕ) (k : ℕ) → ((j : ℕ) → j < k → c j ≡ d j) → xor_of c k ≡ xor_of d k
xor_same c d k same =
    ap (meaning object_size) (flat_same (λ j. drop 64 (c j)) (λ j. drop 64 (d j)) 0 k (λ j le lt. ap (drop 64) (same j (omega (arith, lt)))))

-- the objects behind their heads, one piece more
pub objects_more : (k i : ℕ) (cs ds : List (List ℕ)) (object bytes : List ℕ) → length cs ≡ i * k → object ≡ xor_of (content_at ds) k
    → bytes ≡ flat_map (λ p. drop 64 (object_at k cs p)) (range_with_len 0 i)
    → bytes ++ drop 64 object ≡ flat_map (λ p. drop 64 (object_at k (cs ++ ds) p)) (range_with_len 0 (i + 1))
objects_more k i cs ds object bytes long is sofar =
    let old : (p : ℕ) → p < i → object_at k cs p ≡ object_at k (cs ++ ds) p =
    λ p lt. xor_same (λ j. content_at cs (p * k + j)) (λ j. content_at (cs ++ ds) (p * k + j)) k
    (λ j less. sym (at_front cs ds (p * k + j) (let within : p * k + j < k * i = mul-add-lt p k j i lt less in omega (arith, within, long)))) in
    let new : object ≡ object_at k (cs ++ ds) (0 + i) =
    is ∙ xor_same (content_at ds) (λ j. content_at (cs ++ ds) ((0 + i) * k + j)) k
    (λ j less. sym (at_back cs ds j) ∙ ap (content_at (cs ++ ds)) (let z : (0 + i) * k ≡ i * k = (let e : 0 + i ≡ i = omega arith in ap (λ y. y * k) e) in omega (arith, long, z))) in
    let before : bytes ≡ flat_map (λ p. drop 64 (object_at k (cs ++ ds) p)) (range_with_len 0 i) =
    sofar ∙ flat_same (λ p. drop 64 (object_at k cs p)) (λ p. drop 64 (object_at k (cs ++ ds) p)) 0 i (λ p le lt. ap (drop 64) (old p (omega (arith, lt)))) in
    ap (λ b. b ++ drop 64 object) before
    ∙ (ap (λ o. flat_map (λ p. drop 64 (object_at k (cs ++ ds) p)) (range_with_len 0 i) ++ drop 64 o) new ∙ sym (flat_more (λ p. drop 64 (object_at k (cs ++ ds) p)) 0 i))

-- all that stands behind a number of bytes
pub take_whole : (xs : List ℕ) (n : ℕ) → length xs ≤ n → take n xs ≡ xs
take_whole [] zero le = refl
take_whole [] (suc n) le = refl
take_whole (x ∷ xs) zero le = absurd (omega (arith, le))
take_whole (x ∷ xs) (suc n) le = ap (λ l. x ∷ l) (take_whole xs n (omega (arith, le)))

pub behind_whole : (head rest : ℕ) (xs : List ℕ) → length xs ≡ head + rest → take rest (drop head xs) ≡ drop head xs
behind_whole head rest xs long = take_whole (drop head xs) rest (let l = length-drop head xs in omega (arith, l, long))

pub take_long : (xs : List ℕ) (n : ℕ) → n ≤ length xs → length (take n xs) ≡ n
take_long [] zero le = refl
take_long [] (suc n) le = absurd (omega (arith, le))
take_long (x ∷ xs) zero le = refl
take_long (x ∷ xs) (suc n) le = ap suc (take_long xs n (omega (arith, le)))
