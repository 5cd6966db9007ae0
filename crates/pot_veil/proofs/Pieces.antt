-- What explained random bytes keep of a piece, and that they are taken back.
use Rattle.std.proofs.Common.{◌≡◌, ◌≢◌, ◌<◌, ◌≤◌, ◌⊎◌, inl, inr, ℕ, ◌+◌, ◌-◌, ◌*◌, ◌/◌, List, length, take, drop, get_or, refl, sym, ap, ap₂, ◌∙◌, subst, arith, length-drop}
use Rattle.std.proofs.lemmas.List.{length-take-le, take-take}
use Rattle.pot_bytes.specs.Lists.{AreBytes}
use Rattle.pot_bytes.specs.Sums.{xor}
use Rattle.pot_bytes.specs.declared.rack.Geometry.{Geometry}
use Rattle.pot_bytes.proofs.ListLemmas.{AreBytes-drop, AreBytes-take}
use Rattle.pot_object.specs.Contents.{content}
use Rattle.pot_split.specs.Secrecy.{changed_pads, secrecy, IsHidden, IsRows}
use Rattle.pot_split.specs.Threshold.{explaining}
use Rattle.pot_split.proofs.SplitLaws.{secrecy_laws, threshold_laws}
use Rattle.pot_split.proofs.PadLemmas.{side}
use Rattle.pot_shard.specs.FileBlocks.{coefficients_in, content_of, fragment_len, fragment_shards, fragments_of, head_len, names_at, names_in, pads_in, part_at, piece_len, shard_at_place}
use Rattle.pot_shard.specs.FileLaws.{IsPiece}
use Rattle.pot_shard.proofs.BlockLemmas.{part_within}
use Rattle.pot_shard.proofs.FileLemmas.{content_of-bytes, length-content_of, length-pads, whole_rows}
use Rattle.pot_shard.proofs.VeilLemmas.{veil_laws}
use Rattle.pot_veil.specs.Explained.{content_at, explained, rows_len, rows_start, with_pads, with_part}
use Rattle.pot_veil.specs.PieceLaws.{IsPieceVeiled, PieceLaws}
use Rattle.pot_veil.proofs.Parts.{AreBytes-with_part, drop-past, length-with_part, part-in, part-inside, part-same, put_back, take-before}

-- a content hangs on the id and the pads alone
content-same : (g : Geometry) (object r s : List ℕ) (i : ℕ) → take 16 r ≡ take 16 s → pads_in g r ≡ pads_in g s → content_at g object r i ≡ content_at g object s i
unfolding content_of
content-same g object r s i id pads = ap₂ (λ x y. content x (i + 1) g.fragments (part_at 0 928 i (secrecy object y))) id pads

-- the stretches of two fragments are apart
stretch_below : (g : Geometry) (i j : ℕ) → i < j → rows_start g i + fragment_len g ≤ rows_start g j
stretch_below g i j lt = part_within (head_len g) (fragment_len g) i j (fragment_len g) (rows_start g j) lt refl refl

stretches_apart : (g : Geometry) (i j n : ℕ) → n ≤ fragment_len g → i ≢ j
    → (rows_start g i + fragment_len g ≤ rows_start g j) ⊎ (rows_start g j + n ≤ rows_start g i)
stretches_apart g i j n le ne = elim (side i j ne) [
  | inl lt ↦ inl (stretch_below g i j lt)
  | inr gt ↦ inr (let b : rows_start g j + fragment_len g ≤ rows_start g i = stretch_below g j i gt in omega arith)
]

module _ (g : Geometry) (object other : List ℕ) (j : ℕ) (random : List ℕ) (p : IsPiece g object random) (q : IsPiece g other random) (lj : j < g.fragments) where
  abbrev pub d : List ℕ
  d = xor object other

  abbrev pub pads : List ℕ
  pads = pads_in g random

  abbrev pub new_pads : List ℕ
  new_pads = changed_pads 928 j d pads

  abbrev pub changed : List ℕ
  changed = with_pads g object other j random

  rows : (length pads / length object ≡ g.fragments - 1) × IsRows (length object) pads
  rows = whole_rows (g.fragments - 1) (length object) pads (omega (arith, p.long))
      (length-pads g random p.taken ∙ ap (λ (z : ℕ). (g.fragments - 1) * z) (sym p.long))

  pub hides : IsHidden object other pads j
  hides = record {
    some = omega (arith, p.long);
    same_length = q.long ∙ sym p.long;
    rows = rows.1;
    fragment = (let count : length pads / length object ≡ g.fragments - 1 = rows.0 in omega arith);
  }

  pub pads_are : new_pads ≡ changed_pads (length object) j d pads
  pads_are = ap (λ (z : ℕ). changed_pads z j d pads) (sym p.long)

  pub length-new_pads : length new_pads ≡ (g.fragments - 1) * 928
  length-new_pads = ap length pads_are ∙ secrecy_laws.as_long object other pads j hides ∙ length-pads g random p.taken

  pub pads_fit : 16 + length new_pads ≤ length random
  pads_fit = let e : length random ≡ piece_len g = p.taken in let n : length new_pads ≡ (g.fragments - 1) * 928 = length-new_pads in omega arith

  pub length-changed : length changed ≡ length random
  length-changed = length-with_part 16 new_pads random pads_fit

  pub id_stays : take 16 changed ≡ take 16 random
  id_stays = take-before 16 16 new_pads random pads_fit (omega arith)

  pub pads_changed : pads_in g changed ≡ new_pads
  pads_changed = part-in 16 ((g.fragments - 1) * 928) new_pads random pads_fit (sym length-new_pads)

  -- the changed bytes are such that a piece takes
  pub changed_piece : IsPiece g other changed
  changed_piece = record {
    geometry = p.geometry;
    long = q.long;
    taken = length-changed ∙ p.taken;
    object_bytes = q.object_bytes;
    random_bytes = AreBytes-with_part 16 new_pads random
        (subst AreBytes (sym pads_are)
        (secrecy_laws.bytes object other pads j p.object_bytes q.object_bytes (AreBytes-take ((g.fragments - 1) * 928) (drop 16 random) (AreBytes-drop 16 random p.random_bytes))))
        p.random_bytes;
  }

  -- a fragment's stretch lies within the piece, behind the pads
  pub within : (i : ℕ) → i < g.fragments → rows_start g i + fragment_len g ≤ length random
  within i li =
      let e : length random ≡ piece_len g = p.taken in
      let l : head_len g + i * fragment_len g + fragment_len g ≤ piece_len g =
      part_within (head_len g) (fragment_len g) i g.fragments (fragment_len g) (piece_len g) li refl refl in
      omega arith

  pub part_changed : (i : ℕ) → i < g.fragments → part_at (head_len g) (fragment_len g) i changed ≡ part_at (head_len g) (fragment_len g) i random
  part_changed i li =
      part-same (fragment_len g) (rows_start g i) 16 new_pads random pads_fit (within i li)
      (inr (let n : length new_pads ≡ (g.fragments - 1) * 928 = length-new_pads in omega arith))

module _ (g : Geometry) (object other : List ℕ) (j : ℕ) (seen random : List ℕ) (v : IsPieceVeiled g object other j seen random) where
  abbrev pub with_new_pads : List ℕ
  with_new_pads = with_pads g object other j random

  abbrev pub c0 : List ℕ
  c0 = content_at g object random j

  abbrev pub c1 : List ℕ
  c1 = content_at g other with_new_pads j

  abbrev pub rows0 : List ℕ
  rows0 = take (rows_len g) (drop (rows_start g j) random)

  abbrev pub new_rows : List ℕ
  new_rows = explaining c0 c1 seen rows0

  abbrev pub now : List ℕ
  now = explained g object other j seen random

  pc : IsPiece g other with_new_pads
  pc = changed_piece g object other j random v.piece v.other_piece v.fragment

  long : length with_new_pads ≡ length random
  long = length-changed g object other j random v.piece v.other_piece v.fragment

  room : (i : ℕ) → i < g.fragments → rows_start g i + fragment_len g ≤ length random
  room i li = within g object other j random v.piece v.other_piece v.fragment i li

  pub length-c0 : length c0 ≡ 992
  length-c0 = length-content_of g object random j v.piece v.fragment

  pub length-c1 : length c1 ≡ 992
  length-c1 = length-content_of g other with_new_pads j pc v.fragment

  pub same_contents : length c1 ≡ length c0
  same_contents = length-c1 ∙ sym length-c0

  pub length-rows0 : length rows0 ≡ rows_len g
  length-rows0 = let w : rows_start g j + fragment_len g ≤ length random = room j v.fragment in
      length-take-le (rows_len g) (drop (rows_start g j) random) (omega (arith, length-drop {A = ℕ} (rows_start g j) random))

  pub rows_are : IsRows (length c0) rows0
  rows_are = let c : length c0 ≡ 992 = length-c0 in
      (whole_rows (g.need - 1) (length c0) rows0 (omega arith) (length-rows0 ∙ ap (λ (z : ℕ). (g.need - 1) * z) (sym length-c0))).1

  pub some : 0 < length c0
  some = let c : length c0 ≡ 992 = length-c0 in omega arith

  pub length-new : length new_rows ≡ rows_len g
  length-new = threshold_laws.as_many c0 c1 seen rows0 some same_contents rows_are ∙ length-rows0

  pub fits : rows_start g j + length new_rows ≤ length with_new_pads
  fits = let w : rows_start g j + fragment_len g ≤ length random = room j v.fragment in
      let n : length new_rows ≡ rows_len g = length-new in
      let l : length with_new_pads ≡ length random = long in
      omega arith

  pub id_now : take 16 now ≡ take 16 random
  id_now = take-before 16 (rows_start g j) new_rows with_new_pads fits (omega arith) ∙ id_stays g object other j random v.piece v.other_piece v.fragment

  pub pads_now : pads_in g now ≡ new_pads g object other j random v.piece v.other_piece v.fragment
  pads_now =
      part-same ((g.fragments - 1) * 928) 16 (rows_start g j) new_rows with_new_pads fits
      (let w : rows_start g j + fragment_len g ≤ length random = room j v.fragment in let l : length with_new_pads ≡ length random = long in omega arith)
      (inl (omega arith))
      ∙ pads_changed g object other j random v.piece v.other_piece v.fragment

  pub content_now : (i : ℕ) → content_at g other now i ≡ content_at g other with_new_pads i
  content_now i =
      content-same g other now with_new_pads i
      (id_now ∙ sym (id_stays g object other j random v.piece v.other_piece v.fragment))
      (pads_now ∙ sym (pads_changed g object other j random v.piece v.other_piece v.fragment))

  rows_bytes : AreBytes rows0
  rows_bytes = AreBytes-take (rows_len g) (drop (rows_start g j) random) (AreBytes-drop (rows_start g j) random v.piece.random_bytes)

  pub kept_piece : IsPiece g other now
  kept_piece = record {
    geometry = v.piece.geometry;
    long = v.other_piece.long;
    taken = length-with_part (rows_start g j) new_rows with_new_pads fits ∙ long ∙ v.piece.taken;
    object_bytes = v.other_piece.object_bytes;
    random_bytes = AreBytes-with_part (rows_start g j) new_rows with_new_pads (threshold_laws.bytes c0 c1 seen rows0 rows_bytes) pc.random_bytes;
  }

  -- the bytes of another fragment stay
  part_other : (i : ℕ) → i < g.fragments → i ≢ j → part_at (head_len g) (fragment_len g) i now ≡ part_at (head_len g) (fragment_len g) i random
  part_other i li ne =
      part-same (fragment_len g) (rows_start g i) (rows_start g j) new_rows with_new_pads fits
      (let w : rows_start g i + fragment_len g ≤ length random = room i li in let l : length with_new_pads ≡ length random = long in omega arith)
      (let n : length new_rows ≡ rows_len g = length-new in stretches_apart g i j (length new_rows) (omega arith) ne)
      ∙ part_changed g object other j random v.piece v.other_piece v.fragment i li

  pub kept_others : (i : ℕ) → i < g.fragments → i ≢ j
      → fragment_shards g (fragments_of g other now) now i ≡ fragment_shards g (fragments_of g object random) random i
  kept_others i li ne =
      veil_laws.others g object other random now j i
      (record { piece = v.piece; same_length = v.other_piece.long; fragment = v.fragment; id = id_now; pads = pads_now })
      li ne (part_other i li ne)

  -- the bytes of fragment j: other coefficients, and the names as they were
  abbrev own : List ℕ
  own = part_at (head_len g) (fragment_len g) j random

  abbrev own_now : List ℕ
  own_now = part_at (head_len g) (fragment_len g) j now

  length-own : length own ≡ fragment_len g
  length-own = let w : rows_start g j + fragment_len g ≤ length random = room j v.fragment in
      length-take-le (fragment_len g) (drop (rows_start g j) random) (omega (arith, length-drop {A = ℕ} (rows_start g j) random))

  coefficients_new : coefficients_in g own_now ≡ new_rows
  coefficients_new = take-take (rows_len g) (fragment_len g) (drop (rows_start g j) now) (omega arith)
      ∙ part-in (rows_start g j) (rows_len g) new_rows with_new_pads fits (sym length-new)

  coefficients_old : coefficients_in g own ≡ rows0
  coefficients_old = take-take (rows_len g) (fragment_len g) (drop (rows_start g j) random) (omega arith)

  names_stay : names_in g own_now ≡ names_in g own
  names_stay =
      let w : rows_start g j + fragment_len g ≤ length random = room j v.fragment in
      let l : length with_new_pads ≡ length random = long in
      let n : length new_rows ≡ rows_len g = length-new in
      let before : List ℕ = part_at (head_len g) (fragment_len g) j with_new_pads in
      let size : length before ≡ fragment_len g =
      length-take-le (fragment_len g) (drop (rows_start g j) with_new_pads) (omega (arith, length-drop {A = ℕ} (rows_start g j) with_new_pads)) in
      ap (λ (z : List ℕ). names_at g.shards (drop (rows_len g) z))
      (part-inside (fragment_len g) (rows_start g j) 0 (rows_start g j) new_rows with_new_pads (omega arith) (omega arith) (omega arith))
      ∙ ap (names_at g.shards) (drop-past (rows_len g) 0 new_rows before (omega arith) (omega arith))
      ∙ ap (λ (z : List ℕ). names_at g.shards (drop (rows_len g) z)) (part_changed g object other j random v.piece v.other_piece v.fragment j v.fragment)

  pub kept_seen : (i place : ℕ) → i < length seen → get_or seen i 0 ≡ place + 1
      → shard_at_place g (content_at g other now j) own_now place ≡ shard_at_place g c0 own place
  kept_seen i place li e =
      let at : get_or seen i 0 - 1 ≡ place = omega (arith, e) in
      let kept : shard_at_place g c1 own_now (get_or seen i 0 - 1) ≡ shard_at_place g c0 own (get_or seen i 0 - 1) =
      veil_laws.seen g c0 c1 own own_now seen i
      (record {
        veiled = record {
          geometry = v.piece.geometry;
          long = length-c0;
          same_length = length-c1;
          content_bytes = content_of-bytes g object random j v.piece v.fragment;
          other_bytes = content_of-bytes g other with_new_pads j pc v.fragment;
          taken = length-own;
          random_bytes = AreBytes-take (fragment_len g) (drop (rows_start g j) random) (AreBytes-drop (rows_start g j) random v.piece.random_bytes);
          points = v.points;
          seen_bytes = v.bytes;
          few = v.few;
        };
        names = names_stay;
        rows = coefficients_new ∙ ap (explaining c0 c1 seen) (sym coefficients_old);
      }) li in
      ap (λ (z : List ℕ). shard_at_place g z own_now place) (content_now j)
      ∙ subst (λ (z : ℕ). shard_at_place g c1 own_now z ≡ shard_at_place g c0 own z) at kept

-- TAKEN BACK

-- the explanation in the other direction has the contents exchanged
module _ (g : Geometry) (object other : List ℕ) (j : ℕ) (seen random : List ℕ) (v : IsPieceVeiled g object other j seen random) where
  abbrev r : List ℕ
  r = now g object other j seen random v

  abbrev old_pads : List ℕ
  old_pads = pads g object other j random v.piece v.other_piece v.fragment

  abbrev old_rows : List ℕ
  old_rows = rows0 g object other j seen random v

  abbrev x : List ℕ
  x = new_pads g object other j random v.piece v.other_piece v.fragment

  abbrev y : List ℕ
  y = new_rows g object other j seen random v

  kept : IsPiece g other r
  kept = kept_piece g object other j seen random v

  first_piece : IsPiece g object r
  first_piece = record {
    geometry = kept.geometry;
    long = v.piece.long;
    taken = kept.taken;
    object_bytes = v.piece.object_bytes;
    random_bytes = kept.random_bytes;
  }

  -- the pads are changed back
  pads_back : changed_pads 928 j (xor other object) (pads_in g r) ≡ old_pads
  pads_back =
      ap (changed_pads 928 j (xor other object)) (pads_now g object other j seen random v ∙ pads_are g object other j random v.piece v.other_piece v.fragment)
      ∙ ap (λ (z : ℕ). changed_pads z j (xor other object) (changed_pads (length object) j (xor object other) old_pads)) (sym v.piece.long)
      ∙ secrecy_laws.back object other old_pads j (hides g object other j random v.piece v.other_piece v.fragment)

  -- so they give the first content
  content_back : content_at g object (with_pads g other object j r) j ≡ content_at g object random j
  content_back =
      content-same g object (with_pads g other object j r) random j
      (id_stays g other object j r kept first_piece v.fragment ∙ id_now g object other j seen random v)
      (pads_changed g other object j r kept first_piece v.fragment ∙ pads_back)

  rows_back : take (rows_len g) (drop (rows_start g j) r) ≡ y
  rows_back = part-in (rows_start g j) (rows_len g) y (with_new_pads g object other j seen random v) (fits g object other j seen random v)
      (sym (length-new g object other j seen random v))

  explaining_back : explaining (content_at g other r j) (content_at g object (with_pads g other object j r) j) seen (take (rows_len g) (drop (rows_start g j) r)) ≡ old_rows
  explaining_back =
      let a : List ℕ = c0 g object other j seen random v in
      let b : List ℕ = c1 g object other j seen random v in
      ap₂ (λ (u w : List ℕ). explaining u w seen (take (rows_len g) (drop (rows_start g j) r))) (content_now g object other j seen random v j) content_back
      ∙ ap (explaining b a seen) rows_back
      ∙ threshold_laws.back a b seen old_rows (some g object other j seen random v) (same_contents g object other j seen random v) (rows_are g object other j seen random v)

  pub returns_back : explained g other object j seen r ≡ random
  returns_back =
      let n : length x ≡ (g.fragments - 1) * 928 = length-new_pads g object other j random v.piece v.other_piece v.fragment in
      let m : length y ≡ rows_len g = length-new g object other j seen random v in
      let w : rows_start g j + fragment_len g ≤ length random = within g object other j random v.piece v.other_piece v.fragment j v.fragment in
      ap₂ (λ (u z : List ℕ). with_part (rows_start g j) u (with_part 16 z r)) explaining_back pads_back
      ∙ put_back 16 (rows_start g j) x y random old_pads old_rows (omega arith) (omega arith)
      (ap (λ (z : ℕ). take z (drop 16 random)) (sym n)) (ap (λ (z : ℕ). take z (drop (rows_start g j) random)) (sym m))

pub piece_laws : PieceLaws
piece_laws = record {
  piece = kept_piece;
  others = λ g object other j i seen random v li ne. kept_others g object other j seen random v i li ne;
  seen = λ g object other j seen random i place v li e. kept_seen g object other j seen random v i place li e;
  back = returns_back;
}
