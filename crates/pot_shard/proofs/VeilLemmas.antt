-- What stays of the shards where other random bytes explain another file.
use Rattle.std.proofs.Common.{◌≡◌, ◌≢◌, ◌<◌, ◌+◌, ◌-◌, ◌*◌, ℕ, List, length, take, drop, get_or, ap, ap₂, sym, ◌∙◌, arith}
use Rattle.std.proofs.lemmas.List.{length-take-le}
use Rattle.pot_bytes.specs.Sums.{xor}
use Rattle.pot_bytes.specs.declared.rack.Geometry.{Geometry}
use Rattle.pot_bytes.proofs.ListLemmas.{AreBytes-take}
use Rattle.pot_object.specs.Contents.{content}
use Rattle.pot_split.specs.Secrecy.{changed_pads, row_at, secrecy, IsHidden}
use Rattle.pot_split.specs.Threshold.{share}
use Rattle.pot_split.proofs.SplitLaws.{secrecy_laws, threshold_laws}
use Rattle.pot_shard.specs.FileBlocks.{coefficients_in, content_of, content_shards, fragment_len, fragment_shards, fragments_of, head_len, pads_in, part_at, shard_at_place, shard_of}
use Rattle.pot_shard.specs.FileLaws.{content_in, shards_in}
use Rattle.pot_shard.specs.Places.{fragment_random}
use Rattle.pot_shard.specs.Rings.{ring}
use Rattle.pot_shard.specs.Veils.{ExplainsContent, ExplainsObject, ShardVeilLaws}
use Rattle.pot_shard.specs.declared.shard.Shard.{Shard}
use Rattle.pot_shard.proofs.FileLemmas.{length-pads, whole_rows}

-- two stores have the same shards of a fragment
same_law : (g : Geometry) (file other random changed : List ℕ) (i j : ℕ)
    → content_in g file random i j ≡ content_in g other changed i j → fragment_random g random i j ≡ fragment_random g changed i j
    → shards_in g file random i j ≡ shards_in g other changed i j
unfolding fragment_shards
same_law g file other random changed i j a b = ap₂ (λ (u v : List ℕ). content_shards g u v) a b

-- the shards of each other fragment stay
others_law : (g : Geometry) (object other random changed : List ℕ) (f j : ℕ) → ExplainsObject g object other random changed f
    → j < g.fragments → j ≢ f
    → part_at (head_len g) (fragment_len g) j changed ≡ part_at (head_len g) (fragment_len g) j random
    → fragment_shards g (fragments_of g other changed) changed j ≡ fragment_shards g (fragments_of g object random) random j
unfolding fragment_shards content_of
others_law g object other random changed f j e inside apart part =
    let old = pads_in g random in
    let long = e.piece.long in
    let rows = length-pads g random e.piece.taken in
    let whole = whole_rows (g.fragments - 1) (length object) old (omega (arith, long)) (rows ∙ ap (λ (z : ℕ). (g.fragments - 1) * z) (sym long)) in
    let begin : 0 + j * 928 ≡ j * 928 = omega arith in
    let here : pads_in g changed ≡ changed_pads (length object) f (xor object other) old =
    e.pads ∙ ap (λ (z : ℕ). changed_pads z f (xor object other) old) (sym long) in
    let hidden : IsHidden object other old f = record {
      some = omega (arith, long);
      same_length = e.same_length ∙ sym long;
      rows = whole.1;
      fragment = omega (arith, whole.0, e.fragment);
    } in
    let same : part_at 0 928 j (secrecy other (pads_in g changed)) ≡ part_at 0 928 j (secrecy object old) =
    ap (λ (z : ℕ). take 928 (drop z (secrecy other (pads_in g changed)))) begin
    ∙ ap₂ (λ (n : ℕ) (p : List ℕ). row_at n j (secrecy other p)) (sym long) here
    ∙ secrecy_laws.hides object other old f j hidden (omega (arith, whole.0, inside)) apart
    ∙ ap (λ (n : ℕ). row_at n j (secrecy object old)) long
    ∙ ap (λ (z : ℕ). take 928 (drop z (secrecy object old))) (sym begin) in
    ap₂ (λ (u v : List ℕ). content_shards g u v)
    (ap₂ (λ (u v : List ℕ). content u (j + 1) g.fragments v) e.id same) part

-- and the seen shards of the hidden one
seen_law : (g : Geometry) (content other random changed seen : List ℕ) (i : ℕ) → ExplainsContent g content other random changed seen
    → i < length seen
    → shard_at_place g other changed (get_or seen i 0 - 1) ≡ shard_at_place g content random (get_or seen i 0 - 1)
unfolding shard_of
seen_law g content other random changed seen i e inside =
    let v = e.veiled in
    let old = coefficients_in g random in
    let x = get_or seen i 0 in
    let point : x - 1 + 1 ≡ x = omega (arith, v.points i inside) in
    let count : length old ≡ (g.need - 1) * 992 = length-take-le ((g.need - 1) * 992) random (omega (arith, v.taken)) in
    let whole = whole_rows (g.need - 1) (length content) old (omega (arith, v.long)) (count ∙ ap (λ (z : ℕ). (g.need - 1) * z) (sym v.long)) in
    let same : share other (coefficients_in g changed) (x - 1 + 1) ≡ share content old (x - 1 + 1) =
    ap₂ (λ (u : List ℕ) (y : ℕ). share other u y) e.rows point
    ∙ threshold_laws.hides content other old seen v.content_bytes v.other_bytes (AreBytes-take ((g.need - 1) * 992) random v.random_bytes) v.seen_bytes v.points
    (omega (arith, v.long)) (v.same_length ∙ sym v.long) whole.1 (omega (arith, whole.0, v.few)) i inside
    ∙ ap (share content old) (sym point) in
    let made : List ℕ → List ℕ → Shard = λ ns sh. record {
      x = x - 1 + 1;
      m = g.need;
      n = g.shards;
      blur = g.blur;
      name = get_or ns (x - 1) 0;
      pointer = get_or (ring ns g.blur) (x - 1) 0;
      share = sh;
    } in
    ap₂ made e.names same

pub veil_laws : ShardVeilLaws
veil_laws = record { same = same_law; others = others_law; seen = seen_law }
