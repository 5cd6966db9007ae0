-- The image of a new archive keeps the rules of images.
use Rattle.std.proofs.Common.{◌≡◌, ◌≤◌, ◌<◌, ◌+◌, ◌*◌, ◌++◌, ◌≢◌, ⊎_elim, ℕ, zero, suc, true, false, List, [], ◌∷◌, length, map, refl, sym, ap, ◌∙◌, arith, eqb}
use Rattle.std.specs.Prelude.{All, flat_map}
use Rattle.std.specs.List.{range_with_len}
use Rattle.std.specs.List.Sorted.{IsStrictlySortedBy}
use Rattle.std.proofs.Math.Nat.{mul-le-mul_right}
use Rattle.std.proofs.lemmas.Bool.Decides.{eqb_tells}
use Rattle.std.proofs.lemmas.List.{length-append, length-replicate}
use Rattle.std.proofs.lemmas.List.Elements.{All-cons, All-head, All-nil, All-replicate, All-tail}
use Rattle.std.proofs.lemmas.List.FromFn.{length-map-range_with_len}
use Rattle.pot_bytes.specs.Rack.{IsRack}
use Rattle.pot_bytes.specs.declared.rack.Rack.{Rack}
use Rattle.pot_machine.specs.declared.column.Column.{Column}
use Rattle.pot_machine.specs.declared.entry.Entry.{Entry}
use Rattle.pot_machine.specs.declared.slot.SlotState.TheVariants.{Void}
use Rattle.pot_machine.specs.Column.{homes_of}
use Rattle.pot_machine.specs.Making.{column_home, empty_table}
use Rattle.pot_machine.specs.Table.{Table, archives_in}
use Rattle.pot_machine.proofs.Empty.{empty_is_table}
use Rattle.pot_index.specs.Index.{NamesAscend}
use Rattle.pot_index.specs.Records.{record_bytes}
use Rattle.pot_image.specs.Rules.{FitsEntry, FitsIndexEntry, FitsTable, HasSlotDigest, HaveDigests, IsImage, IsLog}
use Rattle.pot_image.specs.Spelling.{column_bytes, counted_bytes, cursor_bytes, entry_bytes, field_bytes, head_bytes, index_entry_bytes, slot_bytes, table_bytes}
use Rattle.pot_image.proofs.ImageBack.{image_long}
use Rattle.pot_shared.specs.Hands.{times}
use Rattle.pot_shared.proofs.Times.{one_if}
use Rattle.pot_session.specs.Making.{empty_contents}
use Rattle.pot_session.proofs.LeftArchives.{archives_of}

-- NUMBERS IN A ROW

range_append : (a m n : ℕ) → range_with_len a (m + n) ≡ range_with_len a m ++ range_with_len (a + m) n
range_append a zero n = ap (λ k. range_with_len a k) (let e : 0 + n ≡ n = omega arith in e) ∙ ap (λ b. range_with_len b n) (let e : a ≡ a + 0 = omega arith in e)
range_append a (suc m) n = ap (λ k. range_with_len a k) (let e : suc m + n ≡ suc (m + n) = omega arith in e) ∙ ap (λ l. a ∷ l) (range_append (a + 1) m n ∙ ap (λ b. range_with_len (a + 1) m ++ range_with_len b n) (let e : a + 1 + m ≡ a + suc m = omega arith in e))

below_none : (a k n : ℕ) → n < a → times n (range_with_len a k) ≡ 0
below_none a zero n l = refl
below_none a (suc k) n l = ⊎_elim
    (λ (h : (eqb a n ≡ true) × (a ≡ n)). absurd (let e = h.1 in omega (arith, e, l)))
    (λ (h : (eqb a n ≡ false) × (a ≢ n)). (let e = ap one_if h.0 in let r = below_none (a + 1) k n (omega (arith, l)) in omega (arith, e, r)))
    (eqb_tells a n)

range_once : (a k n : ℕ) → times n (range_with_len a k) ≤ 1
range_once a zero n = omega arith
range_once a (suc k) n = ⊎_elim
    (λ (h : (eqb a n ≡ true) × (a ≡ n)). (let e = ap one_if h.0 in let q = h.1 in let r = below_none (a + 1) k n (omega (arith, q)) in omega (arith, e, r)))
    (λ (h : (eqb a n ≡ false) × (a ≢ n)). (let e = ap one_if h.0 in let r = range_once (a + 1) k n in omega (arith, e, r)))
    (eqb_tells a n)

past_none : (a k n : ℕ) → a + k ≤ n → times n (range_with_len a k) ≡ 0
past_none a zero n l = refl
past_none a (suc k) n l = ⊎_elim
    (λ (h : (eqb a n ≡ true) × (a ≡ n)). absurd (let e = h.1 in omega (arith, e, l)))
    (λ (h : (eqb a n ≡ false) × (a ≢ n)). (let e = ap one_if h.0 in let r = past_none (a + 1) k n (omega (arith, l)) in omega (arith, e, r)))
    (eqb_tells a n)

-- THE ARCHIVES

homes : (ns : List ℕ) → flat_map homes_of (map column_home ns) ≡ ns
homes [] = refl
homes (n ∷ ns) = ap (λ l. n ∷ l) (homes ns)

none_of : (w : ℕ) → 0 * w ≡ 0
none_of w = grind arith

abbrev wide : Rack → ℕ
wide rack = rack.columns + rack.parity

rows : (rack : Rack) (a k : ℕ) → flat_map archives_in (map (empty_table rack) (range_with_len a k)) ≡ range_with_len (a * wide rack) (k * wide rack)
rows rack a zero = sym (ap (range_with_len (a * wide rack)) (none_of (wide rack)))
rows rack a (suc k) =
    ap (λ l. l ++ flat_map archives_in (map (empty_table rack) (range_with_len (a + 1) k))) (homes (range_with_len (a * wide rack) (wide rack)))
    ∙ (ap (λ l. range_with_len (a * wide rack) (wide rack) ++ l) (rows rack (a + 1) k ∙ ap (λ b. range_with_len b (k * wide rack)) (next a (wide rack)))
    ∙ (sym (range_append (a * wide rack) (wide rack) (k * wide rack)) ∙ ap (range_with_len (a * wide rack)) (more k (wide rack))))
  where
    next : (a w : ℕ) → (a + 1) * w ≡ a * w + w
    next a w = grind arith

    more : (k w : ℕ) → w + k * w ≡ suc k * w
    more k w = grind arith

-- THE IMAGE

none_ascend : NamesAscend []
unfolding IsStrictlySortedBy
none_ascend = tt

all_fit : (rack : Rack) → IsRack rack → (a k : ℕ) → All (FitsTable rack) (map (empty_table rack) (range_with_len a k))
all_fit rack is a zero = All-nil (FitsTable rack)
all_fit rack is a (suc k) = All-cons (FitsTable rack) (empty_table rack a) (map (empty_table rack) (range_with_len (a + 1) k))
    (record { rules = empty_is_table rack a is; data_columns = refl; parity = refl; stripes = refl; relays = refl }) (all_fit rack is (a + 1) k)

-- ITS BYTES

flat_few : {X : Type 0} (f : X → List ℕ) (m : ℕ) (xs : List X) → All (λ x. length (f x) ≤ m) xs → length (flat_map f xs) ≤ length xs * m
flat_few f m [] all = omega arith
flat_few f m (x ∷ xs) all =
    (let a = length-append (f x) (flat_map f xs) in let b = All-head (λ y. length (f y) ≤ m) x xs all in let r = flat_few f m xs (All-tail (λ y. length (f y) ≤ m) x xs all) in
    let e : suc (length xs) * m ≡ m + length xs * m = more (length xs) m in omega (arith, a, b, r, e))
  where
    more : (k m : ℕ) → suc k * m ≡ m + k * m
    more k m = grind arith

columns_few : (ns : List ℕ) → All (λ (c : Column). length (column_bytes c) ≤ 16) (map column_home ns)
columns_few [] = All-nil _
columns_few (n ∷ ns) = All-cons (λ (c : Column). length (column_bytes c) ≤ 16) (column_home n) (map column_home ns) (omega arith) (columns_few ns)

table_few : (rack : Rack) (g : ℕ) → IsRack rack → length (table_bytes (empty_table rack g)) ≤ 74024
unfolding table_bytes
table_few rack g is =
    let t = empty_table rack g in
    let a = length-append (cursor_bytes t.cursor ++ flat_map column_bytes t.columns) (flat_map slot_bytes t.slots) in
    let b = length-append (cursor_bytes t.cursor) (flat_map column_bytes t.columns) in
    let c : length (cursor_bytes t.cursor) ≡ 8 = refl in
    let d = flat_few column_bytes 16 t.columns (columns_few (range_with_len (g * wide rack) (wide rack))) in
    let e = flat_few slot_bytes 1 t.slots (All-replicate (λ x. length (slot_bytes x) ≤ 1) (rack.stripes * wide rack) Void (omega arith)) in
    let m : length t.columns ≡ wide rack = length-map-range_with_len column_home (g * wide rack) (wide rack) in
    let n : length t.slots ≡ rack.stripes * wide rack = length-replicate (rack.stripes * wide rack) Void in
    let k = mul-le-mul_right (wide rack) is.stripes.1 in
    let p = is.columns.1 in let q = is.parity.1 in
    omega (arith, a, b, c, d, e, m, n, k, p, q)

tables_few : (rack : Rack) → IsRack rack → (a k : ℕ) → All (λ (t : Table). length (table_bytes t) ≤ 74024) (map (empty_table rack) (range_with_len a k))
tables_few rack is a zero = All-nil _
tables_few rack is a (suc k) = All-cons (λ (t : Table). length (table_bytes t) ≤ 74024) (empty_table rack a) (map (empty_table rack) (range_with_len (a + 1) k)) (table_few rack a is) (tables_few rack is (a + 1) k)

fields_few : (rack : Rack) → IsRack rack → length (field_bytes (empty_contents rack)) ≤ 2000000
unfolding field_bytes
fields_few rack is =
    let v = empty_contents rack in
    let tables = flat_map table_bytes v.tables in
    let logs = flat_map (counted_bytes entry_bytes) v.group_logs in
    let a = length-append (((head_bytes 0 rack ++ tables) ++ counted_bytes record_bytes []) ++ logs) (counted_bytes index_entry_bytes []) in
    let b = length-append ((head_bytes 0 rack ++ tables) ++ counted_bytes record_bytes []) logs in
    let c = length-append (head_bytes 0 rack ++ tables) (counted_bytes record_bytes []) in
    let d = length-append (head_bytes 0 rack) tables in
    let e : length (head_bytes 0 rack) ≡ 16 = refl in
    let f = flat_few table_bytes 74024 v.tables (tables_few rack is 0 rack.groups) in
    let h = flat_few (counted_bytes entry_bytes) 4 v.group_logs (All-replicate (λ (l : List Entry). length (counted_bytes entry_bytes l) ≤ 4) rack.groups [] (omega arith)) in
    let m : length v.tables ≡ rack.groups = length-map-range_with_len (empty_table rack) 0 rack.groups in
    let n : length v.group_logs ≡ rack.groups = length-replicate rack.groups [] in
    let k = is.groups.1 in
    omega (arith, a, b, c, d, e, f, h, m, n, k)

-- THE WHOLE

all_void : (rack : Rack) (a k : ℕ) → All HaveDigests (map (empty_table rack) (range_with_len a k))
all_void rack a zero = All-nil HaveDigests
all_void rack a (suc k) = All-cons HaveDigests (empty_table rack a) (map (empty_table rack) (range_with_len (a + 1) k)) (All-replicate HasSlotDigest (rack.stripes * wide rack) Void tt) (all_void rack (a + 1) k)

pub empty_image : (rack : Rack) → IsRack rack → IsImage (empty_contents rack)
empty_image rack is = record {
  session = omega arith;
  together = record {
    rack = is;
    tables = record {
      count = length-map-range_with_len (empty_table rack) 0 rack.groups;
      fits = all_fit rack is 0 rack.groups;
      archives = archives_of (flat_map archives_in (map (empty_table rack) (range_with_len 0 rack.groups))) (range_with_len (0 * wide rack) (rack.groups * wide rack))
          (λ n. (let e = ap (times n) (rows rack 0 rack.groups) in omega (arith, e))) (λ n. range_once (0 * wide rack) (rack.groups * wide rack) n)
          (λ n l. past_none (0 * wide rack) (rack.groups * wide rack) n
          (let a = mul-le-mul_right (wide rack) is.groups.1 in let b = is.columns.1 in let c = is.parity.1 in let z : 0 * wide rack ≡ 0 = none_of (wide rack) in omega (arith, a, b, c, z, l)));
    };
    records = record { read = record { few = omega arith; ascends = none_ascend; fits = All-nil _ }; each = All-nil _ };
    logs = length-replicate rack.groups [];
  };
  digests = all_void rack 0 rack.groups;
  group_logs = All-replicate (IsLog (FitsEntry rack)) rack.groups [] (record { count = omega arith; fits = All-nil (FitsEntry rack) });
  index_log = record { count = omega arith; fits = All-nil FitsIndexEntry };
  short = (let a = image_long (empty_contents rack) in let b = fields_few rack is in omega (arith, a, b));
}
