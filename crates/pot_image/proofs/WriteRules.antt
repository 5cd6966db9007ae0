-- How the bytes of a list grow by those of its values.
use Rattle.std.proofs.Common.{Vec, Global, ap₂, map, length-append, ◌≡◌, ◌<◌, ◌≤◌, ℕ, ◌+◌, ◌-◌, ◌*◌, List, [], ◌∷◌, ◌++◌, length, take, drop, get_or, flat_map, Result, Ok, Err, OnOk, ap, sym, ◌∙◌, refl, arith, append_assoc, append-nil, add-one, length-drop, take_all}
use Rattle.std.proofs.Math.Seq.{take-suc, take-add, take-append_seam}
use Rattle.std.proofs.Math.Nat.{mul-le-mul_right}
use Rattle.std.proofs.lemmas.List.{get_or-drop, length-take-le}
use Rattle.std.proofs.lemmas.Grind.{flat_map-append}
use Rattle.pot_machine.specs.Table.{Table, width, slot_at}
use Rattle.pot_machine.specs.declared.slot.SlotState.TheVariants.{Void}
use Rattle.pot_machine.specs.Rules.{IsTable}
use Rattle.pot_machine.proofs.Places.{place_below}
use Rattle.byteorder.specs.Endian.{big_bytes}
use Rattle.pot_machine.specs.declared.column.Column.{Column}
use Rattle.pot_machine.specs.declared.cursor.Cursor.{Cursor}
use Rattle.pot_machine.specs.declared.entry.Entry.{Entry}
use Rattle.pot_index.specs.declared.record.Record.{Record}
use Rattle.pot_index.specs.declared.entry.IndexEntry.{IndexEntry}
use Rattle.pot_index.specs.Records.{record_bytes}
use Rattle.pot_image.specs.declared.image.Image.{Image}
use Rattle.pot_image.specs.Images.{contents}
use Rattle.pot_image.specs.Spelling.{head_bytes, cursor_bytes, column_bytes, slot_bytes, table_bytes, entry_bytes, index_entry_bytes, counted_bytes, field_bytes, text_bytes}

pub grown : {X : Type 0} (f : X → List ℕ) (xs : List X) (i : ℕ) (d : X) (old cur new : List ℕ) → i < length xs → cur ≡ old ++ flat_map f (take i xs) → new ≡ cur ++ f (get_or xs i d)
    → new ≡ old ++ flat_map f (take (i + 1) xs)
grown f xs i d old cur new l e h =
    h ∙ ap (λ z. z ++ f (get_or xs i d)) e ∙ append_assoc old (flat_map f (take i xs)) (f (get_or xs i d))
    ∙ ap (λ z. old ++ z) (sym (ap (flat_map f) (ap (λ n. take n xs) (add-one i) ∙ take-suc xs i d l) ∙ flat_map-append f (take i xs) (get_or xs i d ∷ []) ∙ ap (λ z. flat_map f (take i xs) ++ z) (append-nil (f (get_or xs i d)))))

-- after what was written, more was written
pub appended : {T E : Type 0} (r : Result T E) (old cur new p y all : List ℕ) → cur ≡ old ++ p → OnOk r (new ≡ cur ++ y) → p ++ y ≡ all → OnOk r (new ≡ old ++ all)
appended (Ok x) old cur new p y all e h q = h ∙ ap (λ z. z ++ y) e ∙ append_assoc old p y ∙ ap (λ z. old ++ z) q
appended (Err x) old cur new p y all e h q = tt

pub slot_grown : (t : Table) (s c : ℕ) (old cur new : List ℕ) → IsTable t → s < t.stripes → c < width t
    → cur ≡ old ++ flat_map slot_bytes (take c (drop (s * width t) t.slots)) → new ≡ cur ++ slot_bytes (slot_at t s c)
    → new ≡ old ++ flat_map slot_bytes (take (c + 1) (drop (s * width t) t.slots))
slot_grown t s c old cur new is ls lc e h =
    let below : s * width t + c < t.stripes * width t = place_below (width t) t.stripes s c ls lc in
    let inside : c < length (drop (s * width t) t.slots) = (let n = length-drop (s * width t) t.slots in let m = is.size.slots in omega (arith, below, n, m)) in
    grown slot_bytes (drop (s * width t) t.slots) c Void old cur new inside e (h ∙ ap (λ x. cur ++ slot_bytes x) (sym (get_or-drop (s * width t) t.slots c Void)))

pub stripe_grown : (t : Table) (s : ℕ) (old cur new : List ℕ)
    → cur ≡ old ++ flat_map slot_bytes (take (s * width t) t.slots) → new ≡ cur ++ flat_map slot_bytes (take (width t) (drop (s * width t) t.slots))
    → new ≡ old ++ flat_map slot_bytes (take ((s + 1) * width t) t.slots)
stripe_grown t s old cur new e h =
    let next : (s + 1) * width t ≡ s * width t + width t = grind arith in
    h ∙ ap (λ z. z ++ flat_map slot_bytes (take (width t) (drop (s * width t) t.slots))) e
    ∙ append_assoc old (flat_map slot_bytes (take (s * width t) t.slots)) (flat_map slot_bytes (take (width t) (drop (s * width t) t.slots)))
    ∙ ap (λ z. old ++ z) (sym (ap (flat_map slot_bytes) (ap (λ n. take n t.slots) next ∙ take-add (s * width t) (width t) t.slots) ∙ flat_map-append slot_bytes (take (s * width t) t.slots) (take (width t) (drop (s * width t) t.slots))))

pub all_slots : (t : Table) (n : ℕ) (old cur : List ℕ) → IsTable t → t.stripes ≤ n → cur ≡ old ++ flat_map slot_bytes (take (n * width t) t.slots) → cur ≡ old ++ flat_map slot_bytes t.slots
all_slots t n old cur is l e = e ∙ ap (λ xs. old ++ flat_map slot_bytes xs) (take_all (n * width t) t.slots (let m = is.size.slots in let k = mul-le-mul_right (width t) l in omega (arith, m, k)))

pub table_written : {T E : Type 0} (r : Result T E) (t : Table) (old a b new : List ℕ) (c : Cursor) (cs : List Column) → a ≡ old ++ cursor_bytes c → b ≡ a ++ flat_map column_bytes cs
    → OnOk r (new ≡ b ++ flat_map slot_bytes t.slots) → c ≡ t.cursor → cs ≡ t.columns → OnOk r (new ≡ old ++ table_bytes t)
unfolding table_bytes
table_written r t old a b new c cs e f h p q =
    (appended r old b new (cursor_bytes c ++ flat_map column_bytes cs) (flat_map slot_bytes t.slots) _ (f ∙ ap (λ z. z ++ flat_map column_bytes cs) e ∙ append_assoc old (cursor_bytes c) (flat_map column_bytes cs)) h
    (ap₂ (λ x y. (cursor_bytes x ++ flat_map column_bytes y) ++ flat_map slot_bytes t.slots) p q))

mapped : {X : Type 0} (f : List X → List ℕ) (vs : List (Vec X Global)) → flat_map (λ v. f v.items) vs ≡ flat_map f (map (λ v. v.items) vs)
mapped f [] = refl
mapped f (v ∷ vs) = ap (λ z. f v.items ++ z) (mapped f vs)

join5 : (old a b c d e : List ℕ) → ((((old ++ a) ++ b) ++ c) ++ d) ++ e ≡ old ++ ((((a ++ b) ++ c) ++ d) ++ e)
join5 old a b c d e =
    ap (λ z. ((z ++ c) ++ d) ++ e) (append_assoc old a b) ∙ ap (λ z. (z ++ d) ++ e) (append_assoc old (a ++ b) c) ∙ ap (λ z. z ++ e) (append_assoc old ((a ++ b) ++ c) d) ∙ append_assoc old (((a ++ b) ++ c) ++ d) e

pub fields_written : (i : Image) (old a b c d e : List ℕ) (ts : List Table) (rs : List Record) (ls : List (Vec Entry Global)) (es : List IndexEntry)
    → a ≡ old ++ head_bytes i.session i.rack → b ≡ a ++ flat_map table_bytes ts → c ≡ b ++ counted_bytes record_bytes rs → d ≡ c ++ flat_map (λ v. counted_bytes entry_bytes v.items) ls → e ≡ d ++ counted_bytes index_entry_bytes es
    → ts ≡ i.tables.items → rs ≡ i.records.items → ls ≡ i.group_logs.items → es ≡ i.index_log.items → e ≡ old ++ field_bytes (contents i)
unfolding field_bytes
fields_written i old a b c d e ts rs ls es ea eb ec ed ee qt qr ql qe =
    (ee ∙ ap₂ (λ x y. x ++ counted_bytes index_entry_bytes y) (ed ∙ ap₂ (λ x y. x ++ y) (ec ∙ ap₂ (λ x y. x ++ counted_bytes record_bytes y) (eb ∙ ap₂ (λ x y. x ++ flat_map table_bytes y) ea qt) qr) (ap (flat_map (λ v. counted_bytes entry_bytes v.items)) ql ∙ mapped (counted_bytes entry_bytes) i.group_logs.items)) qe
    ∙ join5 old (head_bytes i.session i.rack) (flat_map table_bytes i.tables.items) (counted_bytes record_bytes i.records.items) (flat_map (counted_bytes entry_bytes) (map (λ v. v.items) i.group_logs.items)) (counted_bytes index_entry_bytes i.index_log.items))

-- the front with eight zeros in the place of the length, and then the length
pub text_written : (i : Image) (old a b c new text : List ℕ) (n : ℕ) → old ≡ [] → a ≡ old ++ (80 ∷ 83 ∷ 73 ∷ 49 ∷ 0 ∷ 0 ∷ 0 ∷ 2 ∷ []) → b ≡ a ++ (0 ∷ 0 ∷ 0 ∷ 0 ∷ 0 ∷ 0 ∷ 0 ∷ 0 ∷ []) → c ≡ b ++ field_bytes (contents i)
    → n ≡ length c + 32 → text ≡ c → new ≡ take 8 text ++ big_bytes 8 n ++ drop 16 text → new ≡ text_bytes (contents i)
unfolding text_bytes
text_written i old a b c new text n eo ea eb ec en et h =
    (let seven : b ≡ (80 ∷ 83 ∷ 73 ∷ 49 ∷ 0 ∷ 0 ∷ 0 ∷ 2 ∷ 0 ∷ 0 ∷ 0 ∷ 0 ∷ 0 ∷ 0 ∷ 0 ∷ 0 ∷ []) = eb ∙ ap (λ z. z ++ (0 ∷ 0 ∷ 0 ∷ 0 ∷ 0 ∷ 0 ∷ 0 ∷ 0 ∷ [])) (ea ∙ ap (λ z. z ++ (80 ∷ 83 ∷ 73 ∷ 49 ∷ 0 ∷ 0 ∷ 0 ∷ 2 ∷ [])) eo) in
    let front : c ≡ (80 ∷ 83 ∷ 73 ∷ 49 ∷ 0 ∷ 0 ∷ 0 ∷ 2 ∷ 0 ∷ 0 ∷ 0 ∷ 0 ∷ 0 ∷ 0 ∷ 0 ∷ 0 ∷ []) ++ field_bytes (contents i) = ec ∙ ap (λ z. z ++ field_bytes (contents i)) seven in
    let long : length c ≡ 16 + length (field_bytes (contents i)) = ap length front ∙ length-append (80 ∷ 83 ∷ 73 ∷ 49 ∷ 0 ∷ 0 ∷ 0 ∷ 2 ∷ 0 ∷ 0 ∷ 0 ∷ 0 ∷ 0 ∷ 0 ∷ 0 ∷ 0 ∷ []) (field_bytes (contents i)) in
    let number : n ≡ 48 + length (field_bytes (contents i)) = omega (arith, en, long) in
    h ∙ ap₂ (λ z m. (take 8 z ++ big_bytes 8 m) ++ drop 16 z) (et ∙ front) number)

written_back : (len : ℕ) (new items : List ℕ) → length new ≡ len → take len (new ++ drop (length new) items) ≡ new
written_back len new items e = ap (λ n. take n (new ++ drop (length new) items)) (sym e) ∙ take-append_seam new (drop (length new) items)

put_long : (text new : List ℕ) (n : ℕ) → 16 ≤ length text → new ≡ take 8 text ++ big_bytes 8 n ++ drop 16 text → length new ≡ length text
put_long text new n l e =
    let a : length (take 8 text) ≡ 8 = length-take-le 8 text (omega (arith, l)) in
    let b : length (drop 16 text) ≡ length text - 16 = length-drop 16 text in
    let c : length new ≡ length (take 8 text ++ big_bytes 8 n) + length (drop 16 text) = ap length e ∙ length-append (take 8 text ++ big_bytes 8 n) (drop 16 text) in
    let d : length (take 8 text ++ big_bytes 8 n) ≡ length (take 8 text) + 8 = length-append (take 8 text) (big_bytes 8 n) in
    omega (arith, l, a, b, c, d)

pub text_done : (i : Image) (old a b c new text : List ℕ) (n len m : ℕ) → old ≡ [] → a ≡ old ++ (80 ∷ 83 ∷ 73 ∷ 49 ∷ 0 ∷ 0 ∷ 0 ∷ 2 ∷ []) → b ≡ a ++ (0 ∷ 0 ∷ 0 ∷ 0 ∷ 0 ∷ 0 ∷ 0 ∷ 0 ∷ []) → c ≡ b ++ field_bytes (contents i)
    → m ≡ len → n ≡ m + 32 → text ≡ c → length text ≡ len → new ≡ take 8 text ++ big_bytes 8 n ++ drop 16 text → take len (new ++ drop (length new) c) ≡ text_bytes (contents i)
text_done i old a b c new text n len m eo ea eb ec em en et el h =
    let seven : b ≡ (80 ∷ 83 ∷ 73 ∷ 49 ∷ 0 ∷ 0 ∷ 0 ∷ 2 ∷ 0 ∷ 0 ∷ 0 ∷ 0 ∷ 0 ∷ 0 ∷ 0 ∷ 0 ∷ []) = eb ∙ ap (λ z. z ++ (0 ∷ 0 ∷ 0 ∷ 0 ∷ 0 ∷ 0 ∷ 0 ∷ 0 ∷ [])) (ea ∙ ap (λ z. z ++ (80 ∷ 83 ∷ 73 ∷ 49 ∷ 0 ∷ 0 ∷ 0 ∷ 2 ∷ [])) eo) in
    let size : length b ≡ 16 = ap length seven in
    let long : length c ≡ length b + length (field_bytes (contents i)) = ap length ec ∙ length-append b (field_bytes (contents i)) in
    let same : length text ≡ length c = ap length et in
    let front : 16 ≤ length text = omega (arith, size, long, same) in
    let put : length new ≡ len = put_long text new n front h ∙ el in
    written_back len new c put ∙ text_written i old a b c new text n eo ea eb ec (omega (arith, em, en, el, same)) et h
