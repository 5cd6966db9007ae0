-- The tables of an image are read back.
use Rattle.std.proofs.Common.{◌≡◌, ◌≢◌, ◌⊎◌, inl, inr, All, IfSome, Option, Some, None, ℕ, zero, suc, ◌+◌, ◌-◌, ◌*◌, ◌<◌, ◌≤◌, ◌^◌, ◌==◌, ◌&&◌, ◌||◌, nat_le, nat_lt, List, [], ◌∷◌, ◌++◌, Bool, true, false, Result, Ok, length, get_or, take, drop, flat_map, ap, ap₂, sym, subst, ◌∙◌, refl, arith, append_assoc, append-nil, take_all, eq-eqb}
use Rattle.std.proofs.lemmas.List.{get_or-take}
use Rattle.std.proofs.lemmas.Bool.{le-leb, leb-true, lt-ltb, le-ltb, ne_eqb, and_parts, and_from}
use Rattle.std.proofs.lemmas.Bool.Decides.{nat_tests}
use Rattle.byteorder.specs.Endian.{big_bytes}
use lib.Seq.{drop-length}
use Rattle.pot_bytes.specs.declared.rack.Rack.{Rack}
use Rattle.pot_bytes.specs.Rack.{IsRack}
use Rattle.pot_machine.specs.declared.column.Column.{Column}
use Rattle.pot_machine.specs.declared.column.Moving.{Moving}
use Rattle.pot_machine.specs.declared.cursor.Cursor.{Cursor}
use Rattle.pot_machine.specs.declared.relay.Relay.{Relay}
use Rattle.pot_machine.specs.declared.slot.SlotState.{SlotState}
use Rattle.pot_machine.specs.declared.slot.SlotState.TheVariants.{Void, Live, Lost, Broken}
use Rattle.pot_machine.specs.Slot.{is_void}
use Rattle.pot_machine.specs.Table.{Table, width, slot_at, column_at, no_column}
use Rattle.pot_machine.specs.Rules.{IsTable}
use Rattle.pot_machine.specs.Making.{table_of}
use Rattle.pot_machine.proofs.Places.{place_below}
use Rattle.pot_image.specs.Fields.{done}
use Rattle.pot_image.specs.Reading.{◌>>=◌, over, several, reading}
use Rattle.pot_image.specs.Numbers.{natural, at_most, between, zeros, flag, digest}
use Rattle.pot_machine.specs.Column.{homes_of}
use Rattle.pot_machine.specs.Table.{archives_in}
use Rattle.pot_image.specs.Tables.{is_free, column, column_behind, columns, allows, state_of, slot, slot_behind, stripe_slots, slots, is_cursor, cursor, table, table_behind, tables}
use Rattle.pot_image.specs.Spelling.{cursor_bytes, column_bytes, slot_bytes, table_bytes}
use Rattle.pot_image.specs.Rules.{HasSlotDigest, HaveDigests, FitsTable, AreTables}
use Rattle.pot_image.proofs.ColumnRules.{AreFree, free_rest, IsWithin}
use Rattle.pot_image.proofs.Archives.{free_of_archives}
use Rattle.pot_image.proofs.SlotRules.{looks_back, allowed_by}
use Rattle.pot_image.proofs.HeadBack.{is_between}
use Rattle.pot_image.proofs.ReadBack.{Back, back_done, back_then, back_end, back_as, back_number, back_byte, back_flag, back_digest, back_on, back_several, back_over}

-- COLUMNS

free_small : (taken : List ℕ) (n : ℕ) → is_free taken n ≡ true → n < 256 ^ 4
free_small taken n e = (let l = leb-true n 511 (and_parts (nat_le n 511) _ e).0 in omega (arith, l))

pub column_back : (stripes : ℕ) (taken : List ℕ) (home : ℕ) (o : Option Moving) → stripes ≤ 4096 → AreFree taken (homes_of (record { home = home; moving = o })) → IfSome o (λ m. m.upto ≤ stripes)
    → Back (column stripes taken) (column_bytes (record { home = home; moving = o })) (record { home = home; moving = o })
unfolding column
column_back stripes taken home None l free moves =
    (back_as _ (big_bytes 4 home ++ ((0 ∷ []) ++ ((0 ∷ 0 ∷ 0 ∷ []) ++ (big_bytes 4 0 ++ big_bytes 4 0)))) (column_bytes (record { home = home; moving = None })) _ refl
    (back_then (natural 4 (is_free taken)) _ (big_bytes 4 home) _ home _ (back_number 4 (is_free taken) home (free_small taken home free.0) free.0)
    (back_then flag _ (0 ∷ []) _ false _ (back_flag false)
    (back_then (zeros 3) _ (0 ∷ 0 ∷ 0 ∷ []) _ 0 _ (back_number 3 (λ n. n == 0) 0 (omega arith) refl)
    (back_then (zeros 4) _ (big_bytes 4 0) _ 0 _ (back_number 4 (λ n. n == 0) 0 (omega arith) refl)
    (back_end (zeros 4) (λ upto. record { home = home; moving = None }) (big_bytes 4 0) 0 (back_number 4 (λ n. n == 0) 0 (omega arith) refl)))))))
column_back stripes taken home (Some m) l free moves =
    (back_as _ (big_bytes 4 home ++ ((1 ∷ []) ++ ((0 ∷ 0 ∷ 0 ∷ []) ++ (big_bytes 4 m.to ++ big_bytes 4 m.upto)))) (column_bytes (record { home = home; moving = Some m })) _ refl
    (back_then (natural 4 (is_free taken)) _ (big_bytes 4 home) _ home _ (back_number 4 (is_free taken) home (free_small taken home free.0) free.0)
    (back_then flag _ (1 ∷ []) _ true _ (back_flag true)
    (back_then (zeros 3) _ (0 ∷ 0 ∷ 0 ∷ []) _ 0 _ (back_number 3 (λ n. n == 0) 0 (omega arith) refl)
    (back_then (natural 4 (is_free (taken ++ home ∷ []))) _ (big_bytes 4 m.to) _ m.to _ (back_number 4 (is_free (taken ++ home ∷ [])) m.to (free_small (taken ++ home ∷ []) m.to free.1.0) free.1.0)
    (back_end (natural 4 (at_most stripes)) (λ upto. record { home = home; moving = Some (record { to = m.to; upto = upto }) }) (big_bytes 4 m.upto) m.upto (back_number 4 (at_most stripes) m.upto (omega (arith, l, moves)) (le-leb _ _ moves))))))))

-- what each value names is free behind what those before it name
free_behind : {X : Type 0} (f : X → List ℕ) (xs : List X) (taken : List ℕ) (i : ℕ) (d : X) → i < length xs → AreFree taken (flat_map f xs) → AreFree (taken ++ flat_map f (take i xs)) (f (get_or xs i d))
free_behind f [] taken i d l h = absurd (omega (arith, l))
free_behind f (x ∷ xs) taken zero d l h = subst (λ t. AreFree t (f x)) (sym (append-nil taken)) (free_rest (f x) (flat_map f xs) taken h).0
free_behind f (x ∷ xs) taken (suc i) d l h = subst (λ t. AreFree t (f (get_or xs i d))) (append_assoc taken (f x) (flat_map f (take i xs))) (free_behind f xs (taken ++ f x) i d (omega (arith, l)) (free_rest (f x) (flat_map f xs) taken h).1)

columns_back : (w stripes : ℕ) (taken : List ℕ) (cs : List Column) → stripes ≤ 4096 → length cs ≡ w → AreFree taken (flat_map homes_of cs) → ((c : ℕ) → c < w → IsWithin stripes (get_or cs c no_column))
    → Back (columns w stripes taken) (flat_map column_bytes cs) cs
unfolding columns
columns_back w stripes taken cs l e free moves =
    (back_several (column_behind stripes taken) column_bytes cs no_column w e (λ i li. column_back stripes (taken ++ flat_map homes_of (take i cs)) (get_or cs i no_column).home (get_or cs i no_column).moving l
    (free_behind homes_of cs taken i no_column (omega (arith, li, e)) free) (moves i li)))

-- SLOTS

slot_back : (allowed : Bool → Bool) (x : SlotState) → allowed (is_void x) ≡ true → HasSlotDigest x → Back (slot allowed) (slot_bytes x) x
unfolding slot
slot_back allowed Void e h = (back_then (natural 1 (λ n. between 0 3 n && allowed (n == 0))) _ (0 ∷ []) [] 0 Void (back_byte _ 0 e) (back_done Void))
slot_back allowed (Live d) e h = (back_then (natural 1 (λ n. between 0 3 n && allowed (n == 0))) _ (1 ∷ []) d.bytes 1 (Live d) (back_byte _ 1 e) (back_end digest (λ d. state_of 1 d) d.bytes d (back_digest d h)))
slot_back allowed (Lost d) e h = (back_then (natural 1 (λ n. between 0 3 n && allowed (n == 0))) _ (2 ∷ []) d.bytes 2 (Lost d) (back_byte _ 2 e) (back_end digest (λ d. state_of 2 d) d.bytes d (back_digest d h)))
slot_back allowed (Broken d) e h = (back_then (natural 1 (λ n. between 0 3 n && allowed (n == 0))) _ (3 ∷ []) d.bytes 3 (Broken d) (back_byte _ 3 e) (back_end digest (λ d. state_of 3 d) d.bytes d (back_digest d h)))

module _ (cursor : Cursor) (data_columns w z : ℕ) (xs : List SlotState) (some : 1 ≤ data_columns) (size : length xs ≡ z * w) (digests : (i : ℕ) → i < length xs → HasSlotDigest (get_or xs i Void))
    (all : (s c : ℕ) → s < z → c < w → allows cursor data_columns w xs s c (is_void (get_or xs (s * w + c) Void)) ≡ true) where
  here : (s : ℕ) → s < z → (i : ℕ) → i < w → Back (slot_behind cursor data_columns w s i (take (s * w + i) xs)) (slot_bytes (get_or xs (s * w + i) Void)) (get_or xs (s * w + i) Void)
  here s ls i li =
      let below = place_below w z s i ls li in
      slot_back (allows cursor data_columns w (take (s * w + i) xs) s i) (get_or xs (s * w + i) Void)
      (looks_back cursor data_columns w (take (s * w + i) xs) xs s i _ some (λ p lp. get_or-take (s * w + i) xs p Void lp) ∙ all s i ls li)
      (digests (s * w + i) (omega (arith, below, size)))

  row : (s : ℕ) → s < z → (rest : List ℕ) → reading (stripe_slots cursor data_columns w s (take (s * w) xs)) (flat_map slot_bytes (drop (s * w) xs) ++ rest) ≡ Ok (take ((s + 1) * w) xs, flat_map slot_bytes (drop ((s + 1) * w) xs) ++ rest)
  unfolding stripe_slots
  row s ls rest =
      (let whole : s * w + w ≤ length xs = (let h = mul_row s ls in omega (arith, h, size)) in
      let first : s * w ≡ s * w + 0 = omega arith in
      let last : s * w + w ≡ (s + 1) * w = grind arith in
      ap (λ k. reading (several 0 w (slot_behind cursor data_columns w s) (take k xs)) (flat_map slot_bytes (drop k xs) ++ rest)) first
      ∙ back_on (slot_behind cursor data_columns w s) slot_bytes xs (s * w) Void w whole (here s ls) w 0 (omega arith) rest
      ∙ ap (λ k. at k) last)
    where
      mul_row : (s : ℕ) → s < z → s * w + w ≤ z * w
      mul_row s l = grind (arith)

      at : ℕ → Result (List SlotState × List ℕ) ℕ
      at k = Ok (take k xs, flat_map slot_bytes (drop k xs) ++ rest)

  slots_read : (rest : List ℕ) → reading (slots cursor data_columns w z) (flat_map slot_bytes xs ++ rest) ≡ Ok (xs, rest)
  unfolding slots
  slots_read rest =
      (let none : 0 ≡ 0 * w = omega arith in
      let whole : z * w ≡ length xs = sym size in
      let last : length xs ≤ z * w = omega (arith, size) in
      ap (λ k. reading (over 0 z (stripe_slots cursor data_columns w) (take k xs)) (flat_map slot_bytes (drop k xs) ++ rest)) none
      ∙ back_over (stripe_slots cursor data_columns w) (λ s. take (s * w) xs) (λ s. flat_map slot_bytes (drop (s * w) xs)) z rest (λ s ls. row s ls rest) z 0 (omega arith)
      ∙ ap₂ (λ a b. at a b) (take_all (z * w) xs last) (ap (λ k. flat_map slot_bytes (drop k xs) ++ rest) whole ∙ ap (λ y. flat_map slot_bytes y ++ rest) (drop-length xs)))
    where
      at : List SlotState → List ℕ → Result (List SlotState × List ℕ) ℕ
      at a b = Ok (a, b)

  slots_back : Back (slots cursor data_columns w z) (flat_map slot_bytes xs) xs
  slots_back = record { read = slots_read }

-- THE RULES OF A TABLE ALLOW ITS SLOTS

late_allowed : (late parity here past first_column first before void : Bool) → late ≡ true → void ≡ true → allowed_by late parity here past first_column first before void ≡ true
late_allowed true parity here past first_column first before void e v = v
late_allowed false parity here past first_column first before void e v = absurd ((cc))

parity_allowed : (late parity here past first_column first before void : Bool) → late ≡ false → parity ≡ true → void ≡ first → allowed_by late parity here past first_column first before void ≡ true
parity_allowed true parity here past first_column first before void e p v = absurd ((cc))
parity_allowed false false here past first_column first before void e p v = absurd ((cc))
parity_allowed false true here past first_column true before true e p v = refl
parity_allowed false true here past first_column false before false e p v = refl
parity_allowed false true here past first_column true before false e p v = absurd ((cc))
parity_allowed false true here past first_column false before true e p v = absurd ((cc))

here_allowed : (late parity here past first_column first before void : Bool) → late ≡ false → parity ≡ false → here ≡ true → void ≡ past → allowed_by late parity here past first_column first before void ≡ true
here_allowed true parity here past first_column first before void e p q v = absurd ((cc))
here_allowed false true here past first_column first before void e p q v = absurd ((cc))
here_allowed false false false past first_column first before void e p q v = absurd ((cc))
here_allowed false false true true first_column first before true e p q v = refl
here_allowed false false true false first_column first before false e p q v = refl
here_allowed false false true true first_column first before false e p q v = absurd ((cc))
here_allowed false false true false first_column first before true e p q v = absurd ((cc))

early_allowed : (late parity here past first_column first before void : Bool) → late ≡ false → parity ≡ false → here ≡ false → (first_column ≡ false → before ≡ true → void ≡ true) → allowed_by late parity here past first_column first before void ≡ true
early_allowed true parity here past first_column first before void e p q v = absurd ((cc))
early_allowed false true here past first_column first before void e p q v = absurd ((cc))
early_allowed false false true past first_column first before void e p q v = absurd ((cc))
early_allowed false false false past true first before void e p q v = refl
early_allowed false false false past false first false void e p q v = refl
early_allowed false false false past false first true void e p q v = v refl refl

module _ (t : Table) (is : IsTable t) where
  cases : (a b : ℕ) → (a < b) ⊎ (b ≤ a)
  cases a b = grind arith

  above : (c : ℕ) → c < t.data_columns → nat_le t.data_columns c ≡ false
  above c l = grind (arith, nat_tests)

  positive : (c : ℕ) → c == 0 ≡ false → 0 < c
  positive c e = grind (arith, nat_tests)

  first_slot : (s : ℕ) → slot_at t s 0 ≡ get_or t.slots (s * width t) Void
  first_slot s = (let e : s * width t + 0 ≡ s * width t = omega arith in ap (λ p. get_or t.slots p Void) e)

  previous : (s c : ℕ) → 0 < c → get_or t.slots (s * width t + c - 1) Void ≡ slot_at t s (c - 1)
  previous s c l = (let e : s * width t + c - 1 ≡ s * width t + (c - 1) = omega (arith, l) in ap (λ p. get_or t.slots p Void) e)

  is_allowed : (s c : ℕ) → s < t.stripes → c < width t → allows t.cursor t.data_columns (width t) t.slots s c (is_void (slot_at t s c)) ≡ true
  is_allowed s c ls lc = elim (cases t.cursor.stripe s) [
    | inl late ↦ late_allowed (nat_lt t.cursor.stripe s) (nat_le t.data_columns c) (s == t.cursor.stripe) (nat_le t.cursor.column c) (c == 0) (is_void (get_or t.slots (s * width t) Void)) (is_void (get_or t.slots (s * width t + c - 1) Void)) (is_void (slot_at t s c)) (lt-ltb _ _ late) (is.voids.after s c late ls lc)
    | inr early ↦ elim (cases c t.data_columns) [
      | inr parity ↦ parity_allowed (nat_lt t.cursor.stripe s) (nat_le t.data_columns c) (s == t.cursor.stripe) (nat_le t.cursor.column c) (c == 0) (is_void (get_or t.slots (s * width t) Void)) (is_void (get_or t.slots (s * width t + c - 1) Void)) (is_void (slot_at t s c)) (le-ltb _ _ early) (le-leb _ _ parity) (is.voids.parity s c ls parity lc ∙ ap is_void (first_slot s))
      | inl data_column ↦ elim (cases s t.cursor.stripe) [
        | inr at ↦ (let e : s ≡ t.cursor.stripe = omega (arith, at, early) in here_allowed (nat_lt t.cursor.stripe s) (nat_le t.data_columns c) (s == t.cursor.stripe) (nat_le t.cursor.column c) (c == 0) (is_void (get_or t.slots (s * width t) Void)) (is_void (get_or t.slots (s * width t + c - 1) Void)) (is_void (slot_at t s c)) (le-ltb _ _ early) (above c data_column) (eq-eqb _ _ e)
            (ap (λ r. is_void (slot_at t r c)) e ∙ is.voids.cursor c (omega (arith, ls, e)) data_column))
        | inl before ↦ early_allowed (nat_lt t.cursor.stripe s) (nat_le t.data_columns c) (s == t.cursor.stripe) (nat_le t.cursor.column c) (c == 0) (is_void (get_or t.slots (s * width t) Void)) (is_void (get_or t.slots (s * width t + c - 1) Void)) (is_void (slot_at t s c)) (le-ltb _ _ early) (above c data_column) (ne_eqb s t.cursor.stripe (λ e. omega (arith, e, before)))
            (λ n v. (let l = positive c n in is.voids.first s (c - 1) c ls (omega arith) data_column (ap is_void (sym (previous s c l)) ∙ v)))
      ]
    ]
  ]

-- THE TABLES

cursor_back : (rack : Rack) (c : Cursor) → rack.stripes ≤ 4096 → c.stripe ≤ rack.stripes → c.column < rack.columns → (c.stripe ≡ rack.stripes → c.column ≡ 0) → Back (cursor rack) (cursor_bytes c) c
unfolding cursor
cursor_back rack c small ls lc behind =
    (back_then (natural 4 (at_most rack.stripes)) _ (big_bytes 4 c.stripe) (c.column ∷ 0 ∷ 0 ∷ 0 ∷ []) c.stripe c (back_number 4 (at_most rack.stripes) c.stripe (omega (arith, small, ls)) (le-leb _ _ ls))
    (back_then (natural 1 (λ n. between 0 (rack.columns - 1) n && is_cursor rack c.stripe n)) _ (c.column ∷ []) (0 ∷ 0 ∷ 0 ∷ []) c.column c (back_byte _ c.column (and_from _ _ (is_between 0 (rack.columns - 1) c.column (omega arith) (omega (arith, lc))) at))
    (back_end (zeros 3) (λ padding. record { stripe = c.stripe; column = c.column }) (0 ∷ 0 ∷ 0 ∷ []) 0 (back_number 3 (λ n. n == 0) 0 (omega arith) refl))))
  where
    cases : (a b : ℕ) → (a < b) ⊎ (b ≤ a)
    cases a b = grind arith

    left : (a b : Bool) → a ≡ true → a || b ≡ true
    left true b e = refl
    left false b e = absurd ((cc))

    right : (a b : Bool) → b ≡ true → a || b ≡ true
    right true b e = refl
    right false b e = e

    at : is_cursor rack c.stripe c.column ≡ true
    at = elim (cases c.stripe rack.stripes) [
      | inl l ↦ left (nat_lt c.stripe rack.stripes) (c.column == 0) (lt-ltb _ _ l)
      | inr l ↦ right (nat_lt c.stripe rack.stripes) (c.column == 0) (eq-eqb _ _ (behind (omega (arith, l, ls))))
    ]

abbrev made : ℕ → ℕ → ℕ → Cursor → List Column → List SlotState → List Relay → Table
made d p z c cs ss rs = record { data_columns = d; parity = p; stripes = z; cursor = c; columns = cs; slots = ss; relays = rs }

upto_within : (stripes : ℕ) (home : ℕ) (o : Option Moving) → IfSome o (λ m. (m.to ≢ home) × (m.upto ≤ stripes)) → IfSome o (λ m. m.upto ≤ stripes)
upto_within stripes home None h = tt
upto_within stripes home (Some m) h = h.1

table_back : (rack : Rack) (taken : List ℕ) (t : Table) → IsRack rack → FitsTable rack t → AreFree taken (archives_in t) → ((i : ℕ) → i < length t.slots → HasSlotDigest (get_or t.slots i Void)) → Back (table rack taken) (table_bytes t) t
unfolding table table_bytes
table_back rack taken t rules fits free digests =
    (back_as _ (cursor_bytes t.cursor ++ (flat_map column_bytes t.columns ++ flat_map slot_bytes t.slots)) _ t (sym (append_assoc (cursor_bytes t.cursor) (flat_map column_bytes t.columns) (flat_map slot_bytes t.slots)))
    (back_then (cursor rack) _ (cursor_bytes t.cursor) _ t.cursor t (cursor_back rack t.cursor rules.stripes.1 (subst (λ z. t.cursor.stripe ≤ z) fits.stripes fits.rules.cursor.stripe) (subst (λ d. t.cursor.column < d) fits.data_columns fits.rules.cursor.column) (λ e. fits.rules.cursor.behind (e ∙ sym fits.stripes)))
    (back_then (columns (rack.columns + rack.parity) rack.stripes taken) _ (flat_map column_bytes t.columns) (flat_map slot_bytes t.slots) t.columns t (columns_back (rack.columns + rack.parity) rack.stripes taken t.columns rules.stripes.1 (fits.rules.size.columns ∙ wide) free within)
    (subst (λ u. Back (slots t.cursor rack.columns (rack.columns + rack.parity) rack.stripes >>= λ ss. done (table_of rack.stripes t.cursor t.columns ss rack.parity)) (flat_map slot_bytes t.slots) u) same
    (back_end (slots t.cursor rack.columns (rack.columns + rack.parity) rack.stripes) (λ ss. table_of rack.stripes t.cursor t.columns ss rack.parity) (flat_map slot_bytes t.slots) t.slots
    (subst (λ d. Back (slots t.cursor d (rack.columns + rack.parity) rack.stripes) (flat_map slot_bytes t.slots) t.slots) fits.data_columns
    (subst (λ w. Back (slots t.cursor t.data_columns w rack.stripes) (flat_map slot_bytes t.slots) t.slots) wide
    (subst (λ z. Back (slots t.cursor t.data_columns (width t) z) (flat_map slot_bytes t.slots) t.slots) fits.stripes
    (slots_back t.cursor t.data_columns (width t) t.stripes t.slots fits.rules.size.data_columns.0 fits.rules.size.slots digests (is_allowed t fits.rules))))))))))
  where
    wide : width t ≡ rack.columns + rack.parity
    wide = ap₂ (λ a b. a + b) fits.data_columns fits.parity

    within : (c : ℕ) → c < rack.columns + rack.parity → IsWithin rack.stripes (get_or t.columns c no_column)
    within c l = subst (λ z. IsWithin z (get_or t.columns c no_column)) fits.stripes (upto_within t.stripes (column_at t c).home (column_at t c).moving (fits.rules.columns.target c (omega (arith, l, wide))))

    narrow : length t.columns - rack.parity ≡ t.data_columns
    narrow = (let a = fits.rules.size.columns in let b = fits.parity in omega (arith, a, b))

    same : table_of rack.stripes t.cursor t.columns t.slots rack.parity ≡ t
    same = ap (λ d. made d rack.parity rack.stripes t.cursor t.columns t.slots []) narrow ∙ ap₂ (λ p z. made t.data_columns p z t.cursor t.columns t.slots []) (sym fits.parity) (sym fits.stripes) ∙ ap (λ rs. made t.data_columns t.parity t.stripes t.cursor t.columns t.slots rs) (sym fits.relays)

no_table : Table
no_table = made 0 0 0 (record { stripe = 0; column = 0 }) [] [] []

pub tables_back : (rack : Rack) (ts : List Table) → IsRack rack → AreTables rack ts → All HaveDigests ts → Back (tables rack) (flat_map table_bytes ts) ts
unfolding tables
tables_back rack ts rules are digests =
    (back_several (table_behind rack) table_bytes ts no_table rack.groups are.count (λ i l. (let below : i < length ts = (let n = are.count in omega (arith, l, n)) in
    table_back rack (flat_map archives_in (take i ts)) (get_or ts i no_table) rules (are.fits i no_table below) (free_behind archives_in ts [] i no_table below (free_of_archives (flat_map archives_in ts) are.archives)) (λ k lk. digests i no_table below k Void lk))))
