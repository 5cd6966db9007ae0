-- The lists of an index, seen as its plain data, after each entry.
use Rattle.std.proofs.Common.{◌≡◌, ◌+◌, ◌<◌, ◌≤◌, ℕ, suc, Bool, true, false, List, [], ◌∷◌, ◌++◌, length, map, Some, None, Vec, refl, sym, ap, subst, ◌∙◌, append-nil, arith}
use Rattle.std.specs.Prelude.{if◌then◌else◌, filter, vec_capacity}
use Rattle.std.specs.declared.snapshot.Snapshot.{Snapshot}
use Rattle.std.proofs.lemmas.List.{length_push, length-map, map_push}
use Rattle.std.proofs.lemmas.List.Elements.{filter-append}
use Rattle.std.specs.Global.{Global}
use Rattle.pot_bytes.specs.declared.rack.Rack.{Rack}
use Rattle.pot_bytes.specs.Rack.{log_bound}
use Rattle.pot_index.specs.declared.entry.IndexEntry.{IndexEntry}
use Rattle.pot_index.specs.declared.entry.IndexEntry.TheVariants.{Taken, Find, Listed, Often}
use Rattle.pot_index.specs.declared.entry.Logged.{Logged}
use Rattle.pot_index.specs.declared.record.Record.{Record}
use Rattle.pot_index.specs.declared.reservation.Reservation.{Reservation}
use Rattle.pot_index.specs.Entries.{ChangesNoName, brings, plain, bringing, with_brought}
use Rattle.pot_index.specs.Room.{HasAllRoom, values}
use Rattle.pot_index.specs.Index.{Names, IndexView, after_entry, logged}

-- ENTRIES WITH WHAT THEY BROUGHT

length_either : {X : Type 0} (b : Bool) (xs ys : List X) (n : ℕ) → length xs ≡ n → length ys ≡ n → length (if b then xs else ys) ≡ n
length_either true xs ys n p q = p
length_either false xs ys n p q = q

pub length-with_brought : (es : List IndexEntry) (rs : List Record) → length (with_brought es rs) ≡ length es
unfolding with_brought
length-with_brought [] rs = refl
length-with_brought (e ∷ es) [] = ap suc (length-with_brought es [])
length-with_brought (e ∷ es) (r ∷ rs) =
    length_either (brings e) (bringing e r ∷ with_brought es rs) (plain e ∷ with_brought es (r ∷ rs)) (length (e ∷ es))
    (ap suc (length-with_brought es rs)) (ap suc (length-with_brought es (r ∷ rs)))

-- the entry that each element of either list has
either_entries : (b : Bool) (e : IndexEntry) (r : Record) (xs ys : List Logged) (es : List IndexEntry) → map (λ x. x.entry) xs ≡ es → map (λ x. x.entry) ys ≡ es
    → map (λ x. x.entry) (if b then bringing e r ∷ xs else plain e ∷ ys) ≡ e ∷ es
either_entries true e r xs ys es p q = ap (λ (t : List IndexEntry). e ∷ t) p
either_entries false e r xs ys es p q = ap (λ (t : List IndexEntry). e ∷ t) q

pub entries-with_brought : (es : List IndexEntry) (rs : List Record) → map (λ x. x.entry) (with_brought es rs) ≡ es
unfolding with_brought
entries-with_brought [] rs = refl
entries-with_brought (e ∷ es) [] = ap (λ (t : List IndexEntry). e ∷ t) (entries-with_brought es [])
entries-with_brought (e ∷ es) (r ∷ rs) =
    either_entries (brings e) e r (with_brought es rs) (with_brought es (r ∷ rs)) es (entries-with_brought es rs) (entries-with_brought es (r ∷ rs))

either_push : (b : Bool) (u v u' v' : List Logged) (y : Logged) → u ≡ u' ++ y ∷ [] → v ≡ v' ++ y ∷ [] → (if b then u else v) ≡ (if b then u' else v') ++ y ∷ []
either_push true u v u' v' y p q = p
either_push false u v u' v' y p q = q

plain_alone : (b : Bool) (e : IndexEntry) (r : Record) (xs : List Logged) → b ≡ false → (if b then bringing e r ∷ xs else plain e ∷ []) ≡ plain e ∷ []
plain_alone true e r xs h = absurd (cc)
plain_alone false e r xs h = refl

-- one more entry that brings nothing
pub push_plain : (es : List IndexEntry) (rs : List Record) (e : IndexEntry) → brings e ≡ false → with_brought (es ++ e ∷ []) rs ≡ with_brought es rs ++ plain e ∷ []
unfolding with_brought
push_plain [] [] e h = refl
push_plain [] (r ∷ rs) e h = plain_alone (brings e) e r [] h
push_plain (x ∷ es) [] e h = ap (λ (t : List Logged). plain x ∷ t) (push_plain es [] e h)
push_plain (x ∷ es) (r ∷ rs) e h =
    either_push (brings x) _ _ (bringing x r ∷ with_brought es rs) (plain x ∷ with_brought es (r ∷ rs)) (plain e)
    (ap (λ (t : List Logged). bringing x r ∷ t) (push_plain es rs e h)) (ap (λ (t : List Logged). plain x ∷ t) (push_plain es (r ∷ rs) e h))

bringing_alone : (b : Bool) (e : IndexEntry) (r : Record) (ys : List Logged) → b ≡ true → (if b then bringing e r ∷ [] else ys) ≡ bringing e r ∷ []
bringing_alone true e r ys h = refl
bringing_alone false e r ys h = absurd (cc)

none_brought : (b : Bool) (x : IndexEntry) (r : Record) (us ws : List Logged) (vs : List IndexEntry) (y : Logged) → 0 ≡ length (if b then x ∷ vs else vs)
    → (0 ≡ length vs → us ≡ ws ++ y ∷ []) → (zs : List Logged) → (if b then bringing x r ∷ zs else plain x ∷ us) ≡ plain x ∷ (ws ++ y ∷ [])
none_brought true x r us ws vs y few go zs = absurd (omega arith)
none_brought false x r us ws vs y few go zs = ap (λ (t : List Logged). plain x ∷ t) (go few)

some_brought : (b : Bool) (x : IndexEntry) (s : Record) (n : ℕ) (vs : List IndexEntry) (us ws us' ws' : List Logged) (y : Logged) → suc n ≡ length (if b then x ∷ vs else vs)
    → (n ≡ length vs → us ≡ ws ++ y ∷ []) → (suc n ≡ length vs → us' ≡ ws' ++ y ∷ [])
    → (if b then bringing x s ∷ us else plain x ∷ us') ≡ (if b then bringing x s ∷ ws else plain x ∷ ws') ++ y ∷ []
some_brought true x s n vs us ws us' ws' y few go on = ap (λ (t : List Logged). bringing x s ∷ t) (go (omega arith))
some_brought false x s n vs us ws us' ws' y few go on = ap (λ (t : List Logged). plain x ∷ t) (on few)

-- one more that brings a record
pub push_bringing : (es : List IndexEntry) (rs : List Record) (e : IndexEntry) (r : Record) → brings e ≡ true → length rs ≡ length (filter brings es)
    → with_brought (es ++ e ∷ []) (rs ++ r ∷ []) ≡ with_brought es rs ++ bringing e r ∷ []
unfolding with_brought
push_bringing [] [] e r h few = bringing_alone (brings e) e r (plain e ∷ []) h
push_bringing [] (s ∷ rs) e r h few = absurd (omega arith)
push_bringing (x ∷ es) [] e r h few =
    none_brought (brings x) x r (with_brought (es ++ e ∷ []) (r ∷ [])) (with_brought es []) (filter brings es) (bringing e r) few
    (λ none. push_bringing es [] e r h none) (with_brought (es ++ e ∷ []) [])
push_bringing (x ∷ es) (s ∷ rs) e r h few =
    some_brought (brings x) x s (length rs) (filter brings es) (with_brought (es ++ e ∷ []) (rs ++ r ∷ [])) (with_brought es rs) (with_brought (es ++ e ∷ []) (s ∷ (rs ++ r ∷ []))) (with_brought es (s ∷ rs)) (bringing e r) few
    (λ fewer. push_bringing es rs e r h fewer) (λ as_many. push_bringing es (s ∷ rs) e r h as_many)

-- THE PLAIN DATA

abbrev pub plain_view : Rack → List Record → List Record → List Reservation → List IndexEntry → List Record → IndexView
plain_view rack read records reserved es rs = record { rack = rack; read = read; now = record { published = records; reserved = reserved }; log = with_brought es rs }

-- how long its log is
pub log_is : (v : IndexView) (rack : Rack) (read records : List Record) (reserved : List Reservation) (es : List IndexEntry) (rs : List Record) → plain_view rack read records reserved es rs ≡ v → length v.log ≡ length es
log_is v rack read records reserved es rs is = ap (λ (w : IndexView). length w.log) (sym is) ∙ length-with_brought es rs

pub reserved_is : (v : IndexView) (rack : Rack) (read records : List Record) (reserved : List Reservation) (es : List IndexEntry) (rs : List Record) → plain_view rack read records reserved es rs ≡ v → length v.now.reserved ≡ length reserved
reserved_is v rack read records reserved es rs is = ap (λ (w : IndexView). length w.now.reserved) (sym is)

-- after an entry that brings nothing
pub went_on : (v : IndexView) (rack : Rack) (read records records' : List Record) (reserved reserved' : List Reservation) (es : List IndexEntry) (rs : List Record) (e : IndexEntry)
    → plain_view rack read records reserved es rs ≡ v → brings e ≡ false
    → record { published = records'; reserved = reserved' } ≡ after_entry (record { published = records; reserved = reserved }) e None
    → plain_view rack read records' reserved' (es ++ e ∷ []) rs ≡ logged v (plain e)
went_on v rack read records records' reserved reserved' es rs e is quiet now_is =
    subst (λ (w : IndexView). plain_view rack read records' reserved' (es ++ e ∷ []) rs ≡ logged w (plain e)) is
    (λ i. record { rack = rack; read = read; now = now_is i; log = push_plain es rs e quiet i })

-- after an entry that brings a record
pub went_on_with : (v : IndexView) (rack : Rack) (read records records' : List Record) (reserved reserved' : List Reservation) (es : List IndexEntry) (rs : List Record) (e : IndexEntry) (r : Record)
    → plain_view rack read records reserved es rs ≡ v → brings e ≡ true → length rs ≡ length (filter brings es)
    → record { published = records'; reserved = reserved' } ≡ after_entry (record { published = records; reserved = reserved }) e (Some r)
    → plain_view rack read records' reserved' (es ++ e ∷ []) (rs ++ r ∷ []) ≡ logged v (bringing e r)
went_on_with v rack read records records' reserved reserved' es rs e r is brought few now_is =
    subst (λ (w : IndexView). plain_view rack read records' reserved' (es ++ e ∷ []) (rs ++ r ∷ []) ≡ logged w (bringing e r)) is
    (λ i. record { rack = rack; read = read; now = now_is i; log = push_bringing es rs e r brought few i })

pub quiet_brings : (e : IndexEntry) → ChangesNoName e → brings e ≡ false
quiet_brings (Taken job name) q = refl
quiet_brings (Find job name found) q = refl
quiet_brings (Listed job) q = refl
quiet_brings (Often job name) q = refl
quiet_brings _ q = absurd q

pub quiet_stays : (n : Names) (e : IndexEntry) → ChangesNoName e → n ≡ after_entry n e None
quiet_stays n (Taken job name) q = refl
quiet_stays n (Find job name found) q = refl
quiet_stays n (Listed job) q = refl
quiet_stays n (Often job name) q = refl
quiet_stays n _ q = absurd q

-- ROOM

pub plain_room : (records records' : Vec Record Global) (reserved reserved' : Vec Reservation Global) (log log' : Vec IndexEntry Global) (brought : Vec (Snapshot Record) Global) (e : IndexEntry)
    → HasAllRoom records reserved log brought → log'.items ≡ log.items ++ e ∷ [] → brings e ≡ false → vec_capacity log' ≡ vec_capacity log
    → length records'.items + length reserved'.items ≤ vec_capacity records' → HasAllRoom records' reserved' log' brought
plain_room records records' reserved reserved' log log' brought e room is quiet same fits = record {
  records_room = fits;
  log_room = omega (arith, room.log_room);
  brought_room = room.brought_room;
  each = room.each ∙ sym (ap (λ (t : List IndexEntry). length (filter brings t)) is ∙ ap length (filter-append brings log.items (e ∷ [])) ∙ length_none (brings e) (filter brings log.items) quiet);
}
  where
    length_none : (b : Bool) (xs : List IndexEntry) → b ≡ false → length (xs ++ (if b then e ∷ [] else [])) ≡ length xs
    length_none true xs h = absurd (cc)
    length_none false xs h = ap length (append-nil xs)

pub bringing_room : (records records' : Vec Record Global) (reserved reserved' : Vec Reservation Global) (log log' : Vec IndexEntry Global) (brought brought' : Vec (Snapshot Record) Global) (e : IndexEntry) (r : Snapshot Record)
    → HasAllRoom records reserved log brought → log'.items ≡ log.items ++ e ∷ [] → brought'.items ≡ brought.items ++ r ∷ [] → brings e ≡ true
    → vec_capacity log' ≡ vec_capacity log → vec_capacity brought' ≡ vec_capacity brought
    → length records'.items + length reserved'.items ≤ vec_capacity records' → HasAllRoom records' reserved' log' brought'
bringing_room records records' reserved reserved' log log' brought brought' e r room is brought_is brought_one same same_brought fits = record {
  records_room = fits;
  log_room = omega (arith, room.log_room);
  brought_room = omega (arith, room.brought_room);
  each = ap length brought_is ∙ length_push brought.items r ∙ ap (λ (n : ℕ). n + 1) room.each
      ∙ sym (ap (λ (t : List IndexEntry). length (filter brings t)) is ∙ ap length (filter-append brings log.items (e ∷ [])) ∙ length_one (brings e) (filter brings log.items) brought_one);
}
  where
    length_one : (b : Bool) (xs : List IndexEntry) → b ≡ true → length (xs ++ (if b then e ∷ [] else [])) ≡ length xs + 1
    length_one true xs h = length_push xs e
    length_one false xs h = absurd (cc)

pub wider_room : (records records' : Vec Record Global) (reserved reserved' : Vec Reservation Global) (log : Vec IndexEntry Global) (brought : Vec (Snapshot Record) Global)
    → HasAllRoom records reserved log brought → records'.items ≡ records.items → reserved'.items ≡ reserved.items → vec_capacity records ≤ vec_capacity records' → HasAllRoom records' reserved' log brought
wider_room records records' reserved reserved' log brought room is still wider = record {
  records_room = omega (arith, room.records_room, ap length is, ap length still);
  log_room = room.log_room;
  brought_room = room.brought_room;
  each = room.each;
}

length-filter_le : (es : List IndexEntry) → length (filter brings es) ≤ length es
length-filter_le [] = omega arith
length-filter_le (e ∷ es) = by (brings e) (length-filter_le es)
  where
    by : (b : Bool) → length (filter brings es) ≤ length es → length (if b then e ∷ filter brings es else filter brings es) ≤ length (e ∷ es)
    by true go = omega arith
    by false go = omega arith

pub brought_fits : (records : Vec Record Global) (reserved : Vec Reservation Global) (log : Vec IndexEntry Global) (brought : Vec (Snapshot Record) Global)
    → HasAllRoom records reserved log brought → length log.items < log_bound → length brought.items < vec_capacity brought
brought_fits records reserved log brought room lt = omega (arith, room.brought_room, room.each, length-filter_le log.items)

-- the values of one more snapshot
pub values_grown : (ss ss' : List (Snapshot Record)) (s : Snapshot Record) (r : Record) → ss' ≡ ss ++ s ∷ [] → s.value ≡ r → values ss' ≡ values ss ++ r ∷ []
values_grown ss ss' s r grown is =
    ap (λ (t : List (Snapshot Record)). values t) grown ∙ map_push (λ (x : Snapshot Record). x.value) ss s ∙ ap (λ (x : Record). values ss ++ x ∷ []) is

pub length-values : (records : Vec Record Global) (reserved : Vec Reservation Global) (log : Vec IndexEntry Global) (brought : Vec (Snapshot Record) Global)
    → HasAllRoom records reserved log brought → length (values brought.items) ≡ length (filter brings log.items)
length-values records reserved log brought room = length-map brought.items (λ (x : Snapshot Record). x.value) ∙ room.each
