-- Logs that were read are spelled by their values.
use Rattle.std.proofs.Common.{◌≡◌, ◌≢◌, ◌≤◌, ◌<◌, eq-eqb, ℕ, ◌+◌, ◌-◌, ◌==◌, nat_le, Bool, true, false, if◌then◌else◌, List, [], ◌∷◌, ◌++◌, flat_map, sym, subst, refl, arith}
use Rattle.std.proofs.lemmas.Bool.{eqb-true, leb-true, leb-false, and_parts}
use Rattle.byteorder.specs.Endian.{big_bytes}
use Rattle.pot_bytes.specs.declared.rack.Rack.{Rack}
use Rattle.pot_machine.specs.declared.entry.Entry.{Entry}
use Rattle.pot_machine.specs.declared.entry.Entry.TheVariants.{Put, Mended, GaveUp, Stuck, MoveBegin, Swapped, Put2}
use Rattle.pot_index.specs.declared.entry.IndexEntry.{IndexEntry}
use Rattle.pot_index.specs.declared.entry.IndexEntry.TheVariants.{Listed, Often}
use Rattle.pot_image.specs.declared.format.Format.{Format}
use Rattle.pot_image.specs.declared.format.Format.TheVariants.{First, Second}
use Rattle.pot_image.specs.Fields.{Grammar, done}
use Rattle.pot_image.specs.Reading.{◌>>=◌}
use Rattle.pot_index.specs.Records.{name_bytes}
use Rattle.pot_image.specs.Numbers.{any, at_most, between}
use Rattle.pot_image.specs.Logs.{stripe, column, place, of_two_columns, of_archive, of_put, of_two_puts, placed, entry_of, kinds, entry, entry_behind, group_log, group_log_behind, group_logs, behind_name, index_entry_of, index_kinds, index_entry, index_entry_behind, index_log}
use Rattle.pot_image.specs.Spelling.{lead_bytes, place_bytes, entry_bytes, index_entry_bytes, counted_bytes}
use Rattle.pot_image.proofs.RecordSpelled.{name_spelled}
use Rattle.pot_image.proofs.Spelled.{Spelled, Behind, NoMore, spelled, behind_done, behind_then, spelled_byte, spelled_4, spelled_flag, spelled_digest, behind_several, spelled_counted}

-- a choice by the kind
by_kind : {X : Type 0} (P : ℕ → X → Type 0) (kind k : ℕ) (x y : X) → P k x → (kind ≢ k → P kind y) → P kind (if kind == k then x else y)
by_kind {X} P kind k x y here other = by_test (kind == k) refl
  where
    by_test : (t : Bool) → kind == k ≡ t → P kind (if t then x else y)
    by_test true e = subst (λ n. P n x) (sym (eqb-true kind k e)) here
    by_test false e = other (λ same. (let t : kind == k ≡ true = eq-eqb kind k same in cc))

behind_test : {X : Type 0} (front : List ℕ) (t : Bool) (g h : Grammar X) (write : X → List ℕ) → (t ≡ true → Behind front g write) → (t ≡ false → Behind front h write) → Behind front (if t then g else h) write
behind_test front true g h write here other = here refl
behind_test front false g h write here other = other refl

limits : (most kind : ℕ) → between 1 most kind ≡ true → (1 ≤ kind) × (kind ≤ most)
limits most kind e = (let both = and_parts (nat_le 1 kind) (nat_le kind most) e in (leb-true 1 kind both.0, leb-true kind most both.1))

-- ENTRIES OF A GROUP'S LOG

module _ (rack : Rack) where
  stripe_spelled : Spelled (stripe rack) (big_bytes 4) (λ s. at_most (rack.stripes - 1) s ≡ true)
  stripe_spelled = spelled_4 (at_most (rack.stripes - 1))

  column_spelled : Spelled (column rack) (λ c. c ∷ []) (λ c. between 0 (rack.columns + rack.parity - 1) c ≡ true)
  column_spelled = spelled_byte (between 0 (rack.columns + rack.parity - 1))

  place_spelled : Spelled (place rack) (λ p. place_bytes p.0 p.1) NoMore
  place_spelled = spelled _ _
      (behind_then [] _ _ _ _ _ stripe_spelled (λ s a.
      behind_then _ _ _ _ _ _ column_spelled (λ c b. behind_done _ _ _ refl)))

  -- behind a stripe and a column
  at_place : (kind job : ℕ) (next : ℕ × ℕ → Grammar Entry) → ((s c : ℕ) → Behind (lead_bytes kind job ++ place_bytes s c) (next (s, c)) entry_bytes)
      → Behind (lead_bytes kind job) (place rack >>= next) entry_bytes
  at_place kind job next h = behind_then _ _ _ _ _ _ place_spelled (λ p a. h p.0 p.1)

  placed_text : (kind job s c : ℕ) → 3 ≤ kind → kind ≤ 9 → lead_bytes kind job ++ place_bytes s c ≡ entry_bytes (placed kind job s c)
  unfolding entry_bytes
  placed_text kind job s c l m =
      (by_kind Is kind 3 _ _ refl (λ n3.
      by_kind Is kind 4 _ _ refl (λ n4.
      by_kind Is kind 5 _ _ refl (λ n5.
      by_kind Is kind 6 _ _ refl (λ n6.
      by_kind Is kind 7 _ _ refl (λ n7.
      by_kind Is kind 8 _ _ refl (λ n8.
      subst (λ n. Is n (Mended job s c)) (the_last n3 n4 n5 n6 n7 n8) refl)))))))
    where
      Is : ℕ → Entry → Type 0
      Is n e = lead_bytes n job ++ place_bytes s c ≡ entry_bytes e

      the_last : kind ≢ 3 → kind ≢ 4 → kind ≢ 5 → kind ≢ 6 → kind ≢ 7 → kind ≢ 8 → 9 ≡ kind
      the_last a b c d e f = omega arith

  two_columns_spelled : (kind job : ℕ) (make : ℕ → ℕ → ℕ → Entry) → ((s c other : ℕ) → lead_bytes kind job ++ place_bytes s c ++ other ∷ [] ≡ entry_bytes (make s c other))
      → Behind (lead_bytes kind job) (of_two_columns rack make) entry_bytes
  two_columns_spelled kind job make same =
      at_place kind job _ (λ s c.
      behind_then _ _ _ _ _ _ column_spelled (λ other a. behind_done _ _ _ (same s c other)))

  move_spelled : (kind job : ℕ) (make : ℕ → ℕ → Entry) → ((c to : ℕ) → lead_bytes kind job ++ c ∷ [] ++ big_bytes 4 to ≡ entry_bytes (make c to))
      → Behind (lead_bytes kind job) (of_archive rack make) entry_bytes
  move_spelled kind job make same =
      behind_then _ _ _ _ _ _ column_spelled (λ c a.
      behind_then _ _ _ _ _ _ (spelled_4 (at_most 511)) (λ to b. behind_done _ _ _ (same c to)))

  entry_of_spelled : (job kind : ℕ) → 1 ≤ kind → kind ≤ 18 → Behind (lead_bytes kind job) (entry_of rack job kind) entry_bytes
  unfolding entry_of entry_bytes
  entry_of_spelled job kind least most =
      (by_kind Is kind 1 _ _ put (λ a.
      by_kind Is kind 2 _ _ (behind_then _ _ _ _ _ _ stripe_spelled (λ s t. behind_done _ _ _ refl)) (λ b.
      behind_test (lead_bytes kind job) (nat_le kind 9) _ _ entry_bytes
      (λ low. at_place kind job _ (λ s c. behind_done _ _ _ (placed_text kind job s c (omega arith) (leb-true kind 9 low))))
      (λ high.
      by_kind Is kind 10 _ _ (two_columns_spelled 10 job (GaveUp job) (λ s c other. refl)) (λ d.
      by_kind Is kind 11 _ _ (at_place 11 job _ (λ s c. behind_then _ _ _ _ _ _ spelled_digest (λ found t. behind_done _ _ _ refl))) (λ e.
      by_kind Is kind 12 _ _ (two_columns_spelled 12 job (Stuck job) (λ s c other. refl)) (λ f.
      by_kind Is kind 13 _ _ (move_spelled 13 job (MoveBegin job) (λ c to. refl)) (λ g.
      by_kind Is kind 14 _ _ (at_place 14 job _ (λ s c. behind_then _ _ _ _ _ _ spelled_flag (λ copied t. behind_done _ _ _ refl))) (λ h.
      by_kind Is kind 15 _ _ (behind_then _ _ _ _ _ _ column_spelled (λ c t. behind_done _ _ _ refl)) (λ i.
      by_kind Is kind 16 _ _ (move_spelled 16 job (Swapped job) (λ c to. refl)) (λ j.
      by_kind Is kind 17 _ _ (behind_done _ _ _ refl) (λ k.
      subst (λ n. Is n (of_two_puts rack (Put2 job))) (the_last (leb-false kind 9 high) d e f g h i j k) two_puts))))))))))))
    where
      Is : ℕ → Grammar Entry → Type 0
      Is n g = Behind (lead_bytes n job) g entry_bytes

      put : Is 1 (of_put rack (Put job))
      put = at_place 1 job _ (λ s c.
          behind_then _ _ _ _ _ _ spelled_digest (λ d t.
          behind_then _ _ _ _ _ _ spelled_digest (λ p u.
          behind_then _ _ _ _ _ _ spelled_flag (λ kept v. behind_done _ _ _ refl))))

      two_puts : Is 18 (of_two_puts rack (Put2 job))
      two_puts = at_place 18 job _ (λ s c.
          behind_then _ _ _ _ _ _ spelled_digest (λ d t.
          behind_then _ _ _ _ _ _ spelled_digest (λ p u.
          behind_then _ _ _ _ _ _ spelled_digest (λ q v.
          behind_then _ _ _ _ _ _ spelled_flag (λ kept w.
          behind_then _ _ _ _ _ _ spelled_flag (λ kept2 x. behind_done _ _ _ refl))))))

      the_last : 9 < kind → kind ≢ 10 → kind ≢ 11 → kind ≢ 12 → kind ≢ 13 → kind ≢ 14 → kind ≢ 15 → kind ≢ 16 → kind ≢ 17 → 18 ≡ kind
      the_last l d e f g h i j k = omega arith

  entry_spelled : (format : Format) → Spelled (entry format rack) entry_bytes NoMore
  unfolding entry
  entry_spelled format = spelled _ _
      (behind_then [] _ _ _ _ _ (spelled_byte (between 1 (kinds format))) (λ kind is.
      behind_then _ _ _ _ _ _ (spelled_4 any) (λ job t.
      (let l = limits (kinds format) kind is in let few = most format in entry_of_spelled job kind l.0 (omega (arith, l.1, few))))))
    where
      most : (f : Format) → kinds f ≤ 18
      most First = omega arith
      most Second = omega arith

  log_spelled : (format : Format) → Spelled (group_log format rack) (counted_bytes entry_bytes) NoMore
  unfolding group_log
  log_spelled format = spelled_counted (at_most 262144) (entry_behind format rack) entry_bytes (λ i before. entry_spelled format)

  pub logs_spelled : (format : Format) → Spelled (group_logs format rack) (flat_map (counted_bytes entry_bytes)) NoMore
  unfolding group_logs
  logs_spelled format = spelled _ _ (behind_several (group_log_behind format rack) (counted_bytes entry_bytes) (λ i before. log_spelled format) rack.groups 0 [])

-- ENTRIES OF THE INDEX'S LOG

behind_name_spelled : (job kind : ℕ) (x : List ℕ) → 1 ≤ kind → kind ≤ 8 → kind ≢ 6 → Behind (lead_bytes kind job ++ name_bytes x) (behind_name job kind x) index_entry_bytes
unfolding behind_name index_entry_bytes
behind_name_spelled job kind x least most other =
    (by_kind Is kind 1 _ _ (behind_done _ _ _ refl) (λ a.
    by_kind Is kind 2 _ _ (behind_done _ _ _ refl) (λ b.
    by_kind Is kind 3 _ _ (behind_then _ _ _ _ _ _ spelled_digest (λ mark t. behind_done _ _ _ refl)) (λ c.
    by_kind Is kind 4 _ _ (behind_done _ _ _ refl) (λ d.
    by_kind Is kind 5 _ _ (behind_then _ _ _ _ _ _ spelled_flag (λ found t. behind_done _ _ _ refl)) (λ e.
    by_kind Is kind 7 _ _ (behind_then _ _ _ _ _ _ spelled_digest (λ mark t. behind_done _ _ _ refl)) (λ f.
    subst (λ n. Is n (done (Often job x))) (the_last a b c d e f) (behind_done _ _ _ refl))))))))
  where
    Is : ℕ → Grammar IndexEntry → Type 0
    Is n g = Behind (lead_bytes n job ++ name_bytes x) g index_entry_bytes

    the_last : kind ≢ 1 → kind ≢ 2 → kind ≢ 3 → kind ≢ 4 → kind ≢ 5 → kind ≢ 7 → 8 ≡ kind
    the_last a b c d e f = omega arith

index_entry_spelled : (format : Format) → Spelled (index_entry format) index_entry_bytes NoMore
unfolding index_entry index_entry_of index_entry_bytes
index_entry_spelled format = spelled _ _
    (behind_then [] _ _ _ _ _ (spelled_byte (between 1 (index_kinds format))) (λ kind is.
    behind_then _ _ _ _ _ _ (spelled_4 any) (λ job t.
    (let l = limits (index_kinds format) kind is in let few = most format in
    by_kind (λ n g. Behind (lead_bytes n job) g index_entry_bytes) kind 6 (done (Listed job)) _ (behind_done _ _ _ refl) (λ other.
    behind_then _ _ _ _ _ _ (name_spelled any) (λ x u. behind_name_spelled job kind x l.0 (omega (arith, l.1, few)) other))))))
  where
    most : (f : Format) → index_kinds f ≤ 8
    most First = omega arith
    most Second = omega arith

pub index_log_spelled : (format : Format) → Spelled (index_log format) (counted_bytes index_entry_bytes) NoMore
unfolding index_log
index_log_spelled format = spelled_counted (at_most 262144) (index_entry_behind format) index_entry_bytes (λ i before. index_entry_spelled format)
