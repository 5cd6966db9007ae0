-- The logs of an image are read back.
use Rattle.std.proofs.Common.{◌≡◌, ℕ, ◌+◌, ◌-◌, ◌<◌, ◌≤◌, ◌&&◌, All, List, [], ◌∷◌, ◌++◌, Bool, true, length, get_or, flat_map, ap, sym, refl, arith, append_assoc}
use Rattle.std.proofs.lemmas.List.Sums.{list_all-from_AllPass}
use Rattle.std.proofs.lemmas.Bool.{le-leb, and_from}
use Rattle.byteorder.specs.Endian.{big_bytes}
use Rattle.pot_bytes.specs.declared.rack.Rack.{Rack}
use Rattle.pot_bytes.specs.Rack.{IsRack}
use Rattle.pot_bytes.specs.Names.{IsName, is_name_byte}
use Rattle.pot_object.proofs.ReadLemmas.{spread}
use Rattle.pot_machine.specs.declared.entry.Entry.{Entry}
use Rattle.pot_machine.specs.declared.entry.Entry.TheVariants.{Put, Skip, Seen, Gone, Broke, Fault, Begin, Hop, Mended, GaveUp, Oddly, Stuck, MoveBegin, Moved, MoveEnd, Swapped, Counted, Put2}
use Rattle.pot_index.specs.declared.entry.IndexEntry.{IndexEntry}
use Rattle.pot_index.specs.declared.entry.IndexEntry.TheVariants.{Reserve, Taken, Publish, Abandon, Find, Listed, Renew, Often}
use Rattle.pot_index.specs.Records.{name_bytes}
use Rattle.pot_image.specs.declared.format.Format.TheVariants.{Second}
use Rattle.pot_image.specs.Fields.{Grammar, done}
use Rattle.pot_image.specs.Reading.{◌>>=◌}
use Rattle.pot_image.specs.Numbers.{natural, any, at_most, between, flag, digest}
use Rattle.pot_image.specs.Records.{is_name, name}
use Rattle.pot_image.specs.Logs.{stripe, column, place, archive, entry_of, kinds, entry, entry_behind, group_log, group_log_behind, group_logs, behind_name, index_entry_of, index_kinds, index_entry, index_entry_behind, index_log}
use Rattle.pot_image.specs.Spelling.{flag_bytes, lead_bytes, place_bytes, entry_bytes, index_entry_bytes, counted_bytes}
use Rattle.pot_image.specs.Rules.{IsJob, IsSpotOf, FitsEntry, FitsIndexEntry, IsLog}
use Rattle.pot_image.proofs.HeadBack.{is_between}
use Rattle.pot_image.proofs.ReadBack.{Back, back_done, back_then, back_end, back_as, back_number, back_byte, back_text, back_flag, back_digest, back_several}

pub name_back : (rule : List ℕ → Bool) (x : List ℕ) → IsName x → rule x ≡ true → Back (name rule) (name_bytes x) x
unfolding name
name_back rule x is e =
    (back_then (natural 1 (between 1 64)) _ (length x ∷ []) x (length x) x (back_byte (between 1 64) (length x) (is_between 1 64 (length x) is.some is.few))
    (back_text (length x) (λ y. is_name y && rule y) x refl (and_from _ _ (list_all-from_AllPass is_name_byte x is.each) e)))

-- ENTRIES OF A GROUP'S LOG

module _ (rack : Rack) (rules : IsRack rack) where
  stripe_back : (s : ℕ) → s < rack.stripes → Back (stripe rack) (big_bytes 4 s) s
  stripe_back s l = (let few = rules.stripes.1 in back_number 4 (at_most (rack.stripes - 1)) s (omega (arith, l, few)) (le-leb _ _ (omega (arith, l))))

  column_back : (c : ℕ) → c < rack.columns + rack.parity → Back (column rack) (c ∷ []) c
  column_back c l = back_byte (between 0 (rack.columns + rack.parity - 1)) c (is_between 0 (rack.columns + rack.parity - 1) c (omega arith) (omega (arith, l)))

  archive_back : (n : ℕ) → n ≤ 511 → Back archive (big_bytes 4 n) n
  archive_back n l = back_number 4 (at_most 511) n (omega (arith, l)) (le-leb _ _ l)

  lead_back : (job kind : ℕ) (y : List ℕ) (e : Entry) → 1 ≤ kind → kind ≤ 18 → IsJob job → Back (entry_of rack job kind) y e → Back (entry Second rack) (lead_bytes kind job ++ y) e
  unfolding entry
  lead_back job kind y e l m j h =
      (back_then (natural 1 (between 1 (kinds Second))) _ (kind ∷ []) (big_bytes 4 job ++ y) kind e (back_byte (between 1 18) kind (is_between 1 18 kind l m))
      (back_then (natural 4 any) _ (big_bytes 4 job) y job e (back_number 4 any job (omega (arith, j)) refl) h))

  place_back : (s c : ℕ) → IsSpotOf rack s c → Back (place rack) (place_bytes s c) (s, c)
  place_back s c at =
      back_then (stripe rack) (λ s. column rack >>= λ c. done (s, c)) (big_bytes 4 s) (c ∷ []) s (s, c) (stripe_back s at.0)
      (back_end (column rack) (λ c. (s, c)) (c ∷ []) c (column_back c at.1))

  at_place : (next : ℕ → ℕ → Grammar Entry) (s c : ℕ) (y : List ℕ) (e : Entry) → IsSpotOf rack s c → Back (next s c) y e → Back (place rack >>= λ p. next p.0 p.1) (place_bytes s c ++ y) e
  at_place next s c y e at h = back_then (place rack) (λ p. next p.0 p.1) (place_bytes s c) y (s, c) e (place_back s c at) h

  placed_back : (make : ℕ → ℕ → Entry) (s c : ℕ) → IsSpotOf rack s c → Back (place rack >>= λ p. done (make p.0 p.1)) (place_bytes s c) (make s c)
  placed_back make s c at = back_end (place rack) (λ p. make p.0 p.1) (place_bytes s c) (s, c) (place_back s c at)

  move_back : (make : ℕ → ℕ → Entry) (c to : ℕ) → c < rack.columns + rack.parity → to ≤ 511 → Back (column rack >>= λ c. archive >>= λ to. done (make c to)) ((c ∷ []) ++ big_bytes 4 to) (make c to)
  move_back make c to l m =
      back_then (column rack) (λ c. archive >>= λ to. done (make c to)) (c ∷ []) (big_bytes 4 to) c (make c to) (column_back c l)
      (back_end archive (λ to. make c to) (big_bytes 4 to) to (archive_back to m))

  entry_back : (e : Entry) → FitsEntry rack e → Back (entry Second rack) (entry_bytes e) e
  unfolding entry_of entry_bytes
  entry_back (Put job s c d p kept) f =
      (back_as _ (lead_bytes 1 job ++ (place_bytes s c ++ (d.bytes ++ (p.bytes ++ flag_bytes kept)))) _ _ (ap (λ z. lead_bytes 1 job ++ (place_bytes s c ++ z)) (sym (append_assoc d.bytes p.bytes (flag_bytes kept))))
      (lead_back job 1 _ _ (omega arith) (omega arith) f.0 (at_place (λ s c. digest >>= λ d. digest >>= λ p. flag >>= λ kept. done (Put job s c d p kept)) s c _ _ f.1.0
      (back_then digest _ d.bytes _ d _ (back_digest d f.1.1.0) (back_then digest _ p.bytes _ p _ (back_digest p f.1.1.1) (back_end flag (λ kept. Put job s c d p kept) (flag_bytes kept) kept (back_flag kept)))))))
  entry_back (Skip job s) f = (lead_back job 2 _ _ (omega arith) (omega arith) f.0 (back_end (stripe rack) (λ s. Skip job s) (big_bytes 4 s) s (stripe_back s f.1)))
  entry_back (Seen job s c) f = (lead_back job 3 _ _ (omega arith) (omega arith) f.0 (placed_back (λ s c. Seen job s c) s c f.1))
  entry_back (Gone job s c) f = (lead_back job 4 _ _ (omega arith) (omega arith) f.0 (placed_back (λ s c. Gone job s c) s c f.1))
  entry_back (Broke job s c) f = (lead_back job 5 _ _ (omega arith) (omega arith) f.0 (placed_back (λ s c. Broke job s c) s c f.1))
  entry_back (Fault job s c) f = (lead_back job 6 _ _ (omega arith) (omega arith) f.0 (placed_back (λ s c. Fault job s c) s c f.1))
  entry_back (Begin job s c) f = (lead_back job 7 _ _ (omega arith) (omega arith) f.0 (placed_back (λ s c. Begin job s c) s c f.1))
  entry_back (Hop job s c) f = (lead_back job 8 _ _ (omega arith) (omega arith) f.0 (placed_back (λ s c. Hop job s c) s c f.1))
  entry_back (Mended job s c) f = (lead_back job 9 _ _ (omega arith) (omega arith) f.0 (placed_back (λ s c. Mended job s c) s c f.1))
  entry_back (GaveUp job s c other) f = (lead_back job 10 _ _ (omega arith) (omega arith) f.0 (at_place (λ s c. column rack >>= λ other. done (GaveUp job s c other)) s c (other ∷ []) _ f.1.0 (back_end (column rack) (λ other. GaveUp job s c other) (other ∷ []) other (column_back other f.1.1))))
  entry_back (Oddly job s c found) f = (lead_back job 11 _ _ (omega arith) (omega arith) f.0 (at_place (λ s c. digest >>= λ d. done (Oddly job s c d)) s c found.bytes _ f.1.0 (back_end digest (λ d. Oddly job s c d) found.bytes found (back_digest found f.1.1))))
  entry_back (Stuck job s c other) f = (lead_back job 12 _ _ (omega arith) (omega arith) f.0 (at_place (λ s c. column rack >>= λ other. done (Stuck job s c other)) s c (other ∷ []) _ f.1.0 (back_end (column rack) (λ other. Stuck job s c other) (other ∷ []) other (column_back other f.1.1))))
  entry_back (MoveBegin job c to) f = (lead_back job 13 _ _ (omega arith) (omega arith) f.0 (move_back (λ c to. MoveBegin job c to) c to f.1.0 f.1.1))
  entry_back (Moved job s c copied) f = (lead_back job 14 _ _ (omega arith) (omega arith) f.0 (at_place (λ s c. flag >>= λ b. done (Moved job s c b)) s c (flag_bytes copied) _ f.1 (back_end flag (λ b. Moved job s c b) (flag_bytes copied) copied (back_flag copied))))
  entry_back (MoveEnd job c) f = (lead_back job 15 _ _ (omega arith) (omega arith) f.0 (back_end (column rack) (λ c. MoveEnd job c) (c ∷ []) c (column_back c f.1)))
  entry_back (Swapped job c to) f = (lead_back job 16 _ _ (omega arith) (omega arith) f.0 (move_back (λ c to. Swapped job c to) c to f.1.0 f.1.1))
  entry_back (Counted job) f = (lead_back job 17 [] _ (omega arith) (omega arith) f (back_done (Counted job)))
  entry_back (Put2 job s c d p q kept kept2) f =
      (back_as _ (lead_bytes 18 job ++ (place_bytes s c ++ (d.bytes ++ (p.bytes ++ (q.bytes ++ (flag_bytes kept ++ flag_bytes kept2)))))) _ _ (ap (λ z. lead_bytes 18 job ++ (place_bytes s c ++ z)) (sym (spread d.bytes p.bytes q.bytes (flag_bytes kept) (flag_bytes kept2))))
      (lead_back job 18 _ _ (omega arith) (omega arith) f.0 (at_place (λ s c. digest >>= λ d. digest >>= λ p. digest >>= λ q. flag >>= λ kept. flag >>= λ kept2. done (Put2 job s c d p q kept kept2)) s c _ _ f.1.0
      (back_then digest _ d.bytes _ d _ (back_digest d f.1.1.0) (back_then digest _ p.bytes _ p _ (back_digest p f.1.1.1.0) (back_then digest _ q.bytes _ q _ (back_digest q f.1.1.1.1)
      (back_then flag _ (flag_bytes kept) _ kept _ (back_flag kept) (back_end flag (λ kept2. Put2 job s c d p q kept kept2) (flag_bytes kept2) kept2 (back_flag kept2)))))))))

  log_back : (es : List Entry) → IsLog (FitsEntry rack) es → Back (group_log Second rack) (counted_bytes entry_bytes es) es
  unfolding group_log
  log_back es is =
      (let few = is.count in
      back_then (natural 4 (at_most 262144)) _ (big_bytes 4 (length es)) (flat_map entry_bytes es) (length es) es (back_number 4 (at_most 262144) (length es) (omega (arith, few)) (le-leb _ _ few))
      (back_several (entry_behind Second rack) entry_bytes es (Counted 0) (length es) refl (λ i l. entry_back (get_or es i (Counted 0)) (is.fits i (Counted 0) l))))

  pub logs_back : (ls : List (List Entry)) → length ls ≡ rack.groups → All (IsLog (FitsEntry rack)) ls → Back (group_logs Second rack) (flat_map (counted_bytes entry_bytes) ls) ls
  unfolding group_logs
  logs_back ls n is = (back_several (group_log_behind Second rack) (counted_bytes entry_bytes) ls [] rack.groups n (λ i l. log_back (get_or ls i []) (is i [] (omega (arith, n, l)))))

-- ENTRIES OF THE INDEX'S LOG

index_lead_back : (job kind : ℕ) (y : List ℕ) (e : IndexEntry) → 1 ≤ kind → kind ≤ 8 → IsJob job → Back (index_entry_of job kind) y e → Back (index_entry Second) (lead_bytes kind job ++ y) e
unfolding index_entry
index_lead_back job kind y e l m j h =
    (back_then (natural 1 (between 1 (index_kinds Second))) _ (kind ∷ []) (big_bytes 4 job ++ y) kind e (back_byte (between 1 8) kind (is_between 1 8 kind l m))
    (back_then (natural 4 any) _ (big_bytes 4 job) y job e (back_number 4 any job (omega (arith, j)) refl) h))

index_entry_back : (e : IndexEntry) → FitsIndexEntry e → Back (index_entry Second) (index_entry_bytes e) e
unfolding index_entry_of behind_name index_entry_bytes
index_entry_back (Reserve job x) f = (index_lead_back job 1 _ _ (omega arith) (omega arith) f.0 (back_end (name any) (λ x. Reserve job x) (name_bytes x) x (name_back any x f.1 refl)))
index_entry_back (Taken job x) f = (index_lead_back job 2 _ _ (omega arith) (omega arith) f.0 (back_end (name any) (λ x. Taken job x) (name_bytes x) x (name_back any x f.1 refl)))
index_entry_back (Publish job x mark) f = (index_lead_back job 3 _ _ (omega arith) (omega arith) f.0 (back_then (name any) (λ x. digest >>= λ mark. done (Publish job x mark)) (name_bytes x) mark.bytes x _ (name_back any x f.1.0 refl) (back_end digest (λ m. Publish job x m) mark.bytes mark (back_digest mark f.1.1))))
index_entry_back (Abandon job x) f = (index_lead_back job 4 _ _ (omega arith) (omega arith) f.0 (back_end (name any) (λ x. Abandon job x) (name_bytes x) x (name_back any x f.1 refl)))
index_entry_back (Find job x found) f = (index_lead_back job 5 _ _ (omega arith) (omega arith) f.0 (back_then (name any) (λ x. flag >>= λ found. done (Find job x found)) (name_bytes x) (flag_bytes found) x _ (name_back any x f.1 refl) (back_end flag (λ b. Find job x b) (flag_bytes found) found (back_flag found))))
index_entry_back (Listed job) f = (index_lead_back job 6 [] _ (omega arith) (omega arith) f (back_done (Listed job)))
index_entry_back (Renew job x mark) f = (index_lead_back job 7 _ _ (omega arith) (omega arith) f.0 (back_then (name any) (λ x. digest >>= λ mark. done (Renew job x mark)) (name_bytes x) mark.bytes x _ (name_back any x f.1.0 refl) (back_end digest (λ m. Renew job x m) mark.bytes mark (back_digest mark f.1.1))))
index_entry_back (Often job x) f = (index_lead_back job 8 _ _ (omega arith) (omega arith) f.0 (back_end (name any) (λ x. Often job x) (name_bytes x) x (name_back any x f.1 refl)))

pub index_log_back : (es : List IndexEntry) → IsLog FitsIndexEntry es → Back (index_log Second) (counted_bytes index_entry_bytes es) es
unfolding index_log
index_log_back es is =
    (let few = is.count in
    back_then (natural 4 (at_most 262144)) _ (big_bytes 4 (length es)) (flat_map index_entry_bytes es) (length es) es (back_number 4 (at_most 262144) (length es) (omega (arith, few)) (le-leb _ _ few))
    (back_several (index_entry_behind Second) index_entry_bytes es (Listed 0) (length es) refl (λ i l. index_entry_back (get_or es i (Listed 0)) (is.fits i (Listed 0) l))))
