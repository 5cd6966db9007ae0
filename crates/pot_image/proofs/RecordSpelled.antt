-- Records that were read are spelled by their values, and by the format.
use Rattle.std.proofs.Common.{◌≡◌, ℕ, ◌-◌, ◌*◌, ◌==◌, ◌≤◌, ◌&&◌, nat_le, Bool, List, [], ◌∷◌, ◌++◌, length, flat_map, ap, sym, ◌∙◌, refl, arith, append_assoc, append-nil, length-append}
use Rattle.std.proofs.lemmas.Bool.{leb-true, and_parts}
use Rattle.std.proofs.lemmas.Grind.{flat_map-append}
use Rattle.byteorder.specs.Endian.{big_bytes}
use Rattle.pot_bytes.specs.declared.digest.Digest.{Digest}
use Rattle.pot_bytes.specs.declared.rack.Geometry.{Geometry}
use Rattle.pot_bytes.specs.declared.rack.Place.{Place}
use Rattle.pot_bytes.specs.declared.rack.Rack.{Rack}
use Rattle.pot_object.specs.Pieces.{longest, pieces_of}
use Rattle.pot_machine.specs.Table.{Table}
use Rattle.pot_index.specs.declared.record.Record.{Record}
use Rattle.pot_index.specs.Fits.{group_of}
use Rattle.pot_index.specs.Records.{name_bytes, place_bytes, split_bytes, record_bytes}
use Rattle.pot_image.specs.declared.records.RecordSplits.{RecordSplits}
use Rattle.pot_image.specs.declared.format.Format.{Format}
use Rattle.pot_image.specs.declared.format.Format.TheVariants.{First, Second}
use Rattle.pot_image.specs.Numbers.{at_most, between}
use Rattle.pot_image.specs.Spelling.{counted_bytes}
use Rattle.pot_image.specs.Records.{is_name, name, is_above, is_filled, is_apart, place, places, split, split_behind, splits, record_behind, records}
use Rattle.pot_image.proofs.HeadSpelled.{geometry_spelled}
use Rattle.pot_image.proofs.Spelled.{Spelled, NoMore, spelled, behind_done, behind_then, behind_last, spelled_byte, spelled_4, spelled_8, spelled_text, spelled_digest, spelled_several, spelled_counted}

pub name_spelled : (rule : List ℕ → Bool) → Spelled (name rule) name_bytes NoMore
unfolding name
name_spelled rule = spelled _ _
    (behind_then [] _ _ _ _ _ (spelled_byte (between 1 64)) (λ n a.
    behind_last _ _ _ _ _ (spelled_text n (λ x. is_name x && rule x)) (λ x l. ap (λ k. k ∷ x) (sym l))))

place_spelled : (rack : Rack) (ts : List Table) (g : Geometry) (b : ℕ) (before : List Place) → Spelled (place rack ts g b before) place_bytes NoMore
unfolding place
place_spelled rack ts g b before = spelled _ _
    (behind_then [] _ _ _ _ _ (spelled_byte (λ n. n == group_of rack g b)) (λ group a.
    behind_then _ _ _ _ _ _ (spelled_byte (between 0 (rack.columns - 1))) (λ column b.
    behind_then _ _ _ _ _ _ (spelled_4 (λ s. at_most (rack.stripes - 1) s && (is_filled ts group column s && is_apart before group column s))) (λ stripe c.
    behind_done _ _ _ refl))))

places_spelled : (rack : Rack) (ts : List Table) (pieces : ℕ) (g : Geometry) → Spelled (places rack ts pieces g) (flat_map place_bytes) (λ ps. length ps ≡ pieces * g.fragments * g.shards)
unfolding places
places_spelled rack ts pieces g = spelled_several (place rack ts g) place_bytes (pieces * g.fragments * g.shards) (place_spelled rack ts g)

split_spelled : (rack : Rack) (ts : List Table) (pieces : ℕ) → Spelled (split rack ts pieces) split_bytes NoMore
unfolding split
split_spelled rack ts pieces = spelled _ _
    (behind_then [] _ _ _ _ _ (geometry_spelled rack.groups) (λ g a.
    behind_then _ _ _ _ _ _ (places_spelled rack ts pieces g) (λ ps b.
    behind_done _ _ _ refl)))

-- in the first format the places alone
abbrev splits_text : Format → RecordSplits → List ℕ
splits_text First s = flat_map place_bytes s.current.places
splits_text Second s = length (s.older ++ s.current ∷ []) ∷ flat_map split_bytes (s.older ++ s.current ∷ [])

splits_spelled : (format : Format) (rack : Rack) (ts : List Table) (pieces : ℕ) → Spelled (splits format rack ts pieces) (splits_text format) NoMore
unfolding splits
splits_spelled First rack ts pieces = spelled _ _ (behind_then [] _ _ _ _ _ (places_spelled rack ts pieces rack.geometry) (λ ps a. behind_done _ _ _ refl))
splits_spelled Second rack ts pieces = spelled _ _
    (behind_then [] _ _ _ _ _ (spelled_byte (between 1 16)) (λ n is.
    behind_then _ _ _ _ _ _ (spelled_several (split_behind rack ts pieces) split_bytes (n - 1) (λ i before. split_spelled rack ts pieces)) (λ older l.
    behind_then _ _ _ _ _ _ (split_spelled rack ts pieces) (λ current a.
    behind_done _ _ _ (
    let some : 1 ≤ n = leb-true _ _ (and_parts (nat_le 1 n) (nat_le n 16) is).0 in
    let number : n ≡ length (older ++ current ∷ []) = (let m = length-append older (current ∷ []) in omega (arith, some, l, m)) in
    let last : flat_map split_bytes older ++ split_bytes current ≡ flat_map split_bytes (older ++ current ∷ []) = sym (flat_map-append split_bytes older (current ∷ []) ∙ ap (λ z. flat_map split_bytes older ++ z) (append-nil (split_bytes current))) in
    ap (λ z. n ∷ z) last ∙ ap (λ k. k ∷ flat_map split_bytes (older ++ current ∷ [])) number)))))

abbrev pub record_text : Format → Record → List ℕ
record_text First r = name_bytes r.name ++ big_bytes 8 r.length ++ r.digest.bytes ++ flat_map place_bytes r.places
record_text Second r = record_bytes r

whole : (format : Format) (name : List ℕ) (long : ℕ) (digest : Digest) (s : RecordSplits) → name_bytes name ++ big_bytes 8 long ++ digest.bytes ++ splits_text format s
    ≡ record_text format (record { name = name; length = long; digest = digest; geometry = s.current.geometry; places = s.current.places; older = s.older })
unfolding record_bytes
whole First name long digest s = refl
whole Second name long digest s = sym (append_assoc (name_bytes name ++ big_bytes 8 long ++ digest.bytes) (length (s.older ++ s.current ∷ []) ∷ []) (flat_map split_bytes (s.older ++ s.current ∷ [])))

record_spelled : (format : Format) (rack : Rack) (ts : List Table) (i : ℕ) (before : List Record) → Spelled (record_behind format rack ts i before) (record_text format) NoMore
unfolding record_behind
record_spelled format rack ts i before = spelled _ _
    (behind_then [] _ _ _ _ _ (name_spelled (is_above before)) (λ name a.
    behind_then _ _ _ _ _ _ (spelled_8 (at_most longest)) (λ long b.
    behind_then _ _ _ _ _ _ spelled_digest (λ digest c.
    behind_then _ _ _ _ _ _ (splits_spelled format rack ts (pieces_of long)) (λ s d.
    behind_done _ _ _ (whole format name long digest s))))))

pub records_spelled : (format : Format) (rack : Rack) (ts : List Table) → Spelled (records format rack ts) (counted_bytes (record_text format)) NoMore
unfolding records
records_spelled format rack ts = spelled_counted (at_most 4000000000) (record_behind format rack ts) (record_text format) (record_spelled format rack ts)
