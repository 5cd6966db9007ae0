-- How what is whole of a list grows, element by element.
use Rattle.std.proofs.Common.{◌≡◌, ◌<◌, ◌≤◌, ◌+◌, ◌*◌, ◌++◌, ℕ, List, [], ◌∷◌, length, take, drop, get_or, map, All, Vec, Global, ap, sym, subst, ◌∙◌, ◌^◌, arith, add-one, take_all, length-drop}
use Rattle.std.proofs.Math.Seq.{take-suc, take-add}
use Rattle.std.proofs.Math.Nat.{mul-le-mul_right}
use Rattle.std.proofs.lemmas.List.{get_or-drop, get_or-map, length-map}
use Rattle.std.proofs.lemmas.List.Elements.{All-append, All-push}
use Rattle.pot_machine.specs.Table.{Table, width, slot_at}
use Rattle.pot_machine.specs.declared.slot.SlotState.TheVariants.{Void}
use Rattle.pot_machine.specs.Rules.{IsTable}
use Rattle.pot_machine.proofs.Places.{place_below}
use Rattle.pot_machine.specs.declared.entry.Entry.{Entry}
use Rattle.pot_image.specs.declared.image.Image.{Image}
use Rattle.pot_image.specs.Images.{contents}
use Rattle.pot_image.specs.Rules.{HasSlotDigest, HasValues, HaveDigests, FitsIndexEntry, IsWholeEntry, IsWholeRecord}

-- one more element
pub whole_more : {X : Type 0} (P : X → Type 0) (xs : List X) (i : ℕ) (d : X) → i < length xs → All P (take i xs) → P (get_or xs i d) → All P (take (i + 1) xs)
whole_more P xs i d l all one = subst (All P) (sym (ap (λ n. take n xs) (add-one i) ∙ take-suc xs i d l)) (All-push P (take i xs) (get_or xs i d) all one)

-- all elements
pub whole_all : {X : Type 0} (P : X → Type 0) (xs : List X) (i : ℕ) → length xs ≤ i → All P (take i xs) → All P xs
whole_all P xs i l all = subst (All P) (take_all i xs l) all

-- one more slot of a stripe
pub slot_whole : (t : Table) (s c : ℕ) → IsTable t → s < t.stripes → c < width t → All HasSlotDigest (take c (drop (s * width t) t.slots)) → HasSlotDigest (slot_at t s c)
    → All HasSlotDigest (take (c + 1) (drop (s * width t) t.slots))
slot_whole t s c is ls lc all one =
    let below : s * width t + c < t.stripes * width t = place_below (width t) t.stripes s c ls lc in
    let inside : c < length (drop (s * width t) t.slots) = (let n = length-drop (s * width t) t.slots in let m = is.size.slots in omega (arith, below, n, m)) in
    whole_more HasSlotDigest (drop (s * width t) t.slots) c Void inside all (subst HasSlotDigest (sym (get_or-drop (s * width t) t.slots c Void)) one)

-- one more stripe
pub stripe_whole : (t : Table) (s : ℕ) → All HasSlotDigest (take (s * width t) t.slots) → All HasSlotDigest (take (width t) (drop (s * width t) t.slots)) → All HasSlotDigest (take ((s + 1) * width t) t.slots)
stripe_whole t s all more =
    let next : (s + 1) * width t ≡ s * width t + width t = grind arith in
    subst (All HasSlotDigest) (sym (ap (λ n. take n t.slots) next ∙ take-add (s * width t) (width t) t.slots)) (All-append HasSlotDigest (take (s * width t) t.slots) (take (width t) (drop (s * width t) t.slots)) all more)

pub slots_whole : (t : Table) (n : ℕ) → IsTable t → t.stripes ≤ n → All HasSlotDigest (take (n * width t) t.slots) → HaveDigests t
slots_whole t n is l all = whole_all HasSlotDigest t.slots (n * width t) (let m = is.size.slots in let k = mul-le-mul_right (width t) l in omega (arith, m, k)) all

-- the lists that vectors hold
logs_whole : (vs : List (Vec Entry Global)) → All (λ v. All IsWholeEntry v.items) vs → All (All IsWholeEntry) (map (λ v. v.items) vs)
logs_whole vs all = λ k d l.
    (let inside : k < length vs = (let n = length-map vs (λ v. v.items) in omega (arith, l, n)) in
    by vs all k d inside)
  where
    by : (vs : List (Vec Entry Global)) → All (λ v. All IsWholeEntry v.items) vs → (k : ℕ) (d : List Entry) → k < length vs → All IsWholeEntry (get_or (map (λ v. v.items) vs) k d)
    by [] all k d l = absurd (omega (arith, l))
    by (v ∷ vs) all k d l = subst (All IsWholeEntry) (sym (get_or-map (λ x. x.items) (v ∷ vs) k v d l)) (all k v l)

-- the values of an image, from those of its parts
pub values_whole : (i : Image) (ts : List Table) (rs : List _) (ls : List (Vec Entry Global)) (es : List _) → i.session < 2 ^ 32 → All HaveDigests ts → All IsWholeRecord rs
    → All (λ v. All IsWholeEntry v.items) ls → All FitsIndexEntry es → ts ≡ i.tables.items → rs ≡ i.records.items → ls ≡ i.group_logs.items → es ≡ i.index_log.items → HasValues (contents i)
values_whole i ts rs ls es session tables records logs index qt qr ql qe = record {
  session = session;
  digests = subst (All HaveDigests) qt tables;
  records = subst (All IsWholeRecord) qr records;
  group_logs = logs_whole i.group_logs.items (subst (All (λ v. All IsWholeEntry v.items)) ql logs);
  index_log = subst (All FitsIndexEntry) qe index;
}
