-- Archives that are given out to the starts of groups, table by table.
use Rattle.std.proofs.Common.{◌≡◌, ◌≤◌, ◌+◌, ◌++◌, ℕ, List, [], ◌∷◌, length, take, drop, refl, sym, ap, subst, ◌∙◌, arith, append_assoc, length-append}
use Rattle.std.specs.Prelude.{Some, All, slice_get, flat_map}
use Rattle.std.proofs.Math.Seq.{take-append_seam, drop-append_seam}
use Rattle.std.proofs.lemmas.List.{take-append-drop, drop-map}
use Rattle.pot_bytes.specs.declared.rack.Rack.{Rack}
use Rattle.pot_outside.specs.declared.archive.Shelf.{Shelf}
use Rattle.pot_machine.specs.Table.{Table, archives_in}
use Rattle.pot_shelves.specs.Shelves.{numbers_of}
use Rattle.pot_shared.specs.Groups.{IsFirstTable}
use Rattle.pot_shared.specs.declared.group_start.GroupStart.{GroupStart}
use Rattle.pot_shared.specs.Starts.{CanStart, CanAllStart, AreGivenOut}
use Rattle.pot_shared.proofs.Lists.{pair_more, all_at, flat_snoc}

-- no table has its archives yet
abbrev pub none_given : {A : Type 0} (all : List Table) (starts : List (GroupStart A)) (hand : List (Shelf A)) → starts ≡ [] → numbers_of hand ≡ flat_map archives_in all → AreGivenOut all all hand starts hand
none_given all starts hand none e = record {
  first = [];
  parts = refl;
  can = record { count = ap length none; each = λ n s t es et. absurd (cc); number = λ n s es. (let q = sym es ∙ ap (λ ss. slice_get ss n) none in absurd (cc)) };
  shelves = sym (ap (λ ss. flat_map (λ s. s.hand.items) ss ++ hand) none);
  left = e;
}

-- the next table, and its archives, which are the first in the hand
pub record NextTable {A : Type 0} (rack : Rack) (t : Table) (rest : List Table) (hand : List (Shelf A)) : Type 0 where
  pub fits : IsFirstTable rack t
  pub count : length (archives_in t) ≤ length (numbers_of hand)
  pub first : take (length (archives_in t)) (numbers_of hand) ≡ archives_in t
  pub left : numbers_of (drop (length (archives_in t)) hand) ≡ flat_map archives_in rest

pub next_table : {A : Type 0} (rack : Rack) (all left rest : List Table) (t : Table) (before : List (Shelf A)) (starts : List (GroupStart A)) (hand : List (Shelf A)) → All (IsFirstTable rack) all
    → AreGivenOut all left before starts hand → left ≡ t ∷ rest → NextTable rack t rest hand
next_table rack all left rest t before starts hand fits g el = record {
  fits = all_at (IsFirstTable rack) g.first rest t (subst (All (IsFirstTable rack)) (g.parts ∙ ap (λ l. g.first ++ l) el) fits);
  count = (let a = ap length split in let b = length-append (archives_in t) (flat_map archives_in rest) in omega (arith, a, b));
  first = ap (take (length (archives_in t))) split ∙ take-append_seam (archives_in t) (flat_map archives_in rest);
  left = sym (drop-map (λ (s : Shelf _). s.number) (length (archives_in t)) hand) ∙ (ap (drop (length (archives_in t))) split ∙ drop-append_seam (archives_in t) (flat_map archives_in rest));
}
  where
    split : numbers_of hand ≡ archives_in t ++ flat_map archives_in rest
    split = g.left ∙ ap (flat_map archives_in) el

-- the numbers of places, and of one place more
number_more : {A : Type 0} (ss : List (GroupStart A)) (s : GroupStart A) → ((n : ℕ) (x : GroupStart A) → slice_get ss n ≡ Some x → x.number ≡ n) → s.number ≡ length ss
    → (n : ℕ) (x : GroupStart A) → slice_get (ss ++ s ∷ []) n ≡ Some x → x.number ≡ n
number_more ss s each here n x e = pair_more (λ k y z. y.number ≡ k) ss ss s s refl (λ k y z ey ez. each k y ey) here n x x e e

-- it has them
pub one_given : {A : Type 0} (rack : Rack) (all left rest : List Table) (t : Table) (before : List (Shelf A)) (starts more : List (GroupStart A)) (s : GroupStart A) (hand now : List (Shelf A)) → AreGivenOut all left before starts hand
    → left ≡ t ∷ rest → NextTable rack t rest hand → more ≡ starts ++ s ∷ [] → CanStart t s → s.number ≡ length starts → s.hand.items ≡ take (length (archives_in t)) hand → now ≡ drop (length (archives_in t)) hand
    → AreGivenOut all rest before more now
one_given {A} rack all left rest t before starts more s hand now g el next em can number front back = record {
  first = g.first ++ t ∷ [];
  parts = g.parts ∙ (ap (λ l. g.first ++ l) el ∙ sym (append_assoc g.first (t ∷ []) rest));
  can = subst (CanAllStart (g.first ++ t ∷ [])) (sym em) (record {
    count = length-append starts (s ∷ []) ∙ (ap (λ n. n + 1) g.can.count ∙ sym (length-append g.first (t ∷ [])));
    each = pair_more (λ n x y. CanStart y x) starts g.first s t g.can.count g.can.each can;
    number = number_more starts s g.can.number number;
  });
  shelves = g.shelves ∙ (ap (λ l. flat_map (λ x. x.hand.items) starts ++ l) parted ∙ (sym (append_assoc (flat_map (λ x. x.hand.items) starts) s.hand.items now)
      ∙ ap (λ l. l ++ now) (sym (ap (flat_map (λ x. x.hand.items)) em ∙ flat_snoc (λ x. x.hand.items) starts s))));
  left = ap numbers_of back ∙ next.left;
}
  where
    parted : hand ≡ s.hand.items ++ now
    parted = sym (take-append-drop (length (archives_in t)) hand) ∙ (ap (λ l. l ++ drop (length (archives_in t)) hand) (sym front) ∙ ap (λ l. s.hand.items ++ l) (sym back))

-- how many have theirs
pub given_long : {A : Type 0} (all left : List Table) (before : List (Shelf A)) (starts : List (GroupStart A)) (now : List (Shelf A)) → AreGivenOut all left before starts now → length starts + length left ≡ length all
given_long all left before starts now g = (let a = ap length g.parts in let b = length-append g.first left in let c = g.can.count in omega (arith, a, b, c))

-- the hand is as it was
pub kept_given : {A : Type 0} (all left : List Table) (before : List (Shelf A)) (starts : List (GroupStart A)) (hand now : List (Shelf A)) → AreGivenOut all left before starts hand → now ≡ hand → AreGivenOut all left before starts now
kept_given all left before starts hand now g same = subst (AreGivenOut all left before starts) (sym same) g
