-- Archives that were taken, part after part.
use Rattle.std.proofs.Common.{◌≡◌, ◌≢◌, ◌<◌, ◌≤◌, ◌+◌, ◌++◌, ⊎_elim, ℕ, zero, suc, Bool, true, false, List, [], ◌∷◌, length, refl, sym, ap, subst, ◌∙◌, arith, eqb, append-nil, append_assoc}
use Rattle.std.specs.Prelude.{Option, Some, None, IsSomeAnd, IsSome, Contains}
use Rattle.std.proofs.lemmas.Bool.Decides.{eqb_tells}
use Rattle.std.proofs.lemmas.List.Elements.{Contains-append_cases}
use Rattle.pot_bytes.proofs.Elements.{none_contained}
use Rattle.pot_outside.specs.Archives.{Meaning, IsMeant}
use Rattle.pot_machine.specs.declared.entry.Entry.{Entry}
use Rattle.pot_machine.specs.Table.{holder_of}
use Rattle.pot_machine.specs.Logs.{replayed}
use Rattle.pot_group.specs.Arrivals.{arrivals}
use Rattle.pot_group.proofs.Arriving.{arrivals-append}
use Rattle.pot_worked.specs.WroteOnlyFor.{added}
use Rattle.pot_worked.specs.OnlyWriter.{Extends}
use Rattle.pot_worked.proofs.OnlyWriterLemmas.{gain_in_parts}
use Rattle.pot_rows.specs.Rows.{view_at}
use Rattle.pot_rows.specs.Works.{RowWroteOnlyFor}
use Rattle.pot_rows.proofs.WorkLemmas.{row_work_went}
use Rattle.pot_shared.specs.declared.member.GroupOrigin.{GroupOrigin}
use Rattle.pot_shared.specs.Members.{entries_of}
use Rattle.pot_shared.specs.Ready.{GroupPasses}
use Rattle.pot_shared.proofs.MemberLemmas.{entries_append}
use Rattle.pot_shared.specs.Works.{Known, of_job, gained}
use Rattle.pot_shared.proofs.Times.{one_if}
use Rattle.pot_shared.proofs.ComingLemmas.{arrival_in}
use Rattle.pot_shared.proofs.Times.{contains_times, times-append, times_here}
use Rattle.pot_shared.specs.Going.{AllOnlyWriters, AllStay, AllExtend}
use Rattle.pot_shared.specs.Hands.{times}
use Rattle.pot_commands.specs.Taking.{Takes, Come, Took, HasUse, AreUsed}
use Rattle.pot_outside.specs.Rooms.{RoomState}
use Rattle.pot_shared.proofs.Takings.{taking_same}
use Rattle.pot_shared.specs.Coming.{AreMarkedBy, came_in, taking_of}
use Rattle.pot_commands.proofs.Going.{sole_parts, known_follows}

home_bit : (b : Bool) → one_if b ≡ 0 → b ≡ false
home_bit true e = absurd (omega (arith, e))
home_bit false e = refl

-- WHAT IS MEANT

pub meant_self : (m : Meaning) → IsMeant m m
meant_self m = record { blocks = λ slot. refl; past = refl; sums = refl; faulted = refl; lost = refl }

meant_on : (a b c : Meaning) → IsMeant a b → IsMeant b c → IsMeant a c
meant_on a b c p q = record {
  blocks = λ slot. q.blocks slot ∙ p.blocks slot;
  past = q.past ∙ p.past;
  sums = q.sums ∙ p.sums;
  faulted = q.faulted ∙ p.faulted;
  lost = q.lost ∙ p.lost;
}

-- two that mean the same archive
pub meant_by : (a b m : Meaning) → IsMeant a m → IsMeant b m → IsMeant a b
meant_by a b m p q = record {
  blocks = λ slot. sym (q.blocks slot) ∙ p.blocks slot;
  past = sym q.past ∙ p.past;
  sums = sym q.sums ∙ p.sums;
  faulted = sym q.faulted ∙ p.faulted;
  lost = sym q.lost ∙ p.lost;
}

-- THE ROOM

module _ (told well : Type 0) where
  -- a room that lends what it lent, and means what it meant
  pub takes_none : (asked : List ℕ) (r r' : RoomState) → ((n : ℕ) → r'.out n ≡ r.out n) → ((n : ℕ) → r'.means n ≡ r.means n) → Takes told well asked [] r r'
  takes_none asked r r' out means = record {
    out = λ n. (let e = ap one_if (out n) in omega (arith, e));
    among = λ n. omega arith;
    others = λ n z. means n;
    still = λ t w n o. subst (λ m. IsMeant (r.means n) m) (sym (means n)) (meant_self (r.means n));
  }

  module _ (k : ℕ) (r r' : RoomState) (home : r.out k ≡ false) (others : (n : ℕ) → n ≢ k → (r'.means n ≡ r.means n) × (r'.out n ≡ r.out n)) where
    other : (n : ℕ) → times n (k ∷ []) ≡ 0 → n ≢ k
    other n z same = (let e = times_here n in let f = ap (λ m. times n (m ∷ [])) same in absurd (omega (arith, e, f, z)))

    rest_still : (n : ℕ) → n ≢ k → IsMeant (r.means n) (r'.means n)
    rest_still n ne = subst (λ m. IsMeant (r.means n) m) (sym (others n ne).0) (meant_self (r.means n))

    -- it was taken
    pub takes_one : r'.out k ≡ true → Takes told well (k ∷ []) (k ∷ []) r r'
    takes_one out = record {
      out = λ n. ⊎_elim
          (λ (h : (eqb k n ≡ true) × (k ≡ n)).
          (let e = ap one_if (subst (λ m. r.out m ≡ false) h.1 home) in let f = ap one_if (subst (λ m. r'.out m ≡ true) h.1 out) in let g = ap one_if h.0 in omega (arith, e, f, g)))
          (λ (h : (eqb k n ≡ false) × (k ≢ n)). (let e = ap one_if (others n (λ same. h.1 (sym same))).1 in let g = ap one_if h.0 in omega (arith, e, g)))
          (eqb_tells k n);
      among = λ n. omega arith;
      others = λ n z. (others n (other n z)).0;
      still = λ t w n o. ⊎_elim
          (λ (h : (eqb k n ≡ true) × (k ≡ n)). (let f : true ≡ false = sym (subst (λ m. r'.out m ≡ true) h.1 out) ∙ o in absurd (cc)))
          (λ (h : (eqb k n ≡ false) × (k ≢ n)). rest_still n (λ same. h.1 (sym same)))
          (eqb_tells k n);
    }

    -- it was not taken, or it was given back
    pub takes_back : r'.out k ≡ false → (told → well → IsMeant (r.means k) (r'.means k)) → Takes told well (k ∷ []) [] r r'
    takes_back out still = record {
      out = λ n. ⊎_elim
          (λ (h : (eqb k n ≡ true) × (k ≡ n)).
          (let e = ap one_if (subst (λ m. r.out m ≡ false) h.1 home) in let f = ap one_if (subst (λ m. r'.out m ≡ false) h.1 out) in omega (arith, e, f)))
          (λ (h : (eqb k n ≡ false) × (k ≢ n)). (let e = ap one_if (others n (λ same. h.1 (sym same))).1 in omega (arith, e)))
          (eqb_tells k n);
      among = λ n. omega arith;
      others = λ n z. (others n (other n z)).0;
      still = λ t w n o. ⊎_elim
          (λ (h : (eqb k n ≡ true) × (k ≡ n)). subst (λ m. IsMeant (r.means m) (r'.means m)) h.1 (still t w))
          (λ (h : (eqb k n ≡ false) × (k ≢ n)). rest_still n (λ same. h.1 (sym same)))
          (eqb_tells k n);
    }

  -- one command more
  module _ (asked more t u : List ℕ) (r0 r1 r2 : RoomState) (p : Takes told (Unit {0}) asked t r0 r1) (q : Takes told well more u r1 r2) where
    mid_home : (n : ℕ) → r2.out n ≡ false → r1.out n ≡ false
    mid_home n o = home_bit (r1.out n) (let e = q.out n in let f = ap one_if o in omega (arith, e, f))

    pub takes_more : Takes told well (asked ++ more) (t ++ u) r0 r2
    takes_more = record {
      out = λ n. (let a = p.out n in let b = q.out n in let c = times-append n t u in omega (arith, a, b, c));
      among = λ n. (let a = p.among n in let b = q.among n in let c = times-append n t u in let d = times-append n asked more in omega (arith, a, b, c, d));
      others = λ n z. (let d = times-append n asked more in q.others n (omega (arith, z, d)) ∙ p.others n (omega (arith, z, d)));
      still = λ told w n o. meant_on (r0.means n) (r1.means n) (r2.means n) (p.still told tt n (mid_home n o)) (q.still told w n o);
    }

    -- one that was taken then meant what it had meant
    pub then_marks : told → (n : ℕ) → 1 ≤ times n u → taking_of (r1.means n) ≡ taking_of (r0.means n)
    then_marks tells n some = taking_same (r0.means n) (r1.means n) (p.still tells tt n (home_bit (r1.out n) (let e = q.out n in let l = at_most (r2.out n) in omega (arith, e, l, some))))
      where
        at_most : (b : Bool) → one_if b ≤ 1
        at_most true = omega arith
        at_most false = omega arith

-- THE LOGS

came_both : (k : ℕ) (f g h : ℕ → List Entry) → ((i : ℕ) → h i ≡ f i ++ g i) → (n : ℕ) → times n (came_in k h) ≡ times n (came_in k f) + times n (came_in k g)
came_both zero f g h e n = omega arith
came_both (suc k) f g h e n =
    let a = times-append n (came_in k h) (arrivals (h k)) in
    let b : times n (arrivals (h k)) ≡ times n (arrivals (f k) ++ arrivals (g k)) = ap (times n) (ap arrivals (e k) ∙ arrivals-append (f k) (g k)) in
    let c = times-append n (arrivals (f k)) (arrivals (g k)) in
    let d = came_both k f g h e n in
    let x = times-append n (came_in k f) (arrivals (f k)) in
    let y = times-append n (came_in k g) (arrivals (g k)) in
    omega (arith, a, b, c, d, x, y)

came_none : (k : ℕ) (f : ℕ → List Entry) → ((i : ℕ) → arrivals (f i) ≡ []) → came_in k f ≡ []
came_none zero f none = refl
came_none (suc k) f none = ap (λ l. l ++ arrivals (f k)) (came_none k f none) ∙ none k

-- the group whose log gained archives is one of them, or it is not
came_past : (k : ℕ) (f : ℕ → List Entry) (g : ℕ) → k ≤ g → ((i : ℕ) → i ≢ g → arrivals (f i) ≡ []) → came_in k f ≡ []
came_past zero f g le none = refl
came_past (suc k) f g le none = ap (λ l. l ++ arrivals (f k)) (came_past k f g (omega (arith, le)) none) ∙ none k (λ same. absurd (omega (arith, le, same)))

pub came_one : (k : ℕ) (f : ℕ → List Entry) (g : ℕ) → g < k → ((i : ℕ) → i ≢ g → arrivals (f i) ≡ []) → came_in k f ≡ arrivals (f g)
came_one zero f g lt none = absurd (omega (arith, lt))
came_one (suc k) f g lt none = ⊎_elim
    (λ (h : (eqb k g ≡ true) × (k ≡ g)).
    ap (λ l. l ++ arrivals (f k)) (came_past k f g (let e = h.1 in omega (arith, e)) none) ∙ ap (λ i. arrivals (f i)) h.1)
    (λ (h : (eqb k g ≡ false) × (k ≢ g)).
    ap (λ l. came_in k f ++ l) (none k h.1) ∙ (append-nil (came_in k f) ∙ came_one k f g (let ne = h.1 in below ne lt) none))
    (eqb_tells k g)
  where
    below : k ≢ g → g < suc k → g < k
    below ne l = grind (arith, ne, l)

pub came_within : (k : ℕ) (f : ℕ → List Entry) (g n : ℕ) → g < k → Contains (arrivals (f g)) n → 1 ≤ times n (came_in k f)
came_within zero f g n lt has = absurd (omega (arith, lt))
came_within (suc k) f g n lt has =
    let a = times-append n (came_in k f) (arrivals (f k)) in ⊎_elim
    (λ (h : (eqb k g ≡ true) × (k ≡ g)).
    (let c = contains_times (arrivals (f k)) n (subst (λ i. Contains (arrivals (f i)) n) (sym h.1) has) in omega (arith, a, c)))
    (λ (h : (eqb k g ≡ false) × (k ≢ g)). (let r = came_within k f g n (below h.1 lt) has in omega (arith, a, r)))
    (eqb_tells k g)
  where
    below : k ≢ g → g < suc k → g < k
    below ne l = grind (arith, ne, l)

-- no archive came
pub come_none : (told : Type 0) (meant : ℕ → Meaning) (old new : Known) → (AllOnlyWriters old new → (g : ℕ) → arrivals (gained old.groups new.groups g) ≡ []) → Come told meant [] old new
come_none told meant old new none = record {
  are = λ sole n. sym (ap (times n) (came_none (length old.groups.names) (gained old.groups new.groups) (none sole)));
  marked = λ t sole g lt l n has arr. absurd (none_contained n (subst (λ ns. Contains ns n) (none sole g) (arrival_in (added (view_at old.groups g) (view_at new.groups g)) l n has arr)));
}

-- part after part
pub come_more : (told : Type 0) (m0 m1 : ℕ → Meaning) (t u : List ℕ) (k0 k1 k2 : Known) → AllExtend k0 k1 → AllExtend k1 k2 → k1.groups.names ≡ k0.groups.names
    → (told → (n : ℕ) → 1 ≤ times n u → taking_of (m1 n) ≡ taking_of (m0 n)) → Come told m0 t k0 k1 → Come told m1 u k1 k2 → Come told m0 (t ++ u) k0 k2
come_more told m0 m1 t u k0 k1 k2 went then same_names marks p q = record { are = are; marked = marked }
  where
    long : length k1.groups.names ≡ length k0.groups.names
    long = ap length same_names

    later : AllOnlyWriters k1 k2 → (n : ℕ) → times n u ≡ times n (came_in (length k0.groups.names) (gained k1.groups k2.groups))
    later sole n = q.are sole n ∙ ap (λ k. times n (came_in k (gained k1.groups k2.groups))) long

    are : AllOnlyWriters k0 k2 → (n : ℕ) → times n (t ++ u) ≡ times n (came_in (length k0.groups.names) (gained k0.groups k2.groups))
    are sole n =
        let parts = sole_parts k0 k1 k2 went then sole in
        let a = times-append n t u in
        let b = p.are parts.0 n in
        let c = later parts.1 n in
        let d = came_both (length k0.groups.names) (gained k0.groups k1.groups) (gained k1.groups k2.groups) (gained k0.groups k2.groups) (known_follows k0 k1 k2 went then).is_added n in
        omega (arith, a, b, c, d)

    marked : told → AllOnlyWriters k0 k2 → (g : ℕ) → g < length k0.groups.names → AreMarkedBy m0 (added (view_at k0.groups g) (view_at k2.groups g))
    marked tells sole g lt l n has arr =
        let parts = sole_parts k0 k1 k2 went then sole in
        let gain = gain_in_parts (view_at k0.groups g) (view_at k1.groups g) (view_at k2.groups g) (went.groups g) (then.groups g) in ⊎_elim
        (λ (h : Contains (added (view_at k0.groups g) (view_at k1.groups g)) l). p.marked tells parts.0 g lt l n h arr)
        (λ (h : Contains (added (view_at k1.groups g) (view_at k2.groups g)) l).
        q.marked tells parts.1 g (omega (arith, lt, long)) l n h arr
        ∙ ap (λ m. Some m) (marks tells n (let c = later parts.1 n in
        let w = came_within (length k0.groups.names) (gained k1.groups k2.groups) g n lt (arrival_in (added (view_at k1.groups g) (view_at k2.groups g)) l n h arr) in omega (arith, c, w))))
        (Contains-append_cases (added (view_at k0.groups g) (view_at k1.groups g)) (added (view_at k1.groups g) (view_at k2.groups g)) l (subst (λ ls. Contains ls l) gain has))

pub took_none : (told well : Type 0) (asked : List ℕ) (r r' : RoomState) (old new : Known) → ((n : ℕ) → r'.out n ≡ r.out n) → ((n : ℕ) → r'.means n ≡ r.means n)
    → (AllOnlyWriters old new → (g : ℕ) → arrivals (gained old.groups new.groups g) ≡ []) → Took told well asked r r' old new
took_none told well asked r r' old new out means none = record { taken = []; takes = takes_none told well asked r r' out means; come = come_none told r.means old new none }

pub took_more : (told well : Type 0) (asked more : List ℕ) (r0 r1 r2 : RoomState) (k0 k1 k2 : Known) → AllExtend k0 k1 → AllExtend k1 k2 → k1.groups.names ≡ k0.groups.names
    → Took told (Unit {0}) asked r0 r1 k0 k1 → Took told well more r1 r2 k1 k2 → Took told well (asked ++ more) r0 r2 k0 k2
took_more told well asked more r0 r1 r2 k0 k1 k2 went then names p q = record {
  taken = p.taken ++ q.taken;
  takes = takes_more told well asked more p.taken q.taken r0 r1 r2 p.takes q.takes;
  come = come_more told r0.means r1.means p.taken q.taken k0 k1 k2 went then names (then_marks told well asked more p.taken q.taken r0 r1 r2 p.takes q.takes) p.come q.come;
}

-- more may be asked for, and less be known of the room's failures
pub took_wider : (told well then : Type 0) (asked more : List ℕ) (r r' : RoomState) (old new : Known) → ((n : ℕ) → times n asked ≤ times n more) → (then → well) → Took told well asked r r' old new → Took told then more r r' old new
took_wider told well then asked more r r' old new le from p = record {
  taken = p.taken;
  takes = record {
    out = p.takes.out;
    among = λ n. (let a = p.takes.among n in let b = le n in omega (arith, a, b));
    others = λ n z. p.takes.others n (let b = le n in omega (arith, b, z));
    still = λ t w n o. p.takes.still t (from w) n o;
  };
  come = p.come;
}

-- what was taken stays so where no more archives come
pub took_on : (told well then : Type 0) (ns : List ℕ) (r r' : RoomState) (k0 k1 k2 : Known) → AllExtend k0 k1 → AllExtend k1 k2 → k1.groups.names ≡ k0.groups.names → well → Took told well ns r r' k0 k1
    → (AllOnlyWriters k1 k2 → (g : ℕ) → arrivals (gained k1.groups k2.groups g) ≡ []) → Took told then ns r r' k0 k2
took_on told well then ns r r' k0 k1 k2 went next names is took none =
    subst (λ l. Took told then l r r' k0 k2) (append-nil ns)
    (took_more told then ns [] r r' r' k0 k1 k2 went next names (took_wider told well (Unit {0}) ns ns r r' k0 k1 (λ n. omega arith) (λ u. is) took) (took_none told then [] r' r' k1 k2 (λ n. refl) (λ n. refl) none))

-- USES

some_more : {X : Type 0} (o q : Option X) (P Q : X → Type 0) → q ≡ o → ((x : X) → P x → Q x) → IsSomeAnd o P → IsSomeAnd q Q
some_more None q P Q same f h = absurd h
some_more (Some x) q P Q same f h = subst (λ y. IsSomeAnd y Q) (sym same) (f x h)

-- what was in use is, by logs that went on
pub use_on : (row new : GroupPasses) → ((at : ℕ) → Extends (view_at row at) (view_at new at)) → ((at : ℕ) → (view_at new at).origin ≡ (view_at row at).origin) → new.names ≡ row.names
    → (n : ℕ) → HasUse row n → HasUse new n
use_on row new went origin names n (g, lt, is_use) = (
  g,
  (let e = ap length names in omega (arith, e, lt)),
  some_more (view_at row g).origin (view_at new g).origin
      (λ (o : GroupOrigin). (x : List Entry) × (y : List Entry) × (entries_of (view_at row g).seen ≡ x ++ y) × IsSome (holder_of (replayed o.first x) n))
      (λ (o : GroupOrigin). (x : List Entry) × (y : List Entry) × (entries_of (view_at new g).seen ≡ x ++ y) × IsSome (holder_of (replayed o.first x) n))
      (origin g)
      (λ o h. (
        h.0,
        h.1 ++ entries_of (added (view_at row g) (view_at new g)),
        ap entries_of (went g).seen ∙ (entries_append (view_at row g).seen (added (view_at row g) (view_at new g)) ∙ (ap (λ l. l ++ entries_of (added (view_at row g) (view_at new g))) h.2 ∙ append_assoc h.0 h.1 (entries_of (added (view_at row g) (view_at new g))))),
        h.3,
      ))
      is_use,
)

-- by a job's work
pub use_more : (job : ℕ) (row new : GroupPasses) → RowWroteOnlyFor (of_job job) row new → new.names ≡ row.names → (n : ℕ) → HasUse row n → HasUse new n
use_more job row new worked names = use_on row new (row_work_went (of_job job) row new worked) (λ at. (worked at).origin) names

pub used_more : (job : ℕ) (r r' : RoomState) (row new : GroupPasses) → RowWroteOnlyFor (of_job job) row new → new.names ≡ row.names → ((n : ℕ) → r'.out n ≡ r.out n) → AreUsed r row → AreUsed r' new
used_more job r r' row new worked names same used n is = use_more job row new worked names n (used n (sym (same n) ∙ is))

-- by the jobs of a batch, which take no archive
pub used_on : (r r' : RoomState) (old new : Known) → AllExtend old new → AllStay old new → ((n : ℕ) → r'.out n ≡ r.out n) → AreUsed r old.groups → AreUsed r' new.groups
used_on r r' old new went stays same used n is = use_on old.groups new.groups went.groups stays.groups.origin stays.groups.names n (used n (sym (same n) ∙ is))
