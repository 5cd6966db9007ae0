-- Groups that were started, and that end one by one.
use Rattle.std.proofs.Common.{◌≡◌, ◌≤◌, ◌<◌, ◌+◌, ◌-◌, ◌^◌, ◌⊎◌, ◌++◌, inl, inr, ℕ, zero, suc, List, [], ◌∷◌, length, take, drop, map, refl, sym, ap, subst, ◌∙◌, arith, append_assoc, append-nil, length-append}
use Rattle.std.specs.Prelude.{Option, Some, None, All, Contains, slice_get, flat_map}
use Rattle.std.proofs.lemmas.List.Elements.{All-head, All-tail}
use Rattle.std.proofs.lemmas.List.{map-append, length-map, append_cancel_left, take-append-drop}
use Rattle.std.proofs.lemmas.Bool.Decides.{eqb_tells}
use Rattle.pot_bytes.proofs.Elements.{none_contained}
use Rattle.pot_outside.specs.Archives.{Meaning, IsMeant}
use Rattle.pot_outside.specs.declared.archive.Shelf.{Shelf}
use Rattle.pot_machine.specs.declared.entry.Entry.{Entry}
use Rattle.pot_machine.specs.declared.entry.Entry.TheVariants.{Gone, Broke}
use Rattle.pot_machine.specs.Table.{Table, width, archives_in, column_at, serving_at}
use Rattle.pot_machine.specs.Rules.{IsTable}
use Rattle.pot_machine.proofs.Columns.{names_serving}
use Rattle.pot_machine.specs.Logs.{job_of}
use Rattle.pot_group.specs.Arrivals.{arrivals, HasArrived}
use Rattle.pot_group.specs.Beginning.{Begins}
use Rattle.pot_group.specs.Group.{GroupView, GroupParts, view_of}
use Rattle.pot_shelves.specs.Shelves.{numbers_of, shelf_of, given, plain}
use Rattle.pot_group.proofs.CauseLemmas.{OfOpening, opening_entries}
use Rattle.pot_group.proofs.Opened.{handed_all}
use Rattle.pot_shared.specs.declared.member.Taking.{Taking}
use Rattle.pot_shared.specs.Members.{mark_at, opened_at, taking_at}
use Rattle.pot_shared.specs.Coming.{taking_of}
use Rattle.pot_shelves.specs.Opening.{failures}
use Rattle.pot_steps.specs.Stripe.{Sound}
use Rattle.pot_steps.specs.Holdings.{stripe_of}
use Rattle.pot_outside.specs.Counts.{Rose}
use Rattle.pot_shared.proofs.OpeningFew.{gone_few}
use Rattle.pot_shared.proofs.Takings.{taking_is, taking_same}
use Rattle.pot_shared.specs.Groups.{IsOpened, IsStarted, IsEnded, AreStarted, AreMarked, AreEnded, MarksRose, MarksRoseOften, RoseBy, RoseOftenBy, had_by}
use Rattle.pot_shared.specs.Hands.{times, AreSame, AreMeant}
use Rattle.pot_shared.proofs.Lists.{each_more, same_flat, flat_snoc, flat_parts, grown}
use Rattle.pot_shared.proofs.Times.{times-append}

-- A START

of_opening : (e : Entry) → OfOpening e → job_of e ≡ 0
of_opening (Gone job s c) h = h
of_opening (Broke job s c) h = h
of_opening _ h = absurd h

by_nobody : (log x y : List Entry) (e : Entry) → All OfOpening log → log ≡ x ++ e ∷ y → job_of e ≡ 0
by_nobody log [] y e all q = of_opening e (All-head OfOpening e y (subst (λ l. All OfOpening l) q all))
by_nobody log (f ∷ x) y e all q = by_nobody (x ++ e ∷ y) x y e (All-tail OfOpening f (x ++ e ∷ y) (subst (λ l. All OfOpening l) q all)) refl

pub started_of : {A : Type 0} (told : Type 0) (meaning : A → Meaning) (number : ℕ) (t : Table) (handed : List (Shelf A)) (g : GroupParts A) → Begins told meaning number t handed g
    → numbers_of handed ≡ archives_in t → HasArrived g.first g.log (numbers_of g.shelves.shelves) → IsStarted number t (view_of meaning g)
started_of told meaning number t handed g b e arrived = record {
  is_number = b.is_number;
  first = b.first;
  none = append_cancel_left (archives_in t) (arrivals g.log) []
      (ap (λ x. archives_in x ++ arrivals g.log) (sym b.first) ∙ (sym arrived ∙ (ap (λ s. numbers_of s.shelves) b.marked ∙ (b.opens.stays.keeps.numbers ∙ (ap numbers_of b.shelves ∙ (e ∙ sym (append-nil (archives_in t))))))));
  nobody = λ x y entry q. by_nobody g.log x y entry (subst (λ l. All OfOpening l) (sym b.opens.log) (opening_entries (width t) t.stripes b.opens.gone b.opens.broke)) q;
}

-- an archive that has a number is found by it
pub find_shelf : {A : Type 0} (ss : List (Shelf A)) (n : ℕ) → Contains (numbers_of ss) n → (s : Shelf A) × (shelf_of ss n ≡ Some s) × (s.number ≡ n) × Contains ss s
find_shelf [] n has = absurd (none_contained n has)
find_shelf (x ∷ xs) n has = elim (eqb_tells x.number n) [
  | inl t ↦ (x, rw t.0 refl, t.1, (0, omega arith, refl))
  | inr t ↦ (let h = find_shelf xs n (later t.1 has) in (h.0, rw t.0 h.1, h.2, (suc h.3.0, (let l = h.3.1 in omega (arith, l)), h.3.2)))
]
  where
    later : (x.number ≡ n → ⊥) → Contains (x.number ∷ numbers_of xs) n → Contains (numbers_of xs) n
    later ne (zero, l, e) = absurd (ne e)
    later ne (suc k, l, e) = (k, omega (arith, l), e)

-- its archives were taken as their numbers meant
pub marked_of : {A : Type 0} (told : Type 0) (meaning : A → Meaning) (meant : ℕ → Meaning) (number : ℕ) (t : Table) (handed : List (Shelf A)) (g : GroupParts A) → told → Begins told meaning number t handed g
    → numbers_of handed ≡ archives_in t → AreMeant meaning meant handed → AreMarked meant t (view_of meaning g).shelves
marked_of {A} told meaning meant number t handed g tells b e are n has = same
  where
    found : (s : Shelf A) × (shelf_of b.taken.shelves n ≡ Some s) × (s.number ≡ n) × Contains b.taken.shelves s
    found = find_shelf b.taken.shelves n (subst (λ ss. Contains (numbers_of ss) n) (sym b.shelves) (subst (λ ns. Contains ns n) (sym e) has))

    is : IsMeant (meant n) (meaning found.0.archive)
    is = subst (λ k. IsMeant (meant k) (meaning found.0.archive)) found.2 (are found.0 (subst (λ ss. Contains ss found.0) b.shelves found.3))

    faulted : (plain meaning g.shelves).faults_taken n ≡ (meaning found.0.archive).faults
    faulted = ap (λ s. (plain meaning s).faults_taken n) b.marked ∙ (b.opens.stays.keeps.faults_taken n ∙ (b.marks.faults n ∙ ap (λ o. given (λ x. (meaning x).faults) 0 o) found.1))

    lost : (plain meaning g.shelves).losses_taken n ≡ (meaning found.0.archive).losses
    lost = ap (λ s. (plain meaning s).losses_taken n) b.marked ∙ (b.opens.stays.keeps.losses_taken n ∙ (b.marks.losses tells n ∙ ap (λ o. given (λ x. (meaning x).losses) 0 o) found.1))

    parts : Option (Shelf A) → Meaning
    parts o = record {
      held = λ slot. given (λ x. (meaning x).held slot) None o;
      history = given (λ x. (meaning x).history) [] o;
      heard = given (λ x. (meaning x).heard) [] o;
      faults = given (λ x. (meaning x).faults) 0 o;
      losses = given (λ x. (meaning x).losses) 0 o;
    }

    taken : (plain meaning g.shelves).taken n ≡ meaning found.0.archive
    taken = ap (λ s. (plain meaning s).taken n) b.marked ∙ (b.opens.stays.keeps.taken n ∙ (b.marks.meant n ∙ ap parts found.1))

    same : taking_at (plain meaning g.shelves) n ≡ taking_of (meant n)
    same = taking_is (plain meaning g.shelves) n (meaning found.0.archive) faulted lost taken ∙ taking_same (meant n) (meaning found.0.archive) is

-- what an archive holds, its number meant
held_meant : {A : Type 0} (meaning : A → Meaning) (meant : ℕ → Meaning) (ss : List (Shelf A)) → AreMeant meaning meant ss → (n slot : ℕ) (block : List ℕ)
    → given (λ x. (meaning x).held slot) None (shelf_of ss n) ≡ Some block → (meant n).held slot ≡ Some block
held_meant meaning meant [] are n slot block e = absurd (cc e)
held_meant meaning meant (x ∷ xs) are n slot block e = elim (eqb_tells x.number n) [
  | inl t ↦ (let here : shelf_of (x ∷ xs) n ≡ Some x = rw t.0 refl in
      let is : IsMeant (meant x.number) (meaning x.archive) = are x (0, omega arith, refl) in
      subst (λ k. (meant k).held slot ≡ Some block) t.1 (sym (is.blocks slot) ∙ (sym (ap (λ o. given (λ y. (meaning y).held slot) None o) here) ∙ e)))
  | inr t ↦ (let there : shelf_of (x ∷ xs) n ≡ shelf_of xs n = rw t.0 refl in
      held_meant meaning meant xs (λ s has. are s (suc has.0, (let l = has.1 in omega (arith, l)), has.2)) n slot block (sym (ap (λ o. given (λ y. (meaning y).held slot) None o) there) ∙ e))
]

-- what the number of an archive meant, it holds
meant_held : {A : Type 0} (meaning : A → Meaning) (meant : ℕ → Meaning) (ss : List (Shelf A)) → AreMeant meaning meant ss → (n slot : ℕ) → Contains (numbers_of ss) n
    → given (λ x. (meaning x).held slot) None (shelf_of ss n) ≡ (meant n).held slot
meant_held meaning meant ss are n slot has =
    let found = find_shelf ss n has in
    let is : IsMeant (meant n) (meaning found.0.archive) = subst (λ k. IsMeant (meant k) (meaning found.0.archive)) found.2 (are found.0 found.3) in
    ap (λ o. given (λ x. (meaning x).held slot) None o) found.1 ∙ is.blocks slot

-- the archive that serves a slot is one of the table's
pub serves_there : (t : Table) → IsTable t → (s c : ℕ) → c < width t → Contains (archives_in t) (serving_at t s c)
serves_there t table s c lc = handed_all t (archives_in t) table refl c (serving_at t s c) lc (names_serving (column_at t c) s)

-- what the numbers meant was sound when the archives were taken
sound_taken : {A : Type 0} (told : Type 0) (meaning : A → Meaning) (meant : ℕ → Meaning) (number : ℕ) (t : Table) (handed : List (Shelf A)) (g : GroupParts A) (b : Begins told meaning number t handed g)
    → numbers_of handed ≡ archives_in t → AreMeant meaning meant handed → (s c : ℕ) → Contains (archives_in t) (serving_at t s c) → Sound (stripe_of t (λ n. (meant n).held) s) c → Sound (stripe_of t (plain meaning b.taken).held s) c
sound_taken told meaning meant number t handed g b e are s c has sound = (
  sound.0,
  record {
    digest = sound.1.digest;
    live = sound.1.live;
    held = meant_held meaning meant b.taken.shelves (λ x k. are x (subst (λ ss. Contains ss x) b.shelves k)) (serving_at t s c) s
        (subst (λ ss. Contains (numbers_of ss) (serving_at t s c)) (sym b.shelves) (subst (λ ns. Contains ns (serving_at t s c)) (sym e) has)) ∙ sound.1.held;
    right = sound.1.right;
  },
)

-- what was counted from the taking to the end of the opening, by the marks
often_marked : {A : Type 0} (told : Type 0) (meaning : A → Meaning) (number : ℕ) (t : Table) (handed : List (Shelf A)) (g : GroupParts A) (b : Begins told meaning number t handed g) → told → (n k : ℕ)
    → (((plain meaning b.taken).faults n + k ≤ (plain meaning b.read).faults n) ⊎ (2 ^ 64 - 1 ≤ (plain meaning b.read).faults n)) ⊎ Rose ((plain meaning b.taken).losses n) ((plain meaning b.read).losses n)
    → MarksRoseOften k (mark_at (view_of meaning g).shelves n) (opened_at (view_of meaning g).shelves n)
often_marked told meaning number t handed g b tells n k h = elim h [
  | inl faults ↦ inl (elim faults [ inl more ↦ inl (omega (arith, more, faults_taken, faults_opened)) | inr top ↦ inr (omega (arith, top, faults_opened)) ])
  | inr losses ↦ inr (elim losses [ inl more ↦ inl (omega (arith, more, losses_taken, losses_opened)) | inr top ↦ inr (omega (arith, top, losses_opened)) ])
]
  where
    faults_taken : (plain meaning g.shelves).faults_taken n ≡ (plain meaning b.taken).faults n
    faults_taken = ap (λ s. (plain meaning s).faults_taken n) b.marked ∙ (b.opens.stays.keeps.faults_taken n ∙ b.marks.faults n)

    losses_taken : (plain meaning g.shelves).losses_taken n ≡ (plain meaning b.taken).losses n
    losses_taken = ap (λ s. (plain meaning s).losses_taken n) b.marked ∙ (b.opens.stays.keeps.losses_taken n ∙ b.marks.losses tells n)

    faults_opened : (plain meaning g.shelves).faults_opened n ≡ (plain meaning b.read).faults n
    faults_opened = b.opened.faults n ∙ ap (λ s. (plain meaning s).faults n) b.marked

    losses_opened : (plain meaning g.shelves).losses_opened n ≡ (plain meaning b.read).losses n
    losses_opened = b.opened.losses tells n ∙ ap (λ s. (plain meaning s).losses n) b.marked

-- its opening rests on blocks that the numbers meant, and missed none of them but where a count of
-- its archive rose, and so often
pub opened_of : {A : Type 0} (told : Type 0) (meaning : A → Meaning) (meant : ℕ → Meaning) (number : ℕ) (t : Table) (handed : List (Shelf A)) (g : GroupParts A) → told → Begins told meaning number t handed g
    → numbers_of handed ≡ archives_in t → AreMeant meaning meant handed → IsTable t → IsOpened meant (RoseBy meant t (opened_at (view_of meaning g).shelves)) (RoseOftenBy meant t (opened_at (view_of meaning g).shelves)) t g.log
opened_of told meaning meant number t handed g tells b e are table = record {
  read = b.opens.read;
  gone = b.opens.gone;
  broke = b.opens.broke;
  found = λ s c block ls lc e.
      held_meant meaning meant b.taken.shelves (λ x has. are x (subst (λ ss. Contains ss x) b.shelves has)) (serving_at t s c) s block (b.opens.reads tells s c block ls lc e);
  finds = b.opens.finds;
  missed = λ s c ls lc is sound.
      (let has = serves_there t table s c lc in (
        has,
        subst (λ (m : Taking). MarksRose m.marks (opened_at (view_of meaning g).shelves (serving_at t s c)))
            (marked_of told meaning meant number t handed g tells b e are (serving_at t s c) has)
            (b.rose tells s c ls lc is (sound_taken told meaning meant number t handed g b e are s c has sound)),
      ));
  few = λ slots missed n has. (
    has,
    subst (λ (m : Taking). MarksRoseOften (failures t slots t.stripes n) m.marks (opened_at (view_of meaning g).shelves n)) (marked_of told meaning meant number t handed g tells b e are n has)
        (often_marked told meaning number t handed g b tells n (failures t slots t.stripes n)
        (gone_few told t.stripes t g.table g.log (plain meaning b.taken) (plain meaning b.read) b.opens tells slots
        (λ s c ls lc is. (let m = missed s c ls lc is in (m.0, sound_taken told meaning meant number t handed g b e are s c (serves_there t table s c lc) m.1))) n)),
  );
  breaks = b.opens.breaks;
  is = b.opens.log;
}

-- the archives of a group that was started are those of its table
pub had_started : (number : ℕ) (t : Table) (g : GroupView) → IsStarted number t g → had_by g ≡ archives_in t
had_started number t g s = ap (λ l. archives_in g.first ++ l) s.none ∙ (append-nil (archives_in g.first) ∙ ap archives_in s.first)

-- the archives of those that were started
pub had_all : {M : Type 0} (see : M → GroupView) (ts : List Table) (ms : List M) → AreStarted see ts ms → flat_map (λ m. had_by (see m)) ms ≡ flat_map archives_in ts
had_all see ts ms s = same_flat (λ m. had_by (see m)) archives_in ms ts s.count (λ n m t em et. had_started n t (see m) (s.each n m t em et))

-- AN END

-- the first groups came to the parts, and these are left
pub record EndedSofar {M X : Type 0} (told : Type 0) (see : M → GroupView) (hold : M → List X) (all left : List M) (t0 t : List Table) (l0 l : List (List Entry)) (h0 h : List ℕ) (x0 x : List X) : Type 0 where
  pub done : List M
  pub parts : all ≡ done ++ left
  pub tables : t ≡ t0 ++ map (λ m. (see m).table) done
  pub logs : l ≡ l0 ++ map (λ m. (see m).log) done
  pub hand : h ≡ h0 ++ flat_map (λ m. had_by (see m)) done
  pub shelves : x ≡ x0 ++ flat_map hold done
  pub ended : (n : ℕ) (m : M) → slice_get done n ≡ Some m → IsEnded told (see m)

pub none_ended : {M X : Type 0} (told : Type 0) (see : M → GroupView) (hold : M → List X) (all : List M) (t0 : List Table) (l0 : List (List Entry)) (h0 : List ℕ) (x0 : List X) → EndedSofar told see hold all all t0 t0 l0 l0 h0 h0 x0 x0
none_ended told see hold all t0 l0 h0 x0 = record {
  done = [];
  parts = refl;
  tables = sym (append-nil t0);
  logs = sym (append-nil l0);
  hand = sym (append-nil h0);
  shelves = sym (append-nil x0);
  ended = λ n m e. absurd (cc);
}

pub one_ended : {M X : Type 0} (told : Type 0) (see : M → GroupView) (hold : M → List X) (all left rest : List M) (m : M) (t0 t u : List Table) (l0 l k : List (List Entry)) (h0 h j : List ℕ) (x0 x y : List X)
    → EndedSofar told see hold all left t0 t l0 l h0 h x0 x → left ≡ m ∷ rest → u ≡ t ++ (see m).table ∷ [] → k ≡ l ++ (see m).log ∷ [] → j ≡ h ++ had_by (see m) → y ≡ x ++ hold m → IsEnded told (see m)
    → EndedSofar told see hold all rest t0 u l0 k h0 j x0 y
one_ended told see hold all left rest m t0 t u l0 l k h0 h j x0 x y s el eu ek ej ey ended = record {
  done = s.done ++ m ∷ [];
  parts = s.parts ∙ (ap (λ z. s.done ++ z) el ∙ sym (append_assoc s.done (m ∷ []) rest));
  tables = grown t0 t u _ _ s.tables eu ∙ ap (λ z. t0 ++ z) (sym (map-append (λ z. (see z).table) s.done (m ∷ [])));
  logs = grown l0 l k _ _ s.logs ek ∙ ap (λ z. l0 ++ z) (sym (map-append (λ z. (see z).log) s.done (m ∷ [])));
  hand = grown h0 h j _ _ s.hand ej ∙ ap (λ z. h0 ++ z) (sym (flat_snoc (λ z. had_by (see z)) s.done m));
  shelves = grown x0 x y _ _ s.shelves ey ∙ ap (λ z. x0 ++ z) (sym (flat_snoc hold s.done m));
  ended = each_more (λ z. IsEnded told (see z)) s.done m s.ended ended;
}

-- what all groups came to
pub record AllEnded {M X : Type 0} (told : Type 0) (see : M → GroupView) (hold : M → List X) (all : List M) (t0 t : List Table) (l0 l : List (List Entry)) (h0 h : List ℕ) (x0 x : List X) : Type 0 where
  pub tables : t ≡ t0 ++ map (λ m. (see m).table) all
  pub logs : l ≡ l0 ++ map (λ m. (see m).log) all
  pub hand : h ≡ h0 ++ flat_map (λ m. had_by (see m)) all
  pub shelves : x ≡ x0 ++ flat_map hold all
  pub ended : AreEnded told see all

pub all_ended : {M X : Type 0} (told : Type 0) (see : M → GroupView) (hold : M → List X) (all left : List M) (t0 t : List Table) (l0 l : List (List Entry)) (h0 h : List ℕ) (x0 x : List X)
    → EndedSofar told see hold all left t0 t l0 l h0 h x0 x → left ≡ [] → AllEnded told see hold all t0 t l0 l h0 h x0 x
all_ended told see hold all left t0 t l0 l h0 h x0 x s none = subst (λ y. AllEnded told see hold y t0 t l0 l h0 h x0 x) (sym (s.parts ∙ (ap (λ y. s.done ++ y) none ∙ append-nil s.done))) (record {
  tables = s.tables;
  logs = s.logs;
  hand = s.hand;
  shelves = s.shelves;
  ended = s.ended;
})

-- how many are done and left
pub ended_long : {M X : Type 0} (told : Type 0) (see : M → GroupView) (hold : M → List X) (all left : List M) (t0 t : List Table) (l0 l : List (List Entry)) (h0 h : List ℕ) (x0 x : List X) → EndedSofar told see hold all left t0 t l0 l h0 h x0 x
    → (length t + length left ≡ length t0 + length all) × (length l + length left ≡ length l0 + length all)
ended_long told see hold all left t0 t l0 l h0 h x0 x s =
    (let n = ap length s.parts in let m = length-append s.done left in
    let a = ap length s.tables in let b = length-append t0 (map (λ x. (see x).table) s.done) in let c = length-map s.done (λ x. (see x).table) in
    let d = ap length s.logs in let e = length-append l0 (map (λ x. (see x).log) s.done) in let f = length-map s.done (λ x. (see x).log) in
    (omega (arith, n, m, a, b, c), omega (arith, n, m, d, e, f)))

-- the room that is taken, and that is still to be taken
pub hand_room : {M X : Type 0} (told : Type 0) (see : M → GroupView) (hold : M → List X) (all left rest : List M) (m : M) (t0 t : List Table) (l0 l : List (List Entry)) (h0 h : List ℕ) (x0 x : List X)
    → EndedSofar told see hold all left t0 t l0 l h0 h x0 x → left ≡ m ∷ rest
    → length h + (length (had_by (see m)) + length (flat_map (λ x. had_by (see x)) rest)) ≡ length h0 + length (flat_map (λ x. had_by (see x)) all)
hand_room told see hold all left rest m t0 t l0 l h0 h x0 x s el =
    (let n = ap length s.hand in let a = length-append h0 (flat_map (λ x. had_by (see x)) s.done) in
    let p = flat_parts (λ x. had_by (see x)) all s.done rest m (s.parts ∙ ap (λ x. s.done ++ x) el) in omega (arith, n, a, p))

-- shelves that were taken from the front and put back behind the others
pub same_parts : {A : Type 0} (ss : List (Shelf A)) (n : ℕ) → AreSame (numbers_of (drop n ss ++ take n ss)) (numbers_of ss)
same_parts ss n k =
    (let a : times k (numbers_of (drop n ss ++ take n ss)) ≡ times k (numbers_of (drop n ss)) + times k (numbers_of (take n ss)) =
    ap (times k) (map-append (λ (x : Shelf _). x.number) (drop n ss) (take n ss)) ∙ times-append k (numbers_of (drop n ss)) (numbers_of (take n ss)) in
    let b : times k (numbers_of ss) ≡ times k (numbers_of (take n ss)) + times k (numbers_of (drop n ss)) =
    ap (λ xs. times k (numbers_of xs)) (sym (take-append-drop n ss)) ∙ (ap (times k) (map-append (λ (x : Shelf _). x.number) (take n ss) (drop n ss)) ∙ times-append k (numbers_of (take n ss)) (numbers_of (drop n ss))) in
    omega (arith, a, b))

pub long_parts : {X : Type 0} (xs : List X) (n : ℕ) → length (drop n xs) + length (take n xs) ≡ length xs
long_parts xs n = (let a = ap length (take-append-drop n xs) in let b = length-append (take n xs) (drop n xs) in omega (arith, a, b))
