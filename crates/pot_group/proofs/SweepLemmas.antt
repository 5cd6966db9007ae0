-- A sweep: looks one after another, and how far they came.
use Rattle.std.proofs.Common.{◌≡◌, ◌<◌, ◌≤◌, ◌++◌, ◌+◌, ℕ, Bool, List, [], ◌∷◌, inl, inr, refl, ap, sym, subst, ◌∙◌, arith, length, length-append, append-nil, append_assoc}
use Rattle.std.specs.Prelude.{Some, None, Contains, filter}
use Rattle.std.proofs.lemmas.List.Elements.{filter-append, Contains-push_cases}
use Rattle.pot_bytes.specs.declared.rack.Place.{Place}
use Rattle.pot_bytes.proofs.Elements.{length-filter_le, none_contained}
use Rattle.pot_machine.specs.declared.entry.Entry.{Entry}
use Rattle.pot_machine.specs.Slot.{is_live}
use Rattle.pot_group.specs.declared.answers.Looked.{Looked}
use Rattle.pot_group.specs.declared.answers.Looked.TheVariants as looked
use Rattle.pot_group.specs.declared.sweeping.Reached.{Reached}
use Rattle.pot_group.specs.declared.sweeping.Reached.TheVariants as reached
use Rattle.pot_group.specs.declared.sweeping.Swept.{Swept}
use Rattle.pot_shelves.specs.Shelves.{Keeps}
use Rattle.pot_group.specs.Finding.{IsPlace}
use Rattle.pot_group.specs.Group.{GroupView}
use Rattle.pot_group.specs.Calls.{Grows, LookCall, Made}
use Rattle.pot_group.specs.Sweeping.{EndsWith, IsLookAnswered, IsSweepReached, Look, LooksOn, SweepCall, was_gone, was_seen}
use Rattle.pot_shelves.proofs.ShelfLemmas.{keeps_refl, keeps_then}
use Rattle.pot_group.proofs.Rows.{grows_keeps, no_tries}

-- LOOK AFTER LOOK

-- the place at or after which the next look is
abbrev pub ends : ℕ → ℕ → List Look → ℕ × ℕ
ends s c [] = (s, c)
ends s c ((p, answer) ∷ rest) = ends p.stripe (p.column + 1) rest

ends_more : (s c : ℕ) (looks : List Look) (p : Place) (answer : Looked) → ends s c (looks ++ (p, answer) ∷ []) ≡ (p.stripe, p.column + 1)
ends_more s c [] p answer = refl
ends_more s c ((q, b) ∷ looks) p answer = ends_more q.stripe (q.column + 1) looks p answer

looks_more : (told : Type 0) (job s c : ℕ) (looks : List Look) (p : Place) (answer : Looked) (into : List ℕ) (old mid new : GroupView) (entries first : List Entry)
    → LooksOn told job s c looks old mid entries → IsPlace mid.number mid.table is_live (ends s c looks).0 (ends s c looks).1 (Some p) → LookCall told job p into answer mid new first
    → LooksOn told job s c (looks ++ (p, answer) ∷ []) old new (entries ++ first)
looks_more told job s c [] p answer into old mid new entries first goes place call = (
  into,
  new,
  first,
  [],
  subst (λ (g : GroupView). IsPlace g.number g.table is_live s c (Some p)) goes.1 place,
  subst (λ (g : GroupView). LookCall told job p into answer g new first) goes.1 call,
  (refl, refl),
  ap (λ (es : List Entry). es ++ first) goes.0 ∙ sym (append-nil first),
)
looks_more told job s c ((q, b) ∷ looks) p answer into old mid new entries first goes place call = (
  goes.0,
  goes.1,
  goes.2,
  goes.3 ++ first,
  goes.4,
  goes.5,
  looks_more told job q.stripe (q.column + 1) looks p answer into goes.1 mid new goes.3 first goes.6 place call,
  ap (λ (es : List Entry). es ++ first) goes.7 ∙ append_assoc goes.2 goes.3 first,
)

-- what looks leave as it was
pub record Kept (old new : GroupView) (entries : List Entry) : Type 0 where
  pub number : new.number ≡ old.number
  pub first : new.first ≡ old.first
  pub log : new.log ≡ old.log ++ entries
  pub tried : new.tried ≡ old.tried
  pub keeps : Keeps old.shelves new.shelves

kept_none : (old new : GroupView) → new ≡ old → Kept old new []
kept_none old new same =
    subst (λ (g : GroupView). Kept old g []) (sym same) (record { number = refl; first = refl; log = sym (append-nil old.log); tried = refl; keeps = keeps_refl old.shelves })

pub looks_kept : (told : Type 0) (job s c : ℕ) (looks : List Look) (old new : GroupView) (entries : List Entry) → LooksOn told job s c looks old new entries → Kept old new entries
looks_kept told job s c [] old new entries goes = subst (λ (es : List Entry). Kept old new es) (sym goes.0) (kept_none old new goes.1)
looks_kept told job s c ((p, answer) ∷ looks) old new entries goes =
    let mid = goes.1 in
    let call = goes.5 in
    let more = looks_kept told job p.stripe (p.column + 1) looks mid new goes.3 goes.6 in
    record {
      number = more.number ∙ call.logs.number;
      first = more.first ∙ call.logs.first;
      log = more.log ∙ ap (λ (es : List Entry). es ++ goes.3) call.logs.log ∙ append_assoc old.log goes.2 goes.3 ∙ ap (λ (es : List Entry). old.log ++ es) (sym goes.7);
      tried = more.tried ∙ call.logs.tried;
      keeps = keeps_then old.shelves mid.shelves new.shelves call.stays.keeps more.keeps;
    }

looks_grow : (told : Type 0) (job s c : ℕ) (looks : List Look) (old new : GroupView) (entries : List Entry) → LooksOn told job s c looks old new entries → Grows old new entries
looks_grow told job s c looks old new entries goes = (let k = looks_kept told job s c looks old new entries goes in grows_keeps old new entries k.number k.first k.log (no_tries old new k.tried) k.keeps)

-- A SWEEP UNDER WAY

-- how far looks that were answered came
abbrev pub IsAt : Reached → List Look → Type 0
IsAt reached.End looks = looks ≡ []
IsAt (reached.Slot stripe column) looks =
    (before : List Look) × (p : Place) × (answer : Looked) × (looks ≡ before ++ (p, answer) ∷ [])
    × (p.stripe ≡ stripe) × (p.column ≡ column)
IsAt (reached.Faulted column) looks = ⊥
IsAt reached.LogFull looks = ⊥

-- So many looks were answered, and the next one is at or after this place.
pub record Sweeps (told : Type 0) (job s c n at_stripe at_column : ℕ) (swept : Swept) (old new : GroupView) (entries : List Entry) : Type 0 where
  pub looks : List Look
  pub goes : LooksOn told job s c looks old new entries
  pub count : length looks ≡ n
  pub at : ends s c looks ≡ (at_stripe, at_column)
  pub seen_is : swept.seen ≡ length (filter was_seen looks)
  pub gone_is : swept.gone ≡ length (filter was_gone looks)
  pub answered : (x : Look) → Contains looks x → IsLookAnswered x
  pub reaches : IsAt swept.reached looks

pub sweeps_none : (told : Type 0) (job s c : ℕ) (g : GroupView) → Sweeps told job s c 0 s c (record { seen = 0; gone = 0; reached = reached.End }) g g []
sweeps_none told job s c g = record {
  looks = [];
  goes = (refl, refl);
  count = refl;
  at = refl;
  seen_is = refl;
  gone_is = refl;
  answered = λ x h. absurd (none_contained x h);
  reaches = refl;
}

counted : (test : Look → Bool) (looks : List Look) (x : Look) (n m : ℕ) → n ≡ length (filter test looks) → m ≡ n + length (filter test (x ∷ [])) → m ≡ length (filter test (looks ++ x ∷ []))
counted test looks x n m e f =
    f ∙ ap (λ k. k + length (filter test (x ∷ []))) e ∙ sym (ap length (filter-append test looks (x ∷ [])) ∙ length-append (filter test looks) (filter test (x ∷ [])))

one_more : (looks : List Look) (x : Look) (n : ℕ) → length looks ≡ n → length (looks ++ x ∷ []) ≡ n + 1
one_more looks x n e = length-append looks (x ∷ []) ∙ ap (λ k. k + 1) e

all_answered : (looks : List Look) (y : Look) → ((x : Look) → Contains looks x → IsLookAnswered x) → IsLookAnswered y → (x : Look) → Contains (looks ++ y ∷ []) x → IsLookAnswered x
all_answered looks y all last x h = elim (Contains-push_cases looks y x h) [ inl front ↦ all x front | inr same ↦ subst (λ z. IsLookAnswered z) same last ]

module _ (told : Type 0) (job s c n at_stripe at_column : ℕ) (swept : Swept) (old mid new : GroupView) (entries : List Entry) (sweeps : Sweeps told job s c n at_stripe at_column swept old mid entries) where
  -- no more than the looks that were made
  pub seen_few : swept.seen ≤ n
  seen_few = (let few = length-filter_le was_seen sweeps.looks in omega (arith, few, sweeps.seen_is, sweeps.count))

  pub gone_few : swept.gone ≤ n
  gone_few = (let few = length-filter_le was_gone sweeps.looks in omega (arith, few, sweeps.gone_is, sweeps.count))

  module _ (p : Place) (into : List ℕ) (answer : Looked) (place : IsPlace mid.number mid.table is_live at_stripe at_column (Some p)) (made : Made (LookCall told job p into answer) mid new) where
    one_look : LooksOn told job s c (sweeps.looks ++ (p, answer) ∷ []) old new (entries ++ made.0)
    one_look = looks_more told job s c sweeps.looks p answer into old mid new entries made.0 sweeps.goes
        (subst (λ (q : ℕ × ℕ). IsPlace mid.number mid.table is_live q.0 q.1 (Some p)) (sym sweeps.at) place) made.2

    -- one look more that was answered
    pub sweeps_more : IsLookAnswered (p, answer) → (seen gone : ℕ) → seen ≡ swept.seen + length (filter was_seen ((p, answer) ∷ [])) → gone ≡ swept.gone + length (filter was_gone ((p, answer) ∷ []))
        → Sweeps told job s c (n + 1) p.stripe (p.column + 1) (record { seen = seen; gone = gone; reached = reached.Slot p.stripe p.column }) old new (entries ++ made.0)
    sweeps_more last seen gone seen_is gone_is = record {
      looks = sweeps.looks ++ (p, answer) ∷ [];
      goes = one_look;
      count = one_more sweeps.looks (p, answer) n sweeps.count;
      at = ends_more s c sweeps.looks p answer;
      seen_is = counted was_seen sweeps.looks (p, answer) swept.seen seen sweeps.seen_is seen_is;
      gone_is = counted was_gone sweeps.looks (p, answer) swept.gone gone sweeps.gone_is gone_is;
      answered = all_answered sweeps.looks (p, answer) sweeps.answered last;
      reaches = (sweeps.looks, p, answer, refl, refl, refl);
    }

    -- one look more, at which the sweep ends
    sweep_ends : n < 4 → (seen gone : ℕ) (far : Reached) → seen ≡ swept.seen + length (filter was_seen ((p, answer) ∷ [])) → gone ≡ swept.gone + length (filter was_gone ((p, answer) ∷ []))
        → (EndsWith (sweeps.looks ++ (p, answer) ∷ []) answer → IsSweepReached old s c far (sweeps.looks ++ (p, answer) ∷ []))
        → Made (SweepCall told job s c (record { seen = seen; gone = gone; reached = far })) old new
    sweep_ends few seen gone far seen_is gone_is reaches = (
      entries ++ made.0,
      looks_grow told job s c (sweeps.looks ++ (p, answer) ∷ []) old new (entries ++ made.0) one_look,
      record {
        looks = sweeps.looks ++ (p, answer) ∷ [];
        goes = one_look;
        few = (let more = one_more sweeps.looks (p, answer) n sweeps.count in omega (arith, more, few));
        seen_is = counted was_seen sweeps.looks (p, answer) swept.seen seen sweeps.seen_is seen_is;
        gone_is = counted was_gone sweeps.looks (p, answer) swept.gone gone sweeps.gone_is gone_is;
        reaches = reaches (sweeps.looks, p, refl, sweeps.answered);
      },
    )

  module _ (p : Place) (into : List ℕ) (place : IsPlace mid.number mid.table is_live at_stripe at_column (Some p)) where
    pub sweeps_seen : (made : Made (LookCall told job p into looked.Seen) mid new)
        → Sweeps told job s c (n + 1) p.stripe (p.column + 1) (record { seen = swept.seen + 1; gone = swept.gone; reached = reached.Slot p.stripe p.column }) old new (entries ++ made.0)
    sweeps_seen made = sweeps_more p into looked.Seen place made tt (swept.seen + 1) swept.gone refl (omega arith)

    pub sweeps_gone : (made : Made (LookCall told job p into looked.Gone) mid new)
        → Sweeps told job s c (n + 1) p.stripe (p.column + 1) (record { seen = swept.seen; gone = swept.gone + 1; reached = reached.Slot p.stripe p.column }) old new (entries ++ made.0)
    sweeps_gone made = sweeps_more p into looked.Gone place made tt swept.seen (swept.gone + 1) (omega arith) refl

    pub sweep_faulted : (column : ℕ) → n < 4 → Made (LookCall told job p into (looked.Faulted column)) mid new
        → Made (SweepCall told job s c (record { seen = swept.seen; gone = swept.gone; reached = reached.Faulted column })) old new
    sweep_faulted column few made = sweep_ends p into (looked.Faulted column) place made few swept.seen swept.gone (reached.Faulted column) (omega arith) (omega arith) (λ e. e)

    pub sweep_full : n < 4 → Made (LookCall told job p into looked.LogFull) mid new
        → Made (SweepCall told job s c (record { seen = swept.seen; gone = swept.gone; reached = reached.LogFull })) old new
    sweep_full few made = sweep_ends p into looked.LogFull place made few swept.seen swept.gone reached.LogFull (omega arith) (omega arith) (λ e. e)

-- THE END OF A SWEEP

module _ (told : Type 0) (job s c n at_stripe at_column : ℕ) (swept : Swept) (old new : GroupView) (entries : List Entry) (sweeps : Sweeps told job s c n at_stripe at_column swept old new entries) where
  swept_so : n ≤ 4 → IsSweepReached old s c swept.reached sweeps.looks → Made (SweepCall told job s c swept) old new
  swept_so few reaches = (
    entries,
    looks_grow told job s c sweeps.looks old new entries sweeps.goes,
    record {
      looks = sweeps.looks;
      goes = sweeps.goes;
      few = omega (arith, few, sweeps.count);
      seen_is = sweeps.seen_is;
      gone_is = sweeps.gone_is;
      reaches = reaches;
    },
  )

  -- what answered looks came to, where at least one was made
  far_some : (far : Reached) (looks : List Look) → 0 < length looks → ((x : Look) → Contains looks x → IsLookAnswered x) → IsAt far looks → IsSweepReached old s c far looks
  far_some reached.End looks some all h = absurd (let none : length looks ≡ 0 = ap length h in omega arith)
  far_some (reached.Slot stripe column) looks some all h = (h.0, h.1, h.2, h.3, all, h.4, h.5)
  far_some (reached.Faulted column) looks some all h = absurd h
  far_some reached.LogFull looks some all h = absurd h

  -- and where no Live slot is left
  far_none : (far : Reached) (looks : List Look) → (looks ≡ [] → IsPlace old.number old.table is_live s c None) → ((x : Look) → Contains looks x → IsLookAnswered x) → IsAt far looks → IsSweepReached old s c far looks
  far_none reached.End looks none all h = (h, none h)
  far_none (reached.Slot stripe column) looks none all h = (h.0, h.1, h.2, h.3, all, h.4, h.5)
  far_none (reached.Faulted column) looks none all h = absurd h
  far_none reached.LogFull looks none all h = absurd h

  pub sweep_done : n ≤ 4 → 0 < n → Made (SweepCall told job s c swept) old new
  sweep_done few some = swept_so few (far_some swept.reached sweeps.looks (omega (arith, some, sweeps.count)) sweeps.answered sweeps.reaches)

  begun : IsPlace new.number new.table is_live at_stripe at_column None → (looks : List Look) → LooksOn told job s c looks old new entries → ends s c looks ≡ (at_stripe, at_column) → looks ≡ []
      → IsPlace old.number old.table is_live s c None
  begun place [] goes at e =
      subst (λ (g : GroupView). IsPlace g.number g.table is_live s c None) goes.1 (subst (λ (q : ℕ × ℕ). IsPlace new.number new.table is_live q.0 q.1 None) (sym at) place)
  begun place (x ∷ looks) goes at e = absurd (cc)

  -- and where none was made only since no Live slot is left
  pub sweep_over : n ≤ 4 → (n ≡ 0 → IsPlace old.number old.table is_live s c None) → Made (SweepCall told job s c swept) old new
  sweep_over few none = swept_so few (far_none swept.reached sweeps.looks (λ e. none (sym sweeps.count ∙ ap length e)) sweeps.answered sweeps.reaches)

  pub sweep_none : n ≤ 4 → IsPlace new.number new.table is_live at_stripe at_column None → Made (SweepCall told job s c swept) old new
  sweep_none few place = swept_so few (far_none swept.reached sweeps.looks (begun place sweeps.looks sweeps.goes sweeps.at) sweeps.answered sweeps.reaches)
