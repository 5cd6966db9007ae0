-- A fetch is not both `lost` and `fault`.
use Rattle.std.proofs.Common.{Bool, true, false, ◌≡◌, ◌⊎◌, inl, inr, ℕ, zero, suc, ◌<◌, List, [], ◌∷◌, ◌++◌, refl, ap, sym, ◌∙◌, subst, arith, ⊎_elim, eq-eqb}
use Rattle.std.proofs.lemmas.List.Elements.{filter-append}
use Rattle.pot_bytes.specs.declared.rack.Place.{Place}
use Rattle.pot_shard.specs.Places.{place_at}
use Rattle.pot_machine.specs.declared.entry.Entry.{Entry}
use Rattle.pot_machine.specs.declared.entry.Entry.TheVariants.{Gone, Fault}
use Rattle.pot_machine.specs.Logs.{is_of, own}
use Rattle.pot_index.specs.declared.record.Record.{Record}
use Rattle.pot_replies.specs.Sections.{Section, JobEntries, mine}
use Rattle.pot_replies.specs.Settings.{Setting}
use Rattle.pot_replies.specs.Fetches.{FirstShort, IsUnseen, HopelessIf, IsHopeless, FailsAt}
use Rattle.pot_replies.specs.Laws.{LostNotFault}

-- of two numbers, one is less, or they are equal
tell : (a b : ℕ) → (a < b) ⊎ ((a ≡ b) ⊎ (b < a))
tell zero zero = inr (inl refl)
tell zero (suc b) = inl (omega arith)
tell (suc a) zero = inr (inr (omega arith))
tell (suc a) (suc b) = ⊎_elim (λ (l : a < b). inl (omega (arith, l)))
    (λ (r : (a ≡ b) ⊎ (b < a)). inr (⊎_elim (λ (e : a ≡ b). inl (ap suc e)) (λ (l : b < a). inr (omega (arith, l))) r)) (tell a b)

-- there is one first fragment with too few points seen
module _ (kept : Record) (m : JobEntries) where
  not_before : (i j have k l have' : ℕ) → FirstShort kept i j have m → FirstShort kept k l have' m → (i < k) ⊎ ((i ≡ k) × (j < l)) → ⊥
  not_before i j have k l have' one two less =
      let all = two.before i j one.in_fragments less in
      let few = one.fewer in
      let has = one.has in
      omega (arith, all, few, has)

  same_first : (i j have k l have' : ℕ) → FirstShort kept i j have m → FirstShort kept k l have' m → (i ≡ k) × (j ≡ l)
  same_first i j have k l have' one two = ⊎_elim
      (λ (a : i < k). absurd (not_before i j have k l have' one two (inl a)))
      (λ (r : (i ≡ k) ⊎ (k < i)). ⊎_elim
      (λ (e : i ≡ k). (
        e,
        ⊎_elim
            (λ (a : j < l). absurd (not_before i j have k l have' one two (inr (e, a))))
            (λ (q : (j ≡ l) ⊎ (l < j)). ⊎_elim (λ (f : j ≡ l). f) (λ (b : l < j). absurd (not_before k l have' i j have two one (inr (sym e, b)))) q)
            (tell j l),
      ))
      (λ (b : k < i). absurd (not_before k l have' i j have two one (inl b))) r)
      (tell i k)

-- the last entry is the last
pub last_same : (xs ys : List Entry) (x y : Entry) → xs ++ x ∷ [] ≡ ys ++ y ∷ [] → x ≡ y
last_same [] [] x y e = cc e
last_same [] (b ∷ []) x y e = absurd (cc e)
last_same [] (b ∷ c ∷ ys) x y e = absurd (cc e)
last_same (a ∷ []) [] x y e = absurd (cc e)
last_same (a ∷ c ∷ xs) [] x y e = absurd (cc e)
last_same (a ∷ xs) (b ∷ ys) x y e = last_same xs ys x y (cc e)

-- a hopeless place's last entry is no Fault
not_both : (mends : Bool) (s : Setting) (job column : ℕ) (w : Section) (p : Place) → HopelessIf mends s job w p → FailsAt job (mine job w) p column → ⊥
not_both true s job column w p (inl (sofar, e, is, (o, stuck))) (before, t, ends, why) =
    absurd (cc (last_same sofar before e (Fault job t column) (sym is ∙ ends), stuck))
not_both true s job column w p (inr (inl (sofar, e, is, (f, oddly)))) (before, t, ends, why) =
    absurd (cc (last_same sofar before e (Fault job t column) (sym is ∙ ends), oddly))
not_both true s job column w p (inr (inr again)) (before, t, ends, why) =
    let front = (again.a ++ Gone job p.stripe p.column ∷ again.between) ++ again.behind in
    let one : own job (Gone job p.stripe p.column ∷ again.z) ≡ Gone job p.stripe p.column ∷ [] =
    rw (eq-eqb job job refl) (ap (λ l. Gone job p.stripe p.column ∷ l) again.last) in
    let its : own job (w.added p.group) ≡ own job front ++ Gone job p.stripe p.column ∷ [] =
    ap (own job) again.parts ∙ (filter-append (is_of job) front (Gone job p.stripe p.column ∷ again.z) ∙ ap (λ l. own job front ++ l) one) in
    absurd (cc (last_same (own job front) before (Gone job p.stripe p.column) (Fault job t column) (sym its ∙ ends)))
not_both false s job column w p (sofar, e, is, gone) (before, t, ends, why) =
    absurd (cc (last_same sofar before e (Fault job t column) (sym is ∙ ends), gone))

pub lost_not_fault : LostNotFault
lost_not_fault s job name piece fragment have need group column w lost fault same =
    let m : JobEntries = mine job w in
    let short : FirstShort fault.kept piece fragment have m = subst (λ (k : Record). FirstShort k piece fragment have m) same lost.short in
    let first = same_first fault.kept m piece fragment have fault.piece fault.fragment fault.have short fault.short in
    let unseen : IsUnseen lost.kept piece fragment m fault.point =
    subst (λ (k : Record). IsUnseen k piece fragment m fault.point) (sym same)
    (subst (λ i. IsUnseen fault.kept i fragment m fault.point) (sym first.0) (subst (λ j. IsUnseen fault.kept fault.piece j m fault.point) (sym first.1) fault.unseen)) in
    let hopeless : IsHopeless s job w (place_at fault.kept.geometry fault.kept.places fault.piece fault.fragment fault.point) =
    subst (λ j. IsHopeless s job w (place_at fault.kept.geometry fault.kept.places fault.piece j fault.point)) first.1
    (subst (λ i. IsHopeless s job w (place_at fault.kept.geometry fault.kept.places i fragment fault.point)) first.0
    (subst (λ (k : Record). IsHopeless s job w (place_at k.geometry k.places piece fragment fault.point)) same (lost.hopeless fault.point unseen))) in
    not_both s.mends s job column w (place_at fault.kept.geometry fault.kept.places fault.piece fault.fragment fault.point) hopeless fault.fails
