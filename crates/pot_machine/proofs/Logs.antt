-- Logs that grow, where they lead, and the entries of one job in them.
use Rattle.std.proofs.Common.{◌≡◌, ◌↔◌, inl, inr, ◌<◌, ◌≤◌, ◌+◌, ℕ, zero, suc, Bool, true, false, IsTrue, List, [], ◌∷◌, ◌++◌, length, get_or, take, Some, None, slice_get, refl, sym, ap, ◌∙◌, subst, arith, add-one}
use Rattle.std.proofs.Math.Seq.{take-suc}
use Rattle.std.proofs.lemmas.Option.{slice_get_past, get_or_from_slice_get}
use Rattle.std.proofs.lemmas.List.Elements.{filter-append}
use Rattle.std.proofs.lemmas.Bool.{both_ways, cases_order}
use Rattle.pot_machine.specs.declared.entry.Entry.{Entry}
use Rattle.pot_machine.specs.Table.{Table}
use Rattle.pot_machine.specs.Machine.{Legal, after, Replays, Replayed}
use Rattle.pot_machine.specs.Rules.{IsTable}
use Rattle.pot_machine.specs.Logs.{is_of, own, replayed, AreLegal}
use Rattle.pot_machine.specs.Laws.{ReplayedOnce, LogsGoOn, LogsLeadOnce, LogsComeTo, LogsComeOn, OwnInBoth}
use Rattle.pot_machine.proofs.Kept.{after_keeps}

-- a log goes on by an entry that is legal at its end
pub replays_more : (t : Table) (log : List Entry) (u : Table) (e : Entry) → Replays t log u → Legal u e → Replays t (log ++ e ∷ []) (after u e)
replays_more t [] u e r l = (subst (λ t. Legal t e) r l, ap (λ t. after t e) r)
replays_more t (x ∷ log) u e r l = (r.0, replays_more (after t x) log u e r.1 l)

-- logs one after the other
pub replays_append : (t : Table) (log : List Entry) (u : Table) (more : List Entry) (v : Table) → Replays t log u → Replays u more v → Replays t (log ++ more) v
replays_append t [] u more v r s = subst (λ t. Replays t more v) r s
replays_append t (x ∷ log) u more v r s = (r.0, replays_append (after t x) log u more v r.1 s)

-- a log leads to one table
pub replays_once : (t : Table) (log : List Entry) (u v : Table) → Replays t log u → Replays t log v → u ≡ v
replays_once t [] u v r s = r ∙ sym s
replays_once t (x ∷ log) u v r s = replays_once (after t x) log u v r.1 s.1

-- one entry more of a log
pub replay_more : (t : Table) (log : List Entry) (i : ℕ) (e : Entry) (u v : Table) → Replays t (take i log) u → i < length log → get_or log i e ≡ e → Legal u e → v ≡ after u e → Replays t (take (i + 1) log) v
replay_more t log i e u v r lt at l is =
    subst (λ w. Replays t (take (i + 1) log) w) (sym is)
    (subst (λ front. Replays t front (after u e)) (sym (ap (λ n. take n log) (add-one i) ∙ take-suc log i e lt ∙ ap (λ x. take i log ++ x ∷ []) at)) (replays_more t (take i log) u e r l))

none_some : {e : Entry} → None ≡ Some e → ⊥
none_some h = cc

pub replayed_whole : (t u : Table) (log : List Entry) (i : ℕ) → Replays t (take i log) u → length log ≤ i → i ≤ length log → Replayed t u log true
replayed_whole t u log i r low high = record {
  applied = i;
  within = high;
  replays = r;
  stops = λ e at l. none_some (sym (slice_get_past log i low) ∙ at);
  all = (λ _. omega arith, λ _. refl);
}

pub replayed_front : (t u : Table) (log : List Entry) (i : ℕ) (d : Entry) → Replays t (take i log) u → i < length log → (Legal u (get_or log i d) → ⊥) → Replayed t u log false
replayed_front t u log i d r lt wrong = record {
  applied = i;
  within = omega arith;
  replays = r;
  stops = λ e at l. wrong (subst (λ x. Legal u x) (sym (get_or_from_slice_get log i e d at)) l);
  all = (λ h. absurd (cc), λ h. absurd (omega arith));
}

-- where one front is longer than another, its next entry is legal behind the shorter one
next_legal : (t : Table) (log : List Entry) (i j : ℕ) (u v : Table) → i < j → j ≤ length log → Replays t (take i log) u → Replays t (take j log) v → (e : Entry) × (slice_get log i ≡ Some e) × Legal u e
next_legal t [] i j u v lt le r s = absurd (omega arith)
next_legal t (x ∷ log) zero zero u v lt le r s = absurd (omega arith)
next_legal t (x ∷ log) zero (suc j) u v lt le r s = (x, refl, subst (λ w. Legal w x) (sym r) s.0)
next_legal t (x ∷ log) (suc i) zero u v lt le r s = absurd (omega arith)
next_legal t (x ∷ log) (suc i) (suc j) u v lt le r s = next_legal (after t x) log i j u v (omega arith) (omega arith) r.1 s.1

same_truth : (a b : Bool) (m n k : ℕ) → m ≡ n → IsTrue a ↔ (m ≡ k) → IsTrue b ↔ (n ≡ k) → a ≡ b
same_truth true true m n k e p q = refl
same_truth true false m n k e p q = absurd (both_ways _ refl (q.1 (sym e ∙ p.0 refl)))
same_truth false true m n k e p q = absurd (both_ways _ refl (p.1 (e ∙ q.0 refl)))
same_truth false false m n k e p q = refl

pub replayed_once : ReplayedOnce
replayed_once t u v entries whole all r s = elim (cases_order r.applied s.applied) [
  | inl e ↦ (
    replays_once t (take r.applied entries) u v r.replays (subst (λ n. Replays t (take n entries) v) (sym e) s.replays),
    same_truth whole all r.applied s.applied (length entries) e r.all s.all,
  )
  | inr ne ↦ absurd (elim ne [
    | inl lt ↦ (let n : (e : Entry) × (slice_get entries r.applied ≡ Some e) × Legal u e = next_legal t entries r.applied s.applied u v lt s.within r.replays s.replays in r.stops n.0 n.1 n.2)
    | inr lt ↦ (let n : (e : Entry) × (slice_get entries s.applied ≡ Some e) × Legal v e = next_legal t entries s.applied r.applied v u lt r.within s.replays r.replays in s.stops n.0 n.1 n.2)
  ])
]

pub logs_go_on : LogsGoOn
logs_go_on t u log e r l = replays_more t log u e r l

pub logs_lead_once : LogsLeadOnce
logs_lead_once t u v log r s = replays_once t log u v r s

-- WHERE A LOG LEADS

pub replays_is : (t : Table) (log : List Entry) (u : Table) → Replays t log u → replayed t log ≡ u
replays_is t [] u r = sym r
replays_is t (e ∷ log) u r = replays_is (after t e) log u r.1

pub replayed_append : LogsComeOn
replayed_append t [] y = refl
replayed_append t (e ∷ x) y = replayed_append (after t e) x y

-- a log in two parts
pub front_replays : (t : Table) (x y : List Entry) (u : Table) → Replays t (x ++ y) u → Replays t x (replayed t x)
front_replays t [] y u r = refl
front_replays t (e ∷ x) y u r = (r.0, front_replays (after t e) x y u r.1)

pub back_replays : (t : Table) (x y : List Entry) (u : Table) → Replays t (x ++ y) u → Replays (replayed t x) y u
back_replays t [] y u r = r
back_replays t (e ∷ x) y u r = back_replays (after t e) x y u r.1

-- an entry of a log was legal in the table that those before it come to
pub legal_at : (t : Table) (x y : List Entry) (e : Entry) (u : Table) → Replays t (x ++ e ∷ y) u → Legal (replayed t x) e
legal_at t [] y e u r = r.0
legal_at t (a ∷ x) y e u r = legal_at (after t a) x y e u r.1

-- and that table keeps the rules
pub table_at : (t : Table) (x y : List Entry) (u : Table) → IsTable t → Replays t (x ++ y) u → IsTable (replayed t x)
table_at t [] y u is r = is
table_at t (a ∷ x) y u is r = table_at (after t a) x y u (after_keeps t a is r.0) r.1

-- entries that are legal in turn lead where they come to
legal_replays : (t : Table) (log : List Entry) → AreLegal t log → Replays t log (replayed t log)
legal_replays t [] legal = refl
legal_replays t (e ∷ log) legal = (legal [] log e refl, legal_replays (after t e) log (λ x y f is. legal (e ∷ x) y f (ap (λ l. e ∷ l) is)))

pub logs_come_to : LogsComeTo
logs_come_to t u log = (
  λ r. (λ x y e is. legal_at t x y e u (subst (λ l. Replays t l u) is r), sym (replays_is t log u r)),
  λ h. subst (λ v. Replays t log v) (sym h.1) (legal_replays t log h.0),
)

-- THE ENTRIES OF ONE JOB

pub own_append : OwnInBoth
own_append job x y = filter-append (is_of job) x y

pub own_cons : (job : ℕ) (e : Entry) (es : List Entry) → is_of job e ≡ true → own job (e ∷ es) ≡ e ∷ own job es
own_cons job e es is = rw is refl

-- in the midst of a log
pub own_with : (job : ℕ) (e : Entry) (x y : List Entry) → is_of job e ≡ true → own job (x ++ e ∷ y) ≡ own job x ++ e ∷ own job y
own_with job e x y is = own_append job x (e ∷ y) ∙ ap (λ l. own job x ++ l) (own_cons job e y is)
