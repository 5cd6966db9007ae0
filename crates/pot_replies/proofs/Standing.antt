-- What stands in a section when other jobs log more.
use Rattle.std.proofs.Common.{◌≡◌, ℕ, ◌≤◌, inl, inr, Bool, true, false, List, [], ◌∷◌, ◌++◌, length, refl, ap, sym, ◌∙◌, subst, append-nil, append_assoc, eq-eqb}
use Rattle.std.specs.Prelude.{filter, IsTrue}
use mathlib.Core.Path.{fun_ext}
use Rattle.std.proofs.lemmas.List.Elements.{filter-append}
use Rattle.pot_bytes.specs.declared.digest.Digest.{Digest}
use Rattle.pot_bytes.specs.declared.rack.Place.{Place}
use Rattle.pot_machine.specs.declared.entry.Entry.{Entry}
use Rattle.pot_machine.specs.declared.entry.Entry.TheVariants.{Seen, Gone, Begin, Oddly, Stuck}
use Rattle.pot_machine.specs.declared.slot.SlotState.TheVariants.{Live}
use Rattle.pot_machine.specs.Slot.{is_live}
use Rattle.pot_machine.specs.Table.{Table, slot_at}
use Rattle.pot_machine.specs.Logs.{is_of, own, replayed}
use Rattle.pot_index.specs.declared.entry.Logged.{Logged}
use Rattle.pot_index.specs.declared.entry.IndexEntry.TheVariants.{Find}
use Rattle.pot_index.specs.declared.record.Record.{Record}
use Rattle.pot_index.specs.Entries as index
use Rattle.pot_index.specs.Index.{names_read, IsRecordOf}
use Rattle.pot_replies.specs.Jobs.{is_stuck_at}
use Rattle.pot_replies.specs.Sections.{Section, JobEntries, mine, LogPoint, IndexMoment, Widens, names_after}
use Rattle.pot_replies.specs.Settings.{Setting}
use Rattle.pot_replies.specs.Fetches.{FoundThen, AreReads, MendsOnce, FetchEntries, SeenAs, LastIs, GoneAgain, HopelessIf, IsHopeless}

none_more : {X : Type 0} (test : X → Bool) (xs more whole : List X) → whole ≡ xs ++ more → filter test more ≡ [] → filter test whole ≡ filter test xs
none_more test xs more whole is none =
    ap (filter test) is ∙ (filter-append test xs more ∙ (ap (λ w. filter test xs ++ w) none ∙ append-nil (filter test xs)))

not_nil : {X : Type 0} (xs ys : List X) (y : X) → xs ++ y ∷ ys ≡ [] → ⊥
not_nil [] ys y e = cc e
not_nil (x ∷ xs) ys y e = cc e

-- where what follows has no entry of the job, an entry of the job stands in front of it
pub ahead : (job : ℕ) (xs more us : List Entry) (e : Entry) (zs : List Entry) → own job more ≡ [] → is_of job e ≡ true → xs ++ more ≡ us ++ e ∷ zs
    → (left : List Entry) × (xs ≡ us ++ e ∷ left)
ahead job [] more us e zs none its is =
    let here : own job (e ∷ zs) ≡ e ∷ own job zs = rw its refl in
    absurd (not_nil (own job us) (own job zs) e (ap (λ l. own job us ++ l) (sym here) ∙ (sym (filter-append (is_of job) us (e ∷ zs)) ∙ (ap (own job) (sym is) ∙ none))))
ahead job (x ∷ xs) more [] e zs none its is = (xs, cc is)
ahead job (x ∷ xs) more (u ∷ us) e zs none its is =
    let rest = ahead job xs more us e zs none its (cc is) in
    let head : x ≡ u = cc is in
    (rest.0, cc (head, rest.1))

pub its_own : (job : ℕ) → is_of job (Begin job 0 0) ≡ true
its_own job = eq-eqb job job refl

module _ (job : ℕ) (w w' : Section) (wide : Widens job w w') where
  pub same_own : (g : ℕ) → own job (w'.added g) ≡ own job (w.added g)
  same_own g = none_more (is_of job) (w.added g) (wide.more g) (w'.added g) (wide.added g) (wide.others g)

  pub same_index : index.own job w'.index_added ≡ index.own job w.index_added
  same_index = none_more (index.is_of job) w.index_added wide.index_more w'.index_added wide.index_added wide.index_others

  pub mine_stays : mine job w' ≡ mine job w
  mine_stays =
      let befores : w'.before ≡ w.before = fun_ext wide.before in
      let owns : (mine job w').own ≡ (mine job w).own = fun_ext same_own in
      λ i. record { before = befores i; own = owns i; index_before = wide.index_before i; index = same_index i }

  pub moment_stands : (g : ℕ) (log : List Entry) → LogPoint job (w.before g) (w.added g) log → LogPoint job (w'.before g) (w'.added g) log
  moment_stands g log m = record {
    sofar = m.sofar;
    later = m.later ++ wide.more g;
    parts = wide.added g ∙ (ap (λ s. s ++ wide.more g) m.parts ∙ append_assoc m.sofar m.later (wide.more g));
    last = filter-append (is_of job) m.later (wide.more g) ∙ (ap (λ s. s ++ filter (is_of job) (wide.more g)) m.last ∙ wide.others g);
    is = m.is ∙ ap (λ s. s ++ m.sofar) (sym (wide.before g));
  }

  pub index_moment_stands : (log : List Logged) → IndexMoment job w.index_before w.index_added log → IndexMoment job w'.index_before w'.index_added log
  index_moment_stands log m = record {
    sofar = m.sofar;
    later = m.later ++ wide.index_more;
    parts = wide.index_added ∙ (ap (λ s. s ++ wide.index_more) m.parts ∙ append_assoc m.sofar m.later wide.index_more);
    last = filter-append (index.is_of job) m.later wide.index_more ∙ (ap (λ s. s ++ index.own job wide.index_more) m.last ∙ wide.index_others);
    is = m.is ∙ ap (λ s. s ++ m.sofar) (sym wide.index_before);
  }

  abbrev pub found_stands : (behind : List Logged) (s : Setting) (name : List ℕ) (kept : Record) → FoundThen behind s job name kept w → FoundThen behind s job name kept w'
  found_stands behind s name kept is = record {
    index = same_index ∙ is.index;
    sofar = is.sofar;
    later = is.later ++ wide.index_more;
    at = wide.index_added ∙ (ap (λ l. l ++ wide.index_more) is.at ∙ append_assoc is.sofar (index.plain (Find job name true) ∷ is.later) wide.index_more);
    published = subst (λ l. IsRecordOf (names_after (names_read s.read) (l ++ is.sofar)) name kept) (sym wide.index_before) is.published;
  }

  pub mends_stand : (g : ℕ) → MendsOnce job (w.added g) → MendsOnce job (w'.added g)
  mends_stand g is = record {
    one_stuck = λ s c. subst (λ es. length (filter (is_stuck_at s c) es) ≤ 1) (sym (same_own g)) (is.one_stuck s c);
    none_again = λ s c f x between y z at none.
        let front = ahead job (w.added g) (wide.more g) (x ++ Begin job s c ∷ (between ++ Oddly job s c f ∷ y)) (Begin job s c) z (wide.others g) (its_own job) (sym (wide.added g) ∙ at) in
        is.none_again s c f x between y front.0 front.1 none;
  }

  pub entries_stand : (kept : Record) → FetchEntries kept job w → FetchEntries kept job w'
  entries_stand kept is = record { reads = subst (λ (m : JobEntries). AreReads kept job m.own) (sym mine_stays) is.reads; mends = λ g. mends_stand g (is.mends g) }

  pub seen_as_stands : (first : Table) (g s c : ℕ) (d : Digest) → SeenAs first job (w.before g) (w.added g) s c d → SeenAs first job (w'.before g) (w'.added g) s c d
  seen_as_stands first g s c d (x, y, at, live) = (
    x,
    y ++ wide.more g,
    wide.added g ∙ (ap (λ l. l ++ wide.more g) at ∙ append_assoc x (Seen job s c ∷ y) (wide.more g)),
    subst (λ l. slot_at (replayed first (l ++ x)) s c ≡ Live d) (sym (wide.before g)) live,
  )

  again_stands : (first : Table) (g s c : ℕ) → GoneAgain first job (w.before g) (w.added g) s c → GoneAgain first job (w'.before g) (w'.added g) s c
  again_stands first g s c is = record {
    a = is.a;
    between = is.between;
    behind = is.behind;
    z = is.z ++ wide.more g;
    parts = wide.added g ∙ (ap (λ l. l ++ wide.more g) is.parts ∙ append_assoc ((is.a ++ Gone job s c ∷ is.between) ++ is.behind) (Gone job s c ∷ is.z) (wide.more g));
    live = subst (λ l. IsTrue (is_live (slot_at (replayed first (l ++ (is.a ++ Gone job s c ∷ is.between))) s c))) (sym (wide.before g)) is.live;
    last = filter-append (is_of job) is.z (wide.more g) ∙ (ap (λ l. l ++ own job (wide.more g)) is.last ∙ wide.others g);
  }

  hopeless_if : (mends : Bool) (s : Setting) (p : Place) → HopelessIf mends s job w p → HopelessIf mends s job w' p
  hopeless_if true s p (inl is) = inl (subst (λ es. LastIs es (λ e. (o : ℕ) × (e ≡ Stuck job p.stripe p.column o))) (sym (same_own p.group)) is)
  hopeless_if true s p (inr (inl is)) = inr (inl (subst (λ es. LastIs es (λ e. (f : Digest) × (e ≡ Oddly job p.stripe p.column f))) (sym (same_own p.group)) is))
  hopeless_if true s p (inr (inr is)) = inr (inr (again_stands (s.first p.group) p.group p.stripe p.column is))
  hopeless_if false s p is = subst (λ es. LastIs es (λ e. e ≡ Gone job p.stripe p.column)) (sym (same_own p.group)) is

  pub hopeless_stands : (s : Setting) (p : Place) → IsHopeless s job w p → IsHopeless s job w' p
  hopeless_stands s p is = hopeless_if s.mends s p is
