-- That the slot of each entry of a job was Live before it.
use Rattle.std.proofs.Common.{◌≡◌, inl, inr, ◌⊎◌, ⊎_elim, ℕ, true, List, [], ◌∷◌, ◌++◌, refl, ap, sym, ◌∙◌, subst}
use Rattle.std.specs.Prelude.{Contains, IsTrue}
use Rattle.std.proofs.lemmas.List.Elements.{Contains-append_right}
use Rattle.pot_bytes.proofs.Elements.{none_contained, one_contained}
use Rattle.pot_machine.specs.declared.entry.Entry.{Entry}
use Rattle.pot_machine.specs.Slot.{is_live}
use Rattle.pot_machine.specs.Table.{Table, slot_at}
use Rattle.pot_machine.specs.Logs.{is_of, own, replayed}
use Rattle.pot_machine.proofs.Logs.{own_with}
use Rattle.pot_index.proofs.NameLemmas.{contains_here}
use Rattle.pot_replies.specs.Jobs.{place_in}
use Rattle.pot_replies.specs.Scrubs.{WereLive}

-- AN ENTRY IN TWO LISTS

-- it stands in the first, or behind all of it in the second
in_either : (xs more us : List Entry) (e : Entry) (zs : List Entry) → xs ++ more ≡ us ++ e ∷ zs
    → ((left : List Entry) × (xs ≡ us ++ e ∷ left)) ⊎ ((left : List Entry) × (us ≡ xs ++ left) × (more ≡ left ++ e ∷ zs))
in_either [] more us e zs is = inr (us, refl, is)
in_either (x ∷ xs) more [] e zs is = inl (xs, cc is)
in_either (x ∷ xs) more (u ∷ us) e zs is =
    let head : x ≡ u = cc is in
    ⊎_elim
    (λ (front : (left : List Entry) × (xs ≡ us ++ e ∷ left)). inl (front.0, (let rest = front.1 in (cc))))
    (λ (back : (left : List Entry) × (us ≡ xs ++ left) × (more ≡ left ++ e ∷ zs)). inr (back.0, (let rest = back.1 in (cc)), back.2))
    (in_either xs more us e zs (cc is))

-- an entry of the job is one of its own
its_own : (job : ℕ) (es owns x y : List Entry) (e : Entry) → own job es ≡ owns → es ≡ x ++ e ∷ y → is_of job e ≡ true → Contains owns e
its_own job es owns x y e are is its =
    subst (λ l. Contains l e) (sym (own_with job e x y its) ∙ (ap (own job) (sym is) ∙ are))
    (Contains-append_right (own job x) (e ∷ own job y) e (contains_here e (own job y)))

-- WHERE IT WAS LIVE

module _ (job : ℕ) (first : Table) (before : List Entry) where
  -- no entry
  pub live_none : WereLive job first before []
  live_none x y e is its = absurd (none_contained e (its_own job [] [] x y e refl is its))

  module _ (added : List Entry) (live : WereLive job first before added) where
    -- more entries, of which none is the job's
    pub live_others : (others : List Entry) → own job others ≡ [] → WereLive job first before (added ++ others)
    live_others others none x y e is its = ⊎_elim
        (λ (front : (left : List Entry) × (added ≡ x ++ e ∷ left)). live x front.0 e front.1 its)
        (λ (back : (left : List Entry) × (x ≡ added ++ left) × (others ≡ left ++ e ∷ y)).
        absurd (none_contained e (its_own job others [] back.0 y e none back.2 its)))
        (in_either added others x e y is)

    -- one more, of a slot that is Live
    pub live_more : (d : Entry) → IsTrue (is_live (slot_at (replayed first (before ++ added)) (place_in d).0 (place_in d).1)) → WereLive job first before (added ++ d ∷ [])
    live_more d was x y e is its = ⊎_elim
        (λ (front : (left : List Entry) × (added ≡ x ++ e ∷ left)). live x front.0 e front.1 its)
        (λ (back : (left : List Entry) × (x ≡ added ++ left) × (d ∷ [] ≡ left ++ e ∷ y)).
        let same : d ≡ e = one_contained d e (subst (λ l. Contains l e) (sym back.2) (Contains-append_right back.0 (e ∷ y) e (contains_here e y))) in
        (added, back.0, back.1, subst (λ q. IsTrue (is_live (slot_at (replayed first (before ++ added)) (place_in q).0 (place_in q).1))) same was))
        (in_either added (d ∷ []) x e y is)
