-- What the entries that change a column leave of the columns and their archives.
use Rattle.std.proofs.Common.{◌≡◌, ◌⊎◌, inl, inr, ℕ, zero, suc, ◌<◌, ◌++◌, ◌==◌, List, [], ◌∷◌, Option, Some, None, true, false, IsTrue, length, refl, sym, ap, ◌∙◌, subst, arith, append_assoc}
use Rattle.std.specs.Prelude.{Contains, nat_eq, if◌then◌else◌}
use Rattle.std.proofs.lemmas.Bool.Decides.{nat_tests}
use Rattle.std.proofs.lemmas.Bool.{cases_eq, eqb-true, or_cases, or_left}
use Rattle.pot_bytes.proofs.Elements.{contains_front, contains_back}
use Rattle.pot_machine.specs.declared.column.Column.{Column}
use Rattle.pot_machine.specs.declared.column.Moving.{Moving}
use Rattle.pot_machine.specs.declared.entry.Entry.{Entry}
use Rattle.pot_machine.specs.declared.entry.Entry.TheVariants.{MoveBegin, Moved, MoveEnd, Swapped}
use Rattle.pot_machine.specs.Column.{names, names_moved, target_of}
use Rattle.pot_machine.specs.Table.{Table, width, column_at}
use Rattle.pot_machine.specs.Machine.{Legal, after, with_loss, with_losses, moved_on}
use Rattle.pot_machine.specs.Laws.{ChangesColumn}
use Rattle.pot_machine.proofs.Columns.{column_same, moved_home_names}
use Rattle.pot_machine.proofs.LeftAlone.{columns_stay}
use Rattle.pot_machine.proofs.Sizes.{width-with_losses}
use Rattle.pot_shelves.specs.Shelves.{Shelves, Keeps}
use Rattle.pot_group.specs.Causes.{archives_of, brought, brought_by}
use Rattle.pot_group.specs.Group.{GroupView, IsSettled}
use Rattle.pot_group.proofs.Settled.{LeavesColumns}
use Rattle.pot_group.proofs.CauseLemmas.{brought_by-snoc}

pub archives-more : (first : Table) (log : List Entry) (c : ℕ) (e : Entry) → archives_of first (log ++ e ∷ []) c ≡ archives_of first log c ++ brought c e
archives-more first log c e = ap (λ l. (column_at first c).home ∷ l) (ap (λ l. target_of (column_at first c).moving ++ l) (brought_by-snoc c log e) ∙ sym (append_assoc (target_of (column_at first c).moving) (brought_by c log) (brought c e)))

-- a column whose archives were its own before, or came with the entry
module _ (told : Type 0) (g : GroupView) (e : Entry) (s : Shelves) (settled : IsSettled told g) (keeps : Keeps g.shelves s)
    (own : (c number : ℕ) → c < width g.table → IsTrue (names (column_at (after g.table e) c) number)
    → IsTrue (names (column_at g.table c) number) ⊎ (Contains g.shelves.numbers number × Contains (brought c e) number)) where
  pub leaves_columns : LeavesColumns told g e s
  leaves_columns = record {
    shelves = (λ c n lc q. subst (λ ns. Contains ns n) (sym keeps.numbers) (elim (own c n lc q) [ inl h ↦ settled.shelves c n lc h | inr h ↦ h.0 ]));
    serves = (λ c n lc q. subst (λ ns. Contains ns n) (sym (archives-more g.first g.log c e)) (elim (own c n lc q) [
      | inl h ↦ contains_front (archives_of g.first g.log c) (brought c e) n (settled.serves c n lc h)
      | inr h ↦ contains_back (archives_of g.first g.log c) (brought c e) n h.1
    ]));
    archives = (λ c n h. subst (λ ns. Contains ns n) (sym (archives-more g.first g.log c e)) (contains_front (archives_of g.first g.log c) (brought c e) n h));
  }

home_named : (o : Option Moving) (home n : ℕ) → (home == n) ≡ true → IsTrue (names_moved o home n)
home_named None home n h = h
home_named (Some m) home n h = or_left (home == n) (m.to == n) h

pub on_names : (o : Option Moving) (home n : ℕ) → IsTrue (names (moved_on (record { home = home; moving = o })) n) → IsTrue (names_moved o home n)
on_names None home n h = h
on_names (Some m) home n h = h

comes : (c to n : ℕ) → to ≡ n → Contains (if nat_eq c c then to ∷ [] else []) n
comes c to n e = subst (λ l. Contains l n) (sym (itself c (to ∷ []))) (0, omega arith, e)
  where
    itself : (c : ℕ) (xs : List ℕ) → (if nat_eq c c then xs else []) ≡ xs
    itself c xs = grind (arith, nat_tests)

module _ (told : Type 0) (g : GroupView) (s : Shelves) (settled : IsSettled told g) (keeps : Keeps g.shelves s) (job c : ℕ) where
  Own : Entry → ℕ → ℕ → Type 0
  Own e k n = IsTrue (names (column_at g.table k) n) ⊎ (Contains g.shelves.numbers n × Contains (brought k e) n)

  -- by column: the one that is changed, and the others
  by_column : (e : Entry) (x : Column) → ((k : ℕ) → ChangesColumn e k → k ≡ c) → column_at (after g.table e) c ≡ x
      → ((n : ℕ) → IsTrue (names x n) → IsTrue (names (column_at g.table c) n) ⊎ (Contains g.shelves.numbers n × Contains (brought c e) n))
      → (k n : ℕ) → k < width g.table → IsTrue (names (column_at (after g.table e) k) n) → IsTrue (names (column_at g.table k) n) ⊎ (Contains g.shelves.numbers n × Contains (brought k e) n)
  by_column e x alone at own k n lk q = elim (cases_eq k c) [
    | inl p ↦ subst (λ k. IsTrue (names (column_at g.table k) n) ⊎ (Contains g.shelves.numbers n × Contains (brought k e) n)) (sym p)
        (own n (subst (λ y. IsTrue (names y n)) (ap (column_at (after g.table e)) p ∙ at) q))
    | inr ne ↦ inl (subst (λ y. IsTrue (names y n)) (columns_stay g.table e k (λ w. ne (alone k w))) q)
  ]

  pub move_begins : (to : ℕ) → Legal g.table (MoveBegin job c to) → Contains g.shelves.numbers to → LeavesColumns told g (MoveBegin job c to) s
  move_begins to legal has = leaves_columns told g (MoveBegin job c to) s settled keeps
      (by_column (MoveBegin job c to) _ (λ k w. w) (column_same g.table c _ settled.table.size.columns legal.0.0) (λ n h. elim (or_cases ((column_at g.table c).home == n) (to == n) h) [
        | inl e ↦ inl (home_named (column_at g.table c).moving (column_at g.table c).home n e)
        | inr e ↦ inr (subst (λ m. Contains g.shelves.numbers m) (eqb-true to n e) has, comes c to n (eqb-true to n e))
      ]))

  pub moves_copied : (n : ℕ) → Legal g.table (Moved job n c true) → LeavesColumns told g (Moved job n c true) s
  moves_copied n legal = leaves_columns told g (Moved job n c true) s settled keeps
      (by_column (Moved job n c true) _ (λ k w. w) (column_same g.table c _ settled.table.size.columns legal.0.0) (λ m h. inl (on_names (column_at g.table c).moving (column_at g.table c).home m h)))

  pub moves_passed : (n : ℕ) → Legal g.table (Moved job n c false) → LeavesColumns told g (Moved job n c false) s
  moves_passed n legal = leaves_columns told g (Moved job n c false) s settled keeps
      (by_column (Moved job n c false) _ (λ k w. w) (column_same (with_loss g.table n c) c _ settled.table.size.columns legal.0.0) (λ m h. inl (on_names (column_at g.table c).moving (column_at g.table c).home m h)))

  pub move_ends : Legal g.table (MoveEnd job c) → LeavesColumns told g (MoveEnd job c) s
  move_ends legal = leaves_columns told g (MoveEnd job c) s settled keeps
      (by_column (MoveEnd job c) _ (λ k w. w) (column_same g.table c _ settled.table.size.columns legal.0) (λ m h. inl (moved_home_names (column_at g.table c).moving (column_at g.table c).home m h)))

  columns-losses : (n : ℕ) (t : Table) (c : ℕ) → (with_losses n t c).columns ≡ t.columns
  columns-losses zero t c = refl
  columns-losses (suc n) t c = columns-losses n t c

  pub swaps : (to : ℕ) → Legal g.table (Swapped job c to) → Contains g.shelves.numbers to → LeavesColumns told g (Swapped job c to) s
  swaps to legal has = leaves_columns told g (Swapped job c to) s settled keeps
      (by_column (Swapped job c to) _ (λ k w. w) (column_same (with_losses g.table.stripes g.table c) c _ sized wide)
      (λ n h. inr (subst (λ m. Contains g.shelves.numbers m) (eqb-true to n h) has, comes c to n (eqb-true to n h))))
    where
      w : width (with_losses g.table.stripes g.table c) ≡ width g.table
      w = width-with_losses g.table.stripes g.table c

      wide : c < width (with_losses g.table.stripes g.table c)
      wide = omega (arith, w, legal.0)

      sized : length (with_losses g.table.stripes g.table c).columns ≡ width (with_losses g.table.stripes g.table c)
      sized = ap length (columns-losses g.table.stripes g.table c) ∙ settled.table.size.columns ∙ sym w
