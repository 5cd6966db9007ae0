-- What groups leave, and what opened their tables.
use Rattle.std.proofs.Common.{◌≡◌, ℕ, List, map, sym, ap, subst, ◌∙◌}
use Rattle.std.specs.Prelude.{Some, slice_get}
use Rattle.std.proofs.lemmas.List.{length-map}
use Rattle.std.proofs.lemmas.Option.{same_Some}
use Rattle.pot_bytes.proofs.Elements.{element_of_map}
use Rattle.pot_outside.specs.Archives.{Meaning}
use Rattle.pot_machine.specs.declared.entry.Entry.{Entry}
use Rattle.pot_machine.specs.Table.{Table, serving_at}
use Rattle.pot_group.specs.Group.{GroupView}
use Rattle.pot_shelves.specs.Opening.{failures}
use Rattle.pot_shelves.specs.Shelves.{Shelves}
use Rattle.pot_shared.specs.Groups.{IsOpened}
use Rattle.pot_shared.specs.Leaving.{LeavesGroup, LeaveGroups, still}

-- what is said of the group of each place too
pub leave_groups : {M : Type 0} (told : Type 0) (meant : ℕ → Meaning) (Has : Shelves → ℕ → Type 0) (see : M → GroupView) (ms : List M) (Says : ℕ → GroupView → Type 0)
    → ((n : ℕ) (m : M) → slice_get ms n ≡ Some m → (l : LeavesGroup told meant Has (see m).first (see m).log (still (see m).table)) × Says n l.view)
    → (left : LeaveGroups told meant Has (map (λ m. (see m).first) ms) (map (λ m. (see m).log) ms) (map still (map (λ m. (see m).table) ms)))
    × ((g : ℕ) (t u : Table) (log : List Entry) (et : slice_get (map (λ m. (see m).first) ms) g ≡ Some t) (eu : slice_get (map still (map (λ m. (see m).table) ms)) g ≡ Some u)
    (el : slice_get (map (λ m. (see m).log) ms) g ≡ Some log) → Says g (left.each g t u log et eu el).view)
leave_groups {M} told meant Has see ms Says leaves = (
  record {
    count = length-map (map (λ m. (see m).table) ms) still ∙ (length-map ms (λ m. (see m).table) ∙ sym (length-map ms (λ m. (see m).first)));
    count_logs = length-map ms (λ m. (see m).log) ∙ sym (length-map ms (λ m. (see m).first));
    each = λ g t u log et eu el. (one g t u log et eu el).0;
  },
  λ g t u log et eu el. (one g t u log et eu el).1,
)
  where
    Left : ℕ → Table → List Entry → Table → Type 0
    Left g t log u = (l : LeavesGroup told meant Has t log u) × Says g l.view

    one : (g : ℕ) (t u : Table) (log : List Entry) → slice_get (map (λ m. (see m).first) ms) g ≡ Some t → slice_get (map still (map (λ m. (see m).table) ms)) g ≡ Some u
        → slice_get (map (λ m. (see m).log) ms) g ≡ Some log → Left g t log u
    one g t u log et eu el =
        (let a = element_of_map (λ m. (see m).first) ms g t et in let b = element_of_map (λ m. (see m).log) ms g log el in
        let d = element_of_map still (map (λ m. (see m).table) ms) g u eu in let f = element_of_map (λ m. (see m).table) ms g d.0 d.1 in
        let sb : b.0 ≡ a.0 = same_Some b.0 a.0 (sym b.1 ∙ a.1) in let sf : f.0 ≡ a.0 = same_Some f.0 a.0 (sym f.1 ∙ a.1) in
        let log_is : (see a.0).log ≡ log = ap (λ m. (see m).log) (sym sb) ∙ b.2 in
        let written : still (see a.0).table ≡ u = ap still (ap (λ m. (see m).table) (sym sf) ∙ f.2) ∙ d.2 in
        subst (λ x. Left g x log u) a.2 (subst (λ x. Left g (see a.0).first x u) log_is
        (subst (λ x. Left g (see a.0).first (see a.0).log x) written (leaves g a.0 a.1))))

-- what is known of the archives, by another word
pub other_groups : (told : Type 0) (meant : ℕ → Meaning) (Has Is : Shelves → ℕ → Type 0) (read : List Table) (logs : List (List Entry)) (written : List Table) → ((s : Shelves) (n : ℕ) → Has s n → Is s n)
    → LeaveGroups told meant Has read logs written → LeaveGroups told meant Is read logs written
other_groups told meant Has Is read logs written is l = record {
  count = l.count;
  count_logs = l.count_logs;
  each = λ g t u log et eu el. (let x = l.each g t u log et eu el in record {
    view = x.view;
    first = x.first;
    is_log = x.is_log;
    is = x.is;
    settled = x.settled;
    execution = x.execution;
    marked = x.marked;
    taken = x.taken;
    within = x.within;
    archives = λ n has. is x.view.shelves n (x.archives n has);
  });
}

-- what opened their tables, by what is known of their counts
pub opened_as : (meant : ℕ → Meaning) (Rises Shown : ℕ → Type 0) (Often ShownOften : ℕ → ℕ → Type 0) (t : Table) (log : List Entry) → ((n : ℕ) → Rises n → Shown n) → ((n k : ℕ) → Often n k → ShownOften n k)
    → IsOpened meant Rises Often t log → IsOpened meant Shown ShownOften t log
opened_as meant Rises Shown Often ShownOften t log shown often o = record {
  read = o.read;
  gone = o.gone;
  broke = o.broke;
  found = o.found;
  finds = o.finds;
  missed = λ s c ls lc is sound. shown (serving_at t s c) (o.missed s c ls lc is sound);
  few = λ slots missed n has. often n (failures t slots t.stripes n) (o.few slots missed n has);
  breaks = o.breaks;
  is = o.is;
}
