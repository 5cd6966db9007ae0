-- What the calls of a move leave.
use Rattle.std.proofs.Common.{◌≡◌, ℕ, suc, ◌+◌, ◌<◌, ◌++◌, List, [], ◌∷◌, None, Bool, true, false, length, length-append, refl, sym, ap, ◌∙◌, subst, arith}
use Rattle.std.specs.Prelude.{Contains}
use Rattle.pot_bytes.specs.Rack.{log_bound}
use Rattle.pot_outside.specs.Archives.{Meaning}
use Rattle.pot_outside.specs.declared.archive.Shelf.{Shelf}
use Rattle.pot_machine.specs.declared.entry.Entry.{Entry}
use Rattle.pot_machine.specs.declared.entry.Entry.TheVariants.{MoveBegin, Swapped}
use Rattle.pot_machine.specs.Table.{Table, width, column_at, holder_of}
use Rattle.pot_machine.specs.Column.{names}
use Rattle.pot_machine.specs.Machine.{Legal, after}
use Rattle.pot_machine.proofs.Searches.{none_least}
use Rattle.pot_shelves.specs.Shelves.{Shelved, plain, Brings}
use Rattle.pot_group.specs.Group.{GroupView, GroupParts, IsSettled, view_of, with_archives}
use Rattle.pot_group.specs.Relaying.{acted}
use Rattle.pot_group.specs.Moving.{Comes, MoveUse}
use Rattle.pot_steps.specs.Entries.{LosesAtLive}
use Rattle.pot_steps.specs.Flights.{Acts}
use Rattle.pot_steps.specs.Holdings.{Holdings}
use Rattle.pot_steps.specs.RelaySteps.{EntryWrites}
use Rattle.pot_group.proofs.Brought.{held_same}
use Rattle.pot_group.proofs.MoveExits.{move_begin_settled, swap_settled}

pub go_exit : (told : Type 0) (g : GroupView) (job c to : ℕ) (e : Entry) (t : Table) (log : List Entry) → IsSettled told g → length g.log < log_bound → Legal g.table (MoveBegin job c to) → Contains g.shelves.numbers to
    → e ≡ MoveBegin job c to → t ≡ after g.table e → log ≡ g.log ++ e ∷ [] → IsSettled told (record g { table = t; log = log })
go_exit told g job c to e t log settled room legal there ee et el =
    subst (λ t. IsSettled told (record g { table = t; log = log })) (sym (et ∙ ap (after g.table) ee))
    (subst (λ log. IsSettled told (record g { table = after g.table (MoveBegin job c to); log = log })) (sym (el ∙ ap (λ e. g.log ++ e ∷ []) ee))
    (move_begin_settled told g job c settled room to legal there))

pub swap_exit : (told : Type 0) (g : GroupView) (job c to : ℕ) (t : Table) (log : List Entry) → IsSettled told g → length g.log < log_bound → Legal g.table (Swapped job c to) → Contains g.shelves.numbers to
    → t ≡ after g.table (Swapped job c to) → log ≡ g.log ++ Swapped job c to ∷ [] → IsSettled told (record g { table = t; log = log })
swap_exit told g job c to t log settled room legal there et el =
    subst (λ t. IsSettled told (record g { table = t; log = log })) (sym et)
    (subst (λ log. IsSettled told (record g { table = after g.table (Swapped job c to); log = log })) (sym el)
    (swap_settled told g job c settled room to legal there))

-- AN ARCHIVE COMES

-- a number that no archive has is no home and no target
pub unheld : (told : Type 0) (g : GroupView) (number : ℕ) → IsSettled told g → (Contains g.shelves.numbers number → ⊥) → holder_of g.table number ≡ None
unheld told g number settled fresh = none_least (width g.table) (λ k. names (column_at g.table k) number) (λ k lk. by k lk (names (column_at g.table k) number) refl)
  where
    by : (k : ℕ) → k < width g.table → (b : Bool) → names (column_at g.table k) number ≡ b → names (column_at g.table k) number ≡ false
    by k lk false e = e
    by k lk true e = absurd (fresh (settled.shelves k number lk e))

pub begin_legal : {A : Type 0} (told : Type 0) (meaning : A → Meaning) (old mid : GroupParts A) (job c to : ℕ) → IsSettled told (view_of meaning old) → c < width old.table
    → MoveUse (view_of meaning old) c to None → mid ≡ with_archives old mid.shelves → Legal mid.table (MoveBegin job c to)
begin_legal told meaning old mid job c to settled column free e =
    subst (λ (w : GroupParts _). Legal w.table (MoveBegin job c to)) (sym e) ((column, unheld told (view_of meaning old) to settled free.1), free.0)

pub swap_legal : {A : Type 0} (told : Type 0) (meaning : A → Meaning) (old mid : GroupParts A) (job c to : ℕ) → IsSettled told (view_of meaning old) → c < width old.table
    → (Contains (plain meaning old.shelves).numbers to → ⊥) → mid ≡ with_archives old mid.shelves → Legal mid.table (Swapped job c to)
swap_legal told meaning old mid job c to settled column fresh e =
    subst (λ (w : GroupParts _). Legal w.table (Swapped job c to)) (sym e) (column, unheld told (view_of meaning old) to settled fresh)

-- An archive has come, and an entry is logged that leaves what is held at Live places.
module _ {A : Type 0} (told : Type 0) (meaning : A → Meaning) (old mid new : GroupParts A) (shelf : Shelf A) (settled : IsSettled told (view_of meaning old)) (room : length old.log < log_bound)
    (fresh : Contains (plain meaning old.shelves).numbers shelf.number → ⊥) (em : mid ≡ with_archives old mid.shelves)
    (brings : Brings told shelf.number (meaning shelf.archive) (plain meaning old.shelves) (plain meaning mid.shelves)) where
  came_by : (e : Entry) → Legal old.table e → ((h h' : Holdings) → LosesAtLive old.table h h' → Acts old.table old.flights [] e h h') → ((slot : ℕ) → EntryWrites old.table e shelf.number slot)
      → Comes told meaning e shelf (view_of meaning old) (view_of meaning (acted (with_archives old mid.shelves) e []))
  came_by e legal acts written = record {
    room = room;
    fresh = fresh;
    acts = record { number = refl; first = refl; legal = legal; table = refl; log = refl; flights = refl; blinds = refl; tried = refl };
    brings = brings;
    steps = λ t. record {
      logs = record {
        legal = legal;
        log = refl;
        room = (let l : length (old.log ++ e ∷ []) ≡ length old.log + 1 = length-append old.log (e ∷ []) in omega (arith, room));
        table = refl;
        flights = refl;
        before = (view_of meaning old).shelves.held;
        now = (plain meaning mid.shelves).held;
        lost = (λ n m b q. q);
        acts = acts (view_of meaning old).shelves.held (plain meaning mid.shelves).held
            (λ n k b ln lk live q. sym (held_same told (view_of meaning old) shelf.number (meaning shelf.archive) (plain meaning mid.shelves) settled fresh brings n k lk) ∙ q);
        loses = (λ n m b q. q);
        elsewhere = (λ n m b ne q. sym (brings.same_held n m (λ is. ne (subst (λ n. EntryWrites old.table e n m) (sym is) (written m)))) ∙ q);
      };
      brings = record { blocks = brings.blocks; sums = brings.sums; others = brings.same_held; silent = brings.same_heard };
    };
  }

  pub begun_comes : (job c : ℕ) → c < width old.table → (column_at old.table c).moving ≡ None → new ≡ acted mid (MoveBegin job c shelf.number) []
      → Comes told meaning (MoveBegin job c shelf.number) shelf (view_of meaning old) (view_of meaning new)
  begun_comes job c column still en = subst (λ (w : GroupParts A). Comes told meaning (MoveBegin job c shelf.number) shelf (view_of meaning old) (view_of meaning w)) (sym (en ∙ ap (λ (w : GroupParts A). acted w (MoveBegin job c shelf.number) []) em))
      (came_by (MoveBegin job c shelf.number) ((column, unheld told (view_of meaning old) shelf.number settled fresh), still) (λ h h' l. l) (λ slot. refl))

  pub swapped_comes : (job c : ℕ) → c < width old.table → new ≡ acted mid (Swapped job c shelf.number) []
      → Comes told meaning (Swapped job c shelf.number) shelf (view_of meaning old) (view_of meaning new)
  swapped_comes job c column en = subst (λ (w : GroupParts A). Comes told meaning (Swapped job c shelf.number) shelf (view_of meaning old) (view_of meaning w)) (sym (en ∙ ap (λ (w : GroupParts A). acted w (Swapped job c shelf.number) []) em))
      (came_by (Swapped job c shelf.number) (column, unheld told (view_of meaning old) shelf.number settled fresh) (λ h h' l. l) (λ slot. refl))

-- an archive that came is there
pub contains_last : (xs : List ℕ) (n : ℕ) → Contains (xs ++ n ∷ []) n
contains_last [] n = (0, omega arith, refl)
contains_last (x ∷ xs) n = (let h : Contains (xs ++ n ∷ []) n = contains_last xs n in (suc h.0, omega (arith, h.1), h.2))

pub came : {A : Type 0} (told : Type 0) (meaning : A → Meaning) (old b : Shelved A) (shelf : Shelf A)
    → Brings told shelf.number (meaning shelf.archive) (plain meaning old) (plain meaning b) → Contains (plain meaning b).numbers shelf.number
came told meaning old b shelf brings = subst (λ ns. Contains ns shelf.number) (sym brings.numbers) (contains_last (plain meaning old).numbers shelf.number)
