-- The groups that a session left, one after another, with what the contract of the run says of
-- each.
use Rattle.std.proofs.Common.{◌≡◌, inl, inr, ℕ, suc, ◌<◌, List, [], ◌∷◌, ◌++◌, Some, Bool, true, false, ◌||◌, IsTrue, refl, sym, ap, ◌∙◌, subst, arith, length, map}
use Rattle.std.specs.Prelude.{◌==◌, ◌^◌, All, Contains, flat_map, slice_get}
use Rattle.std.proofs.lemmas.Bool.{eqb-true}
use Rattle.std.proofs.lemmas.List.Elements.{All-head, All-tail, Contains-append_left, Contains-append_right}
use Rattle.pot_bytes.specs.Rack.{log_bound}
use Rattle.pot_outside.specs.Archives.{Meaning}
use Rattle.pot_outside.specs.Counts.{Rose}
use Rattle.pot_outside.specs.declared.archive.Marks.{Marks}
use Rattle.pot_machine.specs.declared.entry.Entry.{Entry}
use Rattle.pot_machine.specs.Table.{Table, archives_in}
use Rattle.pot_group.specs.Arrivals.{arrivals}
use Rattle.pot_shared.specs.declared.member.Taking.{Taking}
use Rattle.pot_shared.specs.Groups.{had_by}
use Rattle.pot_shared.specs.Hands.{AreApart, times}
use Rattle.pot_shared.specs.Leaving.{LeavesGroup}
use Rattle.pot_shared.specs.Leaving as leaving
use Rattle.pot_shared.proofs.Takings.{blocks_same}
use Rattle.pot_shared.proofs.Times.{contains_times, times-append}
use Rattle.pot_execution.specs.Execution.{FailedInOpening}
use Rattle.pot_world.specs.Acts.{with_use}
use Rattle.pot_refinement.specs.Refinement.{AllWentWell, ComeEmpty, IsArchiveEmpty, PastGroup, WentWell, is_clean, used_since, with_uses}
use Rattle.pot_session.specs.Serving.{IsInRoom, came_by}
use Rattle.pot_theorem.specs.Sessions.{ClosedSession}

-- A GROUP

-- a group that a session left
pub record One (c : ClosedSession) : Type 0 where
  pub read : Table
  pub log : List Entry
  pub written : Table
  pub left : LeavesGroup (IsTrue c.room.tells) c.room.before.means (IsInRoom (IsTrue c.room.tells) c.room.after.means c.missing) read log written

abbrev pub past_of : (c : ClosedSession) → One c → PastGroup
past_of c o = record { view = o.left.view; execution = o.left.execution c.told }

abbrev pub pasts_of : (c : ClosedSession) → List (One c) → List PastGroup
pasts_of c os = map (past_of c) os

abbrev pub reads : (c : ClosedSession) → List (One c) → List Table
reads c os = map (λ o. o.read) os

abbrev pub logs : (c : ClosedSession) → List (One c) → List (List Entry)
logs c os = map (λ o. o.log) os

abbrev pub writtens : (c : ClosedSession) → List (One c) → List Table
writtens c os = map (λ o. o.written) os

-- ALL OF THEM

pub record Ones (c : ClosedSession) (ts : List Table) (ls : List (List Entry)) (us : List Table) : Type 0 where
  pub all : List (One c)
  pub are_read : reads c all ≡ ts
  pub are_logs : logs c all ≡ ls
  pub are_written : writtens c all ≡ us

gather : (c : ClosedSession) (ts : List Table) (ls : List (List Entry)) (us : List Table) → length us ≡ length ts → length ls ≡ length ts
    → ((g : ℕ) (t u : Table) (log : List Entry) → slice_get ts g ≡ Some t → slice_get us g ≡ Some u → slice_get ls g ≡ Some log
    → LeavesGroup (IsTrue c.room.tells) c.room.before.means (IsInRoom (IsTrue c.room.tells) c.room.after.means c.missing) t log u) → Ones c ts ls us
gather c [] [] [] long long2 each = record { all = []; are_read = refl; are_logs = refl; are_written = refl }
gather c [] [] (u ∷ us) long long2 each = absurd (omega (arith, long))
gather c [] (l ∷ ls) us long long2 each = absurd (omega (arith, long2))
gather c (t ∷ ts) [] us long long2 each = absurd (omega (arith, long2))
gather c (t ∷ ts) (l ∷ ls) [] long long2 each = absurd (omega (arith, long))
gather c (t ∷ ts) (l ∷ ls) (u ∷ us) long long2 each =
    let rest = gather c ts ls us (omega (arith, long)) (omega (arith, long2)) (λ g x y z a b d. each (suc g) x y z a b d) in
    record {
      all = record { read = t; log = l; written = u; left = each 0 t u l refl refl refl } ∷ rest.all;
      are_read = ap (λ xs. t ∷ xs) rest.are_read;
      are_logs = ap (λ xs. l ∷ xs) rest.are_logs;
      are_written = ap (λ xs. u ∷ xs) rest.are_written;
    }

pub ones_of : (c : ClosedSession) → Ones c c.first.tables c.last.group_logs c.last.tables
ones_of c = gather c c.first.tables c.last.group_logs c.last.tables c.leaves.groups.count c.leaves.groups.count_logs c.leaves.groups.each

-- WHAT IS SAID OF ONE

module _ (c : ClosedSession) (o : One c) where
  -- the archives that it has had
  pub had_here : (n : ℕ) → Contains (archives_in o.read ++ arrivals o.log) n → Contains (had_by o.left.view) n
  had_here n h = subst (λ l. Contains (archives_in o.left.view.first ++ arrivals l) n) (sym o.left.is_log) (subst (λ (t : Table). Contains (archives_in t ++ arrivals o.log) n) (sym o.left.first) h)

  pub had_there : (n : ℕ) → Contains (had_by o.left.view) n → Contains (archives_in o.read ++ arrivals o.log) n
  had_there n h = subst (λ l. Contains (archives_in o.read ++ arrivals l) n) o.left.is_log (subst (λ (t : Table). Contains (archives_in t ++ arrivals o.left.view.log) n) o.left.first h)

  -- each was taken as its number meant
  pub took : (n slot : ℕ) → Contains (had_by o.left.view) n → slot < 2 ^ 32 → (o.left.view.shelves.taken n).held slot ≡ (c.room.before.means n).held slot
  took n slot h lt = blocks_same (o.left.view.shelves.taken n).held (c.room.before.means n).held (ap (λ (t : Taking). t.blocks) (o.left.taken c.told n h)) slot lt

  pub heard_then : (n : ℕ) → Contains (had_by o.left.view) n → (o.left.view.shelves.taken n).heard ≡ (c.room.before.means n).heard
  heard_then n h = ap (λ (t : Taking). t.heard) (o.left.taken c.told n h)

  pub empty_then : (n : ℕ) → Contains (had_by o.left.view) n → IsArchiveEmpty (c.room.before.means n) → IsArchiveEmpty (o.left.view.shelves.taken n)
  empty_then n h e = record { held = λ slot lt. took n slot h lt ∙ e.held slot lt; heard = heard_then n h ∙ e.heard }

  -- and what is seen of it is what its number means, where the room took it back
  pub shown : (n : ℕ) → Contains (had_by o.left.view) n → times n c.missing ≡ 0 → leaving.Shows o.left.view.shelves n (c.room.after.means n)
  shown n h back = o.left.archives n h c.told back

  -- no count of faults rose in the opening where none rose in the session
  steadily : (n : ℕ) → Contains (had_by o.left.view) n → times n c.missing ≡ 0 → (Rose (c.room.before.means n).faults (c.room.after.means n).faults → ⊥) → FailedInOpening o.left.view.shelves n → ⊥
  steadily n h back none failed =
      let before : o.left.view.shelves.faults_taken n ≡ (c.room.before.means n).faults = ap (λ (m : Marks). m.faults) (o.left.marked c.told n h) in
      let after = (shown n h back).faults in
      let later = o.left.settled.opened_faults n in
      none (elim failed [ inl lt ↦ inl (omega (arith, lt, before, after, later)) | inr le ↦ inr (omega (arith, le, after, later)) ])

-- ARCHIVES THAT CAME

-- a number that stands among two lists stands twice
twice : (xs ys : List ℕ) (n : ℕ) → AreApart (xs ++ ys) → Contains xs n → Contains ys n → ⊥
twice xs ys n apart a b = (let s = times-append n xs ys in let p = apart n in let x = contains_times xs n a in let y = contains_times ys n b in omega (arith, s, p, x, y))

front_apart : (xs ys : List ℕ) → AreApart (xs ++ ys) → AreApart xs
front_apart xs ys apart n = (let s = times-append n xs ys in let p = apart n in omega (arith, s, p))

pub back_apart : (xs ys : List ℕ) → AreApart (xs ++ ys) → AreApart ys
back_apart xs ys apart n = (let s = times-append n xs ys in let p = apart n in omega (arith, s, p))

here : (n : ℕ) (ns : List ℕ) → Contains (n ∷ ns) n
here n ns = (0, omega arith, refl)

one_more : (used : ℕ → Bool) (n m : ℕ) → used m ≡ false → (n ≡ m → ⊥) → with_use used n m ≡ false
one_more used n m none ne = by (m == n) refl
  where
    is : (m == n) ≡ true → n ≡ m
    is e = sym (eqb-true m n e)

    by : (b : Bool) → (m == n) ≡ b → b || used m ≡ false
    by true e = absurd (ne (is e))
    by false e = none

pub uses_more : (ns : List ℕ) (used : ℕ → Bool) (m : ℕ) → used m ≡ false → (Contains ns m → ⊥) → with_uses used ns m ≡ false
uses_more [] used m none absent = none
uses_more (n ∷ ns) used m none absent =
    uses_more ns (with_use used n) m (one_more used n m none (λ e. absent (subst (λ k. Contains (n ∷ ns) k) e (here n ns)))) (λ h. absent (Contains-append_right (n ∷ []) ns m h))

come_empty : (ns : List ℕ) (used : ℕ → Bool) (taken : ℕ → Meaning) → ((n : ℕ) → Contains ns n → used n ≡ false) → ((n : ℕ) → Contains ns n → IsArchiveEmpty (taken n)) → AreApart ns → ComeEmpty used taken ns
come_empty [] used taken unused empty apart = tt
come_empty (n ∷ ns) used taken unused empty apart = (
  unused n (here n ns),
  empty n (here n ns),
  come_empty ns (with_use used n) taken
      (λ m h. one_more used n m (unused m (Contains-append_right (n ∷ []) ns m h)) (λ e. twice (n ∷ []) ns n apart (here n []) (subst (λ k. Contains ns k) (sym e) h)))
      (λ m h. empty m (Contains-append_right (n ∷ []) ns m h))
      (back_apart (n ∷ []) ns apart),
)

-- GROUPS THAT WENT WELL

abbrev Clean : List Entry → Type 0
Clean log = All (λ e. IsTrue (is_clean e)) log

abbrev HasRoom : List Entry → Type 0
HasRoom log = length log < log_bound

abbrev pub came_of : (c : ClosedSession) → List (One c) → List ℕ
came_of c os = came_by (logs c os)

abbrev pub named_of : (c : ClosedSession) → List (One c) → List ℕ
named_of c os = flat_map archives_in (reads c os)

-- what is asked of these archives
pub record Asks (c : ClosedSession) (used : ℕ → Bool) (named came : List ℕ) : Type 0 where
  pub back_named : (n : ℕ) → Contains named n → times n c.missing ≡ 0
  pub steady : (n : ℕ) → Contains named n → Rose (c.room.before.means n).faults (c.room.after.means n).faults → ⊥
  pub empty : (n : ℕ) → Contains came n → IsArchiveEmpty (c.room.before.means n)
  pub unused : (n : ℕ) → Contains came n → used n ≡ false
  pub apart : AreApart came

one_well : (c : ClosedSession) (used : ℕ → Bool) (o : One c) → Clean o.log → HasRoom o.log → Asks c used (archives_in o.read) (arrivals o.log) → WentWell used o.left.view
one_well c used o clean room asks = record {
  clean = subst Clean (sym o.left.is_log) clean;
  room = subst HasRoom (sym o.left.is_log) room;
  steady = λ n h failed. (let r = subst (λ (t : Table). Contains (archives_in t) n) o.left.first h in
      steadily c o n (Contains-append_left (archives_in o.left.view.first) (arrivals o.left.view.log) n h) (asks.back_named n r) (asks.steady n r) failed);
  come = subst (λ l. ComeEmpty used o.left.view.shelves.taken (arrivals l)) (sym o.left.is_log)
      (come_empty (arrivals o.log) used o.left.view.shelves.taken asks.unused (λ n h. empty_then c o n (had_here c o n (Contains-append_right (archives_in o.read) (arrivals o.log) n h)) (asks.empty n h)) asks.apart);
}

first_asks : (c : ClosedSession) (used : ℕ → Bool) (o : One c) (os : List (One c)) → Asks c used (named_of c (o ∷ os)) (came_of c (o ∷ os)) → Asks c used (archives_in o.read) (arrivals o.log)
first_asks c used o os asks = record {
  back_named = λ n h. asks.back_named n (Contains-append_left (archives_in o.read) (named_of c os) n h);
  steady = λ n h. asks.steady n (Contains-append_left (archives_in o.read) (named_of c os) n h);
  empty = λ n h. asks.empty n (Contains-append_left (arrivals o.log) (came_of c os) n h);
  unused = λ n h. asks.unused n (Contains-append_left (arrivals o.log) (came_of c os) n h);
  apart = front_apart (arrivals o.log) (came_of c os) asks.apart;
}

rest_asks : (c : ClosedSession) (used : ℕ → Bool) (o : One c) (os : List (One c)) → Asks c used (named_of c (o ∷ os)) (came_of c (o ∷ os))
    → Asks c (with_uses used (arrivals o.left.view.log)) (named_of c os) (came_of c os)
rest_asks c used o os asks = record {
  back_named = λ n h. asks.back_named n (Contains-append_right (archives_in o.read) (named_of c os) n h);
  steady = λ n h. asks.steady n (Contains-append_right (archives_in o.read) (named_of c os) n h);
  empty = λ n h. asks.empty n (Contains-append_right (arrivals o.log) (came_of c os) n h);
  unused = λ n h.
      subst (λ l. with_uses used (arrivals l) n ≡ false) (sym o.left.is_log)
      (uses_more (arrivals o.log) used n (asks.unused n (Contains-append_right (arrivals o.log) (came_of c os) n h)) (λ a. twice (arrivals o.log) (came_of c os) n asks.apart a h));
  apart = back_apart (arrivals o.log) (came_of c os) asks.apart;
}

pub all_went : (c : ClosedSession) (os : List (One c)) (used : ℕ → Bool) → All Clean (logs c os) → All HasRoom (logs c os) → Asks c used (named_of c os) (came_of c os) → AllWentWell used (pasts_of c os)
all_went c [] used clean room asks = tt
all_went c (o ∷ os) used clean room asks = (
  one_well c used o (All-head Clean o.log (logs c os) clean) (All-head HasRoom o.log (logs c os) room) (first_asks c used o os asks),
  all_went c os (with_uses used (arrivals o.left.view.log)) (All-tail Clean o.log (logs c os) clean) (All-tail HasRoom o.log (logs c os) room) (rest_asks c used o os asks),
)

-- an archive that came to none of them has no use after them
pub since : (c : ClosedSession) (os : List (One c)) (used : ℕ → Bool) (n : ℕ) → used n ≡ false → (Contains (came_of c os) n → ⊥) → used_since (pasts_of c os) used n ≡ false
since c [] used n none absent = none
since c (o ∷ os) used n none absent =
    since c os (with_uses used (arrivals o.left.view.log)) n
    (subst (λ l. with_uses used (arrivals l) n ≡ false) (sym o.left.is_log) (uses_more (arrivals o.log) used n none (λ h. absent (Contains-append_left (arrivals o.log) (came_of c os) n h))))
    (λ h. absent (Contains-append_right (arrivals o.log) (came_of c os) n h))
