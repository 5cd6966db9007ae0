-- The blocks that are read from archives.
use Rattle.std.proofs.Common.{◌≡◌, ◌≢◌, ◌<◌, ◌≤◌, ◌+◌, ◌-◌, ◌^◌, ◌⊎◌, inl, inr, ℕ, Bool, true, false, List, refl, sym, ap, subst, ◌∙◌, arith}
use Rattle.std.specs.Prelude.{Some, Result, Ok, Err, IsErr, IsOk, IsTrue, OnErr, OnOk}
use Rattle.std.proofs.lemmas.Bool.{cases_lt, cases_order}
use Rattle.pot_outside.specs.Accounts.{Transition}
use Rattle.pot_outside.specs.Archives.{Meaning, IsMeant, IsVacant}
use Rattle.pot_outside.specs.Counts.{Caused, Rose}
use Rattle.pot_outside.specs.Rooms.{RoomState, MayLose}
use Rattle.pot_outside.specs.declared.faults.Failed.{Failed}
use Rattle.pot_outside.proofs.LossLemmas.{loses_more, loses_nothing}
use Rattle.pot_doubles.proofs.CallLemmas.{rose_later}
use Rattle.pot_words.specs.Limits.{IsWithinLimits}
use Rattle.pot_words.specs.declared.recover.Recover.{Recover}
use Rattle.pot_words.specs.declared.task.Task.TheVariants as task
use Rattle.pot_session.specs.declared.ending.status.Status.{Status}
use Rattle.pot_session.specs.declared.ending.status.Status.TheVariants as status
use Rattle.pot_session.specs.declared.ending.stop.Stop.{Stop}
use Rattle.pot_session.specs.declared.ending.stop.Stop.TheVariants as stop
use Rattle.pot_session.specs.Listing.{has_partial}
use Rattle.pot_session.specs.Recovering.{AddsSlot, AreHeldIn, FindsObjects, GathersBlocks, ArchiveFailed, IsHeldIn, LostByRoom, IsRecovery, ListAnswers, Recovers, SomeFailed, WasRead, WereRead}
use Rattle.pot_session.specs.Stops.{status_of}
use Rattle.pot_session.specs.Telling.{told_status}

-- ONE ARCHIVE

pub read_more : (a b c : Meaning) → WasRead a b → WasRead b c → WasRead a c
read_more a b c p q = record {
  loses = loses_more a.held b.held c.held a.losses b.losses c.losses p.loses q.loses;
  past = q.past ∙ p.past;
  hears = q.hears ∙ p.hears;
}

pub gathers_more : (slot : ℕ) (old middle new : Meaning) (first before after : List (List ℕ)) → GathersBlocks slot old middle first before → AddsSlot slot middle new before after
    → GathersBlocks (slot + 1) old new first after
gathers_more slot old middle new first before after g a = record {
  read = read_more old middle new g.read a.read;
  keeps = λ b h. a.keeps b (g.keeps b h);
  only = λ b h. elim (a.only b h) [
    | inl was ↦ elim (g.only b was) [
      | inl was ↦ inl was
      | inr held ↦ inr (held.0, (let l = held.1 in omega (arith, l)), held.2)
    ]
    | inr held ↦ inr (slot, omega arith, g.read.loses.keeps slot b held)
  ];
  all = λ e l b (k, less, held).
      let p = g.read.loses.later in
      let q = a.read.loses.later in
      elim (cases_lt k slot) [
        | inl before ↦ a.keeps b (g.all (omega (arith, p, q, e)) (omega (arith, p, q, e, l)) b (k, before, held))
        | inr here ↦
            let same : k ≡ slot = omega (arith, less, here) in
            let was : new.held k ≡ old.held k = (read_more old middle new g.read a.read).loses.same k e l in
            a.all b (subst (λ j. new.held j ≡ Some b) same (was ∙ held))
      ];
}

-- one that was not touched
pub read_not : (m : Meaning) → WasRead m m
read_not m = record { loses = loses_nothing m.held m.losses; past = refl; hears = refl }

-- the same of what is meant alike
pub read_meant : (old new m n : Meaning) → IsMeant m old → IsMeant n new → WasRead old new → WasRead m n
read_meant old new m n o w r = record {
  loses = record {
    later = (let l = r.loses.later in let a = o.lost in let b = w.lost in omega (arith, l, a, b));
    keeps = λ k b h. sym (o.blocks k) ∙ r.loses.keeps k b (w.blocks k ∙ h);
    same = λ k e l. (let a = o.lost in let b = w.lost in
        sym (w.blocks k) ∙ (r.loses.same k (omega (arith, a, b, e)) (omega (arith, b, l)) ∙ o.blocks k));
  };
  past = sym w.past ∙ (r.past ∙ o.past);
  hears = sym w.sums ∙ (r.hears ∙ o.sums);
}

-- and what came of it
pub gathers_meant : (count : ℕ) (old new m n : Meaning) (before after : List (List ℕ)) → IsMeant m old → IsMeant n new → GathersBlocks count old new before after → GathersBlocks count m n before after
gathers_meant count old new m n before after o w g = record {
  read = read_meant old new m n o w g.read;
  keeps = g.keeps;
  only = λ b h. elim (g.only b h) [
    | inl was ↦ inl was
    | inr held ↦ inr (held.0, held.1, sym (o.blocks held.0) ∙ held.2)
  ];
  all = λ e l b (k, less, held). (let a = o.lost in let c = w.lost in g.all (omega (arith, a, c, e)) (omega (arith, c, l)) b (k, less, o.blocks k ∙ held));
}

-- ALL ARCHIVES

pub held_more : (number stripes : ℕ) (meant middle means : ℕ → Meaning) (before after : List (List ℕ)) → AreHeldIn number stripes meant middle before
    → ((n : ℕ) → number ≤ n → middle n ≡ meant n) → GathersBlocks stripes (middle number) (means number) before after → ((n : ℕ) → n ≢ number → means n ≡ middle n)
    → AreHeldIn (number + 1) stripes meant means after
held_more number stripes meant middle means before after h untouched g others = record {
  only = λ b c. elim (g.only b c) [
    | inl was ↦ let o = h.only b was in (o.0, (let l = o.1 in omega (arith, l)), o.2)
    | inr held ↦ (number, omega arith, subst (λ m. IsHeldIn stripes m b) (untouched number (omega arith)) held)
  ];
  all = λ n less e l b held. elim (cases_lt n number) [
    | inl before ↦
        let same = others n (λ q. apart n before q) in
        g.keeps b (h.all n before (subst (λ m. m.losses ≡ (meant n).losses) same e) (subst (λ (m : Meaning). m.losses < 2 ^ 64 - 1) same l) b held)
    | inr here ↦
        let is : n ≡ number = omega (arith, less, here) in
        g.all (subst (λ k. (means k).losses ≡ (middle k).losses) is (e ∙ ap (λ (m : Meaning). m.losses) (sym (untouched n here)))) (subst (λ k. (means k).losses < 2 ^ 64 - 1) is l) b
        (subst (λ k. IsHeldIn stripes (middle k) b) is (subst (λ m. IsHeldIn stripes m b) (sym (untouched n here)) held))
  ];
  read = λ n less. elim (cases_lt n number) [
    | inl before ↦ subst (λ m. WasRead (meant n) m) (sym (others n (λ q. apart n before q))) (h.read n before)
    | inr here ↦
        let is : n ≡ number = omega (arith, less, here) in
        subst (λ m. WasRead m (means n)) (untouched n here) (subst (λ k. WasRead (middle k) (means k)) (sym is) g.read)
  ];
}
  where
    apart : (n : ℕ) → n < number → n ≡ number → ⊥
    apart n less e = omega (arith, less, e)

-- one archive was read after those before it, and those behind it were not touched
pub were_read : (archives number : ℕ) (old middle new : RoomState) → ((n : ℕ) → n < number → WasRead (old.means n) (middle.means n))
    → ((n : ℕ) → number ≤ n → middle.means n ≡ old.means n) → old.failures ≤ middle.failures
    → ((n : ℕ) → n ≢ number → new.means n ≡ middle.means n)
    → WasRead (middle.means number) (new.means number) ⊎ LostByRoom middle new number
    → WereRead archives old new
were_read archives number old middle new front untouched le others last = record {
  but = number;
  read = λ n less. elim (cases_order n number) [
    | inl here ↦ elim last [
      | inl read ↦ inl (subst (λ m. WasRead m (new.means n)) (untouched n (omega (arith, here))) (subst (λ k. WasRead (middle.means k) (new.means k)) (sym here) read))
      | inr lost ↦ inr (here, record { failed = rose_later old.failures middle.failures new.failures le lost.failed; vacant = subst (λ k. IsVacant (new.means k)) (sym here) lost.vacant })
    ]
    | inr (inl before) ↦ inl (subst (λ m. WasRead (old.means n) m) (sym (others n (λ e. omega (arith, before, e)))) (front n before))
    | inr (inr behind) ↦
        inl (subst (λ m. WasRead m (new.means n)) (untouched n (omega (arith, behind))) (subst (λ m. WasRead (middle.means n) m) (sym (others n (λ e. omega (arith, behind, e)))) (read_not (middle.means n))))
  ];
  behind = λ n lt. others n (λ e. omega (arith, lt, e)) ∙ untouched n (omega (arith, lt));
}

-- all of them were read and given back, and none behind them was touched
pub all_read : (archives number : ℕ) (old new : RoomState) → archives ≤ number → ((n : ℕ) → n < number → WasRead (old.means n) (new.means n)) → ((n : ℕ) → number ≤ n → new.means n ≡ old.means n) → WereRead archives old new
all_read archives number old new all read untouched = record {
  but = number;
  read = λ n less. inl (read n (omega (arith, less, all)));
  behind = λ n lt. untouched n (omega (arith, lt));
}

-- what a call tells that succeeded
pub ok_gives : {E : Type 0} (r : Result (Unit {0}) E) (P : Type 0) → IsOk r → OnOk r P → P
ok_gives (Ok u) P ok p = p
ok_gives (Err e) P ok p = absurd (cc)

-- FAILURES

-- a read that failed at an archive which was then given back: the archive failed, or the room did
pub why_failed : (room : Transition RoomState) (middle : RoomState) (number : ℕ) (given : Result (Unit {0}) Failed) (old new : Meaning) → room.before.failures ≤ middle.failures
    → Caused middle.failures room.after.failures (IsErr given) → OnOk given (IsTrue room.tells → IsMeant (room.after.means number) new) → (IsTrue room.tells → IsMeant (room.before.means number) old)
    → Rose old.faults new.faults → Rose room.before.failures room.after.failures ⊎ (IsTrue room.tells → ArchiveFailed (room.before.means number) (room.after.means number))
why_failed room middle number (Ok u) old new le cause back took rose =
    inr (λ t. subst (λ k. Rose k (room.after.means number).faults) (took t).faulted (subst (λ k. Rose old.faults k) (back t).faulted rose))
why_failed room middle number (Err e) old new le cause back took rose = inl (rose_later room.before.failures middle.failures room.after.failures le (cause.rose refl))

-- an archive was read and then given back, or the room failed as it was to take it back
pub read_back : (told : Type 0) (given : Result (Unit {0}) Failed) (room middle after : RoomState) (number : ℕ) (old new : Meaning) → room.failures ≤ middle.failures
    → Caused middle.failures after.failures (IsErr given) → IsVacant (middle.means number) → OnErr given (MayLose (middle.means number) new (after.means number))
    → OnOk given (told → IsMeant (after.means number) new) → told → IsMeant (room.means number) old → WasRead old new
    → WasRead (room.means number) (after.means number) ⊎ LostByRoom room after number
read_back told (Ok u) room middle after number old new le cause vacant lost back t o r = inl (read_meant old new _ _ o (back t) r)
read_back told (Err e) room middle after number old new le cause vacant lost back t o r = elim lost [
  | inl same ↦ inr (record { failed = rose_later room.failures middle.failures after.failures le (cause.rose refl); vacant = subst IsVacant (sym same) vacant })
  | inr meant ↦ inl (read_meant old new _ _ o meant r)
]

-- so one of the first archives did
pub some_failed : (room : Transition RoomState) (middle : RoomState) (archives number : ℕ) → number < archives → room.before.failures ≤ middle.failures → middle.means number ≡ room.before.means number
    → Rose middle.failures room.after.failures ⊎ (IsTrue room.tells → ArchiveFailed (middle.means number) (room.after.means number))
    → Rose room.before.failures room.after.failures ⊎ (IsTrue room.tells → SomeFailed archives room.before room.after)
some_failed room middle archives number lt le same (inl r) = inl (rose_later room.before.failures middle.failures room.after.failures le r)
some_failed room middle archives number lt le same (inr h) = inr (λ t. (number, lt, subst (λ m. ArchiveFailed m (room.after.means number)) same (h t)))

-- THE WORD

-- what the words name is within the limits
pub is_recovery : (r : Recover) → IsWithinLimits (task.Recover r) → IsRecovery r
is_recovery r h = record { archives = h.1; stripes = h.3; blur = h.4 }

-- what `recover` may answer
abbrev IsRecoverStatus : Status → Type 0
IsRecoverStatus status.Good = Unit {0}
IsRecoverStatus status.Refusals = Unit {0}
IsRecoverStatus status.SinkFault = Unit {0}
IsRecoverStatus status.RoomFault = Unit {0}
IsRecoverStatus status.TooWide = Unit {0}
IsRecoverStatus status.NoMemory = Unit {0}
IsRecoverStatus _ = ⊥

told_is : (b : Bool) → IsRecoverStatus (told_status b)
told_is true = tt
told_is false = tt

module _ (r : Recover) (room : Transition RoomState) where
  stop_is : (s : Stop) → FindsObjects r room (Err s) → IsRecoverStatus (status_of s)
  stop_is stop.TooWide h = tt
  stop_is stop.RoomFault h = tt
  stop_is stop.NoMemory h = tt
  stop_is stop.Words h = absurd h
  stop_is stop.SourceFault h = absurd h
  stop_is (stop.BadLine number) h = absurd h
  stop_is stop.DeskFault h = absurd h
  stop_is stop.NoImage h = absurd h
  stop_is stop.Cut h = absurd h
  stop_is (stop.Trailer kept computed) h = absurd h
  stop_is (stop.Form place) h = absurd h
  stop_is stop.Spent h = absurd h
  stop_is stop.Exists h = absurd h

  module _ (sink : Transition (List ℕ)) (answer : Status) where
    answered : (found : Result (List (List ℕ)) Stop) → FindsObjects r room found → ListAnswers sink found answer → IsRecoverStatus answer
    answered (Ok objects) f (inl a) = subst IsRecoverStatus (sym a.0) (told_is (has_partial objects))
    answered (Ok objects) f (inr (inl e, w)) = subst IsRecoverStatus (sym e) tt
    answered (Ok objects) f (inr (inr e, w)) = subst IsRecoverStatus (sym e) tt
    answered (Err s) f (inl a) = subst IsRecoverStatus (sym a.0) (stop_is s f)
    answered (Err s) f (inr (inl a)) = subst IsRecoverStatus (sym a.0) tt
    answered (Err s) f (inr (inr a)) = subst IsRecoverStatus (sym a.0) tt

    -- recovery fails neither for the source nor for the desk
    pub recover_source : Recovers r room sink answer → answer ≡ status.SourceFault → ⊥
    recover_source h e = subst IsRecoverStatus e (answered h.found h.is h.answers)

    pub recover_desk : Recovers r room sink answer → answer ≡ status.DeskFault → ⊥
    recover_desk h e = subst IsRecoverStatus e (answered h.found h.is h.answers)
