-- A first session of a small rack in which one block was put.
use Rattle.std.proofs.Common.{◌≡◌, ◌≢◌, ◌⊎◌, inl, inr, ℕ, zero, suc, ◌<◌, List, [], ◌∷◌, Option, Some, None, Bool, true, false, not, ◌&&◌, ◌+◌, nat_eq, if◌then◌else◌, IsTrue, refl, sym, ap, subst, arith, length}
use Rattle.std.specs.Prelude.{All, Contains, slice_get}
use Rattle.std.proofs.lemmas.List.Elements.{All-nil, All-cons}
use Rattle.std.proofs.lemmas.Option.{same_Some}
use Rattle.pot_bytes.specs.Digests.{digest_of}
use Rattle.pot_bytes.specs.Lists.{IsBlock}
use Rattle.pot_bytes.specs.Rack.{log_bound}
use Rattle.pot_bytes.specs.Sums.{xor, zero_block}
use Rattle.pot_bytes.proofs.Elements.{none_contained, one_contained}
use Rattle.pot_outside.specs.Accounts.{Transition}
use Rattle.pot_outside.specs.Archives.{Meaning}
use Rattle.pot_outside.specs.Rooms.{RoomState}
use Rattle.pot_machine.specs.declared.entry.Entry.{Entry}
use Rattle.pot_machine.specs.Column.{names}
use Rattle.pot_machine.specs.Machine.{Legal, after}
use Rattle.pot_machine.specs.Slot.{is_unsound}
use Rattle.pot_machine.specs.Table.{Table, archives_in, column_at, serving_at, slot_at, width}
use Rattle.pot_machine.proofs.Searches.{none_least}
use Rattle.pot_steps.specs.Entries.{WritesStripe}
use Rattle.pot_steps.specs.Flights.{Acts, Stands}
use Rattle.pot_steps.specs.GroupStep.{GroupState, Placed, PutPlaced}
use Rattle.pot_steps.specs.Holdings.{stripe_of}
use Rattle.pot_steps.specs.Stripe.{Sound}
use Rattle.pot_steps.proofs.Acting.{act_keeps}
use Rattle.pot_shelves.specs.Shelves.{Shelves, nothing}
use Rattle.pot_group.specs.Causes.{archives_of, faults_in}
use Rattle.pot_group.specs.Frames.{Tries, WrittenBy}
use Rattle.pot_group.specs.Group.{GroupView, IsSettled}
use Rattle.pot_group.proofs.Opened.{handed_all}
use Rattle.pot_image.specs.Images.{Contents}
use Rattle.pot_index.specs.Index.{names_read}
use Rattle.pot_replies.specs.Sections.{Section}
use Rattle.pot_shared.specs.Groups.{IsOpened}
use Rattle.pot_shared.specs.Leaving.{LeavesGroup}
use Rattle.pot_shared.proofs.OpeningFew.{none_served}
use Rattle.pot_execution.specs.Execution.{HasExecution, IsAtWork, Put}
use Rattle.pot_refinement.specs.Refinement.{is_clean}
use Rattle.pot_session.specs.Serving.{IsInRoom, Leaves, RoseInRoom, RoseOftenInRoom}
use Rattle.pot_world.specs.Group.{WorldGroup}
use Rattle.pot_promises.specs.Frames.{FrameOfRun}
use Rattle.pot_theorem.specs.Hard.{HoldsInWorld, TheHardProperty}
use Rattle.run_examples.specs.OnePut.{PutSession, put_of}
use Rattle.pot_theorem.specs.Sessions.{AreInARow, ClosedSession}
use Rattle.run_examples.proofs.Quiet.{bare, empty_archive, empty_room, empty_state, first_image, fits, home_is, is_table, never, none_logged, none_split, none_there, not_both, nothing_is, once, opens_still, stands, void}

module _ (block : List ℕ) (is_block : IsBlock block) where
  -- THE PUT

  abbrev parity_block : List ℕ
  parity_block = xor zero_block block

  abbrev put_entry : Entry
  put_entry = put_of block

  abbrev pub full : Table
  full = after bare put_entry

  -- archive 0 holds the block, and archive 1 the parity block
  abbrev pub holding : ℕ → ℕ → Option (List ℕ)
  holding zero zero = Some block
  holding zero (suc k) = None
  holding (suc zero) zero = Some parity_block
  holding (suc zero) (suc k) = None
  holding (suc (suc n)) k = None

  abbrev ever : ℕ → List (List ℕ)
  ever zero = block ∷ []
  ever (suc zero) = parity_block ∷ []
  ever (suc (suc n)) = []

  legal : Legal bare put_entry
  legal = (refl, ((refl, omega arith), refl, (refl, none_least (width bare) (λ k. is_unsound (slot_at bare 0 k)) (λ j lt. ap is_unsound (void 0 j)))))

  not_two : {X : Type 0} → bare.parity ≡ 2 → X
  not_two e = absurd (let one : bare.parity ≡ 1 = refl in let no : ⊥ = omega (arith, e, one) in no)

  writes : WritesStripe bare (λ n k. None) holding 0 0 block zero_block zero_block true true
  writes = record {
    is_block = is_block;
    old_p = inl (void 0 1, refl);
    old_q = λ two. not_two two;
    data_block = refl;
    new_p = λ e. refl;
    new_q = λ two e. not_two two;
    others = λ n k ln lk far. elim far [ inl ne ↦ absurd (ne (let l : n < 1 = ln in omega (arith, l))) | inr x ↦ absurd (x.1 (let l : k < 1 = x.0 in omega (arith, l))) ];
  }

  acts : Acts bare [] [] put_entry (λ n k. None) holding
  acts = (block, zero_block, refl, refl, writes)

  pub stood : Stands full holding []
  stood = act_keeps bare put_entry [] [] (λ n k. None) holding legal acts stands

  abbrev after_put : GroupState
  after_put = record { table = full; log = put_entry ∷ []; held = holding; heard = λ n. []; flights = [] }

  elsewhere : (n k : ℕ) → (k ≢ 0) ⊎ ((c : ℕ) → c < width bare → serving_at bare 0 c ≢ n) → holding n k ≡ None
  elsewhere zero zero (inl ne) = absurd (ne refl)
  elsewhere zero zero (inr f) = absurd (f 0 (omega arith) refl)
  elsewhere zero (suc k) far = refl
  elsewhere (suc zero) zero (inl ne) = absurd (ne refl)
  elsewhere (suc zero) zero (inr f) = absurd (f 1 (omega arith) refl)
  elsewhere (suc zero) (suc k) far = refl
  elsewhere (suc (suc n)) k far = refl

  puts : PutPlaced 1 0 0 block empty_state after_put
  puts = record {
    passed = [];
    at = bare;
    now = λ n k. None;
    p = zero_block;
    q = zero_block;
    passes = record { missing = All-nil _; replay = refl; loses = λ n k b e. e };
    puts = record {
      legal = legal;
      table = refl;
      written = holding;
      writes = writes;
      left_p = λ e. not_both (sym e);
      left_q = λ two e. not_two two;
      elsewhere = elsewhere;
      loses = λ n k b e. e;
    };
    logs = record { log = refl; room = omega arith; flights = refl; heard = λ n. refl };
  }

  -- THE GROUP AS IT IS LEFT

  written : (n k : ℕ) (b : List ℕ) → holding n k ≡ Some b → WrittenBy [] 0 bare (put_entry ∷ []) n k b
  written zero zero b e = inl (refl, inl (refl, ap digest_of (sym (same_Some block b e))))
  written zero (suc k) b e = nothing_is e
  written (suc zero) zero b e = inl (refl, inr (refl, ap digest_of (sym (same_Some parity_block b e))))
  written (suc zero) (suc k) b e = nothing_is e
  written (suc (suc n)) k b e = nothing_is e

  written_ever : (n : ℕ) (b : List ℕ) → Contains (ever n) b → (slot : ℕ) × WrittenBy [] 0 bare (put_entry ∷ []) n slot b
  written_ever zero b h = (0, written zero zero b (ap Some (one_contained block b h)))
  written_ever (suc zero) b h = (0, written (suc zero) zero b (ap Some (one_contained parity_block b h)))
  written_ever (suc (suc n)) b h = absurd (none_contained b h)

  abbrev shelves : Shelves
  shelves = record {
    numbers = archives_in bare;
    held = holding;
    history = ever;
    heard = λ n. [];
    faults = λ n. 0;
    losses = λ n. 0;
    faults_taken = λ n. 0;
    losses_taken = λ n. 0;
    faults_opened = λ n. 0;
    losses_opened = λ n. 0;
    taken = λ n. nothing;
  }

  abbrev view : GroupView
  view = record { number = 0; first = bare; table = full; log = put_entry ∷ []; flights = []; blinds = []; tried = []; shelves = shelves }

  homes : (k n : ℕ) → k < width full → IsTrue (names (column_at full k) n) → Contains (archives_of bare (put_entry ∷ []) k) n
  homes zero n lt h = home_is zero n (omega arith) h
  homes (suc zero) n lt h = home_is (suc zero) n (omega arith) h
  homes (suc (suc k)) n lt h = absurd (let l : suc (suc k) < 2 = lt in omega (arith, l))

  sound : (s k : ℕ) → s < full.stripes → k < width full → Sound (stripe_of full holding s) k
  sound zero zero ls lk = (block, record { digest = digest_of block; live = refl; held = refl; right = refl })
  sound zero (suc zero) ls lk = (parity_block, record { digest = digest_of parity_block; live = refl; held = refl; right = refl })
  sound zero (suc (suc k)) ls lk = absurd (let l : suc (suc k) < 2 = lk in omega (arith, l))
  sound (suc s) k ls lk = absurd (let l : suc s < 1 = ls in omega (arith, l))

  -- the log names no fault
  none_named : (k : ℕ) → faults_in bare.data_columns k (put_entry ∷ []) ≡ 0
  none_named k = by (nat_eq k bare.data_columns)
    where
      by : (b : Bool) → (if b && not true then 1 else 0) + 0 ≡ 0
      by true = refl
      by false = refl

  settled : (told : Type 0) → IsSettled told view
  settled told = record {
    replay = (legal, refl);
    table = stood.table;
    relays = stood.relays;
    bound = omega arith;
    shelves = handed_all bare (archives_in bare) is_table refl;
    serves = homes;
    sizes = (refl, refl, refl);
    faults = λ n. omega arith;
    losses = λ t n. omega arith;
    opened_faults = λ n. omega arith;
    opened_losses = λ t n. omega arith;
    holds = λ t. stood.holds;
    flying = λ t. stood.flying;
    live = λ t s k ls lk live. inl (sound s k ls lk);
    causes = record { faults = λ k lk. inr (let e = none_named k in omega (arith, e)); losses = λ t k lk. (λ misses. absurd misses, tt) };
    frame = λ t. record {
      held = λ n k b e. inr (written n k b e);
      history = λ n b h. inr (written_ever n b h);
      kept = λ n k b e. nothing_is e;
    };
    blinds = refl;
    tried = record { few = omega arith; below = λ x h. absurd (none_contained x h) };
    heard = λ t. record { givens = [] ∷ []; are = refl; fly = (tt, (refl, refl)); sums = λ n x h. absurd (none_contained x h) };
  }

  execution : HasExecution view
  unfolding opens_still
  execution = record {
    start = empty_state;
    unopened = record {
      table = refl;
      log = refl;
      flights = refl;
      held = λ n k h. refl;
      heard = λ n h. refl;
      none = λ n k h. refl;
      silent = λ n h. refl;
    };
    opened = empty_state;
    opening = opens_still;
    finds = λ s k ls lk e sound. not_both e;
    calls = Put 1 block (Placed 0 0) ∷ [];
    at_work = All-cons IsAtWork (Put 1 block (Placed 0 0)) [] tt (All-nil IsAtWork);
    leads = (after_put, is_block, puts, refl);
    blinds = refl;
    tried = λ x h. absurd (none_contained x h);
    came = (tt, tt);
    coherent = λ n. record { past = λ k b e. nothing_is e; low = λ k b e. nothing_is e };
  }

  -- THE SESSION

  abbrev means : ℕ → Meaning
  means n = record { held = holding n; history = ever n; heard = []; faults = 0; losses = 0 }

  abbrev room : Transition RoomState
  room = record { tells = true; before = empty_room; after = record empty_room { means = means } }

  abbrev last_image : Contents
  last_image = record first_image { tables = full ∷ []; group_logs = (put_entry ∷ []) ∷ [] }

  abbrev story : Section
  story = record { before = λ g. []; added = λ g. put_entry ∷ []; index_before = []; index_added = [] }

  left : LeavesGroup (IsTrue true) (λ n. nothing) (IsInRoom (IsTrue true) means []) bare (put_entry ∷ []) full
  left = record {
    view = view;
    first = refl;
    is_log = refl;
    is = refl;
    settled = settled (IsTrue true);
    marked = λ t n h. refl;
    taken = λ t n h. refl;
    within = λ t. record {
      givens = [] ∷ [];
      are = refl;
      fly = (tt, (refl, refl));
      each = λ n h. record {
        held = λ k b lt e. inr (written n k b e);
        history = λ b h. inr (written_ever n b h);
        heard = λ x h. absurd (none_contained x h);
        kept = λ k b lt e. nothing_is e;
      };
    };
    execution = λ t. execution;
    archives = λ n h t back. record { blocks = λ k. refl; history = refl; sums = refl; faults = refl; losses = refl };
  }

  each_left : (g : ℕ) (t u : Table) (log : List Entry) → slice_get (bare ∷ []) g ≡ Some t → slice_get (full ∷ []) g ≡ Some u → slice_get ((put_entry ∷ []) ∷ []) g ≡ Some log
      → LeavesGroup (IsTrue true) (λ n. nothing) (IsInRoom (IsTrue true) means []) t log u
  each_left zero t u log et eu el =
      subst (λ x. LeavesGroup (IsTrue true) (λ n. nothing) (IsInRoom (IsTrue true) means []) x log u) (same_Some bare t et)
      (subst (λ x. LeavesGroup (IsTrue true) (λ n. nothing) (IsInRoom (IsTrue true) means []) bare log x) (same_Some full u eu)
      (subst (λ l. LeavesGroup (IsTrue true) (λ n. nothing) (IsInRoom (IsTrue true) means []) bare l full) (same_Some (put_entry ∷ []) log el) left))
  each_left (suc g) t u log et eu el = none_there g t et

  each_log : (g : ℕ) (log : List Entry) → slice_get ((put_entry ∷ []) ∷ []) g ≡ Some log → log ≡ put_entry ∷ []
  each_log zero log e = sym (same_Some (put_entry ∷ []) log e)
  each_log (suc g) log e = none_there g log e

  opened : IsOpened (λ n. nothing) (RoseInRoom (λ n. nothing) means []) (RoseOftenInRoom (λ n. nothing) means []) bare []
  unfolding opens_still
  opened = record {
    read = λ s k. None;
    gone = never;
    broke = never;
    found = λ s k b ls lk e. nothing_is e;
    finds = opens_still.finds;
    missed = λ s k ls lk e sound. not_both e;
    few = λ slots missed n has back. inl (inl (let z = none_served bare slots bare.stripes n (λ s c ls lc e. not_both (missed s c ls lc e).0) in omega (arith, z)));
    breaks = opens_still.breaks;
    is = sym none_logged;
  }

  each_opened : (g : ℕ) (t : Table) → slice_get (bare ∷ []) g ≡ Some t → IsOpened (λ n. nothing) (RoseInRoom (λ n. nothing) means []) (RoseOftenInRoom (λ n. nothing) means []) t []
  each_opened zero t e = subst (λ x. IsOpened (λ n. nothing) (RoseInRoom (λ n. nothing) means []) (RoseOftenInRoom (λ n. nothing) means []) x []) (same_Some bare t e) opened
  each_opened (suc g) t e = none_there g t e

  pub leaves : Leaves room [] first_image last_image story
  leaves = record {
    session = refl;
    rack = refl;
    groups = record { count = refl; count_logs = refl; each = each_left };
    records = record { ended = names_read []; is_log = refl; replays = refl; is = refl };
    logs = each_log;
    opened = λ g x y e is. absurd (none_split x y e is);
    found = λ t. each_opened;
    index_opened = refl;
    few = omega arith;
    put = record { puts = λ r brought b p at. absurd (none_contained _ brought.1); once = λ job name mark r h. absurd (none_contained _ h) };
  }

  abbrev pub stored : ClosedSession
  stored = record { first = first_image; last = last_image; room = room; missing = []; story = story; fits = fits; told = refl; leaves = leaves; apart = record { had = once; left = once } }

  pub in_a_row : AreInARow stored []
  in_a_row = record {
    is_first = record { tables = refl; empty = λ n h. empty_archive };
    undisturbed = record {
      back = λ n h. refl;
      steady = λ n h rose. elim rose [ inl lt ↦ omega (arith, lt) | inr le ↦ omega (arith, le) ];
      clean = All-cons (λ log. All (λ e. IsTrue (is_clean e)) log) (put_entry ∷ []) []
          (All-cons (λ e. IsTrue (is_clean e)) put_entry [] refl (All-nil (λ e. IsTrue (is_clean e)))) (All-nil (λ log. All (λ e. IsTrue (is_clean e)) log));
      has_room = All-cons (λ (log : List Entry). length log < log_bound) (put_entry ∷ []) [] (omega arith) (All-nil (λ (log : List Entry). length log < log_bound));
      empty = λ n h. empty_archive;
      unused = λ n h. absurd (none_contained n h);
    };
    go_on = tt;
  }

  -- WHAT THE LAWS SAY

  module _ (law : TheHardProperty) where
    abbrev holds : HoldsInWorld stored []
    holds = law stored [] in_a_row

    -- what stands there is the block
    stands_there : (h : WorldGroup) → slice_get holds.world.site.groups 0 ≡ Some h → h.written 0 0 ≡ block
    stands_there h there =
        let words = (holds.stripes 0 bare full (put_entry ∷ []) h (record { was = refl; is = refl; logged = refl }) there).0 in
        sym (words.holds 0 0 block (omega arith) (omega arith) (λ e. cc e) refl)

  -- what the archive holds has the digest that the put names
  differs : (n : ℕ) → n ≡ 0 → n ≡ 1 → ⊥
  differs n a b = omega (arith, a, b)

  named : (tried : Tries) (b : List ℕ) → (nothing.held 0 ≡ Some b) ⊎ WrittenBy tried 0 bare (put_entry ∷ []) 0 0 b → digest_of b ≡ digest_of block
  named tried b (inl was) = nothing_is was
  named tried b (inr (inl (slot, inl x))) = x.1
  named tried b (inr (inl (slot, inr x))) = absurd (differs zero refl x.0)
  named tried b (inr (inr none)) = absurd none

  holds_there : FrameOfRun → (b : List ℕ) → (means 0).held 0 ≡ Some b → digest_of b ≡ digest_of block
  holds_there law b e =
      let frame = law first_image last_image room [] story refl leaves 0 bare (put_entry ∷ []) refl refl in
      named frame.0 b ((frame.4 0 (0, omega arith, refl) refl).held 0 b (omega arith) e)

pub put_session : TheHardProperty → FrameOfRun → PutSession
put_session law frames block is_block = (
  stored block is_block,
  refl,
  refl,
  in_a_row block is_block,
  holds block is_block law,
  stands_there block is_block law,
  holds_there block is_block frames,
)
