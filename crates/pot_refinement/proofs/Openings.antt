-- The opening of a group that a group of the world goes along with: looks at what is gone.
use Rattle.std.proofs.Common.{◌≡◌, ◌≢◌, ◌⊎◌, inl, inr, ℕ, zero, suc, ◌<◌, ◌≤◌, List, [], ◌∷◌, ◌++◌, Option, Some, None, Bool, true, false, IsTrue, refl, sym, ap, ◌∙◌, subst, arith, if◌then◌else◌}
use Rattle.std.proofs.lemmas.Bool.{cases_Bool}
use Rattle.pot_bytes.specs.declared.digest.Digest.{Digest}
use Rattle.pot_machine.specs.declared.entry.Entry.{Entry}
use Rattle.pot_machine.specs.declared.entry.Entry.TheVariants.{Gone, Broke}
use Rattle.pot_machine.specs.declared.slot.SlotState.{SlotState}
use Rattle.pot_machine.specs.declared.slot.SlotState.TheVariants.{Void, Live, Lost, Broken}
use Rattle.pot_machine.specs.Slot.{is_live, digest_in}
use Rattle.pot_machine.specs.Table.{Table, width, slot_at, serving_at}
use Rattle.pot_machine.specs.Machine.{after, Replays}
use Rattle.pot_bytes.specs.Digests.{digest_of}
use Rattle.pot_steps.specs.Stripe.{Sound, Filling, HasFilling}
use Rattle.pot_steps.specs.Holdings.{stripe_of}
use Rattle.pot_steps.specs.Entries.{held_at}
use Rattle.pot_steps.specs.GroupStep.{GroupState, StartStep, as_read, entries_where, opening}
use Rattle.pot_steps.specs.GroupStep as looked
use Rattle.pot_execution.specs.Execution as call
use Rattle.pot_world.specs.Group.{WorldGroup}
use Rattle.pot_world.proofs.OneEntry.{same_is}
use Rattle.pot_refinement.specs.Refinement.{Simulates, ActsTo, GoneIsMissing}
use Rattle.pot_refinement.proofs.Acting.{acts_join, by_losses, looks_gone}

-- a log in two parts
parts : (xs ys : List Entry) (t u : Table) → Replays t (xs ++ ys) u → (v : Table) × Replays t xs v × Replays v ys u
parts [] ys t u r = (t, refl, r)
parts (x ∷ xs) ys t u r = let s : (v : Table) × Replays (after t x) xs v × Replays v ys u = parts xs ys (after t x) u r.1 in (s.0, (r.0, s.1), s.2)

-- no entry where no test is true
none_where : (m : ℕ) (test : ℕ → Bool) (make : ℕ → Entry) → ((c : ℕ) → c < m → test c ≡ false) → entries_where m test make ≡ []
unfolding entries_where
none_where zero test make none = refl
none_where (suc m) test make none =
    ap (λ xs. xs ++ (if test m then make m ∷ [] else [])) (none_where m test make (λ c lt. none c (omega arith))) ∙ ap (λ b. if b then make m ∷ [] else []) (none m (omega arith))

live_of : (x : SlotState) → IsTrue (is_live x) → (d : Digest) × (x ≡ Live d)
live_of Void h = absurd (cc)
live_of (Live d) h = (d, refl)
live_of (Lost d) h = absurd (cc)
live_of (Broken d) h = absurd (cc)

module _ (used : ℕ → Bool) (g : WorldGroup) (old new : GroupState) (f : Simulates used g old) (st : StartStep old new) (well : GoneIsMissing old new st) where
  -- the blocks that were written fill each stripe
  filled : (s : ℕ) → s < old.table.stripes → Filling old.table.data_columns old.table.parity (stripe_of old.table old.held s) (g.written s)
  filled = subst (λ (o : GroupState). (s : ℕ) → s < o.table.stripes → Filling o.table.data_columns o.table.parity (stripe_of o.table o.held s) (g.written s)) (same_is g old f.same) f.good.0.filled

  -- and what is held in a slot that is not Void is one of them
  holds : (s c : ℕ) (b : List ℕ) → s < old.table.stripes → c < width old.table → slot_at old.table s c ≢ Void → held_at old.table old.held s c ≡ Some b → b ≡ g.written s c
  holds = subst (λ (o : GroupState). (s c : ℕ) (b : List ℕ) → s < o.table.stripes → c < width o.table → slot_at o.table s c ≢ Void → held_at o.table o.held s c ≡ Some b → b ≡ g.written s c) (same_is g old f.same) f.good.0.holds

  reads_fill : (s : ℕ) → s < old.table.stripes → HasFilling old.table.data_columns old.table.parity (as_read old.table st.read s)
  reads_fill s ls = (
    g.written s,
    record {
      block = (filled s ls).block;
      void = (filled s ls).void;
      digest = (filled s ls).digest;
      held = λ c b lc x. (filled s ls).held c b lc (record { digest = x.digest; live = x.live; held = st.reads s c b ls lc x.held; right = x.right });
      p_sum = (filled s ls).p_sum;
      q_sum = (filled s ls).q_sum;
    },
  )

  -- so nothing breaks
  none_broke : (s c : ℕ) → s < old.table.stripes → c < width old.table → st.broke s c ≡ false
  none_broke s c ls lc = elim (st.breaks s ls) [ inl b ↦ absurd (b.no_filling (reads_fill s ls)) | inr spared ↦ spared.none c lc ]

  -- and what is gone is held no more
  gone_none : (s c : ℕ) → s < old.table.stripes → c < width old.table → st.gone s c ≡ true → new.held (serving_at old.table s c) s ≡ None
  gone_none s c ls lc e = by (new.held (serving_at old.table s c) s) refl
    where
      not_void : (x : SlotState) (d : Digest) → x ≡ Live d → x ≢ Void
      not_void x d e v = cc

      by : (o : Option (List ℕ)) → new.held (serving_at old.table s c) s ≡ o → o ≡ None
      by None q = refl
      by (Some b) q =
          let live = live_of (slot_at old.table s c) ((st.finds s ls).found c lc e).0 in
          let was = st.loses (serving_at old.table s c) s b q in
          let is : b ≡ g.written s c = holds s c b ls lc (not_void (slot_at old.table s c) live.0 live.1) was in
          absurd (well s c ls lc e (b, record { digest = live.0; live = live.1; held = q; right = ap digest_of is ∙ (filled s ls).digest c live.0 lc (ap digest_in live.1) }))

  -- the state with this table, after the losses
  abbrev at : Table → GroupState
  at t = record { table = t; log = []; held = new.held; heard = old.heard; flights = old.flights }

  abbrev Comes : WorldGroup → Table → Type 0
  Comes h u = ActsTo used h used (at u) × (u.columns ≡ old.table.columns)

  still_at : (h : WorldGroup) (t u : Table) → Simulates used h (at t) → t.columns ≡ old.table.columns → u ≡ t → Comes h u
  still_at h t u follows same is = (record { acts = []; group = h; go = (refl, refl); follows = subst (λ v. Simulates used h (at v)) (sym is) follows }, subst (λ (v : Table). v.columns ≡ old.table.columns) (sym is) same)

  on : (h : WorldGroup) (v u : Table) (one : Comes h v) → Comes one.0.group u → Comes h u
  on h v u one more = (
    record { acts = one.0.acts ++ more.0.acts; group = more.0.group; go = acts_join used used used h one.0.group more.0.group one.0.acts more.0.acts one.0.go more.0.go; follows = more.0.follows },
    more.1,
  )

  -- one look at a slot of which the block is gone
  one_gone : (h : WorldGroup) (v u : Table) (s c : ℕ) → Simulates used h (at v) → v.columns ≡ old.table.columns → new.held (serving_at old.table s c) s ≡ None → Replays v (Gone 0 s c ∷ []) u → Comes h u
  one_gone h v u s c follows same none r =
      let is : u ≡ after v (Gone 0 s c) = r.1 in (
        subst (λ w. ActsTo used h used (at w)) (sym is) (looks_gone used h s c v new.held old.heard old.flights follows r.0.0 r.0.1 missing),
        subst (λ (w : Table). w.columns ≡ old.table.columns) (sym is) same,
      )
    where
      served : serving_at v s c ≡ serving_at old.table s c
      served = ap (λ columns. serving_at (record old.table { columns = columns }) s c) same

      nothing : {b : List ℕ} → None ≡ Some b → ⊥
      nothing e = cc

      missing : Sound (stripe_of v new.held s) c → ⊥
      missing x = nothing (sym none ∙ ap (λ n. new.held n s) (sym served) ∙ x.1.held)

  -- those of a stripe
  stripe_gone : (n : ℕ) → n < old.table.stripes → (m : ℕ) → m ≤ width old.table → (h : WorldGroup) (t u : Table) → Simulates used h (at t) → t.columns ≡ old.table.columns
      → Replays t (entries_where m (st.gone n) (Gone 0 n)) u → Comes h u
  unfolding entries_where
  stripe_gone n ln zero lm h t u follows same r = still_at h t u follows same r
  stripe_gone n ln (suc m) lm h t u follows same r =
      let s = parts (entries_where m (st.gone n) (Gone 0 n)) (if st.gone n m then Gone 0 n m ∷ [] else []) t u r in
      let one = stripe_gone n ln m (omega arith) h t s.0 follows same s.1 in
      on h s.0 u one (elim (cases_Bool (st.gone n m)) [
        | inl e ↦ one_gone one.0.group s.0 u n m one.0.follows one.1 (gone_none n m ln (omega arith) e) (subst (λ b. Replays s.0 (if b then Gone 0 n m ∷ [] else []) u) e s.2)
        | inr e ↦ still_at one.0.group s.0 u one.0.follows one.1 (subst (λ b. Replays s.0 (if b then Gone 0 n m ∷ [] else []) u) e s.2)
      ])

  -- those of all stripes
  all_gone : (n : ℕ) → n ≤ old.table.stripes → (h : WorldGroup) (t u : Table) → Simulates used h (at t) → t.columns ≡ old.table.columns → Replays t (opening (width old.table) n st.gone st.broke) u → Comes h u
  unfolding opening
  all_gone zero ln h t u follows same r = still_at h t u follows same r
  all_gone (suc n) ln h t u follows same r =
      let s = parts (opening (width old.table) n st.gone st.broke) (entries_where (width old.table) (st.gone n) (Gone 0 n) ++ entries_where (width old.table) (st.broke n) (Broke 0 n)) t u r in
      let p = parts (entries_where (width old.table) (st.gone n) (Gone 0 n)) (entries_where (width old.table) (st.broke n) (Broke 0 n)) s.0 u s.2 in
      let none : entries_where (width old.table) (st.broke n) (Broke 0 n) ≡ [] = none_where (width old.table) (st.broke n) (Broke 0 n) (λ c lc. none_broke n c (omega arith) lc) in
      let last : u ≡ p.0 = subst (λ es. Replays p.0 es u) none p.2 in
      let one = all_gone n (omega arith) h t s.0 follows same s.1 in
      let more = stripe_gone n (omega arith) (width old.table) (omega arith) one.0.group s.0 p.0 one.0.follows one.1 p.1 in
      let both = on h s.0 p.0 one more in
      on h p.0 u both (still_at both.0.group p.0 u both.0.follows both.1 last)

  pub opens : ActsTo used g used new
  opens =
      let lost = by_losses used g old (at old.table) f refl refl (λ n. refl) st.loses in
      let all = all_gone old.table.stripes (omega arith) lost.group old.table new.table lost.follows refl st.replay in
      record {
        acts = lost.acts ++ all.0.acts;
        group = all.0.group;
        go = acts_join used used used g lost.group all.0.group lost.acts all.0.acts lost.go all.0.go;
        follows = record {
          good = all.0.follows.good;
          numbers = all.0.follows.numbers;
          bound = all.0.follows.bound;
          inside = all.0.follows.inside;
          same = record {
            table = all.0.follows.same.table;
            flights = all.0.follows.same.flights ∙ sym st.logs.flights;
            held = all.0.follows.same.held;
            heard = λ n. all.0.follows.same.heard n ∙ sym (st.logs.heard n);
          };
        };
      }
