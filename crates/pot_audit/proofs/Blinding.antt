-- No blind changes what is added to the blinds of the other run.
use Rattle.std.proofs.Common.{◌≡◌, ℕ, zero, suc, List, [], ◌∷◌, ◌++◌, Option, Some, None, Bool, true, false, length, map, refl, sym, ap, ◌∙◌, subst, arith, nat_lt, if◌then◌else◌}
use Rattle.std.specs.Prelude.{◌&&◌, slice_index, slice_index_or}
use Rattle.std.proofs.Math.Path.{fun_ext}
use Rattle.std.proofs.lemmas.List.FromFn.{length-map-range_with_len}
use Rattle.pot_bytes.specs.Lists.{IsBlock}
use Rattle.pot_bytes.specs.Rack.{IsRack}
use Rattle.pot_bytes.specs.Product.{byte_product}
use Rattle.pot_bytes.specs.Sums.{xor, zero_block}
use Rattle.pot_bytes.specs.Totals.{total}
use Rattle.pot_bytes.specs.declared.rack.Rack.{Rack}
use Rattle.pot_bytes.specs.declared.rack.Place.{Place}
use Rattle.pot_bytes.proofs.SumLemmas.{xor_assoc, xor_comm, xor_twice, xor_zero}
use Rattle.pot_machine.specs.Table.{Table, width}
use Rattle.pot_machine.specs.declared.relay.Relay.{Relay}
use Rattle.pot_steps.specs.declared.flight.Flight.{Flight}
use Rattle.pot_steps.specs.Flight.{weight_in}
use Rattle.pot_steps.specs.Flights.{begun_relay}
use Rattle.pot_steps.proofs.BlockLemmas.{IsBlock-xor, IsBlock-zero_block}
use Rattle.pot_index.specs.declared.record.Record.{Record}
use Rattle.pot_world.specs.declared.step.Step.{Step}
use Rattle.pot_world.specs.declared.step.Step.TheVariants as step
use Rattle.pot_world.specs.Group.{WorldGroup, Verdict, Takes, Passes, lose, pass, put, put_by, put_within, sound_block, verdict}
use Rattle.pot_world.specs.Acts.{Act, Lose, Look, PutNext, Mend, MoveBegin, MoveOne, Swap, act, used_by}
use Rattle.pot_world.specs.Audit.{Sight, Whole, One, Blind, seen_blind, seen_step, seen_steps}
use Rattle.pot_world.specs.Coalition.{BlindsExchange, BlindsHidden, ExchangeFixed, SameBut, exchanged, goes_over, other_blind, sum_before}
use Rattle.pot_world.specs.Coalition as coalition
use Rattle.pot_world.specs.Reached.{AllGood, EachGroup, IsGood, Loses, Makes, Site, at_group, moved}
use Rattle.pot_world.specs.SameShape.{AllFit, Other, RunsAlike, with_others}
use Rattle.pot_world.specs.World.{World, UnderWay, Allowed, abandon_by, abandon_step, beginning, first_world, gather, group_at, grown, is_taken, is_wanted, made, next_block, next_group, no_group, publish_by, publish_step, put_block, put_step, record_of, renew_by, Runs, store_begun, store_by, with_actor}
use Rattle.pot_world.specs.Worlds.{RunKeeps}
use Rattle.pot_audit.specs.Blinds.{BlindsReturn, mask, masked, masks, with_blind, with_blinds}

-- GROUPS THAT ARE THE SAME BUT FOR FLIGHTS AND SUMS HEARD

abbrev rest_of : WorldGroup → List Flight → (ℕ → List (ℕ × List ℕ)) → WorldGroup
rest_of g flights heard = record g { state = record g.state { flights = flights; heard = heard } }

is_rest : (g h : WorldGroup) → SameBut g h → rest_of g h.state.flights h.state.heard ≡ h
is_rest g h b =
    ap (λ t. record h { first = t; state = record h.state { table = g.state.table; log = g.state.log; held = g.state.held }; written = g.written }) (sym b.first)
    ∙ ap (λ t. record h { state = record h.state { table = t; log = g.state.log; held = g.state.held }; written = g.written }) (sym b.table)
    ∙ ap (λ l. record h { state = record h.state { log = l; held = g.state.held }; written = g.written }) (sym b.log)
    ∙ ap (λ x. record h { state = record h.state { held = x }; written = g.written }) (fun_ext (λ n. fun_ext (λ k. sym (b.held n k))))
    ∙ ap (λ w. record h { written = w }) (fun_ext (λ s. fun_ext (λ c. sym (b.written s c))))

-- a put goes to the same place
abbrev SamePlace : ℕ → ℕ → List ℕ → Type 0
SamePlace n job block = (x : WorldGroup) (f : List Flight) (k : ℕ → List (ℕ × List ℕ)) → (put_within n job block (rest_of x f k)).place ≡ (put_within n job block x).place

put_place : (n job : ℕ) (block : List ℕ) (g : WorldGroup) (f : List Flight) (k : ℕ → List (ℕ × List ℕ)) → (put_within n job block (rest_of g f k)).place ≡ (put_within n job block g).place
unfolding put_within
put_place zero job block g f k = refl
put_place (suc n) job block g f k = by (nat_lt g.state.table.cursor.stripe g.state.table.stripes) (put_place n job block)
  where
    passed : (gone : Option ℕ) → SamePlace n job block
        → (put_within n job block (pass job g.state.table.cursor.stripe gone (rest_of g f k))).place ≡ (put_within n job block (pass job g.state.table.cursor.stripe gone g)).place
    passed None more = more (pass job g.state.table.cursor.stripe None g) f k
    passed (Some c) more = more (pass job g.state.table.cursor.stripe (Some c) g) f k

    judged : (v : Verdict) → SamePlace n job block → (put_by (put_within n job block) job block v (rest_of g f k)).place ≡ (put_by (put_within n job block) job block v g).place
    judged Takes more = refl
    judged (Passes gone) more = passed gone more

    by : (b : Bool) → SamePlace n job block
        → (if b then put_by (put_within n job block) job block (verdict g g.state.table.cursor.stripe) (rest_of g f k) else record { group = rest_of g f k; place = None }).place
        ≡ (if b then put_by (put_within n job block) job block (verdict g g.state.table.cursor.stripe) g else record { group = g; place = None }).place
    by true more = judged (verdict g g.state.table.cursor.stripe) more
    by false more = refl

put_same : (job : ℕ) (block : List ℕ) (g h : WorldGroup) → SameBut g h → (put job block h).place ≡ (put job block g).place
put_same job block g h b =
    subst (λ x. (put job block x).place ≡ (put job block g).place) (is_rest g h b) (put_place g.state.table.stripes job block g h.state.flights h.state.heard)

sound_same : (s c : ℕ) (g h : WorldGroup) → SameBut g h → sound_block h s c ≡ sound_block g s c
sound_same s c g h b = ap (λ x. sound_block x s c) (sym (is_rest g h b))

-- ALL GROUPS

unfoldable AllBut : List WorldGroup → List WorldGroup → Type 0
AllBut [] [] = Unit {0}
AllBut [] (h ∷ hs) = ⊥
AllBut (g ∷ gs) [] = ⊥
AllBut (g ∷ gs) (h ∷ hs) = SameBut g h × AllBut gs hs

self_but : (g : WorldGroup) → SameBut g g
self_but g = record { first = refl; table = refl; log = refl; held = λ n slot. refl; written = λ s c. refl }

all_self : (gs : List WorldGroup) → AllBut gs gs
unfolding AllBut
all_self [] = tt
all_self (g ∷ gs) = (self_but g, all_self gs)

at_but : (n : ℕ) (gs hs : List WorldGroup) → AllBut gs hs → SameBut (slice_index_or gs n no_group) (slice_index_or hs n no_group)
unfolding AllBut
at_but n [] [] b = self_but no_group
at_but n [] (h ∷ hs) b = absurd b
at_but n (g ∷ gs) [] b = absurd b
at_but zero (g ∷ gs) (h ∷ hs) b = b.0
at_but (suc n) (g ∷ gs) (h ∷ hs) b = at_but n gs hs b.1

module _ (hidden : BlindsHidden) where
  made_but : (used : ℕ → Bool) (n : ℕ) (a : Act) (blind : List ℕ) (gs hs : List WorldGroup) → EachGroup (IsGood used) gs → EachGroup (IsGood used) hs → AllBut gs hs
      → AllBut (at_group n (act a) gs) (at_group n (act (coalition.with_blind blind a)) hs)
  unfolding AllBut at_group EachGroup
  made_but used n a blind [] [] kg kh b = tt
  made_but used n a blind [] (h ∷ hs) kg kh b = absurd b
  made_but used n a blind (g ∷ gs) [] kg kh b = absurd b
  made_but used zero a blind (g ∷ gs) (h ∷ hs) kg kh b = (hidden used blind a g h kg.0 kh.0 b.0, b.1)
  made_but used (suc n) a blind (g ∷ gs) (h ∷ hs) kg kh b = (b.0, made_but used n a blind gs hs kg.1 kh.1 b.1)

  lost_but : (used : ℕ → Bool) (number slot : ℕ) (gs hs : List WorldGroup) → EachGroup (IsGood used) gs → EachGroup (IsGood used) hs → AllBut gs hs → AllBut (map (lose number slot) gs) (map (lose number slot) hs)
  unfolding AllBut EachGroup
  lost_but used number slot [] [] kg kh b = tt
  lost_but used number slot [] (h ∷ hs) kg kh b = absurd b
  lost_but used number slot (g ∷ gs) [] kg kh b = absurd b
  lost_but used number slot (g ∷ gs) (h ∷ hs) kg kh b = (hidden used [] (Lose number slot) g h kg.0 kh.0 b.0, lost_but used number slot gs hs kg.1 kh.1 b.1)

record SameSite (s t : Site) : Type 0 where
  used : t.used ≡ s.used
  groups : AllBut s.groups t.groups

use_same : (a : Act) (blind : List ℕ) (used now : ℕ → Bool) → now ≡ used → used_by (coalition.with_blind blind a) now ≡ used_by a used
use_same (Lose number slot) blind used now e = e
use_same (Look job s c) blind used now e = e
use_same (PutNext job block) blind used now e = e
use_same (Mend job s c other) blind used now e = e
use_same (MoveBegin job c to) blind used now e = ap (used_by (MoveBegin job c to)) e
use_same (MoveOne job c) blind used now e = e
use_same (Swap job c to) blind used now e = ap (used_by (Swap job c to)) e

-- ONE STEP OF A WORLD

abbrev at : World → Site → World
at w t = record w { site = t }

-- one world is the other, but for such a site
abbrev Later : World → World → Type 0
Later w x = (t : Site) × SameSite w.site t × (x ≡ at w t)

module _ (hidden : BlindsHidden) (w : World) (t : Site) (good : AllGood w.site) (fine : AllGood t) (same : SameSite w.site t) where
  good_too : EachGroup (IsGood w.site.used) t.groups
  good_too = subst (λ u. EachGroup (IsGood u) t.groups) same.used fine

  makes : (n : ℕ) (a : Act) (blind : List ℕ) → SameSite (moved (Makes n a) w.site) (moved (Makes n (coalition.with_blind blind a)) t)
  makes n a blind = record { used = use_same a blind w.site.used t.used same.used; groups = made_but hidden w.site.used n a blind w.site.groups t.groups good good_too same.groups }

  stored : (b : Bool) (a : ℕ) (u : UnderWay) → Later (store_by b a u w) (store_by b a u (at w t))
  stored true a u = (t, same, refl)
  stored false a u = (t, same, refl)

  putting : (a : ℕ) (u : UnderWay) (o : Option (List ℕ)) → Later (put_block a u o w) (put_block a u o (at w t))
  putting a u None = (t, same, refl)
  putting a u (Some block) = (
    moved (Makes (next_group w.index.rack u) (PutNext a block)) t,
    makes (next_group w.index.rack u) (PutNext a block) [],
    ap (λ p. beginning a (grown (next_group w.index.rack u) u p) (at w (moved (Makes (next_group w.index.rack u) (PutNext a block)) t)))
        (put_same a block (group_at w (next_group w.index.rack u)) (group_at (at w t) (next_group w.index.rack u)) (at_but (next_group w.index.rack u) w.site.groups t.groups same.groups)),
  )

  puts : (a : ℕ) (o : Option UnderWay) → Later (put_step a o w) (put_step a o (at w t))
  puts a None = (t, same, refl)
  puts a (Some u) = putting a u (next_block u)

  renewed : (a : ℕ) (u : UnderWay) (o : Option Record) → Later (renew_by a u o w) (renew_by a u o (at w t))
  renewed a u None = (t, same, refl)
  renewed a u (Some r) = (t, same, refl)

  published : (b : Bool) (a : ℕ) (u : UnderWay) → Later (publish_by b a u w) (publish_by b a u (at w t))
  published false a u = (t, same, refl)
  published true a u = renewed a u (record_of w.index.now u.name)

  publishes : (a : ℕ) (o : Option UnderWay) → Later (publish_step a o w) (publish_step a o (at w t))
  publishes a None = (t, same, refl)
  publishes a (Some u) = published u.renews a u

  abandoned : (b : Bool) (a : ℕ) (u : UnderWay) → Later (abandon_by b a u w) (abandon_by b a u (at w t))
  abandoned false a u = (t, same, refl)
  abandoned true a u = (t, same, refl)

  abandons : (a : ℕ) (o : Option UnderWay) → Later (abandon_step a o w) (abandon_step a o (at w t))
  abandons a None = (t, same, refl)
  abandons a (Some u) = abandoned u.renews a u

  looks : (a : ℕ) (place : Place) → Later (made (step.LookAt a place) w) (made (step.LookAt a place) (at w t))
  looks a place = (
    moved (Makes place.group (Look a place.stripe place.column)) t,
    makes place.group (Look a place.stripe place.column) [],
    ap (λ o. with_actor a (gather (is_wanted (w.actors a).found place) (w.actors a) place o) (at w (moved (Makes place.group (Look a place.stripe place.column)) t)))
        (sound_same place.stripe place.column (group_at w place.group) (group_at (at w t) place.group) (at_but place.group w.site.groups t.groups same.groups)),
  )

  step_same : (x : Step) (blind : List ℕ) → Later (made x w) (made (with_blind blind x) (at w t))
  step_same (step.Store a name file random) blind = stored (is_taken w.index.now name) a (store_begun name file w.index.rack.geometry random)
  step_same (step.PutNext a) blind = puts a (w.actors a).under_way
  step_same (step.Publish a) blind = publishes a (w.actors a).under_way
  step_same (step.Abandon a) blind = abandons a (w.actors a).under_way
  step_same (step.Fetch a name) blind = (t, same, refl)
  step_same (step.LookAt a place) blind = looks a place
  step_same (step.Mend a place other) blind =
      (moved (Makes place.group (Mend a place.stripe place.column blind)) t, makes place.group (Mend a place.stripe place.column other) blind, refl)
  step_same (step.MoveBegin a n c to) blind = (moved (Makes n (MoveBegin a c to)) t, makes n (MoveBegin a c to) blind, refl)
  step_same (step.MoveOne a n c) blind = (moved (Makes n (MoveOne a c)) t, makes n (MoveOne a c) blind, refl)
  step_same (step.Swap a n c to) blind = (moved (Makes n (Swap a c to)) t, makes n (Swap a c to) blind, refl)
  step_same (step.Renew a name geometry random) blind = (t, same, refl)
  step_same (step.Lose archive slot) blind =
      (moved (Loses archive slot) t, record { used = same.used; groups = lost_but hidden w.site.used archive slot w.site.groups t.groups good good_too same.groups }, refl)

-- ONE BLIND

added_none : (b : List ℕ) → IsBlock b → b ≡ xor b zero_block
added_none b block = sym (xor_comm b zero_block ∙ xor_zero b (omega (arith, block.size)))

sum_short : (t : Table) (r : Relay) (k : ℕ) (blocks : ℕ → List ℕ) → length (sum_before t r k blocks) ≡ 1024
unfolding sum_before
sum_short t r k blocks =
    length-map-range_with_len {X = ℕ}
    (λ (i : ℕ). total (width t) (λ c. if goes_over t r c && nat_lt c k then byte_product (weight_in t.data_columns r c) (slice_index (blocks c) i) else 0)) 0 1024

module _ (fixed : ExchangeFixed) where
  blind_added : (k s c : ℕ) (b : List ℕ) (g h : WorldGroup) → IsBlock b → other_blind k g h s c b ≡ xor b (other_blind k g h s c zero_block)
  blind_added k s c b g h block = by (goes_over g.state.table (begun_relay g.state.table s c) k)
    where
      p : List ℕ
      p = sum_before g.state.table (begun_relay g.state.table s c) k (g.written s)

      q : List ℕ
      q = sum_before h.state.table (begun_relay g.state.table s c) k (h.written s)

      by : (over : Bool) → (if over then exchanged p q b else b) ≡ xor b (if over then exchanged p q zero_block else zero_block)
      by true = xor_assoc b p q ∙ ap (λ y. xor b (xor y q)) (sym (xor_zero p (omega (arith, sum_short g.state.table (begun_relay g.state.table s c) k (g.written s)))))
      by false = added_none b block

  blind_is : (sight : Sight) (s c : ℕ) (b : List ℕ) (g h x y : WorldGroup) → IsBlock b → SameBut g x → SameBut h y → seen_blind true sight x y s c b ≡ xor b (seen_blind true sight g h s c zero_block)
  blind_is Whole s c b g h x y block d e = added_none b block
  blind_is Blind s c b g h x y block d e = added_none b block
  blind_is (One k) s c b g h x y block d e = fixed k s c b g h x y d e ∙ blind_added k s c b g h block

  module _ (sights : ℕ → Sight) (w v : World) (t u : Site) (same : SameSite w.site t) (same' : SameSite v.site u) where
    seen_is : (o : Other) (x : Step) (b : List ℕ) → IsBlock b → seen_step true sights o (with_blind b x) (at w t) (at v u) ≡ with_blind (xor b (mask sights x w v)) (seen_step true sights o x w v)
    seen_is o (step.Store a name file random) b block = by o.replaces
      where
        by : (r : Bool) → (if r then step.Store a name o.file o.random else step.Store a name file random) ≡ with_blind (xor b zero_block) (if r then step.Store a name o.file o.random else step.Store a name file random)
        by true = refl
        by false = refl
    seen_is o (step.PutNext a) b block = refl
    seen_is o (step.Publish a) b block = refl
    seen_is o (step.Abandon a) b block = refl
    seen_is o (step.Fetch a name) b block = refl
    seen_is o (step.LookAt a place) b block = refl
    seen_is o (step.Mend a place other) b block =
        ap (step.Mend a place) (blind_is (sights place.group) place.stripe place.column b (group_at w place.group) (group_at v place.group) (group_at (at w t) place.group) (group_at (at v u) place.group) block
        (at_but place.group w.site.groups t.groups same.groups) (at_but place.group v.site.groups u.groups same'.groups))
    seen_is o (step.MoveBegin a n c to) b block = refl
    seen_is o (step.MoveOne a n c) b block = refl
    seen_is o (step.Swap a n c to) b block = refl
    seen_is o (step.Renew a name geometry random) b block = by o.replaces
      where
        by : (r : Bool) → (if r then step.Renew a name geometry o.random else step.Renew a name geometry random) ≡ with_blind (xor b zero_block) (if r then step.Renew a name geometry o.random else step.Renew a name geometry random)
        by true = refl
        by false = refl
    seen_is o (step.Lose archive slot) b block = refl

-- WHOLE RUNS

more_run : (done : List Step) (x : Step) (w v : World) → Runs done w v → Allowed x v → Runs (done ++ x ∷ []) w (made x v)
unfolding Runs
more_run [] x w v runs is = (subst (Allowed x) runs is, ap (made x) runs)
more_run (y ∷ done) x w v runs is = (runs.0, more_run done x (made y w) v runs.1 is)

module _ (keeps : RunKeeps) (hidden : BlindsHidden) (fixed : ExchangeFixed) (rack : Rack) (racked : IsRack rack) (sights : ℕ → Sight) where
  abbrev Stands : World → Type 0
  Stands w = (done : List Step) × Runs done (first_world rack) w

  goes_on : (x : Step) (w : World) → Stands w → Allowed x w → Stands (made x w)
  goes_on x w s is = (s.0 ++ x ∷ [], more_run s.0 x (first_world rack) w s.1 is)

  good : (w : World) → Stands w → AllGood w.site
  good w s = keeps rack s.0 w racked s.1

  all_same : (other : ℕ → Other) (steps : List Step) (blinds : ℕ → List ℕ) (w v we xe ve ye : World) (t u : Site) → Stands w → Stands (at w t) → Stands v → Stands (at v u) → SameSite w.site t → SameSite v.site u
      → ((n : ℕ) → IsBlock (blinds n)) → Runs steps w we → Runs (with_blinds blinds steps) (at w t) xe → Runs (seen_steps true sights other steps w v) v ve
      → Runs (with_blinds (masked (masks sights other steps w v) blinds) (seen_steps true sights other steps w v)) (at v u) ye
      → seen_steps true sights other (with_blinds blinds steps) (at w t) (at v u) ≡ with_blinds (masked (masks sights other steps w v) blinds) (seen_steps true sights other steps w v)
  unfolding Runs with_blinds seen_steps masks
  all_same other [] blinds w v we xe ve ye t u sw sx sv sy same same' blocks rw rx rv ry = refl
  all_same other (x ∷ steps) blinds w v we xe ve ye t u sw sx sv sy same same' blocks rw rx rv ry =
      let y : Step = seen_step true sights (other 0) x w v in
      let m : List ℕ = xor (blinds 0) (mask sights x w v) in
      let lw : Later (made x w) (made (with_blind (blinds 0) x) (at w t)) = step_same hidden w t (good w sw) (good (at w t) sx) same x (blinds 0) in
      let lv : Later (made y v) (made (with_blind m y) (at v u)) = step_same hidden v u (good v sv) (good (at v u) sy) same' y m in
      let head : seen_step true sights (other 0) (with_blind (blinds 0) x) (at w t) (at v u) ≡ with_blind m y = seen_is fixed sights w v t u same same' (other 0) x (blinds 0) (blocks 0) in
      ap (λ (z : Step). z ∷ seen_steps true sights (λ n. other (suc n)) (with_blinds (λ n. blinds (suc n)) steps) (made (with_blind (blinds 0) x) (at w t)) (made z (at v u))) head
      ∙ ap (λ (z : World). with_blind m y ∷ seen_steps true sights (λ n. other (suc n)) (with_blinds (λ n. blinds (suc n)) steps) z (made (with_blind m y) (at v u))) lw.2
      ∙ ap (λ (z : World). with_blind m y ∷ seen_steps true sights (λ n. other (suc n)) (with_blinds (λ n. blinds (suc n)) steps) (at (made x w) lw.0) z) lv.2
      ∙ ap (λ l. with_blind m y ∷ l)
      (all_same (λ n. other (suc n)) steps (λ n. blinds (suc n)) (made x w) (made y v) we xe ve ye lw.0 lv.0
      (goes_on x w sw rw.0) (subst Stands lw.2 (goes_on (with_blind (blinds 0) x) (at w t) sx rx.0)) (goes_on y v sv rv.0) (subst Stands lv.2 (goes_on (with_blind m y) (at v u) sy ry.0))
      lw.1 lv.1 (λ n. blocks (suc n)) rw.1
      (subst (λ (z : World). Runs (with_blinds (λ n. blinds (suc n)) steps) z xe) lw.2 rx.1) rv.1
      (subst (λ (z : World). Runs (with_blinds (masked (masks sights (λ n. other (suc n)) steps (made x w) (made y v)) (λ n. blinds (suc n))) (seen_steps true sights (λ n. other (suc n)) steps (made x w) (made y v))) z ye) lv.2 ry.1))

-- OTHER BLINDS RUN TOO

abbrev blind_alone : List ℕ → Other
blind_alone blind = record { replaces = false; file = []; random = []; blind = blind }

others_are : (blinds : ℕ → List ℕ) (steps : List Step) → with_others (λ n. blind_alone (blinds n)) steps ≡ with_blinds blinds steps
unfolding with_others with_blinds
others_are blinds [] = refl
others_are blinds (step.Store a name file random ∷ steps) = ap (λ l. step.Store a name file random ∷ l) (others_are (λ n. blinds (suc n)) steps)
others_are blinds (step.PutNext a ∷ steps) = ap (λ l. step.PutNext a ∷ l) (others_are (λ n. blinds (suc n)) steps)
others_are blinds (step.Publish a ∷ steps) = ap (λ l. step.Publish a ∷ l) (others_are (λ n. blinds (suc n)) steps)
others_are blinds (step.Abandon a ∷ steps) = ap (λ l. step.Abandon a ∷ l) (others_are (λ n. blinds (suc n)) steps)
others_are blinds (step.Fetch a name ∷ steps) = ap (λ l. step.Fetch a name ∷ l) (others_are (λ n. blinds (suc n)) steps)
others_are blinds (step.LookAt a place ∷ steps) = ap (λ l. step.LookAt a place ∷ l) (others_are (λ n. blinds (suc n)) steps)
others_are blinds (step.Mend a place blind ∷ steps) = ap (λ l. step.Mend a place (blinds 0) ∷ l) (others_are (λ n. blinds (suc n)) steps)
others_are blinds (step.MoveBegin a n c to ∷ steps) = ap (λ l. step.MoveBegin a n c to ∷ l) (others_are (λ n. blinds (suc n)) steps)
others_are blinds (step.MoveOne a n c ∷ steps) = ap (λ l. step.MoveOne a n c ∷ l) (others_are (λ n. blinds (suc n)) steps)
others_are blinds (step.Swap a n c to ∷ steps) = ap (λ l. step.Swap a n c to ∷ l) (others_are (λ n. blinds (suc n)) steps)
others_are blinds (step.Renew a name geometry random ∷ steps) = ap (λ l. step.Renew a name geometry random ∷ l) (others_are (λ n. blinds (suc n)) steps)
others_are blinds (step.Lose archive slot ∷ steps) = ap (λ l. step.Lose archive slot ∷ l) (others_are (λ n. blinds (suc n)) steps)

none_fits : (blinds : ℕ → List ℕ) (steps : List Step) → ((n : ℕ) → IsBlock (blinds n)) → AllFit (λ name. false) (λ n. blind_alone (blinds n)) steps
unfolding AllFit
none_fits blinds [] blocks = tt
none_fits blinds (step.Store a name file random ∷ steps) blocks = (λ e. absurd (cc), none_fits (λ n. blinds (suc n)) steps (λ n. blocks (suc n)))
none_fits blinds (step.PutNext a ∷ steps) blocks = (tt, none_fits (λ n. blinds (suc n)) steps (λ n. blocks (suc n)))
none_fits blinds (step.Publish a ∷ steps) blocks = (tt, none_fits (λ n. blinds (suc n)) steps (λ n. blocks (suc n)))
none_fits blinds (step.Abandon a ∷ steps) blocks = (tt, none_fits (λ n. blinds (suc n)) steps (λ n. blocks (suc n)))
none_fits blinds (step.Fetch a name ∷ steps) blocks = (tt, none_fits (λ n. blinds (suc n)) steps (λ n. blocks (suc n)))
none_fits blinds (step.LookAt a place ∷ steps) blocks = (tt, none_fits (λ n. blinds (suc n)) steps (λ n. blocks (suc n)))
none_fits blinds (step.Mend a place blind ∷ steps) blocks = (blocks 0, none_fits (λ n. blinds (suc n)) steps (λ n. blocks (suc n)))
none_fits blinds (step.MoveBegin a n c to ∷ steps) blocks = (tt, none_fits (λ n. blinds (suc n)) steps (λ n. blocks (suc n)))
none_fits blinds (step.MoveOne a n c ∷ steps) blocks = (tt, none_fits (λ n. blinds (suc n)) steps (λ n. blocks (suc n)))
none_fits blinds (step.Swap a n c to ∷ steps) blocks = (tt, none_fits (λ n. blinds (suc n)) steps (λ n. blocks (suc n)))
none_fits blinds (step.Renew a name geometry random ∷ steps) blocks = (λ e. absurd (cc), none_fits (λ n. blinds (suc n)) steps (λ n. blocks (suc n)))
none_fits blinds (step.Lose archive slot ∷ steps) blocks = (tt, none_fits (λ n. blinds (suc n)) steps (λ n. blocks (suc n)))

module _ (alike : RunsAlike) (rack : Rack) (racked : IsRack rack) where
  other_runs : (blinds : ℕ → List ℕ) (steps : List Step) (w : World) → ((n : ℕ) → IsBlock (blinds n)) → Runs steps (first_world rack) w → (v : World) × Runs (with_blinds blinds steps) (first_world rack) v
  other_runs blinds steps w blocks runs =
      let run = alike rack (λ name. false) (λ n. blind_alone (blinds n)) steps w racked (none_fits blinds steps blocks) runs in
      (run.0, subst (λ l. Runs l (first_world rack) run.0) (others_are blinds steps) run.1)

-- THE LAW

module _ (exchange : BlindsExchange) where
  mask_block : (sights : ℕ → Sight) (x : Step) (w v : World) → IsBlock (mask sights x w v)
  mask_block sights (step.Mend a place blind) w v = by (sights place.group)
    where
      by : (sight : Sight) → IsBlock (seen_blind true sight (group_at w place.group) (group_at v place.group) place.stripe place.column zero_block)
      by Whole = IsBlock-zero_block
      by Blind = IsBlock-zero_block
      by (One k) = (exchange k place.stripe place.column zero_block (group_at w place.group) (group_at v place.group) IsBlock-zero_block).0
  mask_block sights (step.Store a name file random) w v = IsBlock-zero_block
  mask_block sights (step.PutNext a) w v = IsBlock-zero_block
  mask_block sights (step.Publish a) w v = IsBlock-zero_block
  mask_block sights (step.Abandon a) w v = IsBlock-zero_block
  mask_block sights (step.Fetch a name) w v = IsBlock-zero_block
  mask_block sights (step.LookAt a place) w v = IsBlock-zero_block
  mask_block sights (step.MoveBegin a n c to) w v = IsBlock-zero_block
  mask_block sights (step.MoveOne a n c) w v = IsBlock-zero_block
  mask_block sights (step.Swap a n c to) w v = IsBlock-zero_block
  mask_block sights (step.Renew a name geometry random) w v = IsBlock-zero_block
  mask_block sights (step.Lose archive slot) w v = IsBlock-zero_block

  masks_block : (sights : ℕ → Sight) (other : ℕ → Other) (steps : List Step) (w v : World) (n : ℕ) → IsBlock (masks sights other steps w v n)
  unfolding masks
  masks_block sights other [] w v n = IsBlock-zero_block
  masks_block sights other (x ∷ steps) w v zero = mask_block sights x w v
  masks_block sights other (x ∷ steps) w v (suc n) = masks_block sights (λ n. other (suc n)) steps (made x w) (made (seen_step true sights (other 0) x w v) v) n

-- a block that is added twice is none
added_twice : (b m : List ℕ) → IsBlock b → IsBlock m → xor (xor b m) m ≡ b
added_twice b m block is = xor_assoc b m m ∙ ap (xor b) (xor_twice m is.size) ∙ sym (added_none b block)

no_steps : (w : World) → Runs [] w w
unfolding Runs
no_steps w = refl

pub blinds_return : RunKeeps → RunsAlike → BlindsHidden → ExchangeFixed → BlindsExchange → BlindsReturn
blinds_return keeps alike hidden fixed exchange rack sights other steps w v racked runs others = record {
  blocks = is_block;
  same = λ blinds blocks.
      (let first : World = first_world rack in
      let stands : Stands keeps hidden fixed rack racked sights first = ([], no_steps first) in
      let site : SameSite first.site first.site = record { used = refl; groups = all_self first.site.groups } in
      let one = other_runs alike rack racked blinds steps w blocks runs in
      let two = other_runs alike rack racked (masked (masks sights other steps first first) blinds) (seen_steps true sights other steps first first) v (λ n. IsBlock-xor _ _ (blocks n) (is_block n)) others in
      all_same keeps hidden fixed rack racked sights other steps blinds first first w one.0 v two.0 first.site first.site stands stands stands stands site site blocks runs one.1 others two.1);
  twice = λ blinds n block. added_twice (blinds n) (masks sights other steps (first_world rack) (first_world rack) n) block (is_block n);
}
  where
    is_block : (n : ℕ) → IsBlock (masks sights other steps (first_world rack) (first_world rack) n)
    is_block n = masks_block exchange sights other steps (first_world rack) (first_world rack) n
