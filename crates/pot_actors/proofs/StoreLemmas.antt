-- What the steps of a store make of a world.
use Rattle.std.proofs.Common.{◌≡◌, ℕ, ◌<◌, ◌≤◌, ◌++◌, ◌∷◌, [], List, Option, Some, None, Result, Ok, Err, true, false, length, map, get_or, set, refl, sym, ap, ◌∙◌, subst, if◌then◌else◌}
use Rattle.std.specs.Prelude.{◌==◌, IsSomeAnd, Vec, is_some}
use Rattle.std.specs.Global.{Global}
use Rattle.std.specs.declared.snapshot.Snapshot.{Snapshot}
use Rattle.std.proofs.lemmas.List.{map-append}
use Rattle.pot_index.specs.declared.entry.IndexEntry.TheVariants as entry
use Rattle.pot_index.specs.Entries.{plain}
use Rattle.pot_index.specs.Index.{IndexView, logged}
use Rattle.pot_shard.specs.FileLaws.{IsStore}
use Rattle.pot_world.specs.declared.acts.ActFault.{ActFault}
use Rattle.pot_world.specs.declared.acts.ActFault.TheVariants as act_fault
use Rattle.pot_world.specs.declared.step.Step.TheVariants as step
use Rattle.pot_world.specs.Data.{SiteData, site_of}
use Rattle.pot_world.specs.Group.{put}
use Rattle.pot_world.specs.World.{Actor, Allowed, UnderWay, World, abandon_by, abandon_step, blocks_of, group_at, grown, is_taken, kept_of, made, next_group, put_block, put_step, store_begun, store_by}
use Rattle.pot_actors.specs.declared.ledger.Ledger.{Ledger}
use Rattle.pot_actors.specs.declared.parts.Parts.{Parts}
use Rattle.pot_actors.specs.declared.split.OpenSplit.{OpenSplit}
use Rattle.pot_actors.specs.Ledgers.{index_of, names_of}
use Rattle.pot_actors.specs.Seats.{SeatData, SitsAt, actor_at}
use Rattle.pot_actors.specs.Splits.{PutsNext, under_way_of}
use Rattle.pot_actors.specs.Steps.{ActorSteps}
use Rattle.pot_actors.specs.Worlds.{split_values, world_of}
use Rattle.pot_actors.proofs.SeatLemmas.{has_none, has_some, none_taken, put_back, split_back, split_set}

pub split_none : (o : Option OpenSplit) → is_some o ≡ false → o ≡ None
split_none None e = refl
split_none (Some u) e = absurd (cc)

pub split_is : (o : Option OpenSplit) → is_some o ≡ true → (u : OpenSplit) × (o ≡ Some u)
split_is None e = absurd (cc)
split_is (Some u) e = (u, refl)

-- one split more was begun
pub split_pushed : (ss ss' : List (Snapshot OpenSplit)) (x : Snapshot OpenSplit) (u : OpenSplit) (v : UnderWay) → ss' ≡ ss ++ x ∷ [] → x.value ≡ u → under_way_of u ≡ v
    → split_values ss' ≡ split_values ss ++ v ∷ []
split_pushed ss ss' x u v e value is =
    ap split_values e ∙ map-append (λ (s : Snapshot OpenSplit). under_way_of s.value) ss (x ∷ []) ∙ ap (λ w. split_values ss ++ w ∷ []) (ap under_way_of value ∙ is)

pub kept_pushed : (ss ss' : List (Snapshot OpenSplit)) (v : UnderWay) → split_values ss' ≡ split_values ss ++ v ∷ [] → map kept_of (split_values ss') ≡ map kept_of (split_values ss) ++ kept_of v ∷ []
kept_pushed ss ss' v e = ap (map kept_of) e ∙ map-append kept_of (split_values ss) (v ∷ [])

module _ (p : Parts) (a at : ℕ) (s : SeatData) (sits : SitsAt p.seats.items a at) (here : s ≡ get_or p.seats.items at s) where
  -- A STORE

  pub store_busy : (name file random : List ℕ) → is_some s.split ≡ true → Allowed (step.Store a name file random) (world_of p) → ⊥
  store_busy name file random t h =
      let u = split_is s.split t in
      let e : None ≡ Some (under_way_of u.0) = sym h.0 ∙ has_some p.seats.items a at s sits here u.0 u.1 in
      absurd (cc)

  pub store_free : (name file random : List ℕ) → is_some s.split ≡ false → IsStore p.names.rack.geometry file random → Allowed (step.Store a name file random) (world_of p)
  store_free name file random f store = (has_none p.seats.items a at s sits here (split_none s.split f), store)

  pub store_begins : (names : Ledger) (ss : Vec SeatData Global) (begun : Vec (Snapshot OpenSplit) Global) (name file random : List ℕ) (u : OpenSplit) (y : SeatData) (x : Snapshot OpenSplit)
      → under_way_of u ≡ store_begun name file p.names.rack.geometry random
      → index_of names ≡ logged (index_of p.names) (plain (entry.Reserve a name))
      → ss.items ≡ set p.seats.items at y → y ≡ record s { split = Some u }
      → begun.items ≡ p.begun.items ++ x ∷ [] → x.value ≡ u
      → world_of (record p { names = names; seats = ss; begun = begun }) ≡ store_by false a (store_begun name file p.names.rack.geometry random) (world_of p)
  store_begins names ss begun name file random u y x is logs seats now pushed value =
      let v : UnderWay = store_begun name file p.names.rack.geometry random in
      let actors = ap actor_at seats ∙ split_set p.seats.items a at s sits here y (Some u) (Some v) now (ap Some is) in
      let kept = kept_pushed p.begun.items begun.items v (split_pushed p.begun.items begun.items x u v pushed value is) in
      λ i. record (world_of p) { index = logs i; actors = actors i; kept = kept i }

pub store_taken : (p : Parts) (names : Ledger) (a : ℕ) (name file random : List ℕ) → is_taken (names_of p.names) name ≡ true
    → index_of names ≡ logged (index_of p.names) (plain (entry.Taken a name)) → world_of (record p { names = names }) ≡ made (step.Store a name file random) (world_of p)
store_taken p names a name file random taken logs =
    ap (λ (x : IndexView). record (world_of p) { index = x }) logs
    ∙ sym (ap (λ b. store_by b a (store_begun name file p.names.rack.geometry random) (world_of p)) taken)

pub store_reserved : (p : Parts) (v : World) (a : ℕ) (name file random : List ℕ) → is_taken (names_of p.names) name ≡ false
    → v ≡ store_by false a (store_begun name file p.names.rack.geometry random) (world_of p) → v ≡ made (step.Store a name file random) (world_of p)
store_reserved p v a name file random free is = is ∙ sym (ap (λ b. store_by b a (store_begun name file p.names.rack.geometry random) (world_of p)) free)

-- THE NEXT BLOCK

module _ (p : Parts) (a at : ℕ) (s : SeatData) (sits : SitsAt p.seats.items a at) (here : s ≡ get_or p.seats.items at s) where
  none_left : s.split ≡ None → Allowed (step.PutNext a) (world_of p) → ⊥
  none_left e h = subst (λ o. IsSomeAnd o (λ u. length u.places < length (blocks_of u))) (has_none p.seats.items a at s sits here e) h

  -- the split was taken out of its seat, and another put back
  module _ (w : OpenSplit) (had : s.split ≡ Some w) (y s' y' : SeatData) (u : OpenSplit) (e : y ≡ record s { split = None })
      (read : s' ≡ get_or (set p.seats.items at y) at s') (e' : y' ≡ record s' { split = Some u }) (ss : Vec SeatData Global) (seats : ss.items ≡ set (set p.seats.items at y) at y') where
    abbrev was : UnderWay
    was = under_way_of w

    is_under_way : (actor_at p.seats.items a).under_way ≡ Some (under_way_of w)
    is_under_way = has_some p.seats.items a at s sits here w had

    back : under_way_of u ≡ under_way_of w → actor_at ss.items ≡ actor_at p.seats.items
    back is = ap actor_at seats ∙ put_back p.seats.items a at s sits here y s' y' u w had e read e' is

    pub put_as : (gs : SiteData) (r : Result (Unit {0}) ActFault) → PutsNext p.names.rack a p.groups (under_way_of w) gs (under_way_of u) r
        → ActorSteps (step.PutNext a) p (record p { groups = gs; seats = ss }) r
    put_as gs (Ok x) h =
        let actors = ap actor_at seats ∙ split_back p.seats.items a at s sits here y s' y' u (grown (next_group p.names.rack (under_way_of w)) (under_way_of w) (put a h.block (group_at (world_of p) (next_group p.names.rack (under_way_of w)))).place) e read e' h.kept in (
          subst (λ o. IsSomeAnd o (λ u. length u.places < length (blocks_of u))) (sym is_under_way) h.left,
          (λ i. record (world_of p) { site = h.site i; actors = actors i })
              ∙ sym (ap (λ o. put_step a o (world_of p)) is_under_way ∙ ap (λ o. put_block a (under_way_of w) o (world_of p)) h.is_next),
        )
    put_as gs (Err act_fault.NotAllowed) h = (
      (λ k. h.0 (subst (λ o. IsSomeAnd o (λ u. length u.places < length (blocks_of u))) is_under_way k)),
      λ i. record (world_of p) { site = site_of (h.1 i); actors = back h.2 i },
    )
    put_as gs (Err act_fault.NoMemory) h = λ i. record (world_of p) { site = site_of (h.0 i); actors = back h.1 i }

    -- ITS END WITHOUT A RECORD

    pub abandon_stays : (names : Ledger) → under_way_of u ≡ under_way_of w → index_of names ≡ index_of p.names → world_of (record p { names = names; seats = ss }) ≡ world_of p
    abandon_stays names is logs = λ i. record (world_of p) { index = logs i; actors = back is i }

  -- the split was taken out
  module _ (w : OpenSplit) (had : s.split ≡ Some w) (y : SeatData) (e : y ≡ record s { split = None }) (ss : Vec SeatData Global) (seats : ss.items ≡ set p.seats.items at y) where
    idle_now : actor_at ss.items ≡ (λ n. if n == a then record (actor_at p.seats.items a) { under_way = None } else actor_at p.seats.items n)
    idle_now = ap actor_at seats ∙ split_set p.seats.items a at s sits here y None None e refl

    there : (actor_at p.seats.items a).under_way ≡ Some (under_way_of w)
    there = has_some p.seats.items a at s sits here w had

    pub may_abandon : Allowed (step.Abandon a) (world_of p)
    may_abandon = ap is_some there

    pub abandons_renewal : w.renews ≡ true → world_of (record p { seats = ss }) ≡ made (step.Abandon a) (world_of p)
    abandons_renewal t =
        (λ i. record (world_of p) { actors = idle_now i })
        ∙ sym (ap (λ o. abandon_step a o (world_of p)) there ∙ ap (λ b. abandon_by b a (under_way_of w) (world_of p)) t)

    pub abandons_store : (names : Ledger) → w.renews ≡ false → index_of names ≡ logged (index_of p.names) (plain (entry.Abandon a w.name))
        → world_of (record p { names = names; seats = ss }) ≡ made (step.Abandon a) (world_of p)
    abandons_store names f logs =
        (λ i. record (world_of p) { index = logs i; actors = idle_now i })
        ∙ sym (ap (λ o. abandon_step a o (world_of p)) there ∙ ap (λ b. abandon_by b a (under_way_of w) (world_of p)) f)

  -- there was none to take out
  module _ (y : SeatData) (had : s.split ≡ None) (e : y ≡ record s { split = None }) (ss : Vec SeatData Global) (seats : ss.items ≡ set p.seats.items at y) where
    stays : world_of (record p { seats = ss }) ≡ world_of p
    stays = ap (λ (f : ℕ → Actor). record (world_of p) { actors = f }) (ap actor_at seats ∙ none_taken p.seats.items a at s sits here y had e)

    pub no_put : ActorSteps (step.PutNext a) p (record p { seats = ss }) (Err act_fault.NotAllowed)
    no_put = (none_left had, stays)

    pub no_abandon : ActorSteps (step.Abandon a) p (record p { seats = ss }) (Err act_fault.NotAllowed)
    no_abandon = ((λ k. (let e : is_some {T = UnderWay} None ≡ true = ap is_some (sym (has_none p.seats.items a at s sits here had)) ∙ k in absurd (cc))), stays)
