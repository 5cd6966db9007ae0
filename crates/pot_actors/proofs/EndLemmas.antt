-- What a split that is published makes of a world.
use Rattle.std.proofs.Common.{◌≡◌, ℕ, ◌<◌, ◌++◌, ◌∷◌, [], List, Option, Some, None, Ok, Err, Bool, true, false, length, set, get_or, ◌≤◌, arith, refl, sym, ap, ◌∙◌, subst, if◌then◌else◌}
use Rattle.std.specs.Prelude.{◌==◌, IsSomeAnd, Vec}
use Rattle.std.specs.Global.{Global}
use Rattle.std.specs.List.{position}
use Rattle.std.proofs.lemmas.List.Quantifiers.{position-Some}
use Rattle.std.specs.declared.snapshot.Snapshot.{Snapshot}
use Rattle.pot_index.specs.declared.record.Record.{Record}
use Rattle.pot_index.specs.declared.entry.IndexEntry.TheVariants as entry
use Rattle.pot_index.specs.Entries.{bringing}
use Rattle.pot_index.specs.Index.{IsPublished, Names, same_name}
use Rattle.pot_index.specs.Records.{mark_of, renewed}
use Rattle.pot_index.specs.Searches.{RecordStandsAt}
use Rattle.pot_index.proofs.NameLemmas.{same_true}
use Rattle.pot_index.proofs.NamesKept.{reserved_unpublished}
use Rattle.pot_shard.specs.FileLaws.{IsStore}
use Rattle.pot_world.specs.declared.acts.ActFault.{ActFault}
use Rattle.pot_world.specs.declared.acts.ActFault.TheVariants as act_fault
use Rattle.pot_world.specs.declared.step.Step.TheVariants as step
use Rattle.pot_world.specs.World.{Actor, Original, UnderWay, blocks_of, publish_by, publish_step, record_of, renew_by, split_of}
use Rattle.pot_world.proofs.WorldRules.{IsWorld}
use Rattle.pot_actors.specs.declared.ledger.Ledger.{Ledger}
use Rattle.pot_actors.specs.declared.parts.Parts.{Parts}
use Rattle.pot_actors.specs.declared.split.OpenSplit.{OpenSplit}
use Rattle.pot_actors.specs.Ends.{EndsAs, EndsByEntry, MayPublish, PublishesSplit, LedgerStays}
use Rattle.pot_actors.specs.Ledgers.{names_of}
use Rattle.pot_actors.specs.Seats.{SeatData, SitsAt, actor_at}
use Rattle.pot_actors.specs.Splits.{under_way_of}
use Rattle.pot_actors.specs.Steps.{ActorSteps}
use Rattle.pot_actors.specs.Worlds.{ended_by, originals_from, originals_of, split_values, with_ended, world_of}
use Rattle.pot_actors.proofs.SeatLemmas.{has_none, has_some, none_taken, put_back, split_set}

-- one split more was published
pub originals_more : (o : List ℕ → Original) (us : List UnderWay) (u : UnderWay) → originals_from o (us ++ u ∷ []) ≡ with_ended u (originals_from o us)
unfolding originals_from
originals_more o [] u = refl
originals_more o (x ∷ us) u = originals_more (with_ended x o) us u

module _ (p : Parts) (a at : ℕ) (s : SeatData) (sits : SitsAt p.seats.items a at) (here : s ≡ get_or p.seats.items at s) where
  module _ (w : OpenSplit) (had : s.split ≡ Some w) (y : SeatData) (e : y ≡ record s { split = None }) where
    there : (actor_at p.seats.items a).under_way ≡ Some (under_way_of w)
    there = has_some p.seats.items a at s sits here w had

    abbrev May : UnderWay → Type 0
    May u = MayPublish (names_of p.names) u

    abbrev none : List ℕ → Original
    none = λ name. record { file = []; randoms = [] }

    module _ (names : Ledger) (ended : Vec (Snapshot OpenSplit) Global) where
      -- the split was taken out, and ended
      module _ (ss : Vec SeatData Global) (seats : ss.items ≡ set p.seats.items at y) where
        idle_now : actor_at ss.items ≡ (λ n. if n == a then record (actor_at p.seats.items a) { under_way = None } else actor_at p.seats.items n)
        idle_now = ap actor_at seats ∙ split_set p.seats.items a at s sits here y None None e refl

        originals_now : (b : Bool) → w.renews ≡ b → split_values ended.items ≡ split_values p.ended.items ++ under_way_of w ∷ []
            → originals_of (split_values ended.items) ≡ (λ name. if same_name name w.name then ended_by b (under_way_of w) (originals_of (split_values p.ended.items) w.name) else originals_of (split_values p.ended.items) name)
        originals_now b t more =
            ap (originals_from none) more ∙ originals_more none (split_values p.ended.items) (under_way_of w)
            ∙ (λ i name. if same_name name w.name then ended_by (t i) (under_way_of w) (originals_of (split_values p.ended.items) w.name) else originals_of (split_values p.ended.items) name)

        ends_as : (b : Bool) (o : Option Record) → w.renews ≡ b → record_of (names_of p.names) w.name ≡ o → EndsAs b o a p.names p.ended.items (under_way_of w) names ended.items
            → world_of (record p { names = names; seats = ss; ended = ended }) ≡ publish_by b a (under_way_of w) (world_of p)
        ends_as false o t f h = λ i. record (world_of p) { index = h.0 i; actors = idle_now i; originals = originals_now false t h.1 i }
        ends_as true None t f h = absurd h
        ends_as true (Some r) t f h =
            (λ i. record (world_of p) { index = h.0 i; actors = idle_now i; originals = originals_now true t h.1 i })
            ∙ sym (ap (λ o. renew_by a (under_way_of w) o (world_of p)) f)

        pub published_as : PublishesSplit a p.names p.ended.items (under_way_of w) names ended.items (Ok tt)
            → ActorSteps (step.Publish a) p (record p { names = names; seats = ss; ended = ended }) (Ok tt)
        published_as h = (
          subst (λ o. IsSomeAnd o May) (sym there) h.0,
          ends_as w.renews (record_of (names_of p.names) w.name) refl refl h.1 ∙ sym (ap (λ o. publish_step a o (world_of p)) there),
        )

      -- it was put back
      module _ (s' y' : SeatData) (read : s' ≡ get_or (set p.seats.items at y) at s') (e' : y' ≡ record s' { split = Some w }) (ss : Vec SeatData Global) (seats : ss.items ≡ set (set p.seats.items at y) at y') where
        back : actor_at ss.items ≡ actor_at p.seats.items
        back = ap actor_at seats ∙ put_back p.seats.items a at s sits here y s' y' w w had e read e' refl

        stays : LedgerStays p.names p.ended.items names ended.items → world_of (record p { names = names; seats = ss; ended = ended }) ≡ world_of p
        stays h = λ i. record (world_of p) { index = h.0 i; actors = back i; originals = originals_of (h.1 i) }

        pub refused_as : (f : ActFault) → PublishesSplit a p.names p.ended.items (under_way_of w) names ended.items (Err f)
            → ActorSteps (step.Publish a) p (record p { names = names; seats = ss; ended = ended }) (Err f)
        refused_as act_fault.NotAllowed h = ((λ k. h.0 (subst (λ o. IsSomeAnd o May) there k)), stays h.1)
        refused_as act_fault.NoMemory h = stays h

  -- there was none to take out
  module _ (y : SeatData) (had : s.split ≡ None) (e : y ≡ record s { split = None }) (ss : Vec SeatData Global) (seats : ss.items ≡ set p.seats.items at y) where
    pub no_publish : ActorSteps (step.Publish a) p (record p { seats = ss }) (Err act_fault.NotAllowed)
    no_publish = (
      (λ k. subst (λ o. IsSomeAnd o (λ u. MayPublish (names_of p.names) u)) (has_none p.seats.items a at s sits here had) k),
      ap (λ (f : ℕ → Actor). record (world_of p) { actors = f }) (ap actor_at seats ∙ none_taken p.seats.items a at s sits here y had e),
    )

  -- what the rules of a world say of the split
  module _ (k : IsWorld (world_of p)) (w : OpenSplit) (had : s.split ≡ Some w) where
    pub stored : IsStore w.geometry w.file w.random
    stored = ((k.actors a).under_way (under_way_of w) (has_some p.seats.items a at s sits here w had)).store

    pub unpublished : w.renews ≡ false → IsPublished (names_of p.names) w.name → ⊥
    unpublished f h = reserved_unpublished p.names.rack (names_of p.names) a w.name k.names (((k.actors a).under_way (under_way_of w) (has_some p.seats.items a at s sits here w had)).reserved f) h

-- WHICH SPLIT MAY BE PUBLISHED

module _ (now : Names) (u : UnderWay) (t : u.renews ≡ true) where
  pub may_not_absent : record_of now u.name ≡ None → MayPublish now u → ⊥
  may_not_absent e h = subst (λ o. IsSomeAnd o (λ r. length r.older < 15)) e (h.1 t)

  pub may_not_often : (r : Record) → record_of now u.name ≡ Some r → 15 ≤ length r.older → MayPublish now u → ⊥
  may_not_often r e le h = (let l : length r.older < 15 = subst (λ o. IsSomeAnd o (λ r. length r.older < 15)) e (h.1 t) in omega (arith, l, le))

  pub may_renew : (r : Record) → record_of now u.name ≡ Some r → length r.older < 15 → length u.places ≡ length (blocks_of u) → MayPublish now u
  may_renew r e lt all = (all, λ s. subst (λ o. IsSomeAnd o (λ r. length r.older < 15)) (sym e) lt)

pub renewal_ends : (a : ℕ) (old new : Ledger) (ended ended' : List (Snapshot OpenSplit)) (u : UnderWay) (r : Record) → u.renews ≡ true → record_of (names_of old) u.name ≡ Some r
    → EndsByEntry (bringing (entry.Renew a u.name (mark_of (renewed r (split_of u)))) (renewed r (split_of u))) old ended u new ended'
    → EndsAs u.renews (record_of (names_of old) u.name) a old ended u new ended'
renewal_ends a old new ended ended' u r t e h =
    subst (λ b. EndsAs b (record_of (names_of old) u.name) a old ended u new ended') (sym t)
    (subst (λ o. EndsAs true o a old ended u new ended') (sym e) h)

-- the record at the place of a name
pub stands : (rs : List Record) (name : List ℕ) (at : ℕ) → position (λ r. same_name r.name name) rs ≡ Some at → at < length rs → RecordStandsAt rs name at
stands rs name at e lt = (lt, λ d. same_true (get_or rs at d).name name (position-Some (λ (r : Record). same_name r.name name) rs at d e).1)
