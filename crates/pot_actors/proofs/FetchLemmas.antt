-- What a fetch, a look and the start of a renewal make of a world.
use Rattle.std.proofs.Common.{◌≡◌, ℕ, ◌<◌, ◌≤◌, ◌*◌, ◌++◌, ◌∷◌, [], List, Option, Some, None, Ok, Err, Bool, true, false, length, set, get_or, refl, sym, ap, ap₂, ◌∙◌, subst, arith, if◌then◌else◌}
use Rattle.std.specs.Prelude.{◌==◌, All, Contains, IfSome, IsSomeAnd, Vec, is_some, option_map}
use Rattle.std.specs.Global.{Global}
use Rattle.std.specs.declared.snapshot.Snapshot.{Snapshot}
use Rattle.std.proofs.Common.{append-nil, mul_assoc}
use Rattle.std.proofs.lemmas.List.Elements.{All-contains, Contains-push}
use Rattle.std.proofs.lemmas.Option.{same_Some}
use Rattle.pot_bytes.specs.declared.rack.Geometry.{Geometry}
use Rattle.pot_bytes.specs.declared.rack.Place.{Place}
use Rattle.pot_bytes.specs.declared.rack.Rack.{Rack}
use Rattle.pot_bytes.proofs.Elements.{none_contained}
use Rattle.pot_index.specs.declared.entry.IndexEntry.TheVariants as entry
use Rattle.pot_index.specs.declared.record.Record.{Record}
use Rattle.pot_index.specs.Entries.{plain}
use Rattle.pot_index.specs.Fits.{FitsRack, FitsSplit}
use Rattle.pot_index.specs.Records.{current_of, splits_of}
use Rattle.pot_index.specs.Index.{logged}
use Rattle.pot_index.proofs.NameLemmas.{contains_here}
use Rattle.pot_object.specs.Pieces.{pieces_of}
use Rattle.pot_shard.specs.FileLaws.{IsStore}
use Rattle.pot_world.specs.declared.acts.ActFault.{ActFault}
use Rattle.pot_world.specs.declared.acts.ActFault.TheVariants as act_fault
use Rattle.pot_world.specs.declared.step.Step.TheVariants as step
use Rattle.pot_world.specs.Acts as act
use Rattle.pot_world.specs.Data.{Goes, SiteData, SoundIn, site_of}
use Rattle.pot_world.specs.Group.{sound_block}
use Rattle.pot_world.specs.Reached.{Makes}
use Rattle.pot_world.specs.World.{Actor, Allowed, Gathered, HasGathered, UnderWay, World, gather, group_at, is_wanted, made, record_of, renewal_begun}
use Rattle.pot_world.specs.Worlds.{GatheredGive}
use Rattle.pot_world.proofs.Names.{record_is}
use Rattle.pot_world.proofs.Sizes.{allowed_at}
use Rattle.pot_world.proofs.WorldRules.{IsWorld}
use Rattle.pot_world.proofs.WorldRuns.{fetched_is}
use Rattle.pot_actors.specs.declared.ledger.Ledger.{Ledger}
use Rattle.pot_actors.specs.declared.parts.Parts.{Parts}
use Rattle.pot_actors.specs.declared.seat.Gathering.{Gathering}
use Rattle.pot_actors.specs.declared.split.OpenSplit.{OpenSplit}
use Rattle.pot_actors.specs.Gathers.{FoundOf, GathersTo, IsFetchedOf, gathered_by}
use Rattle.pot_actors.specs.Joins.{IsReadable}
use Rattle.pot_actors.specs.Ledgers.{index_of, names_of}
use Rattle.pot_actors.specs.Runs.{ActorFetched}
use Rattle.pot_actors.specs.Seats.{HasAll, HasFile, IsTold, SeatData, SitsAt, actor_at, actor_of, no_actor}
use Rattle.pot_actors.specs.Splits.{under_way_of}
use Rattle.pot_actors.specs.Steps.{ActorSteps}
use Rattle.pot_actors.specs.Worlds.{world_of}
use Rattle.pot_actors.proofs.MoveLemmas.{went}
use Rattle.pot_actors.proofs.SeatLemmas.{at_seat, found_set, split_set}
use Rattle.pot_actors.proofs.StoreLemmas.{kept_pushed, split_is, split_pushed}

-- RECORDS THAT MAY BE READ

pub readable : (rack : Rack) (r : Record) → FitsRack rack r → IsReadable r
readable rack r h =
    let s = All-contains (FitsSplit rack (pieces_of r.length)) (splits_of r) (current_of r) h.splits (Contains-push r.older (current_of r)) in
    record {
      geometry = s.geometry.limits;
      long = h.long;
      count = s.count ∙ mul_assoc (pieces_of r.length) r.geometry.fragments r.geometry.shards;
    }

-- what the rules of a world say of a record that is found by name, and of one that an actor found
pub readable_named : (p : Parts) (name : List ℕ) (o : Option Record) → IsWorld (world_of p) → o ≡ record_of (names_of p.names) name → IfSome o IsReadable
readable_named p name None k e = tt
readable_named p name (Some r) k e = readable p.names.rack r (All-contains (FitsRack p.names.rack) p.names.records.items r k.names.fits (record_is (names_of p.names) name r (sym e)).0)

pub readable_found : (p : Parts) (a at : ℕ) (s : SeatData) (sits : SitsAt p.seats.items a at) (here : s ≡ get_or p.seats.items at s) → IsWorld (world_of p) → IfSome s.found IsReadable
readable_found p a at s sits here k = by s.found refl
  where
    by : (o : Option Record) → s.found ≡ o → IfSome o IsReadable
    by None e = tt
    by (Some r) e = readable p.names.rack r ((k.actors a).found r (ap (λ (x : Actor). x.found) (at_seat p.seats.items a at s sits here) ∙ e)).fits

-- where nothing was gathered, it is not enough
pub none_gathered : (r : Record) → IsReadable r → HasGathered r [] → ⊥
none_gathered r k h =
    let f = h 0 0 (some_pieces r.length) (let l = k.geometry.fragments in omega (arith, l.0)) in
    let one : 0 < length f.points = (let e = f.chosen.enough in let n = k.geometry.need in omega (arith, e, n.0)) in
    let x = first_of f.points one in
    none_contained _ (f.each x.0 x.1).1
  where
    some_pieces : (n : ℕ) → 0 < pieces_of n
    some_pieces n = omega arith

    first_of : (xs : List ℕ) → 0 < length xs → (x : ℕ) × Contains xs x
    first_of [] l = absurd (omega (arith, l))
    first_of (x ∷ xs) l = (x, contains_here x xs)

pub told_none : (o : Option Record) → IfSome o IsReadable → IsTold o [] None
told_none None k h = h
told_none (Some r) k h = none_gathered r k h

-- A FETCH

module _ (p : Parts) (a at : ℕ) (s : SeatData) (sits : SitsAt p.seats.items a at) (here : s ≡ get_or p.seats.items at s) where
  abbrev x : Actor
  x = actor_at p.seats.items a

  pub fetches : (names : Ledger) (ss : Vec SeatData Global) (name : List ℕ) (found : Option Record) (b : Bool) (y : SeatData)
      → found ≡ record_of (names_of p.names) name → b ≡ is_some found → index_of names ≡ logged (index_of p.names) (plain (entry.Find a name b))
      → ss.items ≡ set p.seats.items at y → y ≡ record s { found = found; gathered = []; file = None }
      → world_of (record p { names = names; seats = ss }) ≡ made (step.Fetch a name) (world_of p)
  fetches names ss name found b y is told logs seats now =
      let actors = ap actor_at seats ∙ found_set p.seats.items a at s sits here y found [] None now in
      (λ i. record (world_of p) { index = logs i; actors = actors i })
      ∙ (λ i. record (world_of p) {
        index = logged (index_of p.names) (plain (entry.Find a name ((told ∙ ap is_some is) i)));
        actors = λ n. if n == a then record (actor_at p.seats.items a) { found = is i; gathered = [] } else actor_at p.seats.items n;
      })

  -- A LOOK

  gathers_as : (b : Bool) (z : Actor) (place : Place) (o : Option (List ℕ)) → record z { gathered = gathered_by b z.gathered place o } ≡ gather b z place o
  gathers_as true z place None = ap (λ g. record z { gathered = g }) (append-nil z.gathered)
  gathers_as true z place (Some block) = refl
  gathers_as false z place None = refl
  gathers_as false z place (Some block) = refl

  pub looks : (gs : SiteData) (ss : Vec SeatData Global) (place : Place) (block : Option (List ℕ)) (g : Gathering) (y : SeatData)
      → SoundIn place.group place.stripe place.column p.groups block
      → GathersTo s place block g → ss.items ≡ set p.seats.items at y → y ≡ record s { gathered = g.gathered.items; file = g.file }
      → Goes (Makes place.group (act.Look a place.stripe place.column)) p.groups gs (Ok tt)
      → ActorSteps (step.LookAt a place) p (record p { groups = gs; seats = ss }) (Ok tt)
  looks gs ss place block g y sound gathers seats now goes =
      let may_look = went p gs place.group (act.Look a place.stripe place.column) (Ok tt) goes in
      let is : block ≡ sound_block (group_at (world_of p) place.group) place.stripe place.column = sound (allowed_at (site_of p.groups).used place.group (act.Look 0 place.stripe place.column) (site_of p.groups).groups may_look.0.0 may_look.0.1) in
      let actors = ap actor_at seats ∙ found_set p.seats.items a at s sits here y s.found g.gathered.items g.file now in
      let same = at_seat p.seats.items a at s sits here in (
        may_look.0,
        (λ i. record (world_of (record p { groups = gs })) { actors = actors i })
            ∙ (λ i. record (may_look.1 i) { actors = λ n. if n == a then record (actor_at p.seats.items a) { found = (sym same i).found; gathered = (gathers.0 ∙ ap₂ (λ (z : Actor) (o : Option (List ℕ)). gathered_by (is_wanted z.found place) z.gathered place o) (sym same) is) i } else actor_at p.seats.items n })
            ∙ (λ i. record (made (step.LookAt a place) (world_of p)) { actors = λ n. if n == a then gathers_as (is_wanted (actor_at p.seats.items a).found place) (actor_at p.seats.items a) place (sound_block (group_at (world_of p) place.group) place.stripe place.column) i else actor_at p.seats.items n }),
      )

  pub looks_not : (gs : SiteData) (place : Place) (f : ActFault) → Goes (Makes place.group (act.Look a place.stripe place.column)) p.groups gs (Err f) → ActorSteps (step.LookAt a place) p (record p { groups = gs }) (Err f)
  looks_not gs place act_fault.NotAllowed goes = went p gs place.group (act.Look a place.stripe place.column) (Err act_fault.NotAllowed) goes
  looks_not gs place act_fault.NoMemory goes = went p gs place.group (act.Look a place.stripe place.column) (Err act_fault.NoMemory) goes

  -- A RENEWAL

  abbrev MayBegin : List ℕ → Geometry → List ℕ → Type 0
  MayBegin name geometry random = Allowed (step.Renew a name geometry random) (world_of p)

  same : actor_at p.seats.items a ≡ actor_of s
  same = at_seat p.seats.items a at s sits here

  found_there : (name : List ℕ) (o : Option Record) (gathered : List Gathered) → IsSomeAnd o (λ r. (r.name ≡ name) × HasGathered r gathered) → FoundOf name o × HasAll o gathered
  found_there name None gathered h = absurd h
  found_there name (Some r) gathered h = h

  pub not_fetched : (name : List ℕ) (geometry : Geometry) (random : List ℕ) → IsFetchedOf name s None → MayBegin name geometry random → ⊥
  not_fetched name geometry random none h =
      let there = subst (λ (z : Actor). IsSomeAnd z.found (λ r. (r.name ≡ name) × HasGathered r z.gathered)) same h.1 in
      let f = found_there name s.found s.gathered there in
      none f.0 f.1

  file_is : (k : IsWorld (world_of p)) (name file : List ℕ) (o : Option Record) → s.found ≡ o → FoundOf name o → HasFile o s.gathered file → file ≡ ((world_of p).originals name).file
  file_is k name file None e f h = absurd f
  file_is k name file (Some r) e f h =
      fetched_is (world_of p) k a r file (ap (λ (z : Actor). z.found) same ∙ e) (subst (λ (z : Actor). GatheredGive r z.gathered file) (sym same) h.1)
      ∙ ap (λ n. ((world_of p).originals n).file) f

  has_all : (name file : List ℕ) (o : Option Record) → FoundOf name o → HasFile o s.gathered file → IsSomeAnd o (λ r. (r.name ≡ name) × HasGathered r s.gathered)
  has_all name file None f h = absurd f
  has_all name file (Some r) f h = (f, h.0)

  told : (file : List ℕ) → s.file ≡ Some file → IsTold s.found s.gathered s.file → HasFile s.found s.gathered file
  told file e h = subst (IsTold s.found s.gathered) e h

  pub renew_busy : (name : List ℕ) (geometry : Geometry) (random : List ℕ) → is_some s.split ≡ true → MayBegin name geometry random → ⊥
  renew_busy name geometry random t h =
      let u = split_is s.split t in
      let z : None ≡ Some (under_way_of u.0) = sym h.0 ∙ ap (λ (z : Actor). z.under_way) same ∙ ap (option_map under_way_of) u.1 in
      absurd (cc)

  module _ (k : IsWorld (world_of p)) (name file : List ℕ) (geometry : Geometry) (random : List ℕ) (fetched : IsFetchedOf name s (Some file)) where
    pub is_original : file ≡ ((world_of p).originals name).file
    is_original = file_is k name file s.found refl fetched.0 (told file fetched.1 fetched.2)

    pub may_begin : s.split ≡ None → geometry.shards ≤ p.names.rack.groups → IsStore geometry file random → MayBegin name geometry random
    may_begin none apart store = (
      ap (λ (z : Actor). z.under_way) same ∙ ap (option_map under_way_of) none,
      subst (λ (z : Actor). IsSomeAnd z.found (λ r. (r.name ≡ name) × HasGathered r z.gathered)) (sym same) (has_all name file s.found fetched.0 (told file fetched.1 fetched.2)),
      apart,
      subst (λ f. IsStore geometry f random) is_original store,
    )

    pub not_begun : (geometry.shards ≤ p.names.rack.groups → IsStore geometry file random → ⊥) → MayBegin name geometry random → ⊥
    not_begun refused h = refused h.2 (subst (λ f. IsStore geometry f random) (sym is_original) h.3)

    pub renew_begins : (ss : Vec SeatData Global) (begun : Vec (Snapshot OpenSplit) Global) (u : OpenSplit) (y : SeatData) (z : Snapshot OpenSplit)
        → under_way_of u ≡ renewal_begun name file geometry random → ss.items ≡ set p.seats.items at y → y ≡ record s { split = Some u }
        → begun.items ≡ p.begun.items ++ z ∷ [] → z.value ≡ u
        → world_of (record p { seats = ss; begun = begun }) ≡ made (step.Renew a name geometry random) (world_of p)
    renew_begins ss begun u y z is seats now pushed value =
        let v : UnderWay = renewal_begun name ((world_of p).originals name).file geometry random in
        let begun_as : under_way_of u ≡ renewal_begun name ((world_of p).originals name).file geometry random = is ∙ ap (λ f. renewal_begun name f geometry random) is_original in
        let actors = ap actor_at seats ∙ split_set p.seats.items a at s sits here y (Some u) (Some v) now (ap Some begun_as) in
        let kept = kept_pushed p.begun.items begun.items v (split_pushed p.begun.items begun.items z u v pushed value begun_as) in
        λ i. record (world_of p) { actors = actors i; kept = kept i }

  -- WHAT IS FETCHED

  pub fetched_as : IsWorld (world_of p) → IsTold s.found s.gathered s.file → ActorFetched (world_of p) a s.file
  fetched_as k h = by s.file s.found refl refl h
    where
      by : (f : Option (List ℕ)) (o : Option Record) → s.file ≡ f → s.found ≡ o → IsTold o s.gathered f → ActorFetched (world_of p) a f
      by None None e g h = λ r is has. (let z : None ≡ Some r = sym g ∙ sym (ap (λ (z : Actor). z.found) same) ∙ is in absurd (cc))
      by None (Some q) e g h = λ r is has. (let z : Some q ≡ Some r = sym g ∙ sym (ap (λ (z : Actor). z.found) same) ∙ is in
          h (subst (λ x. HasGathered x s.gathered) (sym (same_Some q r z)) (subst (λ (z : Actor). HasGathered r z.gathered) same has)))
      by (Some file) None e g h = absurd h
      by (Some file) (Some r) e g h = (
        r,
        ap (λ (z : Actor). z.found) same ∙ g,
        subst (λ (z : Actor). HasGathered r z.gathered) (sym same) h.0,
        subst (λ (z : Actor). GatheredGive r z.gathered file) (sym same) h.1,
        fetched_is (world_of p) k a r file (ap (λ (z : Actor). z.found) same ∙ g) (subst (λ (z : Actor). GatheredGive r z.gathered file) (sym same) h.1),
      )

-- who did nothing has fetched nothing
pub fetched_none : (w : World) (a : ℕ) → w.actors a ≡ no_actor → ActorFetched w a None
fetched_none w a e r is has = (let z : None ≡ Some r = sym (ap (λ (x : Actor). x.found) e) ∙ is in absurd (cc))
