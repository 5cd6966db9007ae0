-- The flights of a group as a list, beside the relays of its table.
use Rattle.std.proofs.Common.{◌≡◌, ◌≢◌, ℕ, Bool, true, false, not, Option, Some, None, List, [], ◌∷◌, ◌++◌, map, filter, cond, refl, sym, ap, ◌∙◌, arith, if◌then◌else◌}
use Rattle.std.specs.Prelude.{◌==◌}
use Rattle.std.proofs.lemmas.Bool.Decides.{nat_tests}
use Rattle.pot_machine.specs.declared.relay.Relay.{Relay}
use Rattle.pot_machine.specs.declared.entry.Entry.{Entry}
use Rattle.pot_machine.specs.declared.entry.Entry.TheVariants.{Begin, Hop, Mended, GaveUp, Oddly, Moved, Swapped}
use Rattle.pot_machine.specs.Table.{Table, relay_at, relay_in}
use Rattle.pot_machine.specs.Machine.{after, hopped}
use Rattle.pot_machine.specs.Laws.{ChangesRelay}
use Rattle.pot_machine.proofs.LeftAlone.{relays-with_losses}
use Rattle.pot_steps.specs.declared.flight.Flight.{Flight}
use Rattle.pot_steps.specs.Flights.{AreFlights, flight_in, flights_after, flown, without_flight, begun}

abbrev pub relays_of : List Flight → List Relay
relays_of flights = map (λ f. f.relay) flights

abbrev pub relay_of : Option Flight → Option Relay
relay_of None = None
relay_of (Some f) = Some f.relay

-- THE LIST OF RELAYS

relays-append : (flights : List Flight) (f : Flight) → relays_of (flights ++ f ∷ []) ≡ relays_of flights ++ f.relay ∷ []
relays-append [] f = refl
relays-append (x ∷ flights) f = ap (λ rs. x.relay ∷ rs) (relays-append flights f)

relays-flown : (s c : ℕ) (sum : List ℕ) (flights : List Flight) → relays_of (map (flown s c sum) flights) ≡ map (hopped s c) (relays_of flights)
relays-flown s c sum [] = refl
relays-flown s c sum (x ∷ flights) = ap (λ rs. hopped s c x.relay ∷ rs) (relays-flown s c sum flights)

relays-without : (s : ℕ) (flights : List Flight) → relays_of (without_flight flights s) ≡ filter (λ r. not (r.stripe == s)) (relays_of flights)
relays-without s [] = refl
relays-without s (x ∷ flights) = step (relays-without s flights) (not (x.relay.stripe == s))
  where
    step : relays_of (without_flight flights s) ≡ filter (λ r. not (r.stripe == s)) (relays_of flights) → (b : Bool) → relays_of (cond b (x ∷ without_flight flights s) (without_flight flights s)) ≡ cond b (x.relay ∷ filter (λ r. not (r.stripe == s)) (relays_of flights)) (filter (λ r. not (r.stripe == s)) (relays_of flights))
    step rest true = ap (λ rs. x.relay ∷ rs) rest
    step rest false = rest

-- the flights are those of the relays afterwards
pub flights_go_on : (t : Table) (e : Entry) (given : List ℕ) (flights : List Flight) → AreFlights t flights → AreFlights (after t e) (flights_after t e given flights)
flights_go_on t (Begin job s c) given flights a = relays-append flights (begun t s c given) ∙ ap (λ rs. rs ++ (begun t s c given).relay ∷ []) a
flights_go_on t (Hop job s c) given flights a = relays-flown s c given flights ∙ ap (map (hopped s c)) a
flights_go_on t (Mended job s c) given flights a = relays-without s flights ∙ ap (filter (λ r. not (r.stripe == s))) a
flights_go_on t (GaveUp job s c other) given flights a = relays-without s flights ∙ ap (filter (λ r. not (r.stripe == s))) a
flights_go_on t (Oddly job s c found) given flights a = relays-without s flights ∙ ap (filter (λ r. not (r.stripe == s))) a
flights_go_on t (Moved job s c true) given flights a = a
flights_go_on t (Moved job s c false) given flights a = a
flights_go_on t (Swapped job c to) given flights a = a ∙ sym (relays-with_losses t.stripes t c)
flights_go_on t _ given flights a = a

-- THE FLIGHT OVER ONE STRIPE

relay_found : (flights : List Flight) (n : ℕ) → relay_in (relays_of flights) n ≡ relay_of (flight_in flights n)
relay_found [] n = refl
relay_found (x ∷ flights) n = step (relay_found flights n) (x.relay.stripe == n)
  where
    step : relay_in (relays_of flights) n ≡ relay_of (flight_in flights n) → (b : Bool) → cond b (Some x.relay) (relay_in (relays_of flights) n) ≡ relay_of (cond b (Some x) (flight_in flights n))
    step rest true = refl
    step rest false = rest

pub relay_of_flight : (t : Table) (flights : List Flight) (n : ℕ) → AreFlights t flights → relay_at t n ≡ relay_of (flight_in flights n)
relay_of_flight t flights n a = ap (λ rs. relay_in rs n) (sym a) ∙ relay_found flights n

no_relay : (o : Option Flight) → relay_of o ≡ None → o ≡ None
no_relay None e = refl
no_relay (Some f) e = absurd (cc)

some_relay : (o : Option Flight) (r : Relay) → relay_of o ≡ Some r → (f : Flight) × (o ≡ Some f) × (f.relay ≡ r)
some_relay None r e = absurd (cc)
some_relay (Some f) r e = (f, refl, cc)

pub no_flight : (t : Table) (flights : List Flight) (n : ℕ) → AreFlights t flights → relay_at t n ≡ None → flight_in flights n ≡ None
no_flight t flights n a e = no_relay (flight_in flights n) (sym (relay_of_flight t flights n a) ∙ e)

pub flight_of_relay : (t : Table) (flights : List Flight) (n : ℕ) (r : Relay) → AreFlights t flights → relay_at t n ≡ Some r
    → (f : Flight) × (flight_in flights n ≡ Some f) × (f.relay ≡ r)
flight_of_relay t flights n r a e = some_relay (flight_in flights n) r (sym (relay_of_flight t flights n a) ∙ e)

-- a flight that is found is over that stripe
pub over_stripe : (flights : List Flight) (n : ℕ) (f : Flight) → flight_in flights n ≡ Some f → f.relay.stripe ≡ n
over_stripe [] n f e = absurd (cc)
over_stripe (x ∷ flights) n f e = step (λ q. over_stripe flights n f q) (x.relay.stripe == n) refl e
  where
    same : (a b : ℕ) → (a == b) ≡ true → a ≡ b
    same a b h = grind (arith, nat_tests)

    is : (a b : Flight) → Some a ≡ Some b → a ≡ b
    is a b h = cc

    step : (flight_in flights n ≡ Some f → f.relay.stripe ≡ n) → (b : Bool) → (x.relay.stripe == n) ≡ b → cond b (Some x) (flight_in flights n) ≡ Some f → f.relay.stripe ≡ n
    step rest true h q = ap (λ (g : Flight). g.relay.stripe) (sym (is x f q)) ∙ same x.relay.stripe n h
    step rest false h q = rest q

-- a flight begins over a stripe without one
pub begun_here : (flights : List Flight) (f : Flight) → flight_in flights f.relay.stripe ≡ None → flight_in (flights ++ f ∷ []) f.relay.stripe ≡ Some f
begun_here [] f e = rw (itself f.relay.stripe) refl
  where
    itself : (a : ℕ) → (a == a) ≡ true
    itself a = grind (arith, nat_tests)
begun_here (x ∷ flights) f e = step (λ q. begun_here flights f q) (x.relay.stripe == f.relay.stripe) e
  where
    step : (flight_in flights f.relay.stripe ≡ None → flight_in (flights ++ f ∷ []) f.relay.stripe ≡ Some f) → (b : Bool) → cond b (Some x) (flight_in flights f.relay.stripe) ≡ None → cond b (Some x) (flight_in (flights ++ f ∷ []) f.relay.stripe) ≡ Some f
    step rest true q = absurd (cc)
    step rest false q = rest q

begun_other : (flights : List Flight) (f : Flight) (n : ℕ) → n ≢ f.relay.stripe → flight_in (flights ++ f ∷ []) n ≡ flight_in flights n
begun_other [] f n ne = rw (other f.relay.stripe n ne) refl
  where
    other : (a b : ℕ) → b ≢ a → (a == b) ≡ false
    other a b ne = grind (arith, nat_tests)
begun_other (x ∷ flights) f n ne = ap (λ o. cond (x.relay.stripe == n) (Some x) o) (begun_other flights f n ne)

-- a flight goes on
abbrev pub goes_on : ℕ → ℕ → List ℕ → Option Flight → Option Flight
goes_on s c sum None = None
goes_on s c sum (Some f) = Some (flown s c sum f)

pub flown_in : (flights : List Flight) (s c n : ℕ) (sum : List ℕ) → flight_in (map (flown s c sum) flights) n ≡ goes_on s c sum (flight_in flights n)
flown_in [] s c n sum = refl
flown_in (x ∷ flights) s c n sum = step (flown_in flights s c n sum) (x.relay.stripe == n)
  where
    step : flight_in (map (flown s c sum) flights) n ≡ goes_on s c sum (flight_in flights n) → (b : Bool) → cond b (Some (flown s c sum x)) (flight_in (map (flown s c sum) flights) n) ≡ goes_on s c sum (cond b (Some x) (flight_in flights n))
    step rest true = refl
    step rest false = rest

pub flown_other : (f : Flight) (s c : ℕ) (sum : List ℕ) → f.relay.stripe ≢ s → flown s c sum f ≡ f
flown_other f s c sum ne = ap (λ b. record { relay = record f.relay { last = if b then Some c else f.relay.last }; blind = f.blind; sum = if b then sum else f.sum }) (other f.relay.stripe s ne)
  where
    other : (a b : ℕ) → a ≢ b → (a == b) ≡ false
    other a b ne = grind (arith, nat_tests)

pub flown_here : (f : Flight) (s c : ℕ) (sum : List ℕ) → f.relay.stripe ≡ s → flown s c sum f ≡ record { relay = record f.relay { last = Some c }; blind = f.blind; sum = sum }
flown_here f s c sum e = ap (λ b. record { relay = record f.relay { last = if b then Some c else f.relay.last }; blind = f.blind; sum = if b then sum else f.sum }) (here f.relay.stripe s e)
  where
    here : (a b : ℕ) → a ≡ b → (a == b) ≡ true
    here a b ne = grind (arith, nat_tests)

-- a flight ends
pub ended_here : (flights : List Flight) (s : ℕ) → flight_in (without_flight flights s) s ≡ None
ended_here [] s = refl
ended_here (x ∷ flights) s = step (ended_here flights s) (x.relay.stripe == s) refl
  where
    step : flight_in (without_flight flights s) s ≡ None → (b : Bool) → (x.relay.stripe == s) ≡ b → flight_in (cond (not (x.relay.stripe == s)) (x ∷ without_flight flights s) (without_flight flights s)) s ≡ None
    step rest true e = rw e rest
    step rest false e = rw (e, e) rest

ended_other : (flights : List Flight) (s n : ℕ) → n ≢ s → flight_in (without_flight flights s) n ≡ flight_in flights n
ended_other [] s n ne = refl
ended_other (x ∷ flights) s n ne = step (x.relay.stripe == s) refl ∙ ap (λ o. cond (x.relay.stripe == n) (Some x) o) (ended_other flights s n ne)
  where
    other : (a b c : ℕ) → (a == b) ≡ true → c ≢ b → (a == c) ≡ false
    other a b c e ne = grind (arith, nat_tests)

    step : (b : Bool) → (x.relay.stripe == s) ≡ b → flight_in (cond (not (x.relay.stripe == s)) (x ∷ without_flight flights s) (without_flight flights s)) n ≡ cond (x.relay.stripe == n) (Some x) (flight_in (without_flight flights s) n)
    step true e = rw e (sym (ap (λ b. cond b (Some x) (flight_in (without_flight flights s) n)) (other x.relay.stripe s n e ne)))
    step false e = rw e refl

-- a stripe that the entry does not speak of keeps its flight
pub flights_stay : (t : Table) (e : Entry) (given : List ℕ) (flights : List Flight) (n : ℕ) → (ChangesRelay e n → ⊥) → flight_in (flights_after t e given flights) n ≡ flight_in flights n
flights_stay t (Begin job s c) given flights n apart = begun_other flights (begun t s c given) n apart
flights_stay t (Hop job s c) given flights n apart = flown_in flights s c n given ∙ stays (flight_in flights n) refl
  where
    stays : (o : Option Flight) → flight_in flights n ≡ o → goes_on s c given o ≡ o
    stays None e = refl
    stays (Some f) e = ap Some (flown_other f s c given (λ q. apart (sym (over_stripe flights n f e) ∙ q)))
flights_stay t (Mended job s c) given flights n apart = ended_other flights s n apart
flights_stay t (GaveUp job s c other) given flights n apart = ended_other flights s n apart
flights_stay t (Oddly job s c found) given flights n apart = ended_other flights s n apart
flights_stay t _ given flights n apart = refl
