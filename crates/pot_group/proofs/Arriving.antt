-- Which archives a group has, entry by entry.
use Rattle.std.proofs.Common.{◌≡◌, ◌++◌, ℕ, Bool, List, [], ◌∷◌, Option, Some, None, IsSomeAnd, ◌≢◌, refl, sym, ap, subst, ◌∙◌, append_assoc, append-nil}
use Rattle.std.specs.Prelude.{All}
use Rattle.std.proofs.lemmas.List.Elements.{All-head, All-tail}
use Rattle.pot_machine.specs.declared.column.Moving.{Moving}
use Rattle.pot_machine.specs.declared.entry.Entry.{Entry}
use Rattle.pot_machine.specs.declared.entry.Entry.TheVariants.{Skip, Seen, Gone, Broke, Fault, Stuck, Counted, Hop, GaveUp, Moved}
use Rattle.pot_machine.specs.Slot.{digest_in}
use Rattle.pot_machine.specs.Table.{Table, width, slot_at, next_column, archives_in}
use Rattle.pot_machine.specs.Machine.{after}
use Rattle.pot_outside.specs.Archives.{Meaning}
use Rattle.pot_bytes.specs.Digests.{digest_of}
use Rattle.pot_steps.specs.Flight.{weight_in, unfolded}
use Rattle.pot_steps.specs.Flights.{flown}
use Rattle.pot_steps.specs.Calls.{HopMeans}
use Rattle.pot_steps.specs.declared.flight.Flight.{Flight}
use Rattle.pot_steps.specs.declared.rebuilding.Hopped.TheVariants as hopped
use Rattle.pot_shelves.specs.Shelves.{Shelved, plain, numbers_of}
use Rattle.pot_shelves.specs.Opening.{Opens}
use Rattle.pot_group.specs.Group.{GroupView, IsQuiet}
use Rattle.pot_group.specs.Arrivals.{arrival, arrivals, HasArrived}
use Rattle.pot_group.proofs.CauseLemmas.{OfOpening, opening_entries}

pub arrivals-append : (xs ys : List Entry) → arrivals (xs ++ ys) ≡ arrivals xs ++ arrivals ys
arrivals-append [] ys = refl
arrivals-append (x ∷ xs) ys = ap (λ l. arrival x ++ l) (arrivals-append xs ys) ∙ sym (append_assoc (arrival x) (arrivals xs) (arrivals ys))

-- one more entry and the archive that it brings, or none
pub arrived : (first : Table) (log more : List Entry) (e : Entry) (come ns ms : List ℕ) → HasArrived first log ns → more ≡ log ++ e ∷ [] → arrival e ≡ come → ms ≡ ns ++ come → HasArrived first more ms
arrived first log more e come ns ms h em ee en =
    en ∙ ap (λ l. l ++ come) h ∙ append_assoc (archives_in first) (arrivals log) come
    ∙ ap (λ l. archives_in first ++ l) (sym (ap arrivals em ∙ arrivals-append log (e ∷ []) ∙ ap (λ l. arrivals log ++ l) (append-nil (arrival e) ∙ ee)))

-- one more entry that brings none
pub none_arrived : (first : Table) (log more : List Entry) (e : Entry) (ns ms : List ℕ) → HasArrived first log ns → more ≡ log ++ e ∷ [] → arrival e ≡ [] → ms ≡ ns → HasArrived first more ms
none_arrived first log more e ns ms h em ee en = arrived first log more e [] ns ms h em ee (en ∙ sym (append-nil ns))

-- WHICH ENTRIES BRING NONE

pub quiet_brings : (told : Type 0) (g : GroupView) (e : Entry) → IsQuiet told g e → arrival e ≡ []
quiet_brings told g (Skip job s) q = refl
quiet_brings told g (Seen job s c) q = refl
quiet_brings told g (Counted job) q = refl
quiet_brings told g (Stuck job s c other) q = refl
quiet_brings told g (Fault job s c) q = refl
quiet_brings told g (Gone job s c) q = refl
quiet_brings told g _ q = absurd q

-- an entry that is one of a move, by the position of the column
pub moved_brings : (o : Option Moving) (job c : ℕ) (copied : Bool) (e : Entry) → IsSomeAnd o (λ n. e ≡ Moved job n.upto c copied) → arrival e ≡ []
moved_brings None job c copied e h = absurd h
moved_brings (Some n) job c copied e h = ap arrival h

-- one that ends a relay, by its next column
pub left_brings : (o : Option ℕ) (job s t : ℕ) (e : Entry) → IsSomeAnd o (λ c. e ≡ GaveUp job s t c) → arrival e ≡ []
left_brings None job s t e h = absurd h
left_brings (Some c) job s t e h = ap arrival h

-- an opening brings none
one_opens : (e : Entry) → OfOpening e → arrival e ≡ []
one_opens (Gone job s c) h = refl
one_opens (Broke job s c) h = refl
one_opens _ h = absurd h

none_opens : (log : List Entry) → All OfOpening log → arrivals log ≡ []
none_opens [] h = refl
none_opens (e ∷ log) h = ap (λ l. l ++ arrivals log) (one_opens e (All-head OfOpening e log h)) ∙ none_opens log (All-tail OfOpening e log h)

pub opened_arrived : (first : Table) (log : List Entry) (ns : List ℕ) → All OfOpening log → ns ≡ archives_in first → HasArrived first log ns
opened_arrived first log ns all e = e ∙ sym (append-nil (archives_in first)) ∙ ap (λ l. archives_in first ++ l) (sym (none_opens log all))

-- a hop, and what ends a relay in its place
one_hop : (o : Option ℕ) (job s : ℕ) (e : Entry) (B C D : ℕ → Type 0) → IsSomeAnd o (λ c. (e ≡ Hop job s c) × B c × C c × D c) → arrival e ≡ []
one_hop None job s e B C D h = absurd h
one_hop (Some c) job s e B C D h = ap arrival h.0

pub folded_brings : (job : ℕ) (folded : List ℕ) (e : Entry) (old new : Table) (f h : Flight) → HopMeans job folded (hopped.Folded e) old new f h → arrival e ≡ []
folded_brings job folded e old new f h means =
    one_hop (next_column old f.relay) job f.relay.stripe e (λ c. new ≡ after old e) (λ c. h ≡ flown f.relay.stripe c folded f)
    (λ c. digest_in (slot_at old f.relay.stripe c) ≡ Some (digest_of (unfolded (weight_in old.data_columns f.relay c) f.sum folded))) means

one_end : (o : Option ℕ) (job s t : ℕ) (e : Entry) (B C D : ℕ → Type 0) → IsSomeAnd o (λ c. (e ≡ GaveUp job s t c) × B c × C c × D c) → arrival e ≡ []
one_end None job s t e B C D h = absurd h
one_end (Some c) job s t e B C D h = ap arrival h.0

pub ended_brings : (job : ℕ) (folded : List ℕ) (e : Entry) (old new : Table) (f h : Flight) → HopMeans job folded (hopped.Ended e) old new f h → arrival e ≡ []
ended_brings job folded e old new f h means =
    one_end (next_column old f.relay) job f.relay.stripe f.relay.target e (λ c. new ≡ after old e) (λ c. h ≡ f)
    (λ c. digest_in (slot_at old f.relay.stripe c) ≢ Some (digest_of (unfolded (weight_in old.data_columns f.relay c) f.sum folded))) means

-- a group that was opened
pub opens_arrived : {A : Type 0} (told : Type 0) (meaning : A → Meaning) (t u : Table) (log : List Entry) (a b : Shelved A) → Opens told t.stripes t u log (plain meaning a) (plain meaning b)
    → numbers_of a.shelves ≡ archives_in t → HasArrived t log (numbers_of b.shelves)
opens_arrived told meaning t u log a b o e =
    opened_arrived t log (numbers_of b.shelves) (subst (λ l. All OfOpening l) (sym o.log) (opening_entries (width t) t.stripes o.gone o.broke)) (o.stays.keeps.numbers ∙ e)
