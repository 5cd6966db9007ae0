-- What a flight that is on its way, or at its end, comes to.
use Rattle.std.proofs.Common.{◌≡◌, ℕ, refl}
use Rattle.std.specs.Prelude.{Option, Some, None, IsSomeAnd}
use Rattle.pot_steps.specs.declared.flight.Flight.{Flight}

pub on_way : (o : Option Flight) (next : Flight → Option ℕ) (P : Flight → ℕ → Type 0) → IsSomeAnd o (λ f. IsSomeAnd (next f) (P f)) → (f : Flight) × (c : ℕ) × P f c
on_way None next P h = absurd h
on_way (Some f) next P h = at (next f) h
  where
    at : (o : Option ℕ) → IsSomeAnd o (P f) → (g : Flight) × (c : ℕ) × P g c
    at None q = absurd q
    at (Some c) q = (f, c, q)

pub at_end : (o : Option Flight) (Q : Flight → Type 0) → IsSomeAnd o Q → (f : Flight) × (o ≡ Some f) × Q f
at_end None Q h = absurd h
at_end (Some f) Q h = (f, refl, h)
