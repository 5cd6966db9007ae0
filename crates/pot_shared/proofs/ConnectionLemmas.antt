-- What is said of one session of a job, said of the first of them: their vault and their job are
-- the same.
use Rattle.std.proofs.Common.{◌≡◌, ◌<◌, ℕ, length, ap, subst, arith}
use Rattle.pot_bytes.specs.declared.rack.Rack.{Rack}
use Rattle.pot_shared.specs.Ready.{GroupPasses, AreReady}
use Rattle.pot_shared.specs.Catalogs.{IndexPasses, IsIndexReady}
use Rattle.pot_shared.specs.Connections.{Bound, InGroups, InIndex, InTied, bound, knows, names_of}
use Rattle.pot_shared.specs.declared.connection.Connection.{Connection}

module _ {A X : Type 0} where
  pub ready_at : {b : Bound} (s : Connection A X) → bound s ≡ b → AreReady b.vault.rack b.vault.groups (knows s).groups
  ready_at {b} s same = subst (λ (x : Bound). AreReady x.vault.rack x.vault.groups (knows s).groups) same s.ready

  pub index_at : {b : Bound} (s : Connection A X) → bound s ≡ b → IsIndexReady b.vault.rack b.vault.groups b.vault.index (knows s).index
  index_at {b} s same = subst (λ (x : Bound). IsIndexReady x.vault.rack x.vault.groups x.vault.index (knows s).index) same s.index_ready

  pub groups_at : {b : Bound} {R : Bound → GroupPasses → GroupPasses → Type 0} {s t : Connection A X} → bound s ≡ b → InGroups R s t → R b (knows s).groups (knows t).groups
  groups_at {b} {R} {s} {t} same call = subst (λ (x : Bound). R x (knows s).groups (knows t).groups) same call.is

  pub pass_at : {b : Bound} {R : Bound → IndexPasses → IndexPasses → Type 0} {s t : Connection A X} → bound s ≡ b → InIndex R s t → R b (knows s).index (knows t).index
  pass_at {b} {R} {s} {t} same call = subst (λ (x : Bound). R x (knows s).index (knows t).index) same call.is

  pub tied_at : {b : Bound} {R : Bound → GroupPasses → IndexPasses → IndexPasses → Type 0} {s t : Connection A X} → bound s ≡ b → InTied R s t
      → R b (knows t).groups (knows s).index (knows t).index
  tied_at {b} {R} {s} {t} same call = subst (λ (x : Bound). R x (knows t).groups (knows s).index (knows t).index) same call.is

  -- a group of the rack has a turn
  pub group_in : {b : Bound} (s : Connection A X) → bound s ≡ b → (rack : Rack) → rack ≡ b.vault.rack → (g : ℕ) → g < rack.groups → g < length (names_of s)
  group_in {b} s same rack is g lt =
      let w = s.whole in
      let r = ap (λ (x : Rack). x.groups) is in
      let e = ap (λ (x : Bound). x.vault.rack.groups) same in omega (arith, lt, w, r, e)
