-- What a read that wants a block of a digest comes to.
use Rattle.std.specs.Prelude.{◌≡◌, ◌≢◌, ℕ, List, Some}
use Rattle.pot_bytes.specs.declared.digest.Digest.{Digest}
use Rattle.pot_outside.specs.Counts.{Rose}
use Rattle.pot_bytes.specs.Digests.{digest_of}
use Rattle.pot_group.specs.declared.reads.Found.{Found}
use Rattle.pot_group.specs.declared.reads.Found.TheVariants.{Sound, Missing, NotRead}
use Rattle.pot_shelves.specs.Shelves.{Shelves, ShelvesStay}

-- what a read that wants a block of this digest came to
abbrev pub FoundMeans : Type 0 → ℕ → ℕ → Digest → List ℕ → Found → Shelves → Shelves → Type 0
FoundMeans told number slot digest into Sound old new =
    (digest_of into ≡ digest) × (told → new.held number slot ≡ Some into)
FoundMeans told number slot digest into Missing old new =
    told → (b : List ℕ) → new.held number slot ≡ Some b → digest_of b ≢ digest
FoundMeans told number slot digest into NotRead old new =
    Rose (old.faults number) (new.faults number)

-- An archive was read. The others hold what they held.
pub record ReadsByDigest (told : Type 0) (number slot : ℕ) (digest : Digest) (into : List ℕ)
    (found : Found) (old new : Shelves) : Type 0 where
  pub stays : ShelvesStay told old new
  pub means : FoundMeans told number slot digest into found old new
  pub others : told → (n m : ℕ) → n ≢ number → new.held n m ≡ old.held n m
