-- The shards of some blocks.
use Rattle.std.proofs.Common.{◌≡◌, ◌↔◌, ◌⊎◌, inl, inr, ℕ, ◌+◌, ◌<◌, List, [], ◌∷◌, ◌++◌, map, length, take, get_or, refl, sym, ap, ◌∙◌, subst, add-one}
use Rattle.pot_chains.specs.Listed.{IsIn}
use Rattle.pot_chains.proofs.ListedLemmas.{in_append, in_left, in_right, in_take_more}
use Rattle.pot_shard.specs.Shards.{IsShardBlock}
use Rattle.pot_shard.specs.declared.shard.Shard.{Shard}
use Rattle.pot_shard.proofs.ShardLemmas.{one_shard}
use Rattle.pot_recover.specs.Held.{IsHeld}
use Rattle.pot_recover.specs.HeldShards.{shard_of, HaveBytes}
use Rattle.pot_bytes.specs.Lists.{AreBytes}
use Rattle.pot_recover.specs.declared.held.Held.{Held}

map-append : {X Y : Type 0} (f : X → Y) (xs : List X) (x : X) → map f (xs ++ x ∷ []) ≡ map f xs ++ f x ∷ []
map-append f [] x = refl
map-append f (y ∷ xs) x = ap (λ l. f y ∷ l) (map-append f xs x)

-- one more shard of this blur
pub shard_pushed : (bits : ℕ) (old new : List Held) (h : Held) (shard : Shard) → new ≡ old ++ h ∷ [] → shard.blur ≡ bits → shard_of shard.blur h ≡ shard
    → (s : Shard) → IsIn (map (shard_of bits) new) s ↔ (IsIn (map (shard_of bits) old) s ⊎ ((shard ≡ s) × (s.blur ≡ bits)))
shard_pushed bits old new h shard e blur is s =
    let added : map (shard_of bits) new ≡ map (shard_of bits) old ++ shard ∷ [] =
    ap (map (shard_of bits)) e ∙ (map-append (shard_of bits) old h ∙ ap (λ x. map (shard_of bits) old ++ x ∷ []) (ap (λ b. shard_of b h) (sym blur) ∙ is)) in (
      λ there. elim (in_append (map (shard_of bits) old) (shard ∷ []) s (subst (λ l. IsIn l s) added there)) [
        | inl a ↦ inl a
        | inr b ↦ elim b [ inl same ↦ inr (same, ap (λ (t : Shard). t.blur) (sym same) ∙ blur) | inr none ↦ absurd none ]
      ],
      λ w. subst (λ l. IsIn l s) (sym added) (elim w [
        | inl a ↦ in_left (map (shard_of bits) old) (shard ∷ []) s a
        | inr both ↦ in_right (map (shard_of bits) old) (shard ∷ []) s (inl both.0)
      ]),
    )

-- the shard of a block is the only one
pub of_block : (shard : Shard) (block : List ℕ) (bits : ℕ) (P Q : Shard → Type 0) → IsShardBlock shard block
    → ((s : Shard) → Q s ↔ (P s ⊎ ((shard ≡ s) × (s.blur ≡ bits))))
    → (s : Shard) → Q s ↔ (P s ⊎ (IsShardBlock s block × (s.blur ≡ bits)))
of_block shard block bits P Q is h s = (
  λ q. elim ((h s).0 q) [ inl p ↦ inl p | inr both ↦ inr (subst (λ (t : Shard). IsShardBlock t block) both.0 is, both.1) ],
  λ w. elim w [ inl p ↦ (h s).1 (inl p) | inr both ↦ (h s).1 (inr (one_shard shard s block is both.0, both.1)) ],
)

-- a block of none adds none
pub of_no_block : (block : List ℕ) (bits : ℕ) (P : Shard → Type 0) → ((s : Shard) → ¬ IsShardBlock s block)
    → (s : Shard) → P s ↔ (P s ⊎ (IsShardBlock s block × (s.blur ≡ bits)))
of_no_block block bits P none s = (λ p. inl p, λ w. elim w [ inl p ↦ p | inr both ↦ absurd (none s both.0) ])

-- the blocks so far and one more
pub held_more : (blocks : List (List ℕ)) (i bits : ℕ) (block : List ℕ) (old new : List Shard) → i < length blocks → block ≡ get_or blocks i block
    → ((s : Shard) → IsIn old s ↔ IsHeld (take i blocks) bits s)
    → ((s : Shard) → IsIn new s ↔ (IsIn old s ⊎ (IsShardBlock s block × (s.blur ≡ bits))))
    → (s : Shard) → IsIn new s ↔ IsHeld (take (i + 1) blocks) bits s
held_more blocks i bits block old new inside is before step s =
    subst (λ k. IsIn new s ↔ IsHeld (take k blocks) bits s) (sym (add-one i)) (
      λ h. elim ((step s).0 h) [
        | inl was ↦ let w = (before s).0 was in (w.0, (in_take_more i blocks block w.0 inside).1 (inl w.1), w.2, w.3)
        | inr both ↦ (block, (in_take_more i blocks block block inside).1 (inr (sym is)), both.0, both.1)
      ],
      λ w. elim ((in_take_more i blocks block w.0 inside).0 w.1) [
        | inl front ↦ (step s).1 (inl ((before s).1 (w.0, front, w.2, w.3)))
        | inr at ↦ (step s).1 (inr (subst (λ b. IsShardBlock s b) (sym (is ∙ at)) w.2, w.3))
      ],
    )

pub none_held : (blocks : List (List ℕ)) (bits : ℕ) (s : Shard) → IsIn [] s ↔ IsHeld (take 0 blocks) bits s
none_held blocks bits s = (λ h. absurd h, λ w. absurd w.1)

-- what one more has as its share is bytes too
pub bytes_pushed : (old new : List Held) (h : Held) → new ≡ old ++ h ∷ [] → AreBytes h.share.now → HaveBytes old → HaveBytes new
bytes_pushed old new h e bytes have g there =
    elim (in_append old (h ∷ []) g (subst (λ l. IsIn l g) e there)) [
      | inl before ↦ have g before
      | inr last ↦ elim last [ inl same ↦ subst (λ (x : Held). AreBytes x.share.now) same bytes | inr none ↦ absurd none ]
    ]
