-- A head that was read is spelled by its value.
use Rattle.std.proofs.Common.{ℕ, ◌&&◌, nat_le, List, [], ◌∷◌, ◌++◌, refl}
use Rattle.byteorder.specs.Endian.{big_bytes}
use Rattle.pot_bytes.specs.declared.rack.Rack.{Rack}
use Rattle.pot_index.specs.Records.{geometry_bytes}
use Rattle.pot_image.specs.declared.format.Format.{Format}
use Rattle.pot_image.specs.declared.format.Format.TheVariants.{First, Second}
use Rattle.pot_image.specs.Numbers.{any, between}
use Rattle.pot_image.specs.Heads.{geometry, parity, head}
use Rattle.pot_image.proofs.Spelled.{Spelled, NoMore, spelled, behind_done, behind_then, spelled_byte, spelled_4, spelled_zeros}

pub geometry_spelled : (groups : ℕ) → Spelled (geometry groups) geometry_bytes NoMore
unfolding geometry
geometry_spelled groups = spelled _ _
    (behind_then [] _ _ _ _ _ (spelled_byte (between 2 8)) (λ fragments a.
    behind_then _ _ _ _ _ _ (spelled_byte (between 1 255)) (λ need b.
    behind_then _ _ _ _ _ _ (spelled_byte (λ n. between need 16 n && nat_le n groups)) (λ shards c.
    behind_then _ _ _ _ _ _ (spelled_byte (between 0 63)) (λ blur d.
    behind_done _ _ _ refl)))))

-- what stands for the number of parity columns, and a zero
abbrev parity_text : Format → ℕ → List ℕ
parity_text First p = 0 ∷ 0 ∷ []
parity_text Second p = p ∷ 0 ∷ []

parity_spelled : (format : Format) → Spelled (parity format) (parity_text format) NoMore
unfolding parity
parity_spelled First = spelled _ _ (behind_then [] _ _ _ _ _ (spelled_zeros 2) (λ padding a. behind_done _ _ _ refl))
parity_spelled Second = spelled _ _ (behind_then [] _ _ _ _ _ (spelled_byte (between 1 2)) (λ p a. behind_then _ _ _ _ _ _ (spelled_zeros 1) (λ padding b. behind_done _ _ _ refl)))

abbrev pub head_text : Format → ℕ → Rack → List ℕ
head_text format session r =
    big_bytes 4 session ++ (r.groups ∷ r.columns ∷ []) ++ geometry_bytes r.geometry ++ parity_text format r.parity ++ big_bytes 4 r.stripes

pub head_spelled : (format : Format) → Spelled (head format) (λ h. head_text format h.session h.rack) NoMore
unfolding head
head_spelled format = spelled _ _
    (behind_then [] _ _ _ _ _ (spelled_4 any) (λ session a.
    behind_then _ _ _ _ _ _ (spelled_byte (between 0 16)) (λ groups b.
    behind_then _ _ _ _ _ _ (spelled_byte (between 1 16)) (λ columns c.
    behind_then _ _ _ _ _ _ (geometry_spelled groups) (λ geometry d.
    behind_then _ _ _ _ _ _ (parity_spelled format) (λ parity e.
    behind_then _ _ _ _ _ _ (spelled_4 (between 1 4096)) (λ stripes f.
    behind_done _ _ _ refl)))))))
