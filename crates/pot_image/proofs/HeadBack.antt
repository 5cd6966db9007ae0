-- The head of an image is read back.
use Rattle.std.proofs.Common.{◌≡◌, ℕ, ◌<◌, ◌≤◌, ◌^◌, ◌&&◌, ◌==◌, nat_le, [], ◌∷◌, ◌++◌, true, refl, arith}
use Rattle.std.proofs.lemmas.Bool.{le-leb, and_from}
use Rattle.byteorder.specs.Endian.{big_bytes}
use Rattle.pot_bytes.specs.declared.rack.Geometry.{Geometry}
use Rattle.pot_bytes.specs.declared.rack.Rack.{Rack}
use Rattle.pot_bytes.specs.Rack.{IsGeometry, IsRack}
use Rattle.pot_index.specs.Records.{geometry_bytes}
use Rattle.pot_image.specs.declared.format.Format.TheVariants.{Second}
use Rattle.pot_image.specs.Numbers.{natural, any, between, zeros}
use Rattle.pot_image.specs.Heads.{geometry, parity, head}
use Rattle.pot_image.specs.Spelling.{head_bytes}
use Rattle.pot_image.proofs.ReadBack.{Back, back_then, back_end, back_as, back_number, back_byte}

pub is_between : (least most n : ℕ) → least ≤ n → n ≤ most → between least most n ≡ true
is_between least most n l m = and_from (nat_le least n) (nat_le n most) (le-leb _ _ l) (le-leb _ _ m)

pub geometry_back : (groups : ℕ) (g : Geometry) → IsGeometry g → g.shards ≤ groups → Back (geometry groups) (geometry_bytes g) g
unfolding geometry
geometry_back groups g is few =
    (back_then (natural 1 (between 2 8)) _ (g.fragments ∷ []) (g.need ∷ g.shards ∷ g.blur ∷ []) g.fragments g (back_byte (between 2 8) g.fragments (is_between 2 8 _ is.fragments.0 is.fragments.1))
    (back_then (natural 1 (between 1 255)) _ (g.need ∷ []) (g.shards ∷ g.blur ∷ []) g.need g (back_byte (between 1 255) g.need (is_between 1 255 _ is.need.0 (let n = is.need.1 in let s = is.shards in omega (arith, n, s))))
    (back_then (natural 1 (λ n. between g.need 16 n && nat_le n groups)) _ (g.shards ∷ []) (g.blur ∷ []) g.shards g (back_byte (λ n. between g.need 16 n && nat_le n groups) g.shards (and_from _ _ (is_between g.need 16 _ is.need.1 is.shards) (le-leb _ _ few)))
    (back_end (natural 1 (between 0 63)) (λ blur. record { fragments = g.fragments; need = g.need; shards = g.shards; blur = blur }) (g.blur ∷ []) g.blur (back_byte (between 0 63) g.blur (is_between 0 63 _ (omega arith) is.blur))))))

pub parity_back : (p : ℕ) → 1 ≤ p → p ≤ 2 → Back (parity Second) (p ∷ 0 ∷ []) p
unfolding parity
parity_back p l m =
    (back_then (natural 1 (between 1 2)) _ (p ∷ []) (0 ∷ []) p p (back_byte (between 1 2) p (is_between 1 2 _ l m))
    (back_end (zeros 1) (λ padding. p) (0 ∷ []) 0 (back_byte (λ n. n == 0) 0 refl)))

pub head_back : (session : ℕ) (r : Rack) → session < 2 ^ 32 → IsRack r → Back (head Second) (head_bytes session r) (record { session = session; rack = r })
unfolding head
head_back session r l is =
    (back_as _ (big_bytes 4 session ++ ((r.groups ∷ []) ++ ((r.columns ∷ []) ++ (geometry_bytes r.geometry ++ ((r.parity ∷ 0 ∷ []) ++ big_bytes 4 r.stripes))))) (head_bytes session r) _ spelled
    (back_then (natural 4 any) _ (big_bytes 4 session) _ session _ (back_number 4 any session (omega (arith, l)) refl)
    (back_then (natural 1 (between 0 16)) _ (r.groups ∷ []) _ r.groups _ (back_byte (between 0 16) r.groups (is_between 0 16 _ (omega arith) is.groups.1))
    (back_then (natural 1 (between 1 16)) _ (r.columns ∷ []) _ r.columns _ (back_byte (between 1 16) r.columns (is_between 1 16 _ is.columns.0 is.columns.1))
    (back_then (geometry r.groups) _ (geometry_bytes r.geometry) _ r.geometry _ (geometry_back r.groups r.geometry is.geometry is.groups.0)
    (back_then (parity Second) _ (r.parity ∷ 0 ∷ []) _ r.parity _ (parity_back r.parity is.parity.0 is.parity.1)
    (back_end (natural 4 (between 1 4096)) (λ stripes. record { session = session; rack = record { groups = r.groups; columns = r.columns; parity = r.parity; stripes = stripes; geometry = r.geometry } }) (big_bytes 4 r.stripes) r.stripes
    (back_number 4 (between 1 4096) r.stripes (let s = is.stripes.1 in omega (arith, s)) (is_between 1 4096 _ is.stripes.0 is.stripes.1)))))))))
  where
    spelled : big_bytes 4 session ++ ((r.groups ∷ []) ++ ((r.columns ∷ []) ++ (geometry_bytes r.geometry ++ ((r.parity ∷ 0 ∷ []) ++ big_bytes 4 r.stripes)))) ≡ head_bytes session r
    spelled = refl
