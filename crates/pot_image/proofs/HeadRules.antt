-- The head that was read keeps the limits of a rack.
use Rattle.std.proofs.Common.{◌≡◌, ◌≤◌, ℕ, ◌&&◌, nat_le, List, Ok, subst, arith}
use Rattle.std.proofs.lemmas.Bool.{leb-true, and_parts}
use Rattle.pot_bytes.specs.declared.rack.Geometry.{Geometry}
use Rattle.pot_bytes.specs.Rack.{IsGeometry, IsRack}
use Rattle.pot_image.specs.declared.format.Format.{Format}
use Rattle.pot_image.specs.declared.format.Format.TheVariants.{First, Second}
use Rattle.pot_image.specs.declared.head.Head.{Head}
use Rattle.pot_image.specs.Fields.{done}
use Rattle.pot_image.specs.Reading.{◌>>=◌, reading}
use Rattle.pot_image.specs.Numbers.{natural, any, between, zeros}
use Rattle.pot_image.specs.Heads.{geometry, parity, head}
use Rattle.pot_image.proofs.Steps.{holds_of, between_of}
use Rattle.pot_image.proofs.Inverse.{parts, done_is}

pub record Fits (groups : ℕ) (g : Geometry) : Type 0 where
  pub limits : IsGeometry g
  pub groups_are : g.shards ≤ groups

pub geometry_kept : (groups : ℕ) (bytes rest : List ℕ) (g : Geometry) → reading (geometry groups) bytes ≡ Ok (g, rest) → Fits groups g
unfolding geometry
geometry_kept groups bytes rest g e =
    (let a = parts (natural 1 (between 2 8)) (λ fragments. natural 1 (between 1 255) >>= λ need. natural 1 (λ n. between need 16 n && nat_le n groups) >>= λ shards. natural 1 (between 0 63) >>= λ blur. done (record { fragments = fragments; need = need; shards = shards; blur = blur })) bytes g rest e in
    let b = parts (natural 1 (between 1 255)) (λ need. natural 1 (λ n. between need 16 n && nat_le n groups) >>= λ shards. natural 1 (between 0 63) >>= λ blur. done (record { fragments = a.value; need = need; shards = shards; blur = blur })) a.behind g rest a.second in
    let c = parts (natural 1 (λ n. between b.value 16 n && nat_le n groups)) (λ shards. natural 1 (between 0 63) >>= λ blur. done (record { fragments = a.value; need = b.value; shards = shards; blur = blur })) b.behind g rest b.second in
    let d = parts (natural 1 (between 0 63)) (λ blur. done (record { fragments = a.value; need = b.value; shards = c.value; blur = blur })) c.behind g rest c.second in
    let same = done_is (record { fragments = a.value; need = b.value; shards = c.value; blur = d.value }) g d.behind rest d.second in
    let rules = and_parts (between b.value 16 c.value) (nat_le c.value groups) (holds_of 1 (λ n. between b.value 16 n && nat_le n groups) b.behind c.behind c.value c.first) in
    let range = and_parts (nat_le b.value c.value) (nat_le c.value 16) rules.0 in
    subst (Fits groups) same.0 (record {
      limits = record {
        fragments = between_of 1 2 8 bytes a.behind a.value a.first;
        need = ((between_of 1 1 255 a.behind b.behind b.value b.first).0, leb-true _ _ range.0);
        shards = leb-true _ _ range.1;
        blur = (between_of 1 0 63 c.behind d.behind d.value d.first).1;
      };
      groups_are = leb-true _ _ rules.1;
    }))

parity_kept : (format : Format) (bytes rest : List ℕ) (p : ℕ) → reading (parity format) bytes ≡ Ok (p, rest) → (1 ≤ p) × (p ≤ 2)
unfolding parity
parity_kept First bytes rest p e =
    (let a = parts (zeros 2) (λ padding. done 1) bytes p rest e in let same = (done_is 1 p a.behind rest a.second).0 in (omega (arith, same), omega (arith, same)))
parity_kept Second bytes rest p e =
    (let a = parts (natural 1 (between 1 2)) (λ p. zeros 1 >>= λ padding. done p) bytes p rest e in
    let b = parts (zeros 1) (λ padding. done a.value) a.behind p rest a.second in
    let same = (done_is a.value p b.behind rest b.second).0 in
    let r = between_of 1 1 2 bytes a.behind a.value a.first in (omega (arith, same, r.0), omega (arith, same, r.1)))

pub head_kept : (format : Format) (bytes rest : List ℕ) (h : Head) → reading (head format) bytes ≡ Ok (h, rest) → IsRack h.rack
unfolding head
head_kept format bytes rest h e =
    (let a = parts (natural 4 any) (λ session. natural 1 (between 0 16) >>= λ groups. natural 1 (between 1 16) >>= λ columns. geometry groups >>= λ geometry. parity format >>= λ parity. natural 4 (between 1 4096) >>= λ stripes. done (record { session = session; rack = record { groups = groups; columns = columns; parity = parity; stripes = stripes; geometry = geometry } })) bytes h rest e in
    let b = parts (natural 1 (between 0 16)) (λ groups. natural 1 (between 1 16) >>= λ columns. geometry groups >>= λ geometry. parity format >>= λ parity. natural 4 (between 1 4096) >>= λ stripes. done (record { session = a.value; rack = record { groups = groups; columns = columns; parity = parity; stripes = stripes; geometry = geometry } })) a.behind h rest a.second in
    let c = parts (natural 1 (between 1 16)) (λ columns. geometry b.value >>= λ geometry. parity format >>= λ parity. natural 4 (between 1 4096) >>= λ stripes. done (record { session = a.value; rack = record { groups = b.value; columns = columns; parity = parity; stripes = stripes; geometry = geometry } })) b.behind h rest b.second in
    let d = parts (geometry b.value) (λ geometry. parity format >>= λ parity. natural 4 (between 1 4096) >>= λ stripes. done (record { session = a.value; rack = record { groups = b.value; columns = c.value; parity = parity; stripes = stripes; geometry = geometry } })) c.behind h rest c.second in
    let f = parts (parity format) (λ parity. natural 4 (between 1 4096) >>= λ stripes. done (record { session = a.value; rack = record { groups = b.value; columns = c.value; parity = parity; stripes = stripes; geometry = d.value } })) d.behind h rest d.second in
    let g = parts (natural 4 (between 1 4096)) (λ stripes. done (record { session = a.value; rack = record { groups = b.value; columns = c.value; parity = f.value; stripes = stripes; geometry = d.value } })) f.behind h rest f.second in
    let same = done_is (record { session = a.value; rack = record { groups = b.value; columns = c.value; parity = f.value; stripes = g.value; geometry = d.value } }) h g.behind rest g.second in
    let fits = geometry_kept b.value c.behind d.behind d.value d.first in
    subst (λ x. IsRack x.rack) same.0 (record {
      geometry = fits.limits;
      groups = (fits.groups_are, (between_of 1 0 16 a.behind b.behind b.value b.first).1);
      columns = between_of 1 1 16 b.behind c.behind c.value c.first;
      parity = parity_kept format d.behind f.behind f.value f.first;
      stripes = between_of 4 1 4096 f.behind g.behind g.value g.first;
    }))
