-- What stands before the tables of an image: the session and the rack.
use Rattle.std.specs.Prelude.{ℕ, ◌&&◌, nat_le}
use Rattle.pot_bytes.specs.declared.rack.Geometry.{Geometry}
use Rattle.pot_image.specs.declared.format.Format.{Format}
use Rattle.pot_image.specs.declared.format.Format.TheVariants.{First, Second}
use Rattle.pot_image.specs.declared.head.Head.{Head}
use Rattle.pot_image.specs.Fields.{Grammar, done}
use Rattle.pot_image.specs.Reading.{◌>>=◌}
use Rattle.pot_image.specs.Numbers.{natural, any, between, zeros}

-- a geometry: k, m, n and the blur. The field of n carries the rules that m is at most n and that
-- there are as many groups
unfoldable pub geometry : ℕ → Grammar Geometry
geometry groups =
    natural 1 (between 2 8) >>= λ fragments.
    natural 1 (between 1 255) >>= λ need.
    natural 1 (λ n. between need 16 n && nat_le n groups) >>= λ shards.
    natural 1 (between 0 63) >>= λ blur.
    done (record { fragments = fragments; need = need; shards = shards; blur = blur })

-- the number of parity columns and a zero. In the first format two zeros stand for one parity
-- column
unfoldable pub parity : Format → Grammar ℕ
parity First = zeros 2 >>= λ padding. done 1
parity Second = natural 1 (between 1 2) >>= λ parity. zeros 1 >>= λ padding. done parity

-- the session, the groups, the data columns, the geometry, the parity columns and the stripes
unfoldable pub head : Format → Grammar Head
head format =
    natural 4 any >>= λ session.
    natural 1 (between 0 16) >>= λ groups.
    natural 1 (between 1 16) >>= λ columns.
    geometry groups >>= λ geometry.
    parity format >>= λ parity.
    natural 4 (between 1 4096) >>= λ stripes.
    done (record {
      session = session;
      rack = record {
        groups = groups;
        columns = columns;
        parity = parity;
        stripes = stripes;
        geometry = geometry;
      };
    })
