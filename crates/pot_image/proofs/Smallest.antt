-- There is something that an image may hold: one group of one data column and one stripe, with
-- nothing stored.
use Rattle.std.proofs.Common.{◌≡◌, zero, suc, [], ◌∷◌, length, All, refl, arith}
use Rattle.std.specs.List.Sorted.{IsStrictlySortedBy}
use Rattle.pot_bytes.specs.declared.rack.Rack.{Rack}
use Rattle.pot_bytes.specs.Rack.{IsRack}
use Rattle.pot_machine.specs.Making.{empty_table}
use Rattle.pot_machine.proofs.Empty.{empty_is_table}
use Rattle.pot_index.specs.Index.{NamesAscend}
use Rattle.pot_image.specs.Images.{Contents}
use Rattle.pot_image.specs.Spelling.{table_bytes, field_bytes}
use Rattle.pot_image.specs.Rules.{FitsTable, HaveDigests, FitsEntry, IsLog, IsImage}
use Rattle.pot_image.proofs.Archives.{archives_of_free}
use Rattle.pot_image.proofs.ImageBack.{image_long}

abbrev rack : Rack
rack = record { groups = 1; columns = 1; parity = 1; stripes = 1; geometry = record { fragments = 2; need = 1; shards = 1; blur = 0 } }

abbrev smallest : Contents
smallest = record { session = 0; rack = rack; tables = empty_table rack 0 ∷ []; records = []; group_logs = [] ∷ []; index_log = [] }

is_rack : IsRack rack
is_rack = record {
  geometry = record { fragments = (omega arith, omega arith); need = (omega arith, omega arith); shards = omega arith; blur = omega arith };
  groups = (omega arith, omega arith);
  columns = (omega arith, omega arith);
  parity = (omega arith, omega arith);
  stripes = (omega arith, omega arith);
}

fits : FitsTable rack (empty_table rack 0)
fits = record { rules = empty_is_table rack 0 is_rack; data_columns = refl; parity = refl; stripes = refl; relays = refl }

digests : HaveDigests (empty_table rack 0)
digests zero d l = tt
digests (suc zero) d l = tt
digests (suc (suc k)) d l = absurd (omega (arith, l))

size : length (field_bytes smallest) ≡ 70
unfolding field_bytes table_bytes
size = refl

none_ascend : NamesAscend []
unfolding IsStrictlySortedBy
none_ascend = tt

pub is_image : (v : Contents) × IsImage v
is_image = (
  smallest,
  record {
    session = omega arith;
    together = record {
      rack = is_rack;
      tables = record { count = refl; fits = one_table; archives = archives_of_free (0 ∷ 1 ∷ []) (refl, (refl, tt)) };
      records = record { read = record { few = omega arith; ascends = none_ascend; fits = λ k d l. absurd (omega (arith, l)) }; each = λ k d l. absurd (omega (arith, l)) };
      logs = refl;
    };
    digests = one_digests;
    group_logs = one_log;
    index_log = record { count = omega arith; fits = λ k d l. absurd (omega (arith, l)) };
    short = (let a = image_long smallest in let b = size in omega (arith, a, b));
  },
)
  where
    one_table : All (FitsTable rack) (empty_table rack 0 ∷ [])
    one_table zero d l = fits
    one_table (suc k) d l = absurd (omega (arith, l))

    one_digests : All HaveDigests (empty_table rack 0 ∷ [])
    one_digests zero d l = digests
    one_digests (suc k) d l = absurd (omega (arith, l))

    one_log : All (IsLog (FitsEntry rack)) ([] ∷ [])
    one_log zero d l = record { count = omega arith; fits = λ k e m. absurd (omega (arith, m)) }
    one_log (suc k) d l = absurd (omega (arith, l))
