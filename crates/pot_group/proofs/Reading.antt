-- What a read of one slot gives to a group.
use Rattle.std.proofs.Common.{ℕ, ◌<◌, List, arith}
use Rattle.std.specs.Prelude.{Contains}
use Rattle.pot_bytes.specs.declared.digest.Digest.{Digest}
use Rattle.pot_machine.specs.Table.{width, column_at, serving_at}
use Rattle.pot_machine.proofs.Columns.{names_serving}
use Rattle.pot_group.specs.declared.reads.Found.{Found}
use Rattle.pot_group.specs.declared.reads.Found.TheVariants.{Sound, Missing, NotRead}
use Rattle.pot_shelves.specs.Shelves.{Shelves, Keeps}
use Rattle.pot_group.specs.Reads.{ReadsByDigest}
use Rattle.pot_group.specs.Causes.{archives_of, faults_in}
use Rattle.pot_group.specs.Group.{GroupView, IsSettled, CoversOne, CoversIfNotRead}
use Rattle.pot_outside.specs.Counts.{Rose}
use Rattle.pot_group.proofs.CauseLemmas.{covers-one}
use Rattle.pot_group.proofs.Settled.{serving_in}

-- the archive that serves a slot is one of the group
pub served : (told : Type 0) (g : GroupView) → IsSettled told g → (s c : ℕ) → c < width g.table → Contains g.shelves.numbers (serving_at g.table s c)
served told g settled s c lc = settled.shelves c (serving_at g.table s c) lc (names_serving (column_at g.table c) s)

-- a rise of the count of the archive that serves a slot lets one more fault be named of its column
pub covers_rise : (told : Type 0) (g : GroupView) (now : Shelves) (s c : ℕ) → IsSettled told g → c < width g.table → Keeps g.shelves now
    → Rose (g.shelves.faults (serving_at g.table s c)) (now.faults (serving_at g.table s c)) → CoversOne (record g { shelves = now }) c
covers_rise told g now s c settled lc keeps rose =
    covers-one g.shelves now (archives_of g.first g.log c) (faults_in g.first.data_columns c g.log) (serving_at g.table s c) keeps.later keeps.faults_taken
    (settled.causes.faults c (omega (arith, lc, settled.sizes.0, settled.sizes.1))) (serving_in told g settled s c lc) (settled.faults (serving_at g.table s c)) rose

pub read_covers : (told : Type 0) (g : GroupView) (now : Shelves) (s c : ℕ) (digest : Digest) (into : List ℕ) (found : Found) → IsSettled told g → c < width g.table
    → ReadsByDigest told (serving_at g.table s c) s digest into found g.shelves now → CoversIfNotRead found (record g { shelves = now }) c
read_covers told g now s c digest into Sound settled lc f = tt
read_covers told g now s c digest into Missing settled lc f = tt
read_covers told g now s c digest into NotRead settled lc f = covers_rise told g now s c settled lc f.stays.keeps f.means
