-- The image with which a session begins.
use Rattle.std.proofs.Common.{◌≡◌, ◌<◌, ◌^◌, List, [], length, sym, subst, arith}
use Rattle.std.proofs.lemmas.List.{length-replicate}
use Rattle.std.specs.Prelude.{All}
use Rattle.std.proofs.lemmas.List.Elements.{All-nil, All-replicate}
use Rattle.pot_machine.specs.declared.entry.Entry.{Entry}
use Rattle.pot_image.specs.declared.image.Image.{Image}
use Rattle.pot_image.specs.Images.{Contents, contents}
use Rattle.pot_image.specs.Rules.{FitsEntry, FitsIndexEntry, FitsTogether, IsImage, IsLog, IsImageWhole}
use Rattle.pot_image.specs.Spelling.{IsCountable}
use Rattle.pot_session.specs.Desks.{begun}
use Rattle.pot_session.proofs.Countable.{countable}

begun_fits : (v w : Contents) → w ≡ begun v → FitsTogether v → FitsTogether w
begun_fits v w e f = subst FitsTogether (sym e) (record { rack = f.rack; tables = f.tables; records = f.records; logs = length-replicate v.rack.groups [] })

-- it keeps the rules of images where it was written: its logs are empty
pub begun_image : (v w : Contents) → w ≡ begun v → FitsTogether v → IsImageWhole w → IsImage w
begun_image v w e f whole = record {
  session = whole.values.session;
  together = begun_fits v w e f;
  digests = whole.values.digests;
  group_logs = subst (λ (u : Contents). All (IsLog (FitsEntry u.rack)) u.group_logs) (sym e)
      (All-replicate (IsLog (FitsEntry v.rack)) v.rack.groups [] (record { count = omega arith; fits = All-nil (FitsEntry v.rack) }));
  index_log = subst (λ (u : Contents). IsLog FitsIndexEntry u.index_log) (sym e) (record { count = omega arith; fits = All-nil FitsIndexEntry });
  short = whole.short;
}

pub begun_countable : (i : Image) (v : Contents) → contents i ≡ begun v → FitsTogether v → IsCountable i
begun_countable i v e f =
    countable i (begun v) e (let few = f.records.read.few in omega (arith, few))
    (All-replicate (λ (l : List Entry). length l < 2 ^ 32) v.rack.groups [] (omega arith)) (omega arith)
