-- The archives that an image names are all apart.
use Rattle.std.specs.Prelude.{flat_map}
use Rattle.pot_machine.specs.Table.{archives_in}
use Rattle.pot_image.specs.Images.{Contents}
use Rattle.pot_image.specs.Rules.{FitsTogether}
use Rattle.pot_shared.specs.Hands.{AreApart}
use Rattle.pot_session.proofs.OutLemmas.{apart_of}

pub image_apart : (v : Contents) → FitsTogether v → AreApart (flat_map archives_in v.tables)
image_apart v f = apart_of (flat_map archives_in v.tables) f.tables.archives.distinct
