-- What a session knows of its logs.
use Rattle.pot_shared.specs.Works.{Known, known}
use Rattle.pot_bench.specs.declared.sessions.Session.{Session}

-- what its passes know
abbrev pub knows : Session → Known
knows s = known s.passes.groups s.passes.index
