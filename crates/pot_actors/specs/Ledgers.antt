-- The index of a world as a program has it.
use Rattle.std.specs.Prelude.{◌≡◌, [], map, option_map, Result, Ok, Err}
use Rattle.pot_index.specs.declared.entry.Logged.{Logged}
use Rattle.pot_index.specs.Index.{IndexView, Names, logged}
use Rattle.pot_actors.specs.declared.ledger.Entered.{Entered}
use Rattle.pot_actors.specs.declared.ledger.Ledger.{Ledger}

abbrev pub logged_of : Entered → Logged
logged_of e = record { entry = e.entry; brought = option_map (λ s. s.value) e.brought }

abbrev pub names_of : Ledger → Names
names_of l = record { published = l.records.items; reserved = l.reserved.items }

-- it began with no record
abbrev pub index_of : Ledger → IndexView
index_of l = record { rack = l.rack; read = []; now = names_of l; log = map logged_of l.log.items }

-- The entry was logged, and did to the names what it does; or memory was not found, and all is as
-- before.
abbrev pub LogsName : {E : Type 0} → Logged → Ledger → Ledger → Result (Unit {0}) E → Type 0
LogsName x old new (Ok u) = index_of new ≡ logged (index_of old) x
LogsName x old new (Err e) = index_of new ≡ index_of old
