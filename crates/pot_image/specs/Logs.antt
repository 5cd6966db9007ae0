-- The logs of an image.
use Rattle.std.specs.Prelude.{ℕ, ◌+◌, ◌-◌, ◌==◌, nat_le, Bool, if◌then◌else◌, List, []}
use Rattle.pot_bytes.specs.declared.digest.Digest.{Digest}
use Rattle.pot_bytes.specs.declared.rack.Rack.{Rack}
use Rattle.pot_bytes.specs.Rack.{log_bound}
use Rattle.pot_machine.specs.declared.entry.Entry.{Entry}
use Rattle.pot_machine.specs.declared.entry.Entry.TheVariants.{Put, Skip, Seen, Gone, Broke, Fault}
use Rattle.pot_machine.specs.declared.entry.Entry.TheVariants.{Begin, Hop, Mended, GaveUp, Oddly}
use Rattle.pot_machine.specs.declared.entry.Entry.TheVariants.{Stuck, MoveBegin, Moved, MoveEnd}
use Rattle.pot_machine.specs.declared.entry.Entry.TheVariants.{Swapped, Counted, Put2}
use Rattle.pot_index.specs.declared.entry.IndexEntry.{IndexEntry}
use Rattle.pot_index.specs.declared.entry.IndexEntry.TheVariants.{Reserve, Taken, Publish, Abandon}
use Rattle.pot_index.specs.declared.entry.IndexEntry.TheVariants.{Find, Listed, Renew, Often}
use Rattle.pot_image.specs.declared.format.Format.{Format}
use Rattle.pot_image.specs.declared.format.Format.TheVariants.{First, Second}
use Rattle.pot_image.specs.Fields.{Grammar, done}
use Rattle.pot_image.specs.Reading.{◌>>=◌, several}
use Rattle.pot_image.specs.Numbers.{natural, any, at_most, between, flag, digest}
use Rattle.pot_image.specs.Records.{name}

-- a stripe that the rack has
abbrev pub stripe : Rack → Grammar ℕ
stripe rack = natural 4 (at_most (rack.stripes - 1))

-- a column that its groups have
abbrev pub column : Rack → Grammar ℕ
column rack = natural 1 (between 0 (rack.columns + rack.parity - 1))

-- a stripe, and a column behind it
abbrev pub place : Rack → Grammar (ℕ × ℕ)
place rack = stripe rack >>= λ s. column rack >>= λ c. done (s, c)

-- the number of an archive
abbrev pub archive : Grammar ℕ
archive = natural 4 (at_most 511)

-- ENTRIES BY WHAT STANDS BEHIND THE JOB

abbrev pub of_stripe : Rack → (ℕ → Entry) → Grammar Entry
of_stripe rack entry = stripe rack >>= λ s. done (entry s)

abbrev pub of_column : Rack → (ℕ → Entry) → Grammar Entry
of_column rack entry = column rack >>= λ c. done (entry c)

abbrev pub of_place : Rack → (ℕ → ℕ → Entry) → Grammar Entry
of_place rack entry = place rack >>= λ p. done (entry p.0 p.1)

abbrev pub of_two_columns : Rack → (ℕ → ℕ → ℕ → Entry) → Grammar Entry
of_two_columns rack entry = place rack >>= λ p. column rack >>= λ other. done (entry p.0 p.1 other)

abbrev pub of_digest : Rack → (ℕ → ℕ → Digest → Entry) → Grammar Entry
of_digest rack entry = place rack >>= λ p. digest >>= λ d. done (entry p.0 p.1 d)

abbrev pub of_flag : Rack → (ℕ → ℕ → Bool → Entry) → Grammar Entry
of_flag rack entry = place rack >>= λ p. flag >>= λ b. done (entry p.0 p.1 b)

abbrev pub of_archive : Rack → (ℕ → ℕ → Entry) → Grammar Entry
of_archive rack entry = column rack >>= λ c. archive >>= λ to. done (entry c to)

abbrev pub of_put : Rack → (ℕ → ℕ → Digest → Digest → Bool → Entry) → Grammar Entry
of_put rack entry =
    place rack >>= λ at. digest >>= λ d. digest >>= λ p. flag >>= λ kept. done
    (entry at.0 at.1 d p kept)

abbrev pub of_two_puts : Rack → (ℕ → ℕ → Digest → Digest → Digest → Bool → Bool → Entry)
    → Grammar Entry
of_two_puts rack entry =
    place rack >>= λ at. digest >>= λ d. digest >>= λ p. digest >>= λ q. flag >>= λ kept. flag >>=
    λ kept2.
    done (entry at.0 at.1 d p q kept kept2)

-- the entry of a kind from 3 to 9, which says a place and no more
abbrev pub placed : ℕ → ℕ → ℕ → ℕ → Entry
placed kind job s c =
    if kind == 3 then Seen job s c
    else if kind == 4 then Gone job s c
    else if kind == 5 then Broke job s c
    else if kind == 6 then Fault job s c
    else if kind == 7 then Begin job s c
    else if kind == 8 then Hop job s c
    else Mended job s c

-- what stands behind the kind and the job of an entry of a group's log
unfoldable pub entry_of : Rack → ℕ → ℕ → Grammar Entry
entry_of rack job kind =
    if kind == 1 then of_put rack (Put job)
    else if kind == 2 then of_stripe rack (Skip job)
    else if nat_le kind 9 then of_place rack (placed kind job)
    else if kind == 10 then of_two_columns rack (GaveUp job)
    else if kind == 11 then of_digest rack (Oddly job)
    else if kind == 12 then of_two_columns rack (Stuck job)
    else if kind == 13 then of_archive rack (MoveBegin job)
    else if kind == 14 then of_flag rack (Moved job)
    else if kind == 15 then of_column rack (MoveEnd job)
    else if kind == 16 then of_archive rack (Swapped job)
    else if kind == 17 then done (Counted job)
    else of_two_puts rack (Put2 job)

-- how many kinds of entries a group's log has
abbrev pub kinds : Format → ℕ
kinds First = 17
kinds Second = 18

-- an entry of a group's log: its kind, its job, and what stands behind them
unfoldable pub entry : Format → Rack → Grammar Entry
entry format rack =
    natural 1 (between 1 (kinds format)) >>= λ kind.
    natural 4 any >>= λ job.
    entry_of rack job kind

abbrev pub entry_behind : Format → Rack → ℕ → List Entry → Grammar Entry
entry_behind format rack i before = entry format rack

-- the number of entries and the entries
unfoldable pub group_log : Format → Rack → Grammar (List Entry)
group_log format rack =
    natural 4 (at_most log_bound) >>= λ n.
    several 0 n (entry_behind format rack) []

abbrev pub group_log_behind : Format → Rack → ℕ → List (List Entry) → Grammar (List Entry)
group_log_behind format rack i before = group_log format rack

-- the logs of all groups
unfoldable pub group_logs : Format → Rack → Grammar (List (List Entry))
group_logs format rack = several 0 rack.groups (group_log_behind format rack) []

-- THE INDEX'S LOG

-- what stands behind the name of an entry of the index's log
unfoldable pub behind_name : ℕ → ℕ → List ℕ → Grammar IndexEntry
behind_name job kind x =
    if kind == 1 then done (Reserve job x)
    else if kind == 2 then done (Taken job x)
    else if kind == 3 then (digest >>= λ mark. done (Publish job x mark))
    else if kind == 4 then done (Abandon job x)
    else if kind == 5 then (flag >>= λ found. done (Find job x found))
    else if kind == 7 then (digest >>= λ mark. done (Renew job x mark))
    else done (Often job x)

-- what stands behind the kind and the job of an entry of the index's log
unfoldable pub index_entry_of : ℕ → ℕ → Grammar IndexEntry
index_entry_of job kind =
    if kind == 6 then done (Listed job)
    else (name any >>= λ x. behind_name job kind x)

-- how many kinds of entries the index's log has
abbrev pub index_kinds : Format → ℕ
index_kinds First = 6
index_kinds Second = 8

unfoldable pub index_entry : Format → Grammar IndexEntry
index_entry format =
    natural 1 (between 1 (index_kinds format)) >>= λ kind.
    natural 4 any >>= λ job.
    index_entry_of job kind

abbrev pub index_entry_behind : Format → ℕ → List IndexEntry → Grammar IndexEntry
index_entry_behind format i before = index_entry format

-- the number of entries and the entries
unfoldable pub index_log : Format → Grammar (List IndexEntry)
index_log format =
    natural 4 (at_most log_bound) >>= λ n.
    several 0 n (index_entry_behind format) []
