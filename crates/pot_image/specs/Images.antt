-- The image of a desk: its fields, and how its bytes are answered.
use Rattle.std.specs.Prelude.{◌≡◌, ◌≢◌, ◌⊎◌, ◌<◌, ◌≤◌, ℕ, ◌+◌, ◌-◌, List, [], ◌∷◌, Result, Err}
use Rattle.std.specs.Prelude.{MatchResult, length, take, drop, map}
use Rattle.byteorder.specs.Endian.{big_number}
use Rattle.pot_bytes.specs.Digests.{digest_bytes}
use Rattle.pot_bytes.specs.declared.rack.Rack.{Rack}
use Rattle.pot_machine.specs.declared.entry.Entry.{Entry}
use Rattle.pot_machine.specs.Table.{Table}
use Rattle.pot_index.specs.declared.record.Record.{Record}
use Rattle.pot_index.specs.declared.entry.IndexEntry.{IndexEntry}
use Rattle.pot_image.specs.declared.image.Image.{Image}
use Rattle.pot_image.specs.declared.fault.ImageFault.{ImageFault}
use Rattle.pot_image.specs.declared.fault.ImageFault.TheVariants as faults
use Rattle.pot_image.specs.declared.format.Format.{Format}
use Rattle.pot_image.specs.declared.format.Format.TheVariants.{First, Second}
use Rattle.pot_image.specs.Fields.{Grammar, done, IsOf, LeavesAt}
use Rattle.pot_image.specs.Reading.{◌>>=◌}
use Rattle.pot_image.specs.Heads.{head}
use Rattle.pot_image.specs.Tables.{tables}
use Rattle.pot_image.specs.Records.{records}
use Rattle.pot_image.specs.Logs.{group_logs, index_log}

-- an image without where it lies in memory
pub record Contents : Type 0 where
  pub session : ℕ
  pub rack : Rack
  pub tables : List Table
  pub records : List Record
  pub group_logs : List (List Entry)
  pub index_log : List IndexEntry

abbrev pub contents : Image → Contents
contents i =
    record {
      session = i.session;
      rack = i.rack;
      tables = i.tables.items;
      records = i.records.items;
      group_logs = map (λ v. v.items) i.group_logs.items;
      index_log = i.index_log.items;
    }

-- THE FIELDS

-- what stands between the length and the trailer: the head, the tables, the records, the logs of
-- the groups and that of the index
unfoldable pub image : Format → Grammar Contents
image format =
    head format >>= λ h.
    tables h.rack >>= λ tables.
    records format h.rack tables >>= λ records.
    group_logs format h.rack >>= λ group_logs.
    index_log format >>= λ index_log.
    done (record {
      session = h.session;
      rack = h.rack;
      tables = tables;
      records = records;
      group_logs = group_logs;
      index_log = index_log;
    })

-- THE ANSWER TO SOME BYTES, IN THE ORDER OF THE REFUSALS

-- `PSI1`
abbrev pub magic : List ℕ
magic = 80 ∷ 83 ∷ 73 ∷ 49 ∷ []

-- the number of the format, and the number of bytes that the image says that it has
abbrev pub format_number : List ℕ → ℕ
format_number bytes = big_number 4 (drop 4 bytes)

abbrev pub stated_length : List ℕ → ℕ
stated_length bytes = big_number 8 (drop 8 bytes)

-- all before the last 32 bytes, and these
abbrev pub before_trailer : List ℕ → List ℕ
before_trailer bytes = take (length bytes - 32) bytes

abbrev pub trailer : List ℕ → List ℕ
trailer bytes = drop (length bytes - 32) bytes

-- why the fields were not read: they leave the grammar at a place, which is counted from the front
-- of the image
abbrev pub LeavesGrammar : Grammar Contents → List ℕ → ImageFault → Type 0
LeavesGrammar g body (faults.Form place) = (p : ℕ) × (place ≡ 16 + p) × LeavesAt g body p
LeavesGrammar g body faults.NoMemory = Unit {0}
LeavesGrammar g body faults.Cut = ⊥
LeavesGrammar g body (faults.Trailer kept computed) = ⊥

-- fifth: the fields are those of an image, or leave the grammar somewhere
abbrev pub AnsweredFields : Format → List ℕ → Result Image ImageFault → Type 0
AnsweredFields format body r =
    MatchResult r (λ i. IsOf (image format) body (contents i)) (LeavesGrammar (image format) body)

-- fourth: the last 32 bytes are the digest of all before, or not
abbrev pub Trailed : Format → List ℕ → Result Image ImageFault → Type 0
Trailed format bytes r =
    ((trailer bytes ≢ digest_bytes (before_trailer bytes))
    × (r ≡ Err (faults.Trailer (record { bytes = trailer bytes })
    (record { bytes = digest_bytes (before_trailer bytes) }))))
    ⊎ ((trailer bytes ≡ digest_bytes (before_trailer bytes))
    × AnsweredFields format (drop 16 (before_trailer bytes)) r)

-- third: there are fewer bytes than the image says, or more, or as many
abbrev pub Measured : Format → List ℕ → Result Image ImageFault → Type 0
Measured format bytes r =
    ((length bytes < stated_length bytes) × (r ≡ Err faults.Cut))
    ⊎ ((stated_length bytes < length bytes) × (r ≡ Err (faults.Form 8)))
    ⊎ ((stated_length bytes ≡ length bytes) × Trailed format bytes r)

-- second: the first four bytes are `PSI1`, and the number behind them is that of a format, or not
abbrev pub Numbered : List ℕ → Result Image ImageFault → Type 0
Numbered bytes r =
    ((format_number bytes ≢ 1) × (format_number bytes ≢ 2) × (r ≡ Err (faults.Form 4)))
    ⊎ ((format_number bytes ≡ 1) × Measured First bytes r)
    ⊎ ((format_number bytes ≡ 2) × Measured Second bytes r)

abbrev pub Marked : List ℕ → Result Image ImageFault → Type 0
Marked bytes r =
    ((take 4 bytes ≢ magic) × (r ≡ Err (faults.Form 0)))
    ⊎ ((take 4 bytes ≡ magic) × Numbered bytes r)

-- first: there are fewer than 48 bytes, or not
abbrev pub AnswersImage : List ℕ → Result Image ImageFault → Type 0
AnswersImage bytes r =
    ((length bytes < 48) × (r ≡ Err faults.Cut)) ⊎ ((48 ≤ length bytes) × Marked bytes r)
