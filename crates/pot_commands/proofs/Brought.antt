-- A setting that there is, and commands that bring no archive.
use Rattle.std.proofs.Common.{◌≡◌, ℕ, List, [], refl, ap, sym, ◌∙◌}
use Rattle.std.specs.Prelude.{true, Option, Some, None, IfSome, Result, Ok, Err, Vec, MatchResult, filter, map}
use Rattle.std.specs.Global.{Global}
use Rattle.pot_bytes.specs.declared.rack.Rack.{Rack}
use Rattle.pot_machine.specs.Table.{Table}
use Rattle.pot_machine.specs.Logs.{own}
use Rattle.pot_bytes.specs.Digests.{digest_of}
use Rattle.pot_group.specs.Arrivals.{arrivals}
use Rattle.pot_pads.specs.Pads.{pads_of}
use Rattle.pot_rows.specs.Rows.{view_at}
use Rattle.pot_script.specs.declared.command.Command.{Command}
use Rattle.pot_script.specs.declared.reply.Reply.{Reply}
use Rattle.pot_replies.specs.Settings.{Setting}
use Rattle.pot_shared.specs.declared.member.GroupOrigin.{GroupOrigin}
use Rattle.pot_shared.specs.declared.catalog.CatalogOrigin.{CatalogOrigin}
use Rattle.pot_shared.specs.Catalogs.{records_in}
use Rattle.pot_shared.specs.Works.{gained, Known, JobWroteOnly, JobOnlyWriter, IsSettingOf, section_of}
use Rattle.pot_store.specs.Drawing.{blocks_from}
use Rattle.pot_commands.specs.Rows.{HasFilled, IsSessionSetting, AreReplies, IsIdleCommand}
use Rattle.pot_shared.specs.Going.{AllOnlyWriters}
use Rattle.pot_commands.specs.Taking.{asks}
use Rattle.pot_commands.proofs.NoMoves.{brings, no_arrivals, no_moves, idle_moves}
use Rattle.pot_commands.proofs.Going.{sole_alone}
use Rattle.pot_commands.proofs.Whose.{its_jobs, own_all}

-- there is a setting
abbrev table_of : Option GroupOrigin → Table
table_of None = record { data_columns = 0; parity = 0; stripes = 0; cursor = record { stripe = 0; column = 0 }; columns = []; slots = []; relays = [] }
table_of (Some o) = o.first

is_table : (o : Option GroupOrigin) → IfSome o (λ x. table_of o ≡ x.first)
is_table None = tt
is_table (Some o) = refl

are_records : (o : Option CatalogOrigin) → IfSome o (λ x. records_in o ≡ x.read)
are_records None = tt
are_records (Some o) = refl

module _ (rack : Rack) (seed : List ℕ) (session : ℕ) (k : Known) where
  abbrev pub its_setting : Setting
  its_setting = record {
    rack = rack;
    first = λ g. table_of (view_at k.groups g).origin;
    read = records_in (view_at k.index 0).origin;
    digests = λ geometry job file. map digest_of (blocks_from geometry file (pads_of seed session job));
    mends = true;
  }

  pub is_its : IsSettingOf its_setting rack k
  is_its = record { rack_is = refl; first = λ g lt. is_table (view_at k.groups g).origin; read = are_records (view_at k.index 0).origin }

  pub is_setting : HasFilled rack k → IsSessionSetting its_setting rack seed session k
  is_setting filled = record {
    setting = is_its;
    drawn = λ geometry job file. refl;
    mends = refl;
    filled = filled its_setting is_its;
  }

-- a command that asks for no archive brought none
module _ (rack : Rack) (seed : List ℕ) (session job : ℕ) (c : Command) (none : asks c ≡ []) (old new : Known) (filled : HasFilled rack old) (worked : JobWroteOnly job old new) where
  plain_none : (JobOnlyWriter job old new → (g : ℕ) → filter brings (own job (gained old.groups new.groups g)) ≡ []) → AllOnlyWriters old new → (g : ℕ) → arrivals (gained old.groups new.groups g) ≡ []
  plain_none its sole g =
      no_arrivals (gained old.groups new.groups g)
      (ap (filter brings) (sym (own_all job (gained old.groups new.groups g) ((its_jobs job old new worked sole).groups g))) ∙ its (sole_alone job old new worked sole) g)

  pub answered_none : {E : Type 0} (result : Result (Vec Reply Global) E) → (JobOnlyWriter job old new → (s : Setting) → IsSessionSetting s rack seed session old
      → MatchResult result (λ rs. AreReplies s job c rs.items (section_of old new)) (λ e. IsIdleCommand s job c (section_of old new))) → AllOnlyWriters old new → (g : ℕ) → arrivals (gained old.groups new.groups g) ≡ []
  answered_none (Ok rs) says = plain_none (λ alone g. no_moves (its_setting rack seed session old) job c rs.items (section_of old new) none (says alone (its_setting rack seed session old) (is_setting rack seed session old filled)) g)
  answered_none (Err e) says = plain_none (λ alone g. idle_moves (its_setting rack seed session old) job c (section_of old new) (says alone (its_setting rack seed session old) (is_setting rack seed session old filled)) g)
