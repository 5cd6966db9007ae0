-- The values of each command's options begin with no hyphen.
use Rattle.std.proofs.Common.{arith}
use Rattle.pot_bytes.specs.declared.rack.Rack.{Rack}
use Rattle.pot_options.specs.Options.{Text}
use Rattle.std.proofs.Common.{Option}
use Rattle.pot_words.specs.Tasks.{HasAudit, HasDrill, HasInit, HasRecover, HasRun, audit_names, drill_names, init_names, recover_names, run_names}
use Rattle.pot_words.specs.declared.audit.Audit.{Audit}
use Rattle.pot_words.specs.declared.drill.Drill.{Drill}
use Rattle.pot_words.specs.declared.recover.Recover.{Recover}
use Rattle.pot_words.specs.declared.run.Run.{Run}
use Rattle.pot_words.proofs.PointLemmas.{unhyphened_points, unhyphened_spots}
use Rattle.pot_words.proofs.ValueLemmas.{AreUnhyphenedAt, unhyphened_number, unhyphened_number_or, unhyphened_seed, unhyphened_yes}

module _ (value : Text → Option Text) where
  pub init_unhyphened : (rack : Rack) → HasInit rack value → AreUnhyphenedAt value init_names
  init_unhyphened rack has =
      let g = has.5 in (
        unhyphened_number value _ 1 16 rack.groups (omega arith) has.1,
        (
          unhyphened_number value _ 1 16 rack.columns (omega arith) has.2,
          (
            unhyphened_number_or value _ 1 2 1 rack.parity (omega arith) has.3,
            (
              unhyphened_number value _ 1 4096 rack.stripes (omega arith) has.4,
              (
                unhyphened_number value _ 2 8 rack.geometry.fragments (omega arith) g.1,
                (
                  unhyphened_number value _ 1 16 rack.geometry.need (omega arith) g.2,
                  (unhyphened_number value _ 1 16 rack.geometry.shards (omega arith) g.3, (unhyphened_number value _ 0 63 rack.geometry.blur (omega arith) g.4, tt)),
                ),
              ),
            ),
          ),
        ),
      )

  pub run_unhyphened : (run : Run) → HasRun run value → AreUnhyphenedAt value run_names
  run_unhyphened run has = (
    unhyphened_seed value _ run.seed has.0,
    (unhyphened_number_or value _ 1 16 4 run.workers (omega arith) has.1, (unhyphened_yes value _ run.careful has.2, tt)),
  )

  pub recover_unhyphened : (r : Recover) → HasRecover r value → AreUnhyphenedAt value recover_names
  recover_unhyphened r has = (
    unhyphened_number value _ 1 512 r.archives (omega arith) has.0,
    (
      unhyphened_number value _ 1 4096 r.stripes (omega arith) has.1,
      (
        unhyphened_number value _ 0 63 r.blur (omega arith) has.2,
        (
          unhyphened_yes value _ has.3.0 has.3.2,
          (unhyphened_yes value _ has.3.1 has.3.3, (unhyphened_yes value _ r.bounded has.4, tt)),
        ),
      ),
    ),
  )

  pub drill_unhyphened : (d : Drill) → HasDrill d value → AreUnhyphenedAt value drill_names
  drill_unhyphened d has =
      let g = has.0 in (
        unhyphened_number value _ 2 8 d.geometry.fragments (omega arith) g.1,
        (
          unhyphened_number value _ 1 16 d.geometry.need (omega arith) g.2,
          (
            unhyphened_number value _ 1 16 d.geometry.shards (omega arith) g.3,
            (
              unhyphened_number value _ 0 63 d.geometry.blur (omega arith) g.4,
              (
                unhyphened_number value _ 1 d.geometry.fragments d.hidden (omega (arith, g.1.1)) has.1,
                (
                  unhyphened_points value _ d.geometry.shards d.seen.items (omega (arith, g.3.1)) has.2,
                  (unhyphened_seed value _ d.seed has.3, tt),
                ),
              ),
            ),
          ),
        ),
      )

  pub audit_unhyphened : (a : Audit) → HasAudit a value → AreUnhyphenedAt value audit_names
  audit_unhyphened a has = (unhyphened_spots value _ a.seen.items has.0, (unhyphened_yes value _ a.loose has.1, tt))
