-- What is told of two files.
use Rattle.std.proofs.Common.{◌≡◌, ◌-◌, ℕ, true, false, List, length, refl, subst}
use Rattle.pot_veil.specs.Drills.{IsReport, IsDrillFault}
use Rattle.pot_veil.specs.declared.drilling.DrillFault.TheVariants as fault
use Rattle.pot_veil.specs.declared.drilling.DrillReport.{DrillReport}
use Rattle.pot_words.specs.Limits.{IsWithinLimits}
use Rattle.pot_words.specs.declared.drill.Drill.{Drill}
use Rattle.pot_words.specs.declared.task.Task.TheVariants as task
use Rattle.pot_session.specs.Drills.{DrillsTo, Explained, Exposed, IsDrill, exposed_text, random_of, report_text}
use Rattle.pot_session.specs.declared.telling.Telling.{Telling}
use Rattle.pot_session.proofs.PointLemmas.{are_seen}

-- what the words name is a drill
pub is_drill : (d : Drill) → IsWithinLimits (task.Drill d) → IsDrill d
is_drill d h = record { geometry = h.0; first = h.1; last = h.2; seen = are_seen d.geometry.shards d.seen.items h.3 }

module _ (d : Drill) (seed file other : List ℕ) (t : Telling) (seen random now : List ℕ) (same : seen ≡ d.seen.items) where
  pub explained : (r : DrillReport) → random ≡ random_of d.geometry seed (length file) → IsReport d.geometry file other (d.hidden - 1) seen random now r
      → t.text.items ≡ report_text (length file) r → t.refused ≡ false → DrillsTo d seed file other t
  explained r drawn is text refused =
      Explained r now
      (subst (λ (points : List ℕ). IsReport d.geometry file other (d.hidden - 1) points (random_of d.geometry seed (length file)) now r) same
      (subst (λ (bytes : List ℕ). IsReport d.geometry file other (d.hidden - 1) seen bytes now r) drawn is)) text refused

  pub exposed : (number have need : ℕ) → IsDrillFault d.geometry d.hidden seen random now (fault.Exposed number have need)
      → t.text.items ≡ exposed_text number have need → t.refused ≡ true → DrillsTo d seed file other t
  exposed number have need is text refused =
      Exposed number have need random
      (subst (λ (points : List ℕ). IsDrillFault d.geometry d.hidden points random random (fault.Exposed number have need)) same (is.0, is.1, is.2, is.3, refl)) text refused
