-- The jobs of a batch have their answers by the section of the batch.
use Rattle.std.proofs.Common.{ℕ, inl, inr, List, [], ◌∷◌, refl}
use Rattle.pot_bytes.specs.declared.rack.Rack.{Rack}
use Rattle.pot_replies.specs.Settings.{Setting}
use Rattle.pot_replies.specs.Sections.{Section}
use Rattle.pot_shared.specs.Works.{Known, section_of}
use Rattle.pot_commands.specs.Rows.{IsSessionSetting}
use Rattle.pot_shared.specs.Going.{AllOnlyWriters}
use Rattle.pot_commands.specs.Begun.{HasTask}
use Rattle.pot_commands.specs.Jobs.{Says}
use Rattle.pot_commands.specs.Batches.{Line, KnownJoins, IsLine, AreLines, IsAmongLines, AllSay}
use Rattle.pot_commands.proofs.Going.{setting_of_stays}
use Rattle.pot_commands.proofs.BatchLemmas.{its_line, job_alone, job_widens}
use Rattle.pot_commands.proofs.BatchStanding.{answers_widen}

-- each line has its task, and its answer by this section
abbrev pub AnswersAll : Rack → Setting → List Line → Section → Type 0
AnswersAll rack s [] w = Unit {0}
AnswersAll rack s (c ∷ cs) w = (HasTask rack c.line c.task × Says s c.job c.line c.task c.answer w) × AnswersAll rack s cs w

-- the setting of the passes that a batch began with is that of a job's
pub setting_given : (s : Setting) (rack : Rack) (seed : List ℕ) (session : ℕ) (v : Known) (c : Line) → IsLine v c → IsSessionSetting s rack seed session v → IsSessionSetting s rack seed session c.given
setting_given s rack seed session v c its is = record {
  setting = setting_of_stays s rack v c.given its.names its.origin its.index_origin is.setting;
  drawn = is.drawn;
  mends = is.mends;
  filled = is.filled;
}

module _ (rack : Rack) (seed : List ℕ) (session : ℕ) (v x : Known) (from : ℕ) (cs : List Line) (jobs : AreLines v from cs) (joins : KnownJoins v cs x) (sole : AllOnlyWriters v x) (s : Setting)
    (is : IsSessionSetting s rack seed session v) where
  all_answer : (ds : List Line) → ((c : Line) → IsAmongLines c ds → IsAmongLines c cs) → AllSay rack seed session ds → AnswersAll rack s ds (section_of v x)
  all_answer [] among say = tt
  all_answer (d ∷ ds) among say =
      let here = among d (inl refl) in
      let its = its_line v from cs jobs d here in
      let alone = job_alone v x from cs jobs joins sole d here in
      let wide = job_widens v x from cs jobs joins sole d here in
      let row = say.0.1 alone s (setting_given s rack seed session v d its is) in (
        (say.0.0, answers_widen s rack d.job d.line d.task d.answer (section_of d.given d.done) (section_of v x) say.0.0 wide row),
        all_answer ds (λ c later. among c (inr later)) say.1,
      )

  pub batch_answers : AllSay rack seed session cs → AnswersAll rack s cs (section_of v x)
  batch_answers say = all_answer cs (λ c among. among) say
