-- One step more.
use Rattle.std.proofs.Common.{◌≡◌, ◌+◌, ℕ, List, [], ◌∷◌, ◌++◌, ap, sym, subst, arith}
use Rattle.std.proofs.lemmas.List.{map-append}
use lib.Seq.{drop-length}
use Rattle.pot_bytes.specs.declared.rack.Rack.{Rack}
use Rattle.pot_rows.specs.Rows.{view_at}
use Rattle.pot_script.specs.declared.grouping.Step.{Step}
use Rattle.pot_script.specs.declared.reply.Reply.{Reply}
use Rattle.pot_replies.specs.Sections.{IsOfJobs}
use Rattle.pot_replies.specs.Sessions.{Answered, Replied, jobs_in, jobs_of}
use Rattle.pot_replies.proofs.SessionLemmas.{replied_none, replied_more}
use Rattle.pot_shared.specs.Members.{entries_of}
use Rattle.pot_shared.specs.Works.{Known, section_of}
use Rattle.pot_commands.specs.Rows.{Row}
use Rattle.pot_shared.specs.Going.{AllExtend, AllStay}
use Rattle.pot_commands.specs.Steps.{step_of, steps_of, StepGives, StepLeaves, StepHalts}
use Rattle.pot_commands.specs.Ends.{next_job, AreReplied, AreLeft, AreHalted, AreNext}
use Rattle.pot_commands.proofs.Going.{sole_parts, known_follows, setting_stays}

pub steps_more : (ss : List Step) (d : Step) → steps_of (ss ++ d ∷ []) ≡ steps_of ss ++ step_of d ∷ []
steps_more ss d = map-append step_of ss (d ∷ [])

pub jobs_more : (ss : List Step) (d : Step) → next_job (ss ++ d ∷ []) ≡ next_job ss + jobs_in (step_of d)
jobs_more [] d = omega arith
jobs_more (e ∷ ss) d = (let n = jobs_more ss d in omega (arith, n))

pub jobs_append : (ss es : List Step) → next_job (ss ++ es) ≡ next_job ss + jobs_of (steps_of es)
jobs_append [] es = omega arith
jobs_append (d ∷ ss) es = (let n = jobs_append ss es in omega (arith, n))

module _ (rack : Rack) (seed : List ℕ) (session : ℕ) where
  pub none_replied : (known : Known) → AreReplied rack seed session [] [] known known
  none_replied known sole s setting = replied_none (Row s) 1 (section_of known known) (
    (λ g. ap entries_of (drop-length (view_at known.groups g).seen)),
    drop-length (view_at known.index 0).seen,
  )

  module _ (ss : List Step) (rs : List Reply) (d : Step) (old mid new : Known) (went : AllExtend old mid) (stays : AllStay old mid)
      (sofar : AreReplied rack seed session ss rs old mid) (then : AllExtend mid new) where
    abbrev job : ℕ
    job = next_job ss

    pub replied_on : (its : List Reply) → StepGives rack seed session job (step_of d) mid new its → AreReplied rack seed session (ss ++ d ∷ []) (rs ++ its) old new
    replied_on its gives sole s setting =
        let parts = sole_parts old mid new went then sole in
        let row = gives parts.1 s (setting_stays s rack seed session old mid stays setting) in
        let number : job ≡ 1 + jobs_of (steps_of ss) = omega arith in
        subst (λ es. Replied (Row s) 1 es (rs ++ its) (section_of old new)) (sym (steps_more ss d))
        (replied_more (Row s) 1 (steps_of ss) rs (step_of d) its (section_of old mid) (section_of mid new) (section_of old new) row.1.0
        (sofar parts.0 s setting) (known_follows old mid new went then)
        (subst (λ n. IsOfJobs n (jobs_in (step_of d)) (section_of mid new)) number row.0)
        (subst (λ n. Answered (Row s) n (step_of d) its (section_of mid new) row.1.0) number row.1.1))

    pub left_on : StepLeaves rack seed session job (step_of d) mid new → AreLeft rack seed session ss d rs old new
    left_on leaves sole s setting =
        let parts = sole_parts old mid new went then sole in
        let left = leaves parts.1 s (setting_stays s rack seed session old mid stays setting) in
        record {
          done = section_of old mid;
          last = section_of mid new;
          replied = sofar parts.0 s setting;
          follows = known_follows old mid new went then;
          its = left.0;
          left = left.1;
        }

    pub halted_on : StepHalts rack seed session job (step_of d) mid new → AreHalted rack seed session ss d rs old new
    halted_on halts sole s setting =
        let parts = sole_parts old mid new went then sole in
        let halted = halts parts.1 s (setting_stays s rack seed session old mid stays setting) in
        record {
          done = section_of old mid;
          last = section_of mid new;
          replied = sofar parts.0 s setting;
          follows = known_follows old mid new went then;
          its = halted.0;
          left = halted.1;
        }

    pub next_on : (its : List Reply) → StepGives rack seed session job (step_of d) mid new its → AreNext rack seed session ss d rs its old new
    next_on its gives sole s setting =
        let parts = sole_parts old mid new went then sole in
        let row = gives parts.1 s (setting_stays s rack seed session old mid stays setting) in
        record {
          done = section_of old mid;
          last = section_of mid new;
          replied = sofar parts.0 s setting;
          follows = known_follows old mid new went then;
          of_next = row.0;
          halves = row.1.0;
          row = row.1.1;
        }
