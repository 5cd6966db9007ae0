-- A fetch that is lost.
use Rattle.std.proofs.Common.{inl, [], ◌∷◌, refl}
use Rattle.pot_script.specs.declared.command.Command.TheVariants as commands
use Rattle.pot_script.specs.declared.grouping.Step.TheVariants as steps
use Rattle.pot_script.specs.declared.reply.Reply.{Reply}
use Rattle.pot_script.specs.declared.reply.Reply.TheVariants as replies
use Rattle.pot_bytes.specs.declared.rack.Rack.{Rack}
use Rattle.pot_promises.specs.Answers.{IsAnswered}
use Rattle.pot_promises.specs.Lost.{LostIsFew}
use Rattle.promise_examples.specs.Archives.{LostSawFew, fetches}
use Rattle.promise_examples.specs.Scripts.{name}

fetch_answered : (rack : Rack) (r : Reply) → IsAnswered rack fetches (r ∷ []) 0 0 (commands.Fetch name) r
fetch_answered rack r = record { step = steps.One (commands.Fetch name); there = refl; command = (refl, refl); reply = refl }

pub lost_saw_few : LostIsFew → LostSawFew
lost_saw_few law seed first last room story fits told leaves none done later follows fragment have need replied whole =
    let x = law seed first last room [] story fits told leaves (λ n h. refl) (λ n h rose. none n rose) fetches (replies.Lost name 0 fragment have need ∷ []) done later follows replied whole 0 0 (commands.Fetch name) name name 0 fragment have need (inl refl) (fetch_answered first.rack (replies.Lost name 0 fragment have need)) in
    record { section = x.section; stands = x.stands; number = x.number; numbered = x.numbered; kept = x.lost.kept; few = x.few.few }
