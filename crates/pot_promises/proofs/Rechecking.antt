-- A recheck leaves a later image, and the next run begins with it.
use Rattle.std.proofs.Common.{◌≡◌, ◌⊎◌, inl, inr, ℕ, List, [], ◌∷◌, Option, Some, Ok, length, refl, ap, sym, ◌∙◌, subst, arith}
use Rattle.std.specs.Prelude.{None}
use Rattle.std.proofs.lemmas.Option.{same_Some}
use Rattle.pot_outside.specs.Accounts.{Transition}
use Rattle.pot_outside.specs.Failing.{MayLeave}
use Rattle.pot_image.specs.declared.image.Image.{Image}
use Rattle.pot_image.specs.Images.{AnswersImage, Contents, contents}
use Rattle.pot_image.specs.Spelling.{image_bytes}
use Rattle.pot_image.proofs.ImageBack.{answers_back}
use Rattle.pot_recheck.specs.declared.listing.Unsound.{Unsound}
use Rattle.pot_recheck.specs.declared.rechecking.Rechecked.{Rechecked}
use Rattle.pot_recheck.specs.declared.rechecking.Rechecked.TheVariants as rechecked
use Rattle.pot_recheck.specs.Listing.{in_image}
use Rattle.pot_recheck.specs.Rechecking.{FindsAll, Rechecks, all_live, live_bytes}
use Rattle.pot_recheck.proofs.ImageLemmas.{still_image}
use Rattle.pot_session.specs.Desks.{HoldsImage, begun}
use Rattle.pot_promises.specs.Chains.{Again, BeginsAfter, FoundAgain, Later, MayBeRechecked, Never}
use Rattle.pot_promises.specs.Runs.{HasImage, HasLater, RechecksBegin, RechecksGoOn, RunsGoOn}
use Rattle.pot_promises.proofs.FindingAgain.{all_found_again}

-- what is read of a desk is the image that it has
pub one_image : (v : Contents) (held : Option (List ℕ)) (read : Image) → HasImage held v → HoldsImage held read → contents read ≡ v
one_image v held read (has, is_image) (bytes, is, answers) =
    let same : bytes ≡ image_bytes v = same_Some bytes (image_bytes v) (sym is ∙ has) in
    answers_back v is_image (Ok read) (subst (λ b. AnswersImage b (Ok read)) same answers)

-- so the next run begins with it
pub runs_go_on : RunsGoOn
runs_go_on last held read has is =
    let it : contents read ≡ last = one_image last held read has is in
    record {
      rack = ap (λ (v : Contents). v.rack) it;
      tables = ap (λ (v : Contents). v.tables) it;
      records = ap (λ (v : Contents). v.records) it;
    }

-- what a recheck leaves: what there was, the image in which all slots are Live that are not Void,
-- or none where the desk failed
abbrev LeftNew : Transition (Option (List ℕ)) → Rechecked → Image → Type 0
LeftNew desk answer i = (desk.after ≡ Some (live_bytes i)) ⊎ ((answer ≡ rechecked.DeskFault) × (desk.after ≡ None))

abbrev Left : Transition (Option (List ℕ)) → Rechecked → Type 0
Left desk answer = (desk.after ≡ desk.before) ⊎ ((i : Image) × HoldsImage desk.before i × LeftNew desk answer i)

left_found : (desk : Transition (Option (List ℕ))) (answer : Rechecked) (i : Image) (found listed : List Unsound) → listed ≡ found → FindsAll desk i listed → Left desk answer
left_found desk answer i [] listed e finds = inl (finds.none e)
left_found desk answer i (x ∷ xs) listed e finds = inr (i, finds.held, inl (finds.some (let n = ap length e in omega (arith, n))))

left_failed : (desk : Transition (Option (List ℕ))) (i : Image) → HoldsImage desk.before i → MayLeave desk.before (live_bytes i) desk.after → Left desk rechecked.DeskFault
left_failed desk i holds (inl same) = inl same
left_failed desk i holds (inr (inl new)) = inr (i, holds, inl new)
left_failed desk i holds (inr (inr none)) = inr (i, holds, inr (refl, none))

left_by : (desk : Transition (Option (List ℕ))) (answer : Rechecked) → Rechecks desk answer → Left desk answer
left_by desk (rechecked.Found found) (i, finds) = left_found desk (rechecked.Found found) i found.items found.items refl finds
left_by desk rechecked.NoImage (none, same) = inl same
left_by desk rechecked.Cut (bytes, is, refused, same) = inl same
left_by desk (rechecked.Trailer kept computed) (bytes, is, refused, same) = inl same
left_by desk (rechecked.Form place) (bytes, is, refused, same) = inl same
left_by desk rechecked.DeskFault (inl same) = inl same
left_by desk rechecked.DeskFault (inr (i, holds, some, leaves)) = left_failed desk i holds leaves
left_by desk rechecked.NoMemory same = inl same

-- A DESK WITH AN IMAGE

-- it has that image then, or what the recheck made of it, or none where the desk failed
abbrev Ends : Transition (Option (List ℕ)) → Rechecked → Contents → Type 0
Ends desk answer now = ((w : Contents) × HasImage desk.after w × MayBeRechecked now w) ⊎ ((answer ≡ rechecked.DeskFault) × (desk.after ≡ None))

module _ (desk : Transition (Option (List ℕ))) (answer : Rechecked) (now : Contents) (has : HasImage desk.before now) where
  ends_new : (i : Image) → contents i ≡ now → LeftNew desk answer i → Ends desk answer now
  ends_new i same (inl new) =
      let found = all_found_again now has.1.together in
      inl (
        all_live now,
        (new ∙ ap (λ v. Some (image_bytes (all_live v))) same, still_image (in_image now) now (all_live now) found has.1),
        Again Never (record { fits = has.1.together; found = in_image now; is = found }),
      )
  ends_new i same (inr none) = inr none

  ends_left : Left desk answer → Ends desk answer now
  ends_left (inl same) = inl (now, (same ∙ has.0, has.1), Never)
  ends_left (inr (i, holds, left)) = ends_new i (one_image now desk.before i has holds) left

  ends_by : Rechecks desk answer → Ends desk answer now
  ends_by is = ends_left (left_by desk answer is)

-- it comes of the sessions and rechecks of before
later_still : (from now w : Contents) → Later from now → MayBeRechecked now w → Later from w
later_still from now w sofar Never = sofar
later_still from now w sofar (Again {next} rechecks again) = FoundAgain (later_still from now next sofar rechecks) again

pub rechecks_go_on : RechecksGoOn
rechecks_go_on desk answer is from (now, has, sofar) = by (ends_by desk answer now has is)
  where
    by : Ends desk answer now → HasLater from desk.after ⊎ ((answer ≡ rechecked.DeskFault) × (desk.after ≡ None))
    by (inl (w, has_w, rechecks)) = inl (w, has_w, later_still from now w sofar rechecks)
    by (inr none) = inr none

-- and the next run begins with it
none_read : {X : Type 0} (held : Option (List ℕ)) (read : Image) → held ≡ None → HoldsImage held read → X
none_read held read none (bytes, is, answers) = absurd (cc (none, is))

pub rechecks_begin : RechecksBegin
rechecks_begin last desk answer read has is holds = by (ends_by desk answer last has is)
  where
    by : Ends desk answer last → BeginsAfter last (begun (contents read))
    by (inl (w, has_w, rechecks)) = (w, rechecks, runs_go_on w desk.after read has_w holds)
    by (inr (failed, none)) = none_read desk.after read none holds

-- A DESK WITHOUT ONE

still_none : (desk : Transition (Option (List ℕ))) (answer : Rechecked) → desk.before ≡ None → Left desk answer → desk.after ≡ None
still_none desk answer none (inl same) = same ∙ none
still_none desk answer none (inr (i, (bytes, is, answers), left)) = absurd (cc (none, is))

pub none_stays : (desk : Transition (Option (List ℕ))) (answer : Rechecked) → Rechecks desk answer → desk.before ≡ None → desk.after ≡ None
none_stays desk answer is none = still_none desk answer none (left_by desk answer is)
