use Rattle.std.proofs.Common.{subst}
use Rattle.std.specs.Prelude.{Err}
use Rattle.pot_outside.specs.Accounts.{transition_by}
use Rattle.pot_outside.specs.Desks.{Images, MayCome, image_transition, now_in}
use Rattle.pot_image.specs.Images.{contents}
use Rattle.pot_image.specs.Spelling.{image_bytes}
use Rattle.pot_image.specs.Rules.{IsImage}
use Rattle.pot_session.specs.Desks.{IfWritten, DeskKeeps, begun}
use Rattle.pot_session.specs.Runs.{AtScript, AtOpening}
use Rattle.pot_session.proofs.BeginLemmas.{begun_image, begun_countable}
use Rattle.pot_session.proofs.CloseImages.{if_written}
use Rattle.pot_session.proofs.session.preparing.prepare.Goals as goal

pub keep_image-requires : goal.keep_image-requires
keep_image-requires g c = begun_countable c.in_ok-image.image (contents c.in-Ok.read) c.in_ok-image.ensures c.in-Ok.ensures.fits

pub returns-in-Err-read_steps-clause-stops : goal.returns-in-Err-read_steps-clause-stops
returns-in-Err-read_steps-clause-stops g c = AtScript c.in-Ok.read c.in-Ok.ensures.opens.0 c.in-Ok.ensures.opens.1 c.in-Err-read_steps.ensures.bad c.open_desk.ensures.keeps

pub returns-in-Ok-keep_image-clause-prepared : goal.returns-in-Ok-keep_image-clause-prepared
returns-in-Ok-keep_image-clause-prepared g c = record {
  read = c.in-Ok.read;
  of = record { goes_on = c.in-Ok.ensures.opens.0; image = c.in-Ok.ensures.opens.1; script = c.in-Ok-read_steps.ensures.script };
  is = c.in_ok-image.ensures;
  rules = begun_image (contents c.in-Ok.read) (contents c.in_ok-image.image) c.in_ok-image.ensures c.in-Ok.ensures.fits c.in-Ok-keep_image.ensures.whole;
  kept = c.in-Ok-keep_image.ensures.told;
  came = λ t. subst (λ (h : Images). MayCome h.past (image_bytes (contents c.in_ok-image.image)) (g.D.Desk.account.meaning c.keep_image.new.desk).held.past) (c.open_desk.ensures.keeps t) (c.keep_image.ensures.came t);
  had = λ t. c.keep_image.ensures.had t (c.open_desk.ensures.had t);
}

pub returns-in-Err-keep_image-clause-stops : goal.returns-in-Err-keep_image-clause-stops
returns-in-Err-keep_image-clause-stops g c =
    AtOpening c.in-Ok.read c.in-Ok-read_steps.steps.items (record { goes_on = c.in-Ok.ensures.opens.0; image = c.in-Ok.ensures.opens.1; script = c.in-Ok-read_steps.ensures.script }) c.in-Err-keep_image.ensures.which
    (subst (λ v. IfWritten (Err c.in-Err-keep_image.stop) (IsImage v)) c.in_ok-image.ensures
    (if_written (Err c.in-Err-keep_image.stop) (begun_image (contents c.in-Ok.read) (contents c.in_ok-image.image) c.in_ok-image.ensures c.in-Ok.ensures.fits) c.in-Err-keep_image.ensures.whole))
    (λ t. subst (λ (h : Images). DeskKeeps (now_in (transition_by g.D.Desk.account.tells h (g.D.Desk.account.meaning c.keep_image.new.desk).held)) (image_bytes (begun (contents c.in-Ok.read))) (Err c.in-Err-keep_image.stop)) (c.open_desk.ensures.keeps t)
    (subst (λ v. DeskKeeps (image_transition g.D.Desk.account c.open_desk.new.desk c.keep_image.new.desk) (image_bytes v) (Err c.in-Err-keep_image.stop)) c.in_ok-image.ensures (c.in-Err-keep_image.ensures.told t)))
    (λ t. subst (λ (h : Images). MayCome h.past (image_bytes (begun (contents c.in-Ok.read))) (g.D.Desk.account.meaning c.keep_image.new.desk).held.past) (c.open_desk.ensures.keeps t)
    (subst (λ v. MayCome (g.D.Desk.account.meaning c.open_desk.new.desk).held.past (image_bytes v) (g.D.Desk.account.meaning c.keep_image.new.desk).held.past) c.in_ok-image.ensures (c.keep_image.ensures.came t)))
