use Rattle.std.proofs.Common.{◌<◌, ◌∙◌, length, IsTrue}
use Rattle.std.proofs.lemmas.Option.{slice_get_within, get_or_from_slice_get}
use denote.Param.Send.{param_send, arg_send}
use denote.Exit.{no}
use Rattle.pot_shared.proofs.Crossing.{send_start}
use Rattle.pot_shared.proofs.TakenIn.{ready_at, worked_at}
use Rattle.pot_shared.proofs.group_start.start_all.Goals as goal

pub for_each_mut-requires-send-T : goal.for_each_mut-requires-send-T
for_each_mut-requires-send-T g c κs within = param_send 1 _ (arg_send _ no _ (send_start _ g.A.Archive c.type_bounds.send-A))

pub for_each_mut-requires-clause-accepts : goal.for_each_mut-requires-clause-accepts
for_each_mut-requires-clause-accepts g c κs within i p l e = ready_at c.requires.can.0 c.args.starts.now c.requires.can.1 i p.now l e

pub returns : goal.returns
returns g c = record {
  left = λ tables can. record {
    count = c.for_each_mut.auto.s;
    each = λ n s r t es er et.
        (let l : n < length c.args.starts.now = slice_get_within _ n s es in let one = (c.for_each_mut.ensures n r l).1 in
        worked_at (IsTrue g.A.Archive.account.tells) g.A.Archive.account.meaning t s _ _ r (one.argument_is ∙ get_or_from_slice_get _ n s r es) (one.left ∙ get_or_from_slice_get _ n r r er) (can.each n s t es et) one.call);
  };
}
