use Rattle.std.proofs.Common.{refl, sym, subst}
use Rattle.pot_replies.specs.Fetches.{IsFile}
use Rattle.pot_store.specs.Fetches.{FetchRow}
use Rattle.pot_commands.proofs.answering.fetch_reply.Goals as goal

pub returns-in-Ok : goal.returns-in-Ok
returns-in-Ok c s job w row =
    let its = subst (λ a. FetchRow s job c.args.name.now a w) c.in-Ok.is row in
    (refl, subst (λ b. IsFile s job c.args.name.now b w) (sym c.from_vec.ensures) its)
