use Rattle.std.proofs.Common.{◌∙◌, sym}
use Rattle.pot_group.specs.Group.{view_of}
use Rattle.pot_shared.proofs.MemberLemmas.{all_long}
use Rattle.pot_shared.proofs.member.MemberKept.length.Goals as goal

pub returns : goal.returns
returns g c =
    c.logged.ensures.value
    ∙ sym (all_long (view_of g.A.Archive.account.meaning c.args.self.now.group).shelves c.args.self.now.group.blinds c.args.self.now.group.log)
