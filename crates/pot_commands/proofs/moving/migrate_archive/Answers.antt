use Rattle.std.proofs.Common.{refl, sym, subst, arith}
use Rattle.pot_replies.specs.Sections.{MovesThenRest, work_of}
use Rattle.pot_shared.specs.Works.{known, section_of}
use Rattle.pot_commands.specs.Rows.{IsMigrateReply}
use Rattle.pot_commands.proofs.MovedLemmas.{both_says, both_took, both_used, both_work, unbegun_answer}
use Rattle.pot_commands.proofs.TakingLemmas.{took_wider}
use Rattle.pot_commands.proofs.moving.migrate_archive.Goals as goal

pub returns-in-Err-clause-says : goal.returns-in-Err-clause-says
returns-in-Err-clause-says g c alone s set =
    unbegun_answer s c.args.job c.args.from c.args.to c.in-Err.answer (section_of (known c.args.passes.now.groups c.args.passes.now.index) (known c.begin_move.new.passes.groups c.begin_move.new.passes.index))
    (c.in-Err.ensures.says alone s set)

pub returns-in-Err-clause-took : goal.returns-in-Err-clause-took
returns-in-Err-clause-took g c = took_wider _ _ _ _ _ _ _ _ _ (λ n. omega arith) (λ w e. w (cc e)) c.in-Err.ensures.took

pub returns-clause-worked : goal.returns-clause-worked
returns-clause-worked g c = both_work c.args.shared.now.vault.now.rack c.args.shared.now.vault.now.groups c.args.shared.now.vault.now.index c.args.job c.args.from c.args.to c.in-Ok.at.group c.in-Ok.at.column c.args.passes.now.groups c.begin_move.new.passes.groups c.migrate-moved.new.passes.groups
    c.args.passes.now.index c.begin_move.new.passes.index c.migrate-moved.new.passes.index c.requires.can.ready c.begin_move.ensures.can.ready c.migrate-moved.ensures.ready c.requires.can.index_ready c.begin_move.ensures.index c.migrate-moved.ensures.index
    c.begin_move.ensures.worked c.migrate-moved.ensures.worked

pub returns-clause-says : goal.returns-clause-says
returns-clause-says g c alone s set its =
    let w = section_of (known c.args.passes.now.groups c.args.passes.now.index) (known c.migrate-moved.new.passes.groups c.migrate-moved.new.passes.index) in
    subst (λ r. (h : MovesThenRest w) × IsMigrateReply s w.before h.begun c.args.job c.args.from c.args.to r (work_of w h)) (sym c.move_reply.ensures)
    (both_says c.args.shared.now.vault.now.rack c.args.shared.now.vault.now.groups c.args.shared.now.vault.now.index c.args.job c.args.from c.args.to c.in-Ok.at.group c.in-Ok.at.column c.args.passes.now.groups c.begin_move.new.passes.groups c.migrate-moved.new.passes.groups
    c.args.passes.now.index c.begin_move.new.passes.index c.migrate-moved.new.passes.index c.requires.can.ready c.begin_move.ensures.can.ready c.migrate-moved.ensures.ready c.requires.can.index_ready c.begin_move.ensures.index c.migrate-moved.ensures.index
    c.begin_move.ensures.worked c.migrate-moved.ensures.worked c.migrate-moved.result c.migrate-moved.ensures.says alone s set its c.in-Ok.ensures.says)

pub returns-clause-used : goal.returns-clause-used
returns-clause-used g c = both_used c.args.shared.now.vault.now.rack c.args.shared.now.vault.now.groups c.args.shared.now.vault.now.index c.args.job c.args.from c.args.to c.in-Ok.at.group c.in-Ok.at.column c.args.passes.now.groups c.begin_move.new.passes.groups c.migrate-moved.new.passes.groups
    c.args.passes.now.index c.begin_move.new.passes.index c.migrate-moved.new.passes.index c.requires.can.ready c.begin_move.ensures.can.ready c.migrate-moved.ensures.ready c.requires.can.index_ready c.begin_move.ensures.index c.migrate-moved.ensures.index
    c.begin_move.ensures.worked c.migrate-moved.ensures.worked (g.R.Room.meaning c.begin_move.new.room) (g.R.Room.meaning c.begin_move.new.room) (λ n. refl) c.begin_move.ensures.used

pub returns-clause-took : goal.returns-clause-took
returns-clause-took g c = both_took c.args.shared.now.vault.now.rack c.args.shared.now.vault.now.groups c.args.shared.now.vault.now.index c.args.job c.args.from c.args.to c.in-Ok.at.group c.in-Ok.at.column c.args.passes.now.groups c.begin_move.new.passes.groups c.migrate-moved.new.passes.groups
    c.args.passes.now.index c.begin_move.new.passes.index c.migrate-moved.new.passes.index c.requires.can.ready c.begin_move.ensures.can.ready c.migrate-moved.ensures.ready c.requires.can.index_ready c.begin_move.ensures.index c.migrate-moved.ensures.index
    c.begin_move.ensures.worked c.migrate-moved.ensures.worked c.migrate-moved.result c.migrate-moved.ensures.says _ _ _ _ _ (λ e. cc) c.in-Ok.ensures.took _
