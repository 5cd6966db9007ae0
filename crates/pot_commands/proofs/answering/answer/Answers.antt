use Rattle.std.proofs.Common.{[], ◌∷◌, ◌++◌, refl, sym, ap, ◌∙◌, arith}
use lib.Seq.{drop-length}
use Rattle.pot_group.specs.Arrivals.{arrivals}
use Rattle.pot_rows.specs.Rows.{view_at}
use Rattle.pot_shared.specs.Members.{entries_of}
use Rattle.pot_shared.specs.Works.{known, section_of}
use Rattle.pot_commands.specs.Taking.{asks}
use Rattle.pot_commands.proofs.AnswerLemmas.{asks_none, migrate_replies}
use Rattle.pot_commands.proofs.Brought.{answered_none}
use Rattle.pot_commands.proofs.TakingLemmas.{took_none, used_more}
use Rattle.pot_commands.proofs.answering.answer.Goals as goal

pub returns-in_default-with_capacity-clause-took : goal.returns-in_default-with_capacity-clause-took
returns-in_default-with_capacity-clause-took g c =
    took_none _ _ (asks c.args.command.now) _ _ _ _ (λ n. refl) (λ n. refl) (λ sole h. ap (λ ls. arrivals (entries_of ls)) (drop-length (view_at c.args.passes.now.groups h).seen))

pub returns-in_default-with_capacity-2-clause-took : goal.returns-in_default-with_capacity-2-clause-took
returns-in_default-with_capacity-2-clause-took g c =
    took_none _ _ (asks c.args.command.now) _ _ _ _ (λ n. refl) (λ n. refl) (λ sole h. ap (λ ls. arrivals (entries_of ls)) (drop-length (view_at c.args.passes.now.groups h).seen))

pub returns-in_ok-reply-in-Migrate-clause-says : goal.returns-in_ok-reply-in-Migrate-clause-says
returns-in_ok-reply-in-Migrate-clause-says g c alone s set =
    migrate_replies s c.args.job c.args.command.now c.in-Migrate.from c.in-Migrate.to c.in_ok-reply-in-Migrate.reply c.push_reserved-in-Migrate.new.self.items
    (section_of (known c.args.passes.now.groups c.args.passes.now.index) (known c.migrate_archive.new.passes.groups c.migrate_archive.new.passes.index)) c.in-Migrate.is
    (c.push_reserved-in-Migrate.ensures.items ∙ ap (λ l. l ++ c.in_ok-reply-in-Migrate.reply ∷ []) c.in-Ok-with_capacity.ensures.items) (c.in_ok-reply-in-Migrate.ensures.says alone s set.setting)

pub returns-in-Ok-answer_plain : goal.returns-in-Ok-answer_plain
returns-in-Ok-answer_plain g c =
    record {
      can = c.answer_plain.ensures.can;
      worked = c.answer_plain.ensures.worked;
      blinds = c.answer_plain.ensures.blinds;
      says = c.in-Ok-answer_plain.ensures.says;
      asked = λ e. absurd (cc);
      used = used_more c.args.job (g.R.Room.meaning c.args.room.now) (g.R.Room.meaning c.args.room.now) c.args.passes.now.groups c.answer_plain.new.passes.groups c.answer_plain.ensures.worked.groups
          (c.answer_plain.ensures.can.ready.of.0 ∙ sym c.requires.can.ready.of.0) (λ n. refl) c.requires.used;
      took = took_none _ _ (asks c.args.command.now) _ _ _ _ (λ n. refl) (λ n. refl)
          (answered_none c.args.shared.now.vault.now.rack c.args.shared.now.seed.now c.args.shared.now.session c.args.job c.args.command.now (asks_none c.args.command.now c.in_default.not-Replace c.in_default.not-Migrate)
          (known c.args.passes.now.groups c.args.passes.now.index) (known c.answer_plain.new.passes.groups c.answer_plain.new.passes.index) c.requires.filled c.answer_plain.ensures.worked c.answer_plain.result c.answer_plain.ensures.says);
      cause = record { later = omega arith; rose = λ e. absurd (cc) };
      own = record { later = omega arith; rose = λ e. absurd (cc); still = λ none. refl };
    }

pub returns-in-Err : goal.returns-in-Err
returns-in-Err g c =
    record {
      can = c.answer_plain.ensures.can;
      worked = c.answer_plain.ensures.worked;
      blinds = c.answer_plain.ensures.blinds;
      says = c.in-Err.ensures.says;
      asked = λ e. absurd (cc);
      used = used_more c.args.job (g.R.Room.meaning c.args.room.now) (g.R.Room.meaning c.args.room.now) c.args.passes.now.groups c.answer_plain.new.passes.groups c.answer_plain.ensures.worked.groups
          (c.answer_plain.ensures.can.ready.of.0 ∙ sym c.requires.can.ready.of.0) (λ n. refl) c.requires.used;
      took = took_none _ _ (asks c.args.command.now) _ _ _ _ (λ n. refl) (λ n. refl)
          (answered_none c.args.shared.now.vault.now.rack c.args.shared.now.seed.now c.args.shared.now.session c.args.job c.args.command.now (asks_none c.args.command.now c.in_default.not-Replace c.in_default.not-Migrate)
          (known c.args.passes.now.groups c.args.passes.now.index) (known c.answer_plain.new.passes.groups c.answer_plain.new.passes.index) c.requires.filled c.answer_plain.ensures.worked c.answer_plain.result c.answer_plain.ensures.says);
      cause = record { later = omega arith; rose = λ e. absurd (cc) };
      own = record { later = omega arith; rose = λ e. absurd (cc); still = λ none. refl };
    }
