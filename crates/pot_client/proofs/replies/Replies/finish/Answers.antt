use Rattle.std.proofs.Common.{◌≡◌, ◌≢◌, ◌++◌, ℕ, List, [], refl, sym, ap, ◌∙◌}
use Rattle.std.specs.Prelude.{Option, Some, None}
use Rattle.pot_script.specs.declared.reply.Reply.{Reply}
use Rattle.pot_script.specs.declared.reply.Reply.TheVariants as replies
use Rattle.pot_client.specs.declared.kind.ReplyKind.{ReplyKind}
use Rattle.pot_client.specs.declared.kind.ReplyKind.TheVariants as kinds
use Rattle.pot_client.specs.ReplyKinds.{kind_of}
use Rattle.pot_client.specs.ReplyTexts.{EndsReply, ReadsReplyLine}
use Rattle.pot_client.specs.ReplyWords.{behind}
use Rattle.pot_client.proofs.replies.Replies.finish.Goals as goal

-- nothing stands behind another line
nothing_behind : (r : Reply) → kind_of r ≢ kinds.File → kind_of r ≢ kinds.Names → behind r ≡ []
nothing_behind (replies.File name bytes) file names = absurd (file refl)
nothing_behind (replies.Names l) file names = absurd (names refl)
nothing_behind _ file names = refl

whole_line : (kind : ReplyKind) (words : List (List ℕ)) (rest : List ℕ) (result : Option Reply) → kind ≢ kinds.File → kind ≢ kinds.Names → ReadsReplyLine kind words result → EndsReply kind words rest rest result
whole_line kind words rest None file names read = λ r after at e. read r at
whole_line kind words rest (Some r) file names read =
    (read, ap (λ (l : List ℕ). l ++ rest) (sym (nothing_behind r (λ e. file (sym read.kind_is ∙ e)) (λ e. names (sym read.kind_is ∙ e)))))

pub returns-in_default : goal.returns-in_default
returns-in_default c = whole_line c.args.kind c.args.words c.args.self.now c.read_line.result c.in_default.not-File c.in_default.not-Names c.read_line.ensures
