use Rattle.std.proofs.Common.{◌≡◌, take}
use Rattle.pot_commands.specs.Ends.{texts_of}
use Rattle.pot_commands.proofs.output.print_replies.Given as goal

abbrev pub invariant-loop-reply : goal.invariant-loop-reply
invariant-loop-reply l = l.text.items ≡ texts_of (take l.reply-index l.replies)
