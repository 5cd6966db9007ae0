use Rattle.std.proofs.Common.{◌≡◌, ◌++◌, ◌∷◌, [], List, subst, sym}
use Rattle.std.specs.Prelude.{All, codes}
use Rattle.std.proofs.lemmas.List.Elements.{All-append, All-cons, All-nil}
use Rattle.pot_tree.specs.declared.entry.Entry.{Entry}
use Rattle.pot_tree.specs.Entries.{IsEntry, entry_text, list_text}
use Rattle.pot_tree.proofs.Reading.{read_more}
use Rattle.pot_tree.proofs.lines.read_list.Goals as goal

pub loop-left-preserved : goal.loop-left-preserved
loop-left-preserved c = record {
  text_is =
      subst (λ (es : List Entry). c.args.text.now ≡ list_text es ++ c.first_line.result.1.now) (sym c.in_ok-push.ensures.items)
      (read_more entry_text (codes "#mtree\n") c.loop-left.entries.items c.in_ok-read_entry.field-0 c.args.text.now c.loop-left.left.now c.first_line.result.0.now c.first_line.result.1.now
      c.loop-left.invariant.text_is c.first_line.ensures.whole c.in_ok-read_entry.ensures.0);
  each =
      subst (λ (es : List Entry). All IsEntry es) (sym c.in_ok-push.ensures.items)
      (All-append IsEntry c.loop-left.entries.items (c.in_ok-read_entry.field-0 ∷ []) c.loop-left.invariant.each
      (All-cons IsEntry c.in_ok-read_entry.field-0 [] c.in_ok-read_entry.ensures.1 (All-nil IsEntry)));
}
