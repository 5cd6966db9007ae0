use Rattle.std.proofs.Common.{◌∙◌, ◌++◌, ap, sym}
use Rattle.std.proofs.lemmas.List.{append-nil, nil_from_length}
use Rattle.std.specs.Prelude.{map}
use Rattle.std.specs.Vec.Iter.{into_iter_len}
use Rattle.pot_turn.specs.Passes.{view, turn_of, name_of, made_with}
use Rattle.pot_rows.proofs.EndLemmas.{next_idle, next_all, next_untouched, close_more, close_all, made_more}
use Rattle.pot_rows.proofs.Turns.close.Goals as goal

pub close-requires-clause-idle : goal.close-requires-clause-idle
close-requires-clause-idle g c =
    next_idle g.T.Kept.log g.T.Kept.origin c.args.passes _ _ _ c.loop-turn.values.items c.loop-turn.invariant.0 _ _ _ _
    (ap (map turn_of) c.in-Some-next.ensures.items) (ap (map view) c.in-Some-next.ensures.items) c.requires.idle

pub close-requires-clause-all : goal.close-requires-clause-all
close-requires-clause-all g c =
    next_all g.T.Kept.log g.T.Kept.origin c.args.passes _ _ _ c.loop-turn.values.items c.loop-turn.invariant.0 _ _ _ _
    (ap (map turn_of) c.in-Some-next.ensures.items) (ap (map view) c.in-Some-next.ensures.items) c.requires.all

pub loop-turn-preserved : goal.loop-turn-preserved
loop-turn-preserved g c =
    let is = c.close.ensures in (
      close_more g.T.Kept.log g.T.Kept.origin c.args.passes _ _ _ c.loop-turn.values.items c.loop-turn.invariant.0 (into_iter_len c.next.new.self) _ _ _ c.close.result _ _ _
          c.in-Some.ensures.len (ap (map name_of) c.in-Some.ensures.items) (ap (map turn_of) c.in-Some-next.ensures.items) (ap (map view) c.in-Some-next.ensures.items) c.push_reserved.ensures.items
          (record { seen = is.seen; since = is.opened; named = is.origin; made = is.made; once = is.once; jobs = is.jobs }),
      c.push_reserved.ensures.capacity ∙ c.loop-turn.invariant.1,
      λ free. made_more made_with _ _ c.in-Some.turn c.loop-turn.values.items _ _ c.close.result c.in-Some.ensures.items c.push_reserved.ensures.items
          (is.untouched (next_untouched g.T.Kept.log g.T.Kept.origin c.args.passes _ _ _ c.loop-turn.values.items c.loop-turn.invariant.0 _ _ _ _
          (ap (map turn_of) c.in-Some-next.ensures.items) (ap (map view) c.in-Some-next.ensures.items) free)) (c.loop-turn.invariant.2 free),
    )

pub returns-clause-closed : goal.returns-clause-closed
returns-clause-closed g c =
    close_all g.T.Kept.log g.T.Kept.origin c.args.passes _ _ _ c.loop-turn.values.items c.loop-turn.invariant.0 c.in_default.ensures.cases.0

pub returns-clause-untouched : goal.returns-clause-untouched
returns-clause-untouched g c free =
    let none = nil_from_length c.loop-turn.turns.rest.items (sym c.loop-turn.turns.rest.ok.0 ∙ c.in_default.ensures.cases.0) in
    sym (append-nil c.loop-turn.values.items) ∙ (ap (λ ts. c.loop-turn.values.items ++ map made_with ts) (sym none) ∙ c.loop-turn.invariant.2 free)
