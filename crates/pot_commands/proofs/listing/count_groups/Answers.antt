use Rattle.std.proofs.Common.{◌≡◌, ◌+◌, refl, ap, sym, ◌∙◌, subst, arith}
use Rattle.pot_bytes.specs.declared.rack.Rack.{Rack}
use Rattle.pot_replies.specs.Settings.{Setting}
use Rattle.pot_shared.specs.Works.{JobWroteOnly, JobOnlyWriter, IsSettingOf, known, section_of}
use Rattle.pot_commands.specs.Rows.{AreStatusReplies}
use Rattle.pot_commands.proofs.StatusLemmas.{begins_counting, counting_more, counted_worked, counted_says}
use Rattle.pot_commands.proofs.listing.count_groups.Goals as goal

pub loop-group-init : goal.loop-group-init
loop-group-init g c = record {
  can = c.requires.can;
  counting = begins_counting _ _ _ _ _ _ c.requires.can.ready c.in_ok-replies.ensures.items;
  index = refl;
  long = c.in_ok-replies.ensures.len;
  room = c.in_ok-replies.ensures.exact;
}

pub loop-group-preserved : goal.loop-group-preserved
loop-group-preserved g c = record {
  can = c.count_group-reply.ensures.can;
  counting =
      counting_more _ _ _ _ _ _ _ _ _ _ c.loop-group.invariant.counting (let r = ap (λ (r : Rack). r.groups) c.rack.ensures in omega (arith, r, c.requires.can.count, c.loop-group-test.true)) c.count_group-reply.ensures.counts
      _ c.push_reserved.ensures.items c.count_group-reply.ensures.can.ready;
  index = c.count_group-reply.ensures.index ∙ c.loop-group.invariant.index;
  long = c.push_reserved.ensures.len ∙ ap (λ n. n + 1) c.loop-group.invariant.long;
  room = c.push_reserved.ensures.capacity ∙ c.loop-group.invariant.room;
}

pub returns-clause-worked : goal.returns-clause-worked
returns-clause-worked g c =
    subst (λ i. JobWroteOnly c.args.job (known c.args.passes.now.groups c.args.passes.now.index) (known c.loop-group.passes.groups i)) (sym c.loop-group.invariant.index)
    (counted_worked _ _ _ _ _ _ _ _ _ _ c.requires.can.index_ready c.loop-group.invariant.counting)

pub returns-clause-says : goal.returns-clause-says
returns-clause-says g c =
    let all : c.loop-group.group ≡ c.args.shared.now.vault.now.rack.groups = (let r = ap (λ (r : Rack). r.groups) c.rack.ensures in omega (arith, r, c.loop-group.auto.group-end, c.loop-group-test.false)) in
    subst (λ i. JobOnlyWriter c.args.job (known c.args.passes.now.groups c.args.passes.now.index) (known c.loop-group.passes.groups i)
    → (s : Setting) → IsSettingOf s c.args.shared.now.vault.now.rack (known c.args.passes.now.groups c.args.passes.now.index)
    → AreStatusReplies s c.args.job c.loop-group.replies.items (section_of (known c.args.passes.now.groups c.args.passes.now.index) (known c.loop-group.passes.groups i)))
    (sym c.loop-group.invariant.index)
    (λ alone s setting. counted_says _ _ _ _ _ _ _ _ _ c.loop-group.invariant.counting all c.requires.can.count c.requires.can.ready.of.0 alone s setting)
