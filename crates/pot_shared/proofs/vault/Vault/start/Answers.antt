use Rattle.std.proofs.Common.{◌∙◌, refl}
use Rattle.pot_group.specs.Group.{view_of}
use Rattle.pot_shared.proofs.StartLemmas.{first_ready, more_parts, first_cut_ready, all_but_kept, are_first, back_idle, back_parts, back_untouched, index_ready, index_parts}
use Rattle.pot_shared.proofs.vault.Vault.start.Goals as goal

pub share_index-requires-clause-ready : goal.share_index-requires-clause-ready
share_index-requires-clause-ready g c =
    first_ready (λ m. view_of g.A.Archive.account.meaning m.group) c.args.members.items c.args.rack.now c.in-Ok-start.made.0.names c.in-Ok-start.made.1 c.in-Ok-start.ensures.own c.in-Ok-start.ensures.first c.requires.groups

pub share_index-requires-clause-parts : goal.share_index-requires-clause-parts
share_index-requires-clause-parts g c =
    more_parts (λ m. view_of g.A.Archive.account.meaning m.group) c.args.members.items c.args.rack.now c.in-Ok-start.made.0.names c.in-Ok-start.made.1 c.in-Ok-start.ensures.own c.in-Ok-start.ensures.first c.requires.groups

pub close-requires-clause-idle : goal.close-requires-clause-idle
close-requires-clause-idle g c =
    back_idle (λ m. view_of g.A.Archive.account.meaning m.group) c.args.members.items c.args.rack.now c.in-Ok-start.made.0.names c.in-Ok-start.made.1 c.in-Ok-start.ensures.own c.in-Ok-start.ensures.first c.requires.groups
    c.share_index.new.passes c.share_index.ensures.own c.in-Err-share_index.ensures.refused.1

pub close-requires-clause-all : goal.close-requires-clause-all
close-requires-clause-all g c =
    back_parts (λ m. view_of g.A.Archive.account.meaning m.group) c.args.members.items c.args.rack.now c.in-Ok-start.made.0.names c.in-Ok-start.made.1 c.in-Ok-start.ensures.own c.in-Ok-start.ensures.first c.requires.groups
    c.share_index.new.passes c.share_index.ensures.own c.in-Err-share_index.ensures.refused.1

pub returns-in-Ok-share_index-clause-ready : goal.returns-in-Ok-share_index-clause-ready
returns-in-Ok-share_index-clause-ready g c = (
  first_cut_ready (λ m. view_of g.A.Archive.account.meaning m.group) c.args.members.items c.args.rack.now c.in-Ok-start.made.0.names c.in-Ok-start.made.1 c.in-Ok-start.ensures.own c.in-Ok-start.ensures.first c.requires.groups
      c.share_index.new.passes c.share_index.ensures.own c.in-Ok-share_index.ensures.left,
  index_ready c.args.rack.now c.in-Ok-start.made.0.names c.in-Ok-share_index.turn.names c.in-Ok-share_index.pass _ c.in-Ok-share_index.ensures.made.0 c.in-Ok-share_index.ensures.made.1 refl refl,
)

pub returns-in-Ok-share_index-clause-parts : goal.returns-in-Ok-share_index-clause-parts
returns-in-Ok-share_index-clause-parts g c = (
  all_but_kept (λ m. view_of g.A.Archive.account.meaning m.group) c.args.members.items c.args.rack.now c.in-Ok-start.made.0.names c.in-Ok-start.made.1 c.in-Ok-start.ensures.own c.in-Ok-start.ensures.first c.requires.groups
      c.share_index.new.passes c.share_index.ensures.own c.in-Ok-share_index.ensures.left,
  index_parts c.in-Ok-share_index.turn.names c.in-Ok-share_index.pass _ c.in-Ok-share_index.ensures.made.0 c.in-Ok-share_index.ensures.made.1,
)

pub returns-in-Ok-share_index-clause-first : goal.returns-in-Ok-share_index-clause-first
returns-in-Ok-share_index-clause-first g c =
    are_first (λ m. view_of g.A.Archive.account.meaning m.group) c.args.members.items c.args.rack.now c.in-Ok-start.made.0.names c.in-Ok-start.made.1 c.in-Ok-start.ensures.own c.in-Ok-start.ensures.first c.requires.groups
    c.share_index.new.passes c.share_index.ensures.own c.in-Ok-share_index.ensures.left

pub returns-in-Err-share_index-clause-refused : goal.returns-in-Err-share_index-clause-refused
returns-in-Err-share_index-clause-refused g c = (
  c.in-Err-share_index.ensures.refused.0,
  c.close.ensures.untouched (back_untouched (λ m. view_of g.A.Archive.account.meaning m.group) c.args.members.items c.args.rack.now c.in-Ok-start.made.0.names c.in-Ok-start.made.1 c.in-Ok-start.ensures.own c.in-Ok-start.ensures.first c.requires.groups
      c.share_index.new.passes c.share_index.ensures.own c.in-Err-share_index.ensures.refused.1) ∙ c.in-Ok-start.ensures.made,
)
