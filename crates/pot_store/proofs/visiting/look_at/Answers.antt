use Rattle.std.proofs.Common.{◌<◌, IsTrue, length, arith}
use Rattle.pot_group.specs.declared.answers.Looked.TheVariants as looked
use Rattle.pot_store.proofs.VisitLemmas.{looks_as}
use Rattle.pot_store.proofs.visiting.look_at.Goals as goal

pub returns-in-Seen-clause-looks : goal.returns-in-Seen-clause-looks
returns-in-Seen-clause-looks g c =
    let within : c.args.place.group < length c.args.passes.now.groups.views = (let a = c.requires.place.0 in let b = c.requires.ready.of.1 in omega (arith, a, b)) in
    looks_as (IsTrue g.A.Archive.account.tells) c.args.caller.now.job c.args.place c.look.new.into c.look.result c.args.passes.now.groups c.look.new.passes.groups within c.look.ensures.call c.requires.ready.idle looked.Seen c.in-Seen.is

pub returns-in-Gone-clause-looks : goal.returns-in-Gone-clause-looks
returns-in-Gone-clause-looks g c =
    let within : c.args.place.group < length c.args.passes.now.groups.views = (let a = c.requires.place.0 in let b = c.requires.ready.of.1 in omega (arith, a, b)) in
    looks_as (IsTrue g.A.Archive.account.tells) c.args.caller.now.job c.args.place c.look.new.into c.look.result c.args.passes.now.groups c.look.new.passes.groups within c.look.ensures.call c.requires.ready.idle looked.Gone c.in-Gone.is

pub returns-in-Faulted-clause-looks : goal.returns-in-Faulted-clause-looks
returns-in-Faulted-clause-looks g c =
    let within : c.args.place.group < length c.args.passes.now.groups.views = (let a = c.requires.place.0 in let b = c.requires.ready.of.1 in omega (arith, a, b)) in
    looks_as (IsTrue g.A.Archive.account.tells) c.args.caller.now.job c.args.place c.look.new.into c.look.result c.args.passes.now.groups c.look.new.passes.groups within c.look.ensures.call c.requires.ready.idle (looked.Faulted c.in-Faulted.column) c.in-Faulted.is

pub returns-in-LogFull-clause-looks : goal.returns-in-LogFull-clause-looks
returns-in-LogFull-clause-looks g c =
    let within : c.args.place.group < length c.args.passes.now.groups.views = (let a = c.requires.place.0 in let b = c.requires.ready.of.1 in omega (arith, a, b)) in
    looks_as (IsTrue g.A.Archive.account.tells) c.args.caller.now.job c.args.place c.look.new.into c.look.result c.args.passes.now.groups c.look.new.passes.groups within c.look.ensures.call c.requires.ready.idle looked.LogFull c.in-LogFull.is
