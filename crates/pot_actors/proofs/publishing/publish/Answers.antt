use Rattle.std.proofs.Common.{◌≡◌, Bool, Some, length, refl, ap, sym, subst, ◌∙◌, arith}
use Rattle.pot_index.specs.declared.entry.IndexEntry.TheVariants as entry
use Rattle.pot_index.specs.declared.record.Record.{Record}
use Rattle.pot_index.specs.Entries.{bringing}
use Rattle.pot_index.specs.Index.{same_name}
use Rattle.pot_index.specs.Records.{mark_of, renewed}
use Rattle.pot_world.specs.World.{split_of}
use Rattle.pot_actors.specs.Ends.{EndsByEntry}
use Rattle.pot_actors.specs.Ledgers.{names_of}
use Rattle.pot_actors.specs.Splits.{under_way_of}
use Rattle.pot_actors.proofs.EndLemmas.{may_not_absent, may_not_often, may_renew, renewal_ends, stands}
use Rattle.pot_actors.proofs.NameLemmas.{found_at, not_found}
use Rattle.pot_actors.proofs.publishing.publish.Goals as goal

pub returns-in_default : goal.returns-in_default
returns-in_default c =
    let p : Record → Bool = λ r. same_name r.name c.args.split.now.name in
    (may_not_absent (names_of c.args.names.now) (under_way_of c.args.split.now) c.if-not-split.false (not_found p c.args.names.now.records.items (sym c.in_default.ensures)), (refl, refl))

pub returns-then-as_slice-ge15 : goal.returns-then-as_slice-ge15
returns-then-as_slice-ge15 c =
    let p : Record → Bool = λ r. same_name r.name c.args.split.now.name in
    let r = c.index.result.now in
    let e = (found_at p c.args.names.now.records.items c.in-Some.at r (sym c.in-Some.ensures)).1 ∙ ap Some (sym c.index.ensures) in
    (may_not_often (names_of c.args.names.now) (under_way_of c.args.split.now) c.if-not-split.false r e (omega (arith, c.if-as_slice-ge15.true, ap length c.as_slice.ensures.value)), (refl, refl))

pub publish_renewal-requires-clause-stands : goal.publish_renewal-requires-clause-stands
publish_renewal-requires-clause-stands c =
    let p : Record → Bool = λ r. same_name r.name c.args.split.now.name in
    stands c.args.names.now.records.items c.args.split.now.name c.in-Some.at (sym c.in-Some.ensures) (found_at p c.args.names.now.records.items c.in-Some.at c.index.result.now (sym c.in-Some.ensures)).0

pub returns-in-Ok-publish_renewal : goal.returns-in-Ok-publish_renewal
returns-in-Ok-publish_renewal c =
    let p : Record → Bool = λ r. same_name r.name c.args.split.now.name in
    let u = under_way_of c.args.split.now in
    let r = c.index.result.now in
    let e = (found_at p c.args.names.now.records.items c.in-Some.at r (sym c.in-Some.ensures)).1 ∙ ap Some (sym c.index.ensures) in (
      may_renew (names_of c.args.names.now) u c.if-not-split.false r e (omega (arith, c.if-as_slice-ge15.false, ap length c.as_slice.ensures.value))
          (omega (arith, c.if-len-count_blocks.false, c.len.ensures, c.count_blocks.ensures.value, c.args.split.now.places.ok)),
      renewal_ends c.args.actor c.args.names.now c.publish_renewal.new.names c.args.ended.now.items c.publish_renewal.new.ended.items u r c.if-not-split.false e
          (subst (λ (z : Record). EndsByEntry (bringing (entry.Renew c.args.actor u.name (mark_of (renewed z (split_of u)))) (renewed z (split_of u))) c.args.names.now c.args.ended.now.items u c.publish_renewal.new.names c.publish_renewal.new.ended.items)
          (sym c.index.ensures) (c.in-Ok-publish_renewal.ensures r)),
    )
