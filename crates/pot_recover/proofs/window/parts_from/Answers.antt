use Rattle.std.proofs.Common.{◌≡◌, ◌≤◌, ◌+◌, ◌-◌, ◌++◌, [], ◌∷◌, ◌∙◌, suc, List, map, ap, sym, subst, arith, append-nil}
use Rattle.std.proofs.lemmas.List.{map-append}
use Rattle.pot_recover.specs.Groups.{part_of, now_of}
use Rattle.pot_recover.specs.OpenScopes.{after, points_from}
use Rattle.pot_recover.specs.declared.held.Held.{Held}
use Rattle.pot_recover.proofs.OpenLemmas.{after_first, after_last, part_more}
use Rattle.pot_recover.proofs.window.parts_from.Goals as goal

pub after-x-requires : goal.after-x-requires
after-x-requires c =
    let last = c.loop.invariant.last in
    let small = c.requires.start.small in
    omega (arith, last, small)

pub loop-preserved : goal.loop-preserved
loop-preserved c =
    let start = c.args.start in
    let held = c.args.held.now in
    let f = part_of start.need start.shards held in
    let x = c.loop.x in
    let parts = c.loop.parts.items in
    let left = start.need - (c.loop.counter + 1) in
    let all = map f (points_from start.shards start.first start.need) in
    let pushed : map now_of c.push_part.new.parts.items ≡ map now_of parts ++ c.part_at.result.now ∷ [] =
    ap (map now_of) c.in_ok-push_part.ensures ∙ map-append now_of parts (c.part_at.result ∷ []) in
    let test = c.loop-test.true in
    let one : start.need - c.loop.counter ≡ suc left = omega (arith, test) in
    let before : map now_of parts ++ map f (points_from start.shards x (suc left)) ≡ all =
    subst (λ k. map now_of parts ++ map f (points_from start.shards x k) ≡ all) one c.loop.invariant.parts in
    let more : map now_of c.push_part.new.parts.items ++ map f (points_from start.shards (after start.shards x) left) ≡ all =
    ap (λ (l : List (List Held)). l ++ map f (points_from start.shards (after start.shards x) left)) pushed
    ∙ part_more start.need start.shards x left held (map now_of parts) c.part_at.result.now all c.part_at.ensures before in
    record {
      parts = subst (λ y. map now_of c.push_part.new.parts.items ++ map f (points_from start.shards y left) ≡ all) (sym c.after-x.ensures) more;
      first = subst (λ y. 1 ≤ y) (sym c.after-x.ensures) (after_first start.shards x c.loop.invariant.last);
      last = subst (λ y. y ≤ start.shards) (sym c.after-x.ensures) (after_last start.shards x c.loop.invariant.first c.loop.invariant.last);
    }

pub returns : goal.returns
returns c =
    let start = c.args.start in
    let f = part_of start.need start.shards c.args.held.now in
    let test = c.loop-test.false in
    let none : start.need - c.loop.counter ≡ 0 = omega (arith, test) in
    sym (append-nil (map now_of c.loop.parts.items))
    ∙ subst (λ k. map now_of c.loop.parts.items ++ map f (points_from start.shards c.loop.x k) ≡ map f (points_from start.shards start.first start.need)) none c.loop.invariant.parts
