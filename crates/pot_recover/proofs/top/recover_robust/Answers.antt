use Rattle.std.proofs.Common.{◌≡◌, ◌↔◌, inl, ℕ, List, map, refl, sym, subst, arith, ◌-◌}
use Rattle.std.proofs.lemmas.Result.{on_ok_weaker, IfErr-weaker}
use Rattle.pot_chains.specs.Listed.{IsIn}
use Rattle.pot_shard.specs.declared.shard.Shard.{Shard}
use Rattle.pot_recover.specs.Groups.{IsHoldable}
use Rattle.pot_recover.specs.Held.{IsHeld}
use Rattle.pot_recover.specs.HeldShards.{shard_of, HaveBytes}
use Rattle.pot_recover.specs.declared.held.Held.{Held}
use Rattle.pot_recover.proofs.TopLemmas.{held_holdable, if_ok_both}
use Rattle.pot_recover.proofs.LongTop.{chains_counted, chains_wide, found_closed, robust_grammar, are_recovered, are_within, are_too_wide}
use Rattle.pot_recover.proofs.top.recover_robust.Goals as goal

-- what is held, as the search sees it
same_here : (blocks : List (List ℕ)) (bits : ℕ) (now held : List Held) → now ≡ held → ((s : Shard) → IsIn (map (shard_of bits) held) s ↔ IsHeld blocks bits s)
    → (s : Shard) → IsIn (map (shard_of bits) now) s ↔ IsHeld blocks bits s
same_here blocks bits now held e each s = subst (λ (l : List Held). IsIn (map (shard_of bits) l) s ↔ IsHeld blocks bits s) (sym e) (each s)

holdable_here : (blocks : List (List ℕ)) (bits : ℕ) (now held : List Held) → now ≡ held → ((s : Shard) → IsIn (map (shard_of bits) held) s ↔ IsHeld blocks bits s) → HaveBytes held
    → (s : Shard) → IsIn (map (shard_of bits) now) s → IsHoldable s
holdable_here blocks bits now held e each bytes =
    held_holdable blocks bits now (same_here blocks bits now held e each) (subst HaveBytes (sym e) bytes)

pub robust_contents-requires-clause-shards : goal.robust_contents-requires-clause-shards
robust_contents-requires-clause-shards c =
    holdable_here c.args.blocks.now c.args.bits c.deref.result.now c.in-Ok.held.items c.deref.ensures.value c.in-Ok.ensures.each c.in-Ok.ensures.bytes

pub from_contents-requires-clause-contents : goal.from_contents-requires-clause-contents
from_contents-requires-clause-contents c =
    let blocks = c.args.blocks.now in
    let bits = c.args.bits in
    let now = c.deref.result.now in
    let same = same_here blocks bits now c.in-Ok.held.items c.deref.ensures.value c.in-Ok.ensures.each in
    let holdable = holdable_here blocks bits now c.in-Ok.held.items c.deref.ensures.value c.in-Ok.ensures.each c.in-Ok.ensures.bytes in
    robust_grammar blocks bits c.in-Ok-robust_contents.contents.items
    (found_closed blocks bits (map (shard_of bits) now) same c.first_count-first.result c.robust_contents.new.count c.in-Ok-robust_contents.contents.items c.in-Ok-robust_contents.ensures.searched)

pub returns-in-Ok-robust_contents-clause-objects : goal.returns-in-Ok-robust_contents-clause-objects
returns-in-Ok-robust_contents-clause-objects c =
    let blocks = c.args.blocks.now in
    let bits = c.args.bits in
    let now = c.deref.result.now in
    let same = same_here blocks bits now c.in-Ok.held.items c.deref.ensures.value c.in-Ok.ensures.each in
    let holdable = holdable_here blocks bits now c.in-Ok.held.items c.deref.ensures.value c.in-Ok.ensures.each c.in-Ok.ensures.bytes in
    let closed = found_closed blocks bits (map (shard_of bits) now) same c.first_count-first.result c.robust_contents.new.count c.in-Ok-robust_contents.contents.items c.in-Ok-robust_contents.ensures.searched in
    if_ok_both c.from_contents.result _ _ _ (λ objects each order. are_recovered blocks bits c.in-Ok-robust_contents.contents.items closed objects each order)
    c.from_contents.ensures.objects c.from_contents.ensures.order

pub returns-in-Ok-robust_contents-clause-within : goal.returns-in-Ok-robust_contents-clause-within
returns-in-Ok-robust_contents-clause-within c =
    let blocks = c.args.blocks.now in
    let bits = c.args.bits in
    let now = c.deref.result.now in
    let same = same_here blocks bits now c.in-Ok.held.items c.deref.ensures.value c.in-Ok.ensures.each in
    let holdable = holdable_here blocks bits now c.in-Ok.held.items c.deref.ensures.value c.in-Ok.ensures.each c.in-Ok.ensures.bytes in
    let closed = found_closed blocks bits (map (shard_of bits) now) same c.first_count-first.result c.robust_contents.new.count c.in-Ok-robust_contents.contents.items c.in-Ok-robust_contents.ensures.searched in
    let chains = chains_counted blocks bits (map (shard_of bits) now) same c.args.most c.first_count-first.result c.robust_contents.new.count c.in-Ok-robust_contents.contents.items c.in-Ok-robust_contents.ensures.searched
    c.first_count-first.ensures c.in-Ok-robust_contents.ensures.within in
    on_ok_weaker c.from_contents.result (λ few. are_within blocks bits c.in-Ok-robust_contents.contents.items closed c.args.most (c.robust_contents.new.count - c.first_count-first.result) chains (let sum = c.first_count-first.ensures in let few = c.in-Ok-robust_contents.ensures.within in omega (arith, sum, few)) few)
    c.from_contents.ensures.within

pub returns-in-Ok-robust_contents-clause-wide : goal.returns-in-Ok-robust_contents-clause-wide
returns-in-Ok-robust_contents-clause-wide c =
    let blocks = c.args.blocks.now in
    let bits = c.args.bits in
    let now = c.deref.result.now in
    let same = same_here blocks bits now c.in-Ok.held.items c.deref.ensures.value c.in-Ok.ensures.each in
    let holdable = holdable_here blocks bits now c.in-Ok.held.items c.deref.ensures.value c.in-Ok.ensures.each c.in-Ok.ensures.bytes in
    let closed = found_closed blocks bits (map (shard_of bits) now) same c.first_count-first.result c.robust_contents.new.count c.in-Ok-robust_contents.contents.items c.in-Ok-robust_contents.ensures.searched in
    let chains = chains_counted blocks bits (map (shard_of bits) now) same c.args.most c.first_count-first.result c.robust_contents.new.count c.in-Ok-robust_contents.contents.items c.in-Ok-robust_contents.ensures.searched
    c.first_count-first.ensures c.in-Ok-robust_contents.ensures.within in
    IfErr-weaker c.from_contents.result _ _
    (λ fault wide. are_too_wide blocks bits c.in-Ok-robust_contents.contents.items closed c.args.most (c.robust_contents.new.count - c.first_count-first.result) fault chains (let sum = c.first_count-first.ensures in let few = c.in-Ok-robust_contents.ensures.within in omega (arith, sum, few)) wide)
    c.from_contents.ensures.wide

pub returns-in-Err-Wide-clause-wide : goal.returns-in-Err-Wide-clause-wide
returns-in-Err-Wide-clause-wide c =
    let blocks = c.args.blocks.now in
    let bits = c.args.bits in
    let now = c.deref.result.now in
    let same = same_here blocks bits now c.in-Ok.held.items c.deref.ensures.value c.in-Ok.ensures.each in
    let holdable = holdable_here blocks bits now c.in-Ok.held.items c.deref.ensures.value c.in-Ok.ensures.each c.in-Ok.ensures.bytes in
    (chains_wide blocks bits (map (shard_of bits) now) same c.args.most c.first_count-first.result c.first_count-first.ensures (c.in-Err-Wide.ensures.wide c.in-Err-Wide.field-0-is), inl (omega (arith), refl))
