use Rattle.std.proofs.Common.{◌≡◌, ◌≤◌, ◌<◌, ◌+◌, ◌*◌, ℕ, List, All, length, get_or, ap, ap₂, sym, subst, ◌∙◌, arith}
use Rattle.std.proofs.lemmas.List.{take_at}
use Rattle.std.proofs.lemmas.List.Elements.{Contains-get_or}
use Rattle.std.specs.List.{Contains}
use Rattle.pot_split.specs.Threshold.{IsJoin}
use Rattle.pot_desk_shares.specs.Finding.{AreRows}
use Rattle.pot_desk_shares.specs.Shares.{with_digest}
use Rattle.pot_desk_shares.proofs.FindLemmas.{fits_of, ready}
use Rattle.pot_desk_shares.proofs.GiveLemmas.{joined_of}
use Rattle.pot_desk_shares.proofs.joining.join_set.Goals as goal

pub values_at-requires : goal.values_at-requires
values_at-requires c i lt =
    c.in_ok-points.ensures.each (get_or c.deref.result.now i 0)
    (subst (λ (z : List ℕ). Contains z (get_or c.deref.result.now i 0)) c.deref.ensures.value (Contains-get_or c.deref.result.now i 0 lt))

pub overflow_add-head : goal.overflow_add-head
overflow_add-head c = omega (arith, fits_of c.args.shares.now c.args.head.now c.requires.complete)

pub share_join-requires-clause-some : goal.share_join-requires-clause-some
share_join-requires-clause-some c =
    let points = c.in_ok-points.points.items in
    let rows = subst (λ (z : List ℕ). AreRows c.args.shares.now c.args.head.now c.in_ok-values.ensures.0 z c.in_ok-values.values.items) c.deref.ensures.value c.in_ok-values.ensures.1 in
    let r = ready c.args.shares.now c.args.head.now c.in_ok-values.ensures.0 points c.in_ok-values.values.items c.in_ok-points.ensures c.requires.complete rows in
    subst (λ (z : List ℕ). 0 < length z) (sym c.deref-2.ensures.value) r.some

pub share_join-requires-clause-few : goal.share_join-requires-clause-few
share_join-requires-clause-few c =
    let points = c.in_ok-points.points.items in
    let rows = subst (λ (z : List ℕ). AreRows c.args.shares.now c.args.head.now c.in_ok-values.ensures.0 z c.in_ok-values.values.items) c.deref.ensures.value c.in_ok-values.ensures.1 in
    let r = ready c.args.shares.now c.args.head.now c.in_ok-values.ensures.0 points c.in_ok-values.values.items c.in_ok-points.ensures c.requires.complete rows in
    subst (λ (z : List ℕ). length z ≤ 16) (sym c.deref-2.ensures.value) r.few

pub share_join-requires-clause-not_zero : goal.share_join-requires-clause-not_zero
share_join-requires-clause-not_zero c =
    let points = c.in_ok-points.points.items in
    let rows = subst (λ (z : List ℕ). AreRows c.args.shares.now c.args.head.now c.in_ok-values.ensures.0 z c.in_ok-values.values.items) c.deref.ensures.value c.in_ok-values.ensures.1 in
    let r = ready c.args.shares.now c.args.head.now c.in_ok-values.ensures.0 points c.in_ok-values.values.items c.in_ok-points.ensures c.requires.complete rows in
    subst (λ (z : List ℕ). All (λ x. 0 < x) z) (sym c.deref-2.ensures.value) r.not_zero

pub share_join-requires-clause-rows : goal.share_join-requires-clause-rows
share_join-requires-clause-rows c =
    let points = c.in_ok-points.points.items in
    let rows = subst (λ (z : List ℕ). AreRows c.args.shares.now c.args.head.now c.in_ok-values.ensures.0 z c.in_ok-values.values.items) c.deref.ensures.value c.in_ok-values.ensures.1 in
    let r = ready c.args.shares.now c.args.head.now c.in_ok-values.ensures.0 points c.in_ok-values.values.items c.in_ok-points.ensures c.requires.complete rows in
    let wide : length c.deref_mut.result.now ≡ c.args.head.now.length + 32 =
    c.deref_mut.ensures.len ∙ c.in_ok-whole.ensures.len in
    ap length c.deref-3.ensures.value ∙ r.long
    ∙ ap₂ (λ (a b : ℕ). a * b) (sym (ap length c.deref-2.ensures.value)) (sym wide)

pub returns-in-Some-clause-given : goal.returns-in-Some-clause-given
returns-in-Some-clause-given c =
    let shares = c.args.shares.now in
    let head = c.args.head.now in
    let points = c.in_ok-points.points.items in
    let values = c.in_ok-values.values.items in
    let rows = subst (λ (z : List ℕ). AreRows shares head c.in_ok-values.ensures.0 z values) c.deref.ensures.value c.in_ok-values.ensures.1 in
    let r = ready shares head c.in_ok-values.ensures.0 points values c.in_ok-points.ensures c.requires.complete rows in
    let wide : length c.deref_mut.result.now ≡ head.length + 32 =
    c.deref_mut.ensures.len ∙ c.in_ok-whole.ensures.len in
    let written = take_at c.share_join.new.out _ c.in_ok-whole.whole.len (c.share_join.auto.out ∙ c.deref_mut.ensures.len) in
    let whole : c.share_join.new.out ≡ with_digest c.in-Some.text.items = sym written ∙ c.in-Some.ensures in
    let join : IsJoin points values c.share_join.new.out =
    subst (λ (z : List ℕ). IsJoin points z c.share_join.new.out) c.deref-3.ensures.value
    (subst (λ (z : List ℕ). IsJoin z c.deref-3.result.now c.share_join.new.out) c.deref-2.ensures.value c.share_join.ensures) in (
      c.in_ok-values.ensures.0,
      joined_of shares head c.in_ok-values.ensures.0 points values (with_digest c.in-Some.text.items) r rows c.requires.newest
          (sym (ap length whole) ∙ c.share_join.auto.out ∙ wide) (subst (IsJoin points values) whole join),
    )

pub returns-clause-fault : goal.returns-clause-fault
returns-clause-fault c =
    let shares = c.args.shares.now in
    let head = c.args.head.now in
    let points = c.in_ok-points.points.items in
    let values = c.in_ok-values.values.items in
    let rows = subst (λ (z : List ℕ). AreRows shares head c.in_ok-values.ensures.0 z values) c.deref.ensures.value c.in_ok-values.ensures.1 in
    let r = ready shares head c.in_ok-values.ensures.0 points values c.in_ok-points.ensures c.requires.complete rows in
    let wide : length c.deref_mut.result.now ≡ head.length + 32 =
    c.deref_mut.ensures.len ∙ c.in_ok-whole.ensures.len in
    let join : IsJoin points values c.share_join.new.out =
    subst (λ (z : List ℕ). IsJoin points z c.share_join.new.out) c.deref-3.ensures.value
    (subst (λ (z : List ℕ). IsJoin z c.deref-3.result.now c.share_join.new.out) c.deref-2.ensures.value c.share_join.ensures) in (
      c.in_ok-values.ensures.0,
      c.share_join.new.out,
      joined_of shares head c.in_ok-values.ensures.0 points values c.share_join.new.out r rows c.requires.newest
          (c.share_join.auto.out ∙ wide) join,
      λ text e. c.in-None.ensures text (take_at c.share_join.new.out _ c.in_ok-whole.whole.len (c.share_join.auto.out ∙ c.deref_mut.ensures.len) ∙ e),
    )
