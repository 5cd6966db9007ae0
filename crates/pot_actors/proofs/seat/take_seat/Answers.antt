use Rattle.std.proofs.Common.{◌≡◌, ◌∙◌, sym, ap, List, subst, ◌++◌, ◌∷◌, [], length, arith}
use Rattle.std.specs.Prelude.{◌==◌}
use Rattle.std.specs.List.{position}
use Rattle.pot_actors.specs.Seats.{SeatData, SitsAt, actor_at, actor_of}
use Rattle.pot_actors.proofs.SeatLemmas.{no_seat, seat_more, sits_at, sits_more}
use Rattle.pot_actors.proofs.NameLemmas.{none_passes}
use Rattle.pot_actors.proofs.seat.take_seat.Goals as goal

pub returns-in-Some-clause-sits : goal.returns-in-Some-clause-sits
returns-in-Some-clause-sits c = sits_at c.args.seats.now.items c.args.number c.in-Some.at no_seat (sym (c.in-Some.ensures ∙ ap (λ (ss : List SeatData). position (λ s. c.args.number == s.number) ss) c.deref.ensures.value))

pub returns-clause-sits : goal.returns-clause-sits
returns-clause-sits c =
    let ss = c.args.seats.now.items in
    let a = c.args.number in
    let y = c.new.result in
    let e : c.push_reserved.new.self.items ≡ ss ++ y ∷ [] = c.push_reserved.ensures.items ∙ ap (λ xs. xs ++ y ∷ []) c.reserve.ensures.items in
    let l : c.len-at.result ≡ length ss = omega (arith, c.len-at.ensures, c.reserve.ensures.len, c.args.seats.now.ok) in
    subst (λ xs. SitsAt xs a c.len-at.result) (sym e) (subst (λ n. SitsAt (ss ++ y ∷ []) a n) (sym l)
    (sits_more ss a y (ap (λ (s : SeatData). s.number) c.new.ensures)
    (none_passes (λ (s : SeatData). a == s.number) ss (sym (c.in_default.ensures ∙ ap (λ (xs : List SeatData). position (λ s. a == s.number) xs) c.deref.ensures.value)))))

pub returns-clause-same : goal.returns-clause-same
returns-clause-same c =
    let ss = c.args.seats.now.items in
    let y = c.new.result in
    ap actor_at (c.push_reserved.ensures.items ∙ ap (λ xs. xs ++ y ∷ []) c.reserve.ensures.items) ∙ seat_more ss y (ap actor_of c.new.ensures)
