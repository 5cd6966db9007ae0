use Rattle.std.proofs.Common.{◌≡◌, ◌<◌, IsTrue, [], append-nil, length, refl, subst, sym, ◌∙◌, arith, rules}
use Rattle.pot_group.specs.Relaying.{Advances}
use Rattle.pot_group.specs.Group.{GroupParts, view_of}
use Rattle.pot_group.proofs.AdvanceSteps.{idle_step, found_over}
use Rattle.pot_group.proofs.Advancing.{idle_none}
use Rattle.pot_group.proofs.Rows.{advance_made, grows_same}
use Rattle.pot_group.proofs.Lossless.{lossless_same}
use Rattle.pot_shelves.proofs.ShelfLemmas.{keeps_refl, loses_refl}
use Rattle.pot_group.proofs.group.Group.advance.Goals as goal

pub next_column-requires : goal.next_column-requires
next_column-requires g c =
    subst (λ n. n < c.self.inside.table.stripes) (sym (found_over c.args.self.now.flights c.args.stripe c.flight.result c.in-Some.flight c.flight.ensures c.in-Some.is).0)
    (subst (λ (w : GroupParts _). c.args.stripe < w.table.stripes) (sym c.self.view_is) c.requires.stripe)

pub go_on-requires-clause-here : goal.go_on-requires-clause-here
go_on-requires-clause-here g c = (found_over c.args.self.now.flights c.args.stripe c.flight.result c.in-Some.flight c.flight.ensures c.in-Some.is).1

pub go_on-requires-clause-within : goal.go_on-requires-clause-within
go_on-requires-clause-within g c = subst (λ n. n < c.args.self.now.table.stripes) (sym (found_over c.args.self.now.flights c.args.stripe c.flight.result c.in-Some.flight c.flight.ensures c.in-Some.is).0) c.requires.stripe

pub finish_flight-requires-clause-here : goal.finish_flight-requires-clause-here
finish_flight-requires-clause-here g c = (found_over c.args.self.now.flights c.args.stripe c.flight.result c.in-Some.flight c.flight.ensures c.in-Some.is).1

pub returns-then-len-ge-LOG_BOUND : goal.returns-then-len-ge-LOG_BOUND
returns-then-len-ge-LOG_BOUND g c =
    let old = view_of g.A.Archive.account.meaning c.args.self.now in
    let full : length old.log ≡ 262144 = subst (λ (w : GroupParts _). length w.log ≡ 262144) c.self.view_is (omega (arith, c.self.invariant.0.bound)) in
    record {
      advances = (
        [],
        grows_same old old refl,
        record {
          tells = (refl, refl, full);
          keeps = keeps_refl old.shelves;
          step = λ t. record {
            full = full;
            logs = record { log = sym (append-nil old.log); room = omega (arith, full); flights = refl; heard = (λ n. refl) };
            table = refl;
            held = λ n k. refl;
          };
          lossless = λ t none. lossless_same old;
          writes = λ t. loses_refl old.shelves;
        },
      );
    }

pub returns-in_default : goal.returns-in_default
returns-in_default g c =
    let old = view_of g.A.Archive.account.meaning c.args.self.now in
    let room : length old.log < 262144 = search rules in
    let idle = idle_none (IsTrue g.A.Archive.account.tells) old c.args.stripe c.logged-settled.ensures.settled (sym c.flight.ensures ∙ c.in_default.is) in
    record {
      advances = (
        [],
        grows_same old old refl,
        record {
          tells = (refl, refl, room, idle);
          keeps = keeps_refl old.shelves;
          step = λ t. idle_step (IsTrue g.A.Archive.account.tells) old c.args.job c.args.stripe c.logged-settled.ensures.settled (sym c.flight.ensures ∙ c.in_default.is);
          lossless = λ t none. lossless_same old;
          writes = λ t. loses_refl old.shelves;
        },
      );
    }

pub returns-in-Some-next_column : goal.returns-in-Some-next_column
returns-in-Some-next_column g c =
    let told = IsTrue g.A.Archive.account.tells in
    let old = view_of g.A.Archive.account.meaning c.args.self.now in
    let new = view_of g.A.Archive.account.meaning c.go_on.new.self in
    let room : length old.log < 262144 = search rules in
    record {
      advances = advance_made told c.args.job c.args.stripe old new c.go_on.result room
          (subst (λ n. Advances told c.args.job n c.go_on.result old new) (found_over c.args.self.now.flights c.args.stripe c.flight.result c.in-Some.flight c.flight.ensures c.in-Some.is).0 c.go_on.ensures);
    }

pub returns-in-None : goal.returns-in-None
returns-in-None g c =
    let told = IsTrue g.A.Archive.account.tells in
    let old = view_of g.A.Archive.account.meaning c.args.self.now in
    let new = view_of g.A.Archive.account.meaning c.finish_flight.new.self in
    let room : length old.log < 262144 = search rules in
    record {
      advances = advance_made told c.args.job c.args.stripe old new c.finish_flight.result room
          (subst (λ n. Advances told c.args.job n c.finish_flight.result old new) (found_over c.args.self.now.flights c.args.stripe c.flight.result c.in-Some.flight c.flight.ensures c.in-Some.is).0 c.finish_flight.ensures);
    }
