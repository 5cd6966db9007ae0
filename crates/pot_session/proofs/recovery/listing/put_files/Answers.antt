use Rattle.std.proofs.Common.{◌≡◌, ◌<◌, ◌||◌, length, take, sym, ap, ◌∙◌, arith}
use Rattle.std.specs.List.{list_any}
use Rattle.std.proofs.Math.Seq.{take-length}
use Rattle.std.proofs.lemmas.List.FromFn.{length-range_with_len}
use Rattle.std.proofs.lemmas.List.Folds.{list_any_more}
use Rattle.pot_session.specs.Listing.{is_partial_at, places_in, text_at}
use Rattle.pot_session.proofs.ListingLemmas.{texts_begun, texts_more, texts_all, number_at, number_within}
use Rattle.pot_session.proofs.recovery.listing.put_files.Goals as goal

pub returns-in-Err-clause-puts : goal.returns-in-Err-clause-puts
returns-in-Err-clause-puts g c = λ told.
    let n = length c.args.found.now in
    let l : c.loop-place.place < n = omega (arith, c.loop-place-test.true, c.len-place-end.ensures) in
    texts_begun (text_at c.args.found.now) (places_in c.args.found.now) _ _ _ c.loop-place.place c.loop-place.place (number_within n c.loop-place.place l) (number_at n c.loop-place.place l)
    (c.loop-place.invariant.written told) (c.in-Err.ensures.puts told)

pub loop-place-preserved : goal.loop-place-preserved
loop-place-preserved g c = record {
  written = λ told.
      let n = length c.args.found.now in
      let l : c.loop-place.place < n = omega (arith, c.loop-place-test.true, c.len-place-end.ensures) in
      texts_more (text_at c.args.found.now) (places_in c.args.found.now) _ _ _ c.loop-place.place c.loop-place.place (number_within n c.loop-place.place l) (number_at n c.loop-place.place l)
      (c.loop-place.invariant.written told) (c.in-Ok.ensures.puts told);
  partial = (let n = length c.args.found.now in
      let l : c.loop-place.place < n = omega (arith, c.loop-place-test.true, c.len-place-end.ensures) in
      let p = is_partial_at c.args.found.now in
      let xs = places_in c.args.found.now in
      ap (λ a. a || c.in-Ok.now) c.loop-place.invariant.partial
      ∙ (ap (λ b. list_any p (take c.loop-place.place xs) || b) (c.in-Ok.ensures.partial ∙ ap p (number_at n c.loop-place.place l))
      ∙ sym (list_any_more p xs c.loop-place.place c.loop-place.place (number_within n c.loop-place.place l))));
  later = (let a = c.loop-place.invariant.later in let b = c.put_first.ensures.cause.later in omega (arith, a, b));
}

pub returns-clause-puts : goal.returns-clause-puts
returns-clause-puts g c = λ told.
    let size = length-range_with_len 0 (length c.args.found.now) in
    texts_all (text_at c.args.found.now) (places_in c.args.found.now) _ _ c.loop-place.place
    (omega (arith, size, c.len-place-end.ensures, c.loop-place-test.false, c.loop-place.auto.place-end)) (c.loop-place.invariant.written told)

pub returns-clause-partial : goal.returns-clause-partial
returns-clause-partial g c =
    let size = length-range_with_len 0 (length c.args.found.now) in
    let last : c.loop-place.place ≡ length (places_in c.args.found.now) = omega (arith, size, c.len-place-end.ensures, c.loop-place-test.false, c.loop-place.auto.place-end) in
    c.loop-place.invariant.partial ∙ ap (list_any (is_partial_at c.args.found.now)) (ap (λ n. take n (places_in c.args.found.now)) last ∙ take-length (places_in c.args.found.now))
