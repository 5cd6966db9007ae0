-- The image in which all slots are Live that are not Void: it may be written, and keeps the rules
-- of images.
use Rattle.std.proofs.Common.{◌<◌, ◌^◌, List, Result, Ok, Err, OnOk, length, get_or, sym, subst, arith, All}
use Rattle.std.proofs.lemmas.List.{get_or-map, length-map}
use Rattle.pot_machine.specs.declared.entry.Entry.{Entry}
use Rattle.pot_image.specs.declared.image.Image.{Image}
use Rattle.pot_image.specs.Images.{Contents, contents}
use Rattle.pot_image.specs.Spelling.{IsCountable}
use Rattle.pot_image.specs.Rules.{FitsTogether, IsImage, IsImageWhole}
use Rattle.pot_recheck.specs.declared.listing.Unsound.{Unsound}
use Rattle.pot_recheck.specs.Finding.{IsFound}
use Rattle.pot_recheck.specs.Rechecking.{ImageWasRead}
use Rattle.pot_recheck.proofs.ImageLemmas.{still_together}
use Rattle.pot_recheck.proofs.ReadLemmas.{fits_of, read_logs}

countable : (i : Image) → length (contents i).records < 2 ^ 32 → All (λ (l : List Entry). length l < 2 ^ 32) (contents i).group_logs → length (contents i).index_log < 2 ^ 32 → IsCountable i
countable i records logs index = record {
  records = records;
  logs = λ k d l.
      (let n = length-map i.group_logs.items (λ (x : _). x.items) in
      let a = logs k d.items (omega (arith, l, n)) in
      subst (λ (x : List Entry). length x < 2 ^ 32) (get_or-map (λ (x : _). x.items) i.group_logs.items k d d.items l) a);
  index_log = index;
}

-- an image of which some slots are Live that was read may be written
pub found_countable : (found : List Unsound) (i j : Image) → ImageWasRead i → FitsTogether (contents i) → IsFound found (contents i) (contents j) → IsCountable j
found_countable found i j read fits is =
    let logs = read_logs read.0 i read.1 fits in
    let few = fits.records.read.few in
    let index = logs.index_log in
    countable j
    (subst (λ (v : Contents). length v.records < 2 ^ 32) (sym is.rest) (omega (arith, few)))
    (subst (λ (v : Contents). All (λ (l : List Entry). length l < 2 ^ 32) v.group_logs) (sym is.rest) (λ k d l. (let n = (logs.group_logs k d l).0 in omega (arith, n))))
    (subst (λ (v : Contents). length v.index_log < 2 ^ 32) (sym is.rest) (omega (arith, index)))

-- and it keeps the rules of images, once its bytes were made
pub found_image : (found : List Unsound) (i j : Image) → ImageWasRead i → FitsTogether (contents i) → IsFound found (contents i) (contents j) → IsImageWhole (contents j) → IsImage (contents j)
found_image found i j read fits is made =
    let v = contents i in let us = (contents j).tables in
    let logs = read_logs read.0 i read.1 fits in
    let whole = subst IsImageWhole is.rest made in
    subst IsImage (sym is.rest) (record {
      session = whole.values.session;
      together = subst FitsTogether is.rest (still_together found v (contents j) fits is);
      digests = whole.values.digests;
      group_logs = λ k d l. record {
        count = (logs.group_logs k d l).0;
        fits = λ m e n. fits_of v.rack (get_or (get_or v.group_logs k d) m e) (whole.values.group_logs k d l m e n) ((logs.group_logs k d l).1 m e n);
      };
      index_log = record { count = logs.index_log; fits = whole.values.index_log };
      short = whole.short;
    })

-- what follows on an answer
pub on_ok : {T E P Q : Type 0} (r : Result T E) → (P → Q) → OnOk r P → OnOk r Q
on_ok (Ok x) f h = f h
on_ok (Err e) f h = tt
