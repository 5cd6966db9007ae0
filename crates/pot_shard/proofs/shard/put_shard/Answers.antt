use Rattle.std.proofs.Common.{◌≡◌, ◌++◌, ◌∷◌, [], ℕ, List, length, replicate, arith, refl, ap, ◌∙◌, length-append}
use Rattle.std.proofs.lemmas.List.{length-take-le}
use Rattle.byteorder.specs.Endian.{big_bytes}
use Rattle.pot_object.proofs.FieldLemmas.{put_field, put_last, put_next}
use Rattle.pot_shard.specs.Shards.{shard_bytes}
use Rattle.pot_shard.proofs.shard.put_shard.Goals as goal

pub returns : goal.returns
unfolding shard_bytes
returns c =
    let old = c.args.out.now in
    let s = c.args.shard.now in
    let start = c.copy_from_slice.new.self in
    let four = s.x ∷ s.m ∷ s.n ∷ s.blur ∷ [] in
    let name = big_bytes 8 s.name in
    let pointer = big_bytes 8 s.pointer in
    let zeros : List ℕ = replicate 8 0 in
    let whole : length start ≡ 4 = c.copy_from_slice.ensures.len ∙ length-take-le 4 old (omega arith) in
    let two = start ++ four in
    let long2 : length two ≡ 8 = omega (arith, length-append {A = ℕ} start four) in
    let three = two ++ name in
    let long3 : length three ≡ 16 = omega (arith, length-append {A = ℕ} two name) in
    let five = three ++ pointer in
    let long5 : length five ≡ 24 = omega (arith, length-append {A = ℕ} three pointer) in
    let six = five ++ zeros in
    let long6 : length six ≡ 32 = omega (arith, length-append {A = ℕ} five zeros) in
    let first = put_field start old _ c.copy_from_slice-2.new.self four 4 4 whole refl c.copy_from_slice-2.ensures.after in
    let second = put_next two old _ c.write_u64.new.buf name 8 8 long2 first c.write_u64.ensures in
    let third = put_next three old _ c.write_u64-2.new.buf pointer 16 8 long3 second c.write_u64-2.ensures in
    let fourth = put_field five old _ c.copy_from_slice-3.new.self zeros 24 8 long5 third c.copy_from_slice-3.ensures.after in
    put_last six old _ c.copy_from_slice-4.new.self s.share 32 long6 fourth c.copy_from_slice-4.ensures.after
    ∙ ap (λ (z : List ℕ). ((((z ++ four) ++ name) ++ pointer) ++ zeros) ++ s.share) c.copy_from_slice.ensures.after
