use Rattle.std.proofs.Common.{◌<◌, ◌≤◌, length, subst, arith}
use Rattle.pot_world.specs.Data.{SiteData, SoundIn}
use Rattle.pot_world.proofs.SiteCode.{none_sound, sound_in}
use Rattle.pot_world.proofs.groups.Groups.sound.Goals as goal

pub returns-then-at-len : goal.returns-then-at-len
returns-then-at-len c =
    none_sound c.args.self.now c.args.place.now.group c.args.place.now.stripe c.args.place.now.column _
    (subst (λ (w : SiteData). length w.groups ≤ c.args.place.now.group) c.self.view_is (omega (arith, c.if-at-len.true, c.len.ensures, c.from-at.ensures)))

pub returns : goal.returns
returns c =
    let a = c.self.inside in
    let x : SiteData = record { limit = a.limit; brought = a.brought.items; groups = a.groups.items } in
    let lt : c.from-at.result < length a.groups.items = omega (arith, c.if-at-len.false, c.len.ensures) in
    subst (λ n. SoundIn n c.args.place.now.stripe c.args.place.now.column c.args.self.now c.sound_within.result) c.from-at.ensures
    (subst (λ (w : SiteData). SoundIn c.from-at.result c.args.place.now.stripe c.args.place.now.column w c.sound_within.result) c.self.view_is
    (sound_in x c.from-at.result c.args.place.now.stripe c.args.place.now.column c.index.result.now c.sound_within.result lt c.index.ensures c.sound_within.ensures))
