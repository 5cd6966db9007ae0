use Rattle.std.proofs.Common.{◌≡◌, ◌%◌, ◌<◌, length, ap, sym, subst, ◌∙◌}
use Rattle.pot_pads.specs.Pads.{Pads, next_bytes, moved}
use Rattle.pot_pads.proofs.PlaceLemmas.{filled_bytes, filled_place, filled_rest}
use Rattle.pot_pads.proofs.PadStream.fill_words.Goals as goal

pub invariant_of-self : goal.invariant_of-self
invariant_of-self c =
    let a = c.self.inside in
    let between = subst (λ (p : Pads). 0 < length c.args.out.now → p.place % 4 ≡ 0) (sym c.self.view_is) c.requires.between in
    filled_rest a.generator c.fill_bytes_via_u32.new.rng c.fill_bytes_via_u32.new.dst a.word (length c.args.out.now) a.left c.self.invariant c.requires.whole between c.fill_bytes_via_u32.ensures

pub returns-clause-bytes : goal.returns-clause-bytes
returns-clause-bytes c =
    let a = c.self.inside in
    let between = subst (λ (p : Pads). 0 < length c.args.out.now → p.place % 4 ≡ 0) (sym c.self.view_is) c.requires.between in
    filled_bytes a.generator c.fill_bytes_via_u32.new.rng c.fill_bytes_via_u32.new.dst (length c.args.out.now) a.left c.self.invariant.in_stream c.self.invariant.in_word c.requires.whole between c.fill_bytes_via_u32.ensures
    ∙ ap (λ (p : Pads). next_bytes p (length c.args.out.now)) c.self.view_is

pub returns-clause-place : goal.returns-clause-place
returns-clause-place c =
    let a = c.self.inside in
    let at = filled_place a.generator c.fill_bytes_via_u32.new.rng c.fill_bytes_via_u32.new.dst (length c.args.out.now) a.left c.self.invariant.in_stream c.self.invariant.in_word c.requires.whole c.fill_bytes_via_u32.ensures in
    (λ i. record { key = at.0 i; number = at.1 i; place = at.2 i }) ∙ ap (λ (p : Pads). moved p (length c.args.out.now)) c.self.view_is
