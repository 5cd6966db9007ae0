use Rattle.std.proofs.Common.{◌≡◌, ◌≤◌, ◌<◌, ◌^◌, ℕ, List, length, ap, subst, ◌∙◌, ◌++◌, arith}
use Rattle.std.proofs.Common.{ap₂}
use Rattle.pot_bytes.specs.Digests.{digest_bytes}
use Rattle.pot_image.specs.Spelling.{image_bytes}
use Rattle.pot_image.proofs.image_writing.write_image.Goals as goal

pub returns-clause-bytes : goal.returns-clause-bytes
unfolding image_bytes
returns-clause-bytes c = c.in_ok-append_digest.ensures.bytes ∙ ap₂ (λ x y. x ++ y) c.in_ok-append_text.ensures.bytes (c.digest_of-digest.ensures ∙ ap digest_bytes (c.deref.ensures.value ∙ c.in_ok-append_text.ensures.bytes))

-- a vector has fewer than 2^63 items
in_memory : (len cap : ℕ) (items : List ℕ) → (len ≡ length items) × (len ≤ cap) → cap < 9223372036854775808 → length items < 2 ^ 64
in_memory len cap items ok small = omega (arith, ok.0, ok.1, small)

pub returns-clause-whole : goal.returns-clause-whole
returns-clause-whole c = record {
  values = c.in_ok-append_text.ensures.whole;
  short = subst (λ b. length b < 2 ^ 64) (returns-clause-bytes c) (in_memory _ _ _ c.append_digest.new.out.ok c.append_digest.new.out.small);
}
