-- The steps of a script's commands: those that stand alone, and whole batches.
use Rattle.std.proofs.Common.{◌≡◌, ◌<◌, ◌≤◌, ◌++◌, ◌∷◌, ℕ, List, [], length, refl, sym, ap, subst, ◌∙◌, append_assoc, length-append, arith}
use Rattle.std.specs.Prelude.{Option, Some, None, IsSome, ◌↔◌}
use Rattle.std.specs.Option.{option_to_list}
use Rattle.std.specs.List.{AllByRecursion, flat_map}
use Rattle.pot_bytes.specs.declared.rack.Rack.{Rack}
use Rattle.pot_script.specs.declared.command.Command.{Command}
use Rattle.pot_script.specs.declared.command.Command.TheVariants as commands
use Rattle.pot_script.specs.declared.grouping.Step.{Step}
use Rattle.pot_script.specs.declared.grouping.Step.TheVariants as steps
use Rattle.pot_script.specs.Scripts.{AreSteps, after_commands}
use Rattle.pot_script.specs.Steps.{IsJobLine, IsWholeStep, spread}
use Rattle.pot_script.proofs.BatchLemmas.{IsBatch, batch_of, both}

-- these steps were taken off the front of all commands, and these are left
pub record IsGrouped (all : List Command) (steps : List Step) (left : List Command) : Type 0 where
  pub spelled : flat_map spread steps ++ left ≡ all
  pub closed : after_commands None left ≡ None
  pub whole : (rack : Rack) → AreSteps rack None all → AllByRecursion (IsWholeStep rack) steps × AreSteps rack None left

-- lists of which the front parts are as long are equal in both parts
same_fronts : (a b x y : List Command) → length a ≡ length b → a ++ x ≡ b ++ y → (a ≡ b) × (x ≡ y)
same_fronts [] [] x y same e = (refl, e)
same_fronts [] (d ∷ b) x y same e = absurd (omega arith)
same_fronts (c ∷ a) [] x y same e = absurd (omega arith)
same_fronts (c ∷ a) (d ∷ b) x y same e =
    let parts = both c d (a ++ x) (b ++ y) e in
    let more = same_fronts a b x y (omega arith) parts.1 in
    (ap (λ (k : Command). k ∷ a) parts.0 ∙ ap (λ (l : List Command). d ∷ l) more.0, more.1)

-- the next of commands that begin with `end`
end_taken : (new rest : List Command) (r : Option Command) (left : ℕ) → left ≡ length (commands.End ∷ rest) → (IsSome r ↔ (0 < left)) → commands.End ∷ rest ≡ option_to_list r ++ new → rest ≡ new
end_taken new rest None left many some e = absurd (cc (some.1 (omega arith)))
end_taken new rest (Some c) left many some e = (both commands.End c rest new e).1

-- what a `together` line, its jobs and its `end` leave, where they were taken off
pub record TakesBatch (rack : Rack) (command : Command) (behind lines new : List Command) : Type 0 where
  pub spelled : command ∷ behind ≡ spread (steps.Together lines) ++ new
  pub whole : IsWholeStep rack (steps.Together lines)
  pub others : AreSteps rack None new
  pub closed : after_commands None new ≡ None

takes : (rack : Rack) (count : ℕ) (behind lines mid new : List Command) (r : Option Command) (left : ℕ) → (1 ≤ count) × (count ≤ 1024) → IsBatch rack count behind
    → length lines ≡ count → behind ≡ lines ++ mid → left ≡ length mid → (IsSome r ↔ (0 < left)) → mid ≡ option_to_list r ++ new
    → TakesBatch rack (commands.Together count) behind lines new
takes rack count behind lines mid new r left limits b many taken left_is some next =
    let parts = same_fronts b.jobs lines (commands.End ∷ b.rest) mid (b.many ∙ sym many) (sym b.whole ∙ taken) in
    let rest : b.rest ≡ new = end_taken new b.rest r left (left_is ∙ ap length (sym parts.1)) some (parts.1 ∙ next) in
    record {
      spelled = ap (λ n. commands.Together n ∷ behind) (sym many) ∙ ap (λ (l : List Command). commands.Together (length lines) ∷ l)
          (b.whole ∙ ap (λ (l : List Command). l ++ commands.End ∷ b.rest) parts.0 ∙ ap (λ (l : List Command). lines ++ commands.End ∷ l) rest ∙ sym (append_assoc lines (commands.End ∷ []) new));
      whole = (omega (arith, limits.0), omega (arith, limits.1), subst (λ l. AllByRecursion (IsJobLine rack) l) parts.0 b.each);
      others = subst (λ l. AreSteps rack None l) rest b.others;
      closed = ap (λ l. after_commands None l) (sym rest) ∙ b.closed;
    }

-- a batch begins here
begins : (rack : Rack) (command : Command) (count : ℕ) (behind : List Command) → command ≡ commands.Together count → AreSteps rack None (command ∷ behind) → after_commands None (command ∷ behind) ≡ None
    → (1 ≤ count) × (count ≤ 1024) × IsBatch rack count behind
begins rack command count behind is =
    subst (λ d. AreSteps rack None (d ∷ behind) → after_commands None (d ∷ behind) ≡ None → (1 ≤ count) × (count ≤ 1024) × IsBatch rack count behind) (sym is)
    (λ are closed. (are.0.is.0, are.0.is.1, batch_of rack count behind are.1 closed))

pub enough : (rack : Rack) (command : Command) (count : ℕ) (behind : List Command) → command ≡ commands.Together count → AreSteps rack None (command ∷ behind) → after_commands None (command ∷ behind) ≡ None
    → count ≤ length behind
enough rack command count behind is are closed =
    let b = (begins rack command count behind is are closed).2 in
    omega (arith, b.many, ap length b.whole, length-append {A = Command} b.jobs (commands.End ∷ b.rest))

pub takes_batch : (rack : Rack) (command : Command) (count : ℕ) (behind lines mid new : List Command) (r : Option Command) (left : ℕ) → command ≡ commands.Together count
    → length lines ≡ count → behind ≡ lines ++ mid → left ≡ length mid → (IsSome r ↔ (0 < left)) → mid ≡ option_to_list r ++ new
    → AreSteps rack None (command ∷ behind) → after_commands None (command ∷ behind) ≡ None → TakesBatch rack command behind lines new
takes_batch rack command count behind lines mid new r left is many taken left_is some next are closed =
    let b = begins rack command count behind is are closed in
    subst (λ d. TakesBatch rack d behind lines new) (sym is) (takes rack count behind lines mid new r left (b.0, b.1) b.2 many taken left_is some next)
