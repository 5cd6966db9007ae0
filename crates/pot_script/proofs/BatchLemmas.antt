-- In a script a batch has as many jobs as its line says, and then its `end`.
use Rattle.std.proofs.Common.{◌≡◌, ◌≢◌, ◌<◌, ◌-◌, ◌++◌, ◌∷◌, ℕ, Bool, true, false, List, [], length, refl, sym, ap, subst, ◌∙◌, append_assoc, arith, inl, inr, length-append}
use Rattle.std.specs.Prelude.{◌==◌, Option, Some, None, if◌then◌else◌}
use Rattle.std.specs.List.{AllByRecursion}
use Rattle.std.proofs.lemmas.Bool.{cases_lt}
use Rattle.std.proofs.lemmas.Bool.Decides.{nat_tests}
use Rattle.pot_bytes.specs.declared.rack.Rack.{Rack}
use Rattle.pot_script.specs.declared.command.Command.{Command}
use Rattle.pot_script.specs.declared.command.Command.TheVariants as commands
use Rattle.pot_script.specs.declared.kind.Kind.{Kind}
use Rattle.pot_script.specs.declared.kind.Kind.TheVariants as kinds
use Rattle.pot_script.specs.Batches.{StartsBatch, is_end, is_job, may_stand, after_command}
use Rattle.pot_script.specs.Kinds.{kind_of}
use Rattle.pot_script.specs.Scripts.{AreSteps, IsScript, IsStep, after_commands}
use Rattle.pot_script.specs.Steps.{IsJobLine}
use Rattle.pot_script.proofs.KindLemmas.{only_end}

is_end_kind : (k : Kind) → is_end k ≡ true → k ≡ kinds.End
is_end_kind kinds.End h = refl
is_end_kind _ h = absurd (cc)

-- behind the last job stands `end`, and before it a job
end_stands : (n : ℕ) (k : Kind) → n ≡ 0 → may_stand (Some n) k ≡ true → k ≡ kinds.End
end_stands n k zero h = is_end_kind k (subst (λ m. may_stand (Some m) k ≡ true) zero h)

job_stands : (n : ℕ) (k : Kind) → 0 < n → may_stand (Some n) k ≡ true → is_job k ≡ true
job_stands n k above h =
    let more : (n == 0) ≡ false = grind (arith, nat_tests) in
    sym (ap (λ (b : Bool). if b then is_end k else is_job k) more) ∙ h

one_job_less : (n : ℕ) (c : Command) → is_job (kind_of c) ≡ true → after_command (Some n) c ≡ Some (n - 1)
one_job_less n commands.End h = absurd (cc)
one_job_less n _ h = refl

-- so many jobs of the grammar stand at the front of these commands, then `end`, and then commands
-- outside a batch
pub record IsBatch (rack : Rack) (count : ℕ) (after : List Command) : Type 0 where
  pub jobs : List Command
  pub rest : List Command
  pub many : length jobs ≡ count
  pub each : AllByRecursion (IsJobLine rack) jobs
  pub whole : after ≡ jobs ++ commands.End ∷ rest
  pub others : AreSteps rack None rest
  pub closed : after_commands None rest ≡ None

next_job : (rack : Rack) (n : ℕ) (c : Command) (cs : List Command) → 0 < n → IsJobLine rack c → IsBatch rack (n - 1) cs → IsBatch rack n (c ∷ cs)
next_job rack n c cs above job b = record {
  jobs = c ∷ b.jobs;
  rest = b.rest;
  many = omega (arith, b.many);
  each = (job, b.each);
  whole = ap (λ (l : List Command). c ∷ l) b.whole;
  others = b.others;
  closed = b.closed;
}

last_job : (rack : Rack) (n : ℕ) (c : Command) (cs : List Command) → n ≡ 0 → kind_of c ≡ kinds.End → AreSteps rack (after_command (Some n) c) cs
    → after_commands (after_command (Some n) c) cs ≡ None → IsBatch rack n (c ∷ cs)
last_job rack n c cs zero is_end are closed =
    only_end (λ d. AreSteps rack (after_command (Some n) d) cs → after_commands (after_command (Some n) d) cs ≡ None → IsBatch rack n (d ∷ cs))
    (λ others out. record { jobs = []; rest = cs; many = sym zero; each = tt; whole = refl; others = others; closed = out }) c is_end are closed

pub batch_of : (rack : Rack) (n : ℕ) (cs : List Command) → AreSteps rack (Some n) cs → after_commands (Some n) cs ≡ None → IsBatch rack n cs
batch_of rack n [] are closed = absurd (cc)
batch_of rack n (c ∷ cs) are closed =
    elim (cases_lt 0 n) [
      | inl above ↦
          let job = job_stands n (kind_of c) above are.0.stands in
          let less = one_job_less n c job in
          next_job rack n c cs above (job, are.0.is) (batch_of rack (n - 1) cs (subst (λ b. AreSteps rack b cs) less are.1) (subst (λ b. after_commands b cs ≡ None) less closed))
      | inr below ↦ let zero : n ≡ 0 = omega arith in last_job rack n c cs zero (end_stands n (kind_of c) zero are.0.stands) are.1 closed
    ]

are_jobs : (rack : Rack) (cs : List Command) → AllByRecursion (IsJobLine rack) cs → AllByRecursion (λ c. is_job (kind_of c) ≡ true) cs
are_jobs rack [] each = tt
are_jobs rack (c ∷ cs) each = (each.0.0, are_jobs rack cs each.1)

starts : {rack : Rack} {count : ℕ} {after : List Command} → IsBatch rack count after → StartsBatch count after
starts {rack} b = record { jobs = b.jobs; rest = b.rest; many = b.many; each = are_jobs rack b.jobs b.each; whole = b.whole }

-- `together` stands outside a batch
never : (t : Bool) → (if t then false else false) ≡ true → ⊥
never true h = cc
never false h = cc

outside : (batch : Option ℕ) → may_stand batch kinds.Together ≡ true → batch ≡ None
outside None h = refl
outside (Some left) h = absurd (never (left == 0) h)

-- the commands behind one of them
record Behind (rack : Rack) (batch : Option ℕ) (front : List Command) (c : Command) (back : List Command) : Type 0 where
  step : IsStep rack (after_commands batch front) c
  others : AreSteps rack (after_command (after_commands batch front) c) back

behind : (rack : Rack) (batch : Option ℕ) (front : List Command) (c : Command) (back : List Command) → AreSteps rack batch (front ++ c ∷ back) → Behind rack batch front c back
behind rack batch [] c back are = record { step = are.0; others = are.1 }
behind rack batch (f ∷ front) c back are =
    let b = behind rack (after_command batch f) front c back are.1 in
    record { step = b.step; others = b.others }

after_commands-append : (batch : Option ℕ) (front back : List Command) → after_commands batch (front ++ back) ≡ after_commands (after_commands batch front) back
after_commands-append batch [] back = refl
after_commands-append batch (f ∷ front) back = after_commands-append (after_command batch f) front back

pub both : (c d : Command) (x y : List Command) → c ∷ x ≡ d ∷ y → (c ≡ d) × (x ≡ y)
both c d x y e = (cc, cc)

-- a command that is not the last of a list stands before the last
before_last : (front back steps : List Command) (c d : Command) → c ≢ d → front ++ c ∷ back ≡ steps ++ d ∷ []
    → (others : List Command) × (steps ≡ front ++ c ∷ others) × (back ≡ others ++ d ∷ [])
before_last [] back [] c d other e = absurd (other (both c d back [] e).0)
before_last [] back (s ∷ steps) c d other e =
    let same = both c s back (steps ++ d ∷ []) e in
    (steps, ap (λ (k : Command). k ∷ steps) (sym same.0), same.1)
before_last (f ∷ front) back [] c d other e =
    let none = (both f d (front ++ c ∷ back) [] e).1 in
    absurd (omega (arith, ap (λ (l : List Command). length l) none, length-append {A = Command} front (c ∷ back)))
before_last (f ∷ front) back (s ∷ steps) c d other e =
    let same = both f s (front ++ c ∷ back) (steps ++ d ∷ []) e in
    let less = before_last front back steps c d other same.1 in
    (less.0, ap (λ (k : Command). k ∷ steps) (sym same.0) ∙ ap (λ (l : List Command). f ∷ l) less.1, less.2)

in_steps : (rack : Rack) (front others : List Command) (count : ℕ) → AreSteps rack None (front ++ commands.Together count ∷ others)
    → after_commands None (front ++ commands.Together count ∷ others) ≡ None → StartsBatch count others
in_steps rack front others count are closed =
    let b = behind rack None front (commands.Together count) others are in
    let inside : after_command (after_commands None front) (commands.Together count) ≡ Some count =
    ap (λ batch. after_command batch (commands.Together count)) (outside (after_commands None front) b.step.stands) in
    starts (batch_of rack count others (subst (λ batch. AreSteps rack batch others) inside b.others)
    (subst (λ batch. after_commands batch others ≡ None) inside (sym (after_commands-append None front (commands.Together count ∷ others)) ∙ closed)))

-- a batch stays one where commands follow
longer : (count : ℕ) (others more back : List Command) → back ≡ others ++ more → StartsBatch count others → StartsBatch count back
longer count others more back e s = record {
  jobs = s.jobs;
  rest = s.rest ++ more;
  many = s.many;
  each = s.each;
  whole = e ∙ ap (λ (l : List Command). l ++ more) s.whole ∙ append_assoc s.jobs (commands.End ∷ s.rest) more;
}

pub starts_batch : (rack : Rack) (bytes : List ℕ) (front back : List Command) (count : ℕ) → IsScript rack bytes (front ++ commands.Together count ∷ back) → StartsBatch count back
starts_batch rack bytes front back count s =
    let split = before_last front back s.steps (commands.Together count) commands.Quit (λ e. absurd (cc)) s.ended in
    longer count split.0 (commands.Quit ∷ []) back split.2
    (in_steps rack front split.0 count (subst (AreSteps rack None) split.1 s.each) (subst (λ steps. after_commands None steps ≡ None) split.1 s.closed))
