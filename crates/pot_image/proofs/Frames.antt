-- What the answer to some bytes says of the reading of their fields.
use Rattle.std.proofs.Common.{◌≡◌, ℕ, ◌+◌, ◌-◌, ◌<◌, List, [], ◌∷◌, length, Result, Ok, Err, sym, refl, arith, subst, ◌==◌, false}
use Rattle.std.proofs.lemmas.Bool.Decides.{nat_tests}
use Rattle.pot_image.specs.declared.fault.ImageFault.{ImageFault}
use Rattle.pot_image.specs.declared.fault.ImageFault.TheVariants.{Form}
use Rattle.pot_image.specs.declared.fault.Fault.{Fault}
use Rattle.pot_image.specs.declared.fault.Fault.TheVariants as faults
use Rattle.pot_image.specs.Following.{Fails}
use Rattle.pot_image.specs.Images.{Contents, LeavesGrammar}
use Rattle.pot_image.specs.Fields.{Grammar, IsOf, LeavesAt}
use Rattle.pot_image.specs.Reading.{reading}
use Rattle.pot_image.proofs.Once.{of_read, leaves_at, leaves_left, err_short}

-- a place where so many bytes are left
pub left_at : {A : Type 0} (g : Grammar A) (bytes : List ℕ) (left place : ℕ) → reading g bytes ≡ Err left → place ≡ 16 + (length bytes - left) → (p : ℕ) × (place ≡ 16 + p) × LeavesAt g bytes p
left_at g bytes left place e q = (let l = err_short g bytes left e in (length bytes - left, q, leaves_at g bytes left (length bytes - left) e (omega (arith, l))))

pub nothing_left : {A : Type 0} (g : Grammar A) (bytes rest : List ℕ) (a : A) → reading g bytes ≡ Ok (a, rest) → length rest ≡ 0 → IsOf g bytes a
nothing_left g bytes [] a e l = of_read g bytes a e
nothing_left g bytes (x ∷ rest) a e l = absurd (omega (arith, l))

pub leaves_form : (g : Grammar Contents) (bytes : List ℕ) (f : ImageFault) (left : ℕ) → f ≡ Form (16 + (length bytes - left)) → reading g bytes ≡ Err left → LeavesGrammar g bytes f
leaves_form g bytes f left e h = subst (LeavesGrammar g bytes) (sym e) (left_at g bytes left (16 + (length bytes - left)) h refl)

pub leaves_over : (g : Grammar Contents) (bytes rest : List ℕ) (a : Contents) (f : ImageFault) → f ≡ Form (16 + (length bytes - 0)) → reading g bytes ≡ Ok (a, rest) → length rest == 0 ≡ false → LeavesGrammar g bytes f
leaves_over g bytes rest a f e h l = subst (LeavesGrammar g bytes) (sym e) (length bytes, omega arith, leaves_left g bytes rest a h (some (length rest) l))
  where
    some : (n : ℕ) → n == 0 ≡ false → 0 < n
    some n q = grind (arith, nat_tests)

pub fails_form : {Y : Type 0} (e : Fault) (left : ℕ) (read : Result Y ℕ) → e ≡ faults.Form left → Fails e read → read ≡ Err left
fails_form e left read q h = let k : Fails (faults.Form left) read = subst (λ z. Fails z read) q h in k
